-- What a table gives each block is what the rule makes of it and of what the table gives.
use Rattle.std.proofs.Common.{◌≡◌, ℕ, zero, suc, ◌+◌, ◌<◌, Bool, ◌&&◌, nat_lt, IsTrue, List, [], ◌∷◌, ◌++◌, length, refl, sym, subst, ◌∙◌, arith}
use Rattle.std.proofs.lemmas.Bool.{and_from}
use Rattle.std.proofs.lemmas.List.{get_or_append_left, get_or_past, get_or_push, length_push}
use Rattle.std.specs.List.{slice_index_or}
use Rattle.trick_base.proofs.Truths.{first_holds, second_holds}
use Rattle.trick_lang.specs.Blocks.{block_at, table, each_block}
use Rattle.trick_lang.specs.Tree.{Code, Empty, Declare, SetLocal, Assign, If, For, Run, Branches, NoElse, Else, Test}
use Rattle.trick_lang.specs.Passes.{branch_blocks, code_blocks, all_blocks}
use Rattle.trick_lang.specs.Valid.{are_in_order}

abbrev pub below : ℕ → ℕ → Bool
below k block = nat_lt block k

-- the rule asks only for the blocks that the statements run, and gives d where there are none
pub record IsLocal {X : Type 0} (rule : List Code → (ℕ → X) → X) (d : X) : Type 0 where
  pub alike : (b : List Code) (n : ℕ) (f g : ℕ → X) → IsTrue (all_blocks (below n) b) → ((j : ℕ) → j < n → f j ≡ g j) → rule b f ≡ rule b g
  pub nil : (f : ℕ → X) → rule [] f ≡ d

module _ {X : Type 0} (rule : List Code → (ℕ → X) → X) (d : X) where
  abbrev at : List X → ℕ → X
  at done k = slice_index_or done k d

  -- what was given stays given
  stays : (bs : List (List Code)) (done : List X) (k : ℕ) → k < length done → at (table rule d bs done) k ≡ at done k
  stays [] done k h = refl
  stays (b ∷ bs) done k h =
      let x = rule b (at done) in
      let longer : k < length (done ++ x ∷ []) = omega (arith, length_push done x) in
      stays bs (done ++ x ∷ []) k longer ∙ get_or_append_left done (x ∷ []) d k h

  fixed : IsLocal rule d → (bs : List (List Code)) (done : List X) (n k : ℕ) → length done ≡ n → IsTrue (are_in_order n bs) → at (table rule d bs done) (n + k) ≡ rule (block_at bs k) (at (table rule d bs done))
  fixed l [] done n k e h = get_or_past done (n + k) d (omega arith) ∙ sym (l.nil (at done))
  fixed l (b ∷ bs) done n zero e h =
      let x = rule b (at done) in
      let grown = done ++ x ∷ [] in
      let longer : length grown ≡ n + 1 = omega (arith, length_push done x) in
      let here : n + 0 ≡ n = omega arith in
      let stay : at (table rule d bs grown) n ≡ x = stays bs grown n (omega arith) ∙ get_or_push done x d n e in
      let same : rule b (at done) ≡ rule b (at (table rule d bs grown)) =
      l.alike b n (at done) (at (table rule d bs grown)) (first_holds _ _ h)
      (λ j lt. sym (stays bs grown j (omega arith) ∙ get_or_append_left done (x ∷ []) d j (omega arith))) in
      subst (λ q. at (table rule d bs grown) q ≡ rule b (at (table rule d bs grown))) (sym here) (stay ∙ same)
  fixed l (b ∷ bs) done n (suc k) e h =
      let x = rule b (at done) in
      let grown = done ++ x ∷ [] in
      let longer : length grown ≡ suc n = omega (arith, length_push done x) in
      let there : suc n + k ≡ n + suc k = omega arith in
      subst (λ q. at (table rule d bs grown) q ≡ rule (block_at bs k) (at (table rule d bs grown))) there
      (fixed l bs grown (suc n) k longer (second_holds (all_blocks (below n) b) _ h))

-- the blocks of a program are given what the rule makes of them
pub each_is : {X : Type 0} (rule : List Code → (ℕ → X) → X) (d : X) → IsLocal rule d → (bs : List (List Code)) → IsTrue (are_in_order 0 bs) → (k : ℕ) → each_block rule d bs k ≡ rule (block_at bs k) (each_block rule d bs)
each_is rule d l bs h k =
    let e : 0 + k ≡ k = omega arith in
    subst (λ q. each_block rule d bs q ≡ rule (block_at bs k) (each_block rule d bs)) e (fixed rule d l bs [] 0 k refl h)

runs_before : (bs : List (List Code)) (n k : ℕ) → IsTrue (are_in_order n bs) → IsTrue (all_blocks (below (n + k)) (block_at bs k))
runs_before [] n k h = refl
runs_before (b ∷ bs) n zero h = let e : n ≡ n + 0 = omega arith in subst (λ q. IsTrue (all_blocks (below q) b)) e (first_holds _ _ h)
runs_before (b ∷ bs) n (suc k) h =
    let e : suc n + k ≡ n + suc k = omega arith in
    subst (λ q. IsTrue (all_blocks (below q) (block_at bs k))) e (runs_before bs (suc n) k (second_holds (all_blocks (below n) b) _ h))

-- a block runs only blocks before it
pub block_before : (bs : List (List Code)) (k : ℕ) → IsTrue (are_in_order 0 bs) → IsTrue (all_blocks (below k) (block_at bs k))
block_before bs k h = let e : 0 + k ≡ k = omega arith in subst (λ q. IsTrue (all_blocks (below q) (block_at bs k))) e (runs_before bs 0 k h)

-- what holds of a block where it holds of those before it holds of every one
pub from_earlier : (P : ℕ → Type 0) → ((k : ℕ) → ((j : ℕ) → j < k → P j) → P k) → (k : ℕ) → P k
from_earlier P step k = up_to (suc k) k (omega arith)
  where
    up_to : (n j : ℕ) → j < n → P j
    up_to zero j lt = absurd (omega arith)
    up_to (suc n) j lt = step j (λ i less. up_to n i (omega arith))

-- ---- two tests of the blocks that are run

module _ (p q : ℕ → Bool) where
  branch_both : (b : Branches) → IsTrue (branch_blocks p b) → IsTrue (branch_blocks q b) → IsTrue (branch_blocks (λ k. p k && q k) b)
  branch_both NoElse h i = refl
  branch_both (Else k) h i = and_from (p k) (q k) h i
  branch_both (Test line test k rest) h i =
      and_from (p k && q k) _ (and_from (p k) (q k) (first_holds _ _ h) (first_holds _ _ i)) (branch_both rest (second_holds (p k) _ h) (second_holds (q k) _ i))

  code_both : (b : Code) → IsTrue (code_blocks p b) → IsTrue (code_blocks q b) → IsTrue (code_blocks (λ k. p k && q k) b)
  code_both Empty h i = refl
  code_both (Declare line slot scalar e) h i = refl
  code_both (SetLocal line slot scalar change) h i = refl
  code_both (Assign line place change) h i = refl
  code_both (If branches) h i = branch_both branches h i
  code_both (For slot from bound k) h i = and_from (p k) (q k) h i
  code_both (Run k) h i = and_from (p k) (q k) h i

  pub all_both : (all : List Code) → IsTrue (all_blocks p all) → IsTrue (all_blocks q all) → IsTrue (all_blocks (λ k. p k && q k) all)
  all_both [] h i = refl
  all_both (first ∷ rest) h i =
      and_from (code_blocks (λ k. p k && q k) first) _ (code_both first (first_holds _ _ h) (first_holds _ _ i)) (all_both rest (second_holds (code_blocks p first) _ h) (second_holds (code_blocks q first) _ i))
