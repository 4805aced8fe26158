-- Blocks that stand in a list of blocks, and slots that are enough for them.
use Rattle.std.proofs.Common.{◌≡◌, ℕ, ◌+◌, ◌≤◌, ◌<◌, ◌++◌, ◌&&◌, max, nat_lt, IsTrue, List, [], ◌∷◌, length, Bool, true, refl, ap, sym, ◌∙◌, subst, arith}
use Rattle.std.proofs.Math.ListN.{length-append}
use Rattle.std.proofs.lemmas.Bool.{and_from}
use Rattle.std.proofs.lemmas.Bool.Decides.{nat_tests}
use Rattle.std.proofs.lemmas.List.{append_assoc, get_or_append_left}
use Rattle.std.specs.List.{slice_index_or}
use Rattle.trick_base.proofs.Truths.{first_holds, second_holds}
use Rattle.trick_check_blocks.specs.Methods.{all_slots, block_slots, code_slots}
use Rattle.trick_lang.specs.Blocks.{block_at, each_block, table}
use Rattle.trick_lang.specs.Tree.{Code, Empty, Declare, SetLocal, Assign, If, For, Run}

-- ---- places of blocks

-- these blocks stand in the list from a number on
pub record Sits (bs : List (List Code)) (n : ℕ) (xs : List (List Code)) : Type 0 where
  pub front : List (List Code)
  pub back : List (List Code)
  pub is : bs ≡ front ++ (xs ++ back)
  pub at : length front ≡ n

pub sits_left : (bs : List (List Code)) (n : ℕ) (xs ys : List (List Code)) → Sits bs n (xs ++ ys) → Sits bs n xs
sits_left bs n xs ys s = record {
  front = s.front;
  back = ys ++ s.back;
  is = s.is ∙ ap (λ q. s.front ++ q) (append_assoc xs ys s.back);
  at = s.at;
}

pub sits_right : (bs : List (List Code)) (n m : ℕ) (xs ys : List (List Code)) → m ≡ n + length xs → Sits bs n (xs ++ ys) → Sits bs m ys
sits_right bs n m xs ys e s = record {
  front = s.front ++ xs;
  back = s.back;
  is = s.is ∙ (ap (λ q. s.front ++ q) (append_assoc xs ys s.back) ∙ sym (append_assoc s.front xs (ys ++ s.back)));
  at = omega (arith, length-append s.front xs, s.at, e);
}

index_here : (front back : List (List Code)) (x : List Code) → block_at (front ++ (x ∷ back)) (length front) ≡ x
index_here [] back x = refl
index_here (f ∷ front) back x = index_here front back x

pub sits_one : (bs : List (List Code)) (n : ℕ) (x : List Code) → Sits bs n (x ∷ []) → block_at bs n ≡ x
sits_one bs n x s = ap (λ q. block_at q n) s.is ∙ (ap (block_at (s.front ++ (x ∷ s.back))) (sym s.at) ∙ index_here s.front s.back x)

-- ---- what is given to blocks stays, when more come after them

module _ {X : Type 0} (rule : List Code → (ℕ → X) → X) (d : X) where
  given : (bs : List (List Code)) (done : List X) → (more : List X) × (table rule d bs done ≡ done ++ more) × (length more ≡ length bs)
  given [] done = ([], sym (none done), refl) where
    none : (xs : List X) → xs ++ [] ≡ xs
    none [] = refl
    none (x ∷ xs) = ap (λ ys. x ∷ ys) (none xs)
  given (b ∷ bs) done =
      let x = rule b (λ k. slice_index_or done k d) in
      let rest = given bs (done ++ x ∷ []) in
      (x ∷ rest.0, rest.1 ∙ append_assoc done (x ∷ []) rest.0, omega (arith, rest.2))

  two : (bs more : List (List Code)) (done : List X) → table rule d (bs ++ more) done ≡ table rule d more (table rule d bs done)
  two [] more done = refl
  two (b ∷ bs) more done = two bs more (done ++ rule b (λ k. slice_index_or done k d) ∷ [])

  pub each_front : (bs more : List (List Code)) (k : ℕ) → k < length bs → each_block rule d (bs ++ more) k ≡ each_block rule d bs k
  each_front bs more k h =
      let first = given bs [] in
      let rest = given more (table rule d bs []) in
      let long : k < length (table rule d bs []) = subst (λ q. k < length q) (sym first.1) (omega (arith, h, first.2)) in
      ap (λ q. slice_index_or q k d) (two bs more [] ∙ rest.1) ∙ get_or_append_left (table rule d bs []) rest.0 d k long

-- ---- slots

-- a statement's own slot is below a number
abbrev pub code_under : ℕ → Code → Bool
code_under top Empty = true
code_under top (Declare line slot scalar e) = nat_lt slot top
code_under top (SetLocal line slot scalar change) = true
code_under top (Assign line place change) = true
code_under top (If branches) = true
code_under top (For slot from bound block) = nat_lt slot top
code_under top (Run block) = true

abbrev pub all_under : ℕ → List Code → Bool
all_under top [] = true
all_under top (c ∷ cs) = code_under top c && all_under top cs

abbrev pub each_under : ℕ → List (List Code) → Bool
each_under top [] = true
each_under top (b ∷ bs) = all_under top b && each_under top bs

code_grows : (c : Code) (so_far : ℕ) → so_far ≤ code_slots c so_far
code_grows Empty so_far = omega arith
code_grows (Declare line slot scalar e) so_far = omega arith
code_grows (SetLocal line slot scalar change) so_far = omega arith
code_grows (Assign line place change) so_far = omega arith
code_grows (If branches) so_far = omega arith
code_grows (For slot from bound block) so_far = omega arith
code_grows (Run block) so_far = omega arith

all_grow : (cs : List Code) (so_far : ℕ) → so_far ≤ all_slots cs so_far
all_grow [] so_far = omega arith
all_grow (c ∷ cs) so_far = omega (arith, code_grows c so_far, all_grow cs (code_slots c so_far))

pub slots_grow : (bs : List (List Code)) (so_far : ℕ) → so_far ≤ block_slots bs so_far
slots_grow [] so_far = omega arith
slots_grow (b ∷ bs) so_far = omega (arith, all_grow b so_far, slots_grow bs (all_slots b so_far))

slot_test : (slot so_far top : ℕ) → max (slot + 1) so_far ≤ top → IsTrue (nat_lt slot top)
slot_test slot so_far top h = let less : slot < top = omega (arith, h) in grind (arith, nat_tests, less)

code_fits : (c : Code) (so_far top : ℕ) → code_slots c so_far ≤ top → IsTrue (code_under top c)
code_fits Empty so_far top h = refl
code_fits (Declare line slot scalar e) so_far top h = slot_test slot so_far top h
code_fits (SetLocal line slot scalar change) so_far top h = refl
code_fits (Assign line place change) so_far top h = refl
code_fits (If branches) so_far top h = refl
code_fits (For slot from bound block) so_far top h = slot_test slot so_far top h
code_fits (Run block) so_far top h = refl

all_fit_in : (cs : List Code) (so_far top : ℕ) → all_slots cs so_far ≤ top → IsTrue (all_under top cs)
all_fit_in [] so_far top h = refl
all_fit_in (c ∷ cs) so_far top h =
    and_from _ _ (code_fits c so_far top (omega (arith, h, all_grow cs (code_slots c so_far)))) (all_fit_in cs (code_slots c so_far) top h)

-- the slots of blocks are enough for each of them
pub slots_under : (bs : List (List Code)) (so_far top : ℕ) → block_slots bs so_far ≤ top → IsTrue (each_under top bs)
slots_under [] so_far top h = refl
slots_under (b ∷ bs) so_far top h =
    and_from _ _ (all_fit_in b so_far top (omega (arith, h, slots_grow bs (all_slots b so_far)))) (slots_under bs (all_slots b so_far) top h)

pub under_left : (top : ℕ) (xs ys : List (List Code)) → IsTrue (each_under top (xs ++ ys)) → IsTrue (each_under top xs)
under_left top [] ys h = refl
under_left top (x ∷ xs) ys h = and_from _ _ (first_holds _ _ h) (under_left top xs ys (second_holds (all_under top x) _ h))

pub under_right : (top : ℕ) (xs ys : List (List Code)) → IsTrue (each_under top (xs ++ ys)) → IsTrue (each_under top ys)
under_right top [] ys h = h
under_right top (x ∷ xs) ys h = under_right top xs ys (second_holds (all_under top x) _ h)
