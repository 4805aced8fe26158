-- A step of the machine leaves what its stack still has to do.
use Rattle.std.proofs.Common.{◌≡◌, ℕ, zero, suc, ◌+◌, ◌-◌, ◌*◌, ◌<◌, ◌≤◌, ℤ, pos, Bool, true, false, ◌&&◌, nat_le, nat_lt, if◌then◌else◌, IsTrue, List, [], ◌∷◌, length, drop, get_or, Option, Some, None, Result, Ok, Err, refl, ap, ap₂, sym, subst, ◌∙◌, arith}
use Rattle.std.proofs.Math.Nat.{suc-mul}
use Rattle.std.proofs.lemmas.Bool.Decides.{nat_tests}
use Rattle.std.proofs.lemmas.Bool.{ltb-true}
use Rattle.std.proofs.lemmas.List.{drop_all}
use Rattle.trick_base.proofs.ListLemmas.{next_item}
use Rattle.trick_base.proofs.Truths.{first_holds, second_holds}
use Rattle.trick_lang.proofs.Alike.{runs_is}
use Rattle.trick_lang.proofs.Blocks.{below, each_is}
use Rattle.trick_access.proofs.There.{block_is}
use Rattle.trick_lang.specs.Blocks.{block_at}
use Rattle.trick_lang.specs.Effect.{ran, scalars_of}
use Rattle.trick_eval.specs.Evaluation.{Ran, seen, setting_of}
use Rattle.trick_eval.specs.Machine.{Went, picked, left, branch_weight, code_weight, all_weight, block_weight, stack_weight}
use Rattle.trick_lang.specs.Numbers.{and_then, is_true}
use Rattle.trick_lang.specs.Run.{State, Setting, at_line, sight, turn, turns, turn_count, with_local, run, run_branch, run_all}
use Rattle.trick_lang.specs.Tree.{Code, Empty, Declare, SetLocal, Assign, If, For, Run, Branches, NoElse, Else, Test}
use Rattle.trick_lang.specs.TreeOf.{code_of, code_list, codes_of}
use Rattle.trick_lang.specs.Passes.{code_blocks, branch_blocks, all_blocks, all_pass, code_passes}
use Rattle.trick_lang.specs.Valid.{all_fit, are_deep, are_in_order, code_fits, deep_at, span_test}
use Rattle.trick_lang.specs.Value.{Sight, value}
use Rattle.trick_eval.specs.declared.stack.Frame.{Frame}
use Rattle.trick_eval.specs.declared.stack.Frame.TheVariants.{Rest, Turns}
use Rattle.trick_lang.specs.declared.fault.FaultKind.{FaultKind}
use Rattle.trick_lang.specs.declared.fault.StatementFault.{StatementFault}
use Rattle.trick_lang.specs.declared.program.Program.{Program}
use Rattle.trick_lang.specs.declared.tree.Block.{Block}
use Rattle.trick_lang.specs.declared.tree.Stmt.{Stmt}

pub then_then : {A B C E : Type 0} (r : Result A E) (f : A → Result B E) (g : B → Result C E) → and_then (and_then r f) g ≡ and_then r (λ x. and_then (f x) g)
then_then (Ok x) f g = refl
then_then (Err e) f g = refl

-- ---- the statements of a block

drop_code : (i : ℕ) (xs : List Stmt) → drop i (code_list xs) ≡ code_list (drop i xs)
drop_code zero xs = refl
drop_code (suc i) [] = refl
drop_code (suc i) (x ∷ xs) = drop_code i xs

pub code_next : (xs : List Stmt) (i : ℕ) (item : Stmt) → i < length xs → item ≡ get_or xs i item → drop i (code_list xs) ≡ code_of item ∷ drop (i + 1) (code_list xs)
code_next xs i item h is = drop_code i xs ∙ ap code_list (next_item xs i item h is) ∙ ap (λ q. code_of item ∷ q) (sym (drop_code (i + 1) xs))

pub code_end : (xs : List Stmt) (i : ℕ) → length xs ≤ i → drop i (code_list xs) ≡ []
code_end xs i h = drop_code i xs ∙ ap code_list (drop_all i xs h)

block_none : (bs : List Block) (k : ℕ) → length bs ≤ k → block_at (codes_of bs) k ≡ []
block_none [] k h = refl
block_none (b ∷ bs) zero h = absurd (omega arith)
block_none (b ∷ bs) (suc k) h = block_none bs k (omega arith)

drop_nil : (i : ℕ) → drop i (let q : List Code = [] in q) ≡ []
drop_nil zero = refl
drop_nil (suc i) = refl

pub block_past : (bs : List Block) (k i : ℕ) → length bs ≤ k → drop i (block_at (codes_of bs) k) ≡ []
block_past bs k i h = ap (drop i) (block_none bs k h) ∙ drop_nil i

pub pass_at : (xs : List Code) (i : ℕ) (b : Code) (rest : List Code) → drop i xs ≡ b ∷ rest → IsTrue (all_pass span_test xs) → IsTrue (code_passes span_test b)
pass_at [] i b rest is h = let no : (let q : List Code = [] in q) ≡ b ∷ rest = sym (drop_nil i) ∙ is in cc
pass_at (x ∷ xs) zero b rest is h = let same : x ≡ b = cc in subst (λ q. IsTrue (code_passes span_test q)) same (first_holds _ _ h)
pass_at (x ∷ xs) (suc i) b rest is h = pass_at xs i b rest is (second_holds (code_passes span_test x) _ h)

-- ---- room

pub deep_some : (all bs : List Block) (k : ℕ) → IsTrue (are_deep all bs) → 0 < deep_at bs k
deep_some all [] k h = omega arith
deep_some all (b ∷ bs) zero h = ltb-true 0 b.deep (first_holds (nat_lt 0 b.deep) _ (first_holds _ _ h))
deep_some all (b ∷ bs) (suc k) h = deep_some all bs k (second_holds (nat_lt 0 b.deep && all_fit all 1 b.deep (code_list b.statements)) _ h)

deeper : (all bs : List Block) (k : ℕ) → IsTrue (are_deep all bs) → IsTrue (all_fit all 1 (deep_at bs k) (block_at (codes_of bs) k))
deeper all [] k h = refl
deeper all (b ∷ bs) zero h = second_holds (nat_lt 0 b.deep) _ (first_holds _ _ h)
deeper all (b ∷ bs) (suc k) h = deeper all bs k (second_holds (nat_lt 0 b.deep && all_fit all 1 b.deep (code_list b.statements)) _ h)

branch_weaker : (p q : ℕ → Bool) → ((k : ℕ) → IsTrue (p k) → IsTrue (q k)) → (b : Branches) → IsTrue (branch_blocks p b) → IsTrue (branch_blocks q b)
branch_weaker p q go NoElse h = refl
branch_weaker p q go (Else k) h = go k h
branch_weaker p q go (Test line test k rest) h = both _ _ (go k (first_holds _ _ h)) (branch_weaker p q go rest (second_holds (p k) _ h))
  where
    both : (a b : Bool) → IsTrue a → IsTrue b → IsTrue (a && b)
    both true b h k = k
    both false b h k = h

module _ (bs : List Block) (height deep room : ℕ) (fits : height + deep ≤ room) where
  roomy : (d : ℕ) → IsTrue (nat_le (1 + d) deep) → IsTrue (nat_le (suc height + d) room)
  roomy d h = let small : 1 + d ≤ deep = grind (arith, nat_tests) in grind (arith, nat_tests)

  loop_roomy : (d : ℕ) → IsTrue (nat_lt (1 + d) deep) → IsTrue (nat_lt (suc height + d) room)
  loop_roomy d h = let small : 1 + d < deep = ltb-true (1 + d) deep h in grind (arith, nat_tests)

  code_roomy : (b : Code) → IsTrue (code_fits bs 1 deep b) → IsTrue (code_fits bs (suc height) room b)
  code_roomy Empty h = refl
  code_roomy (Declare line slot scalar e) h = refl
  code_roomy (SetLocal line slot scalar change) h = refl
  code_roomy (Assign line place change) h = refl
  code_roomy (If branches) h = branch_weaker (λ k. nat_le (1 + deep_at bs k) deep) (λ k. nat_le (suc height + deep_at bs k) room) (λ k. roomy (deep_at bs k)) branches h
  code_roomy (For slot from bound k) h = loop_roomy (deep_at bs k) h
  code_roomy (Run k) h = roomy (deep_at bs k) h

fits_at : (bs : List Block) (deep : ℕ) (xs : List Code) (i : ℕ) (b : Code) (rest : List Code) → drop i xs ≡ b ∷ rest → IsTrue (all_fit bs 1 deep xs) → IsTrue (code_fits bs 1 deep b)
fits_at bs deep [] i b rest is h = let no : (let q : List Code = [] in q) ≡ b ∷ rest = sym (drop_nil i) ∙ is in cc
fits_at bs deep (x ∷ xs) zero b rest is h = let same : x ≡ b = cc in subst (λ q. IsTrue (code_fits bs 1 deep q)) same (first_holds _ _ h)
fits_at bs deep (x ∷ xs) (suc i) b rest is h = fits_at bs deep xs i b rest is (second_holds (code_fits bs 1 deep x) _ h)

-- what a statement of a block runs has room above the frame of the block
pub room_at : (bs : List Block) (k i : ℕ) (b : Code) (rest : List Code) (height room : ℕ) → IsTrue (are_deep bs bs) → drop i (block_at (codes_of bs) k) ≡ b ∷ rest → height + deep_at bs k ≤ room → IsTrue (code_fits bs (suc height) room b)
room_at bs k i b rest height room deep is fits =
    code_roomy bs height (deep_at bs k) room fits b (fits_at bs (deep_at bs k) (block_at (codes_of bs) k) i b rest is (deeper bs bs k deep))

-- ---- what is left

pub ran_is : (p : Program) (base : ℕ) (memory : List ℤ) (block : ℕ) (s : State) → ran p base block memory s ≡ run_all (block_at (codes_of p.blocks) block) (setting_of p base memory) s
ran_is p base memory block s = runs_is (scalars_of p.cells) base _ (codes_of p.blocks) p.in_order block s

-- a block whose next statement is this one
pub rest_next : (p : Program) (base : ℕ) (memory : List ℤ) (block i : ℕ) (b : Code) (fs : List Frame) (s : State) → drop i (block_at (codes_of p.blocks) block) ≡ b ∷ drop (i + 1) (block_at (codes_of p.blocks) block) → left p base memory (Rest block i ∷ fs) s ≡ and_then (run b (setting_of p base memory) s) (left p base memory (Rest block (i + 1) ∷ fs))
rest_next p base memory block i b fs s is =
    let x = setting_of p base memory in
    ap (λ q. and_then (run_all q x s) (left p base memory fs)) is
    ∙ then_then (run b x s) (λ t. run_all (drop (i + 1) (block_at (codes_of p.blocks) block)) x t) (left p base memory fs)

pub rest_end : (p : Program) (base : ℕ) (memory : List ℤ) (block i : ℕ) (fs : List Frame) (s : State) → drop i (block_at (codes_of p.blocks) block) ≡ [] → left p base memory (Rest block i ∷ fs) s ≡ left p base memory fs s
rest_end p base memory block i fs s is = ap (λ q. and_then (run_all q (setting_of p base memory) s) (left p base memory fs)) is

-- a block that begins
pub rest_all : (p : Program) (base : ℕ) (memory : List ℤ) (block : ℕ) (fs : List Frame) (s : State) → and_then (ran p base block memory s) (left p base memory fs) ≡ left p base memory (Rest block 0 ∷ fs) s
rest_all p base memory block fs s = ap (λ r. and_then r (left p base memory fs)) (ran_is p base memory block s)

-- a turn of a loop
pub turn_left : (p : Program) (base : ℕ) (memory : List ℤ) (slot number end block : ℕ) (fs : List Frame) (s : State) → number < end → left p base memory (Turns slot number end block ∷ fs) s ≡ left p base memory (Rest block 0 ∷ Turns slot (number + 1) end block ∷ fs) (with_local s slot (pos number))
turn_left p base memory slot number end block fs s h =
    let f = turn (setting_of p base memory) slot block in
    let more : end - number ≡ suc (end - (number + 1)) = omega arith in
    ap (λ n. and_then (turns f number n s) (left p base memory fs)) more
    ∙ then_then (f number s) (turns f (number + 1) (end - (number + 1))) (left p base memory fs)
    ∙ rest_all p base memory block (Turns slot (number + 1) end block ∷ fs) (with_local s slot (pos number))

-- what an `if` does is what the block that it picks does
abbrev pub entered : Setting → State → Option ℕ → Result State StatementFault
entered x s None = Ok s
entered x s (Some k) = x.blocks k s

line_then : (line : ℕ) (r : Result ℤ FaultKind) (f : ℤ → Result (Option ℕ) StatementFault) (g : ℤ → Result State StatementFault) (go : Option ℕ → Result State StatementFault) → ((n : ℤ) → g n ≡ and_then (f n) go) → at_line line r g ≡ and_then (at_line line r f) go
line_then line (Ok n) f g go h = h n
line_then line (Err z) f g go h = refl

if_then : (t : Bool) (q : Result (Option ℕ) StatementFault) (a b : Result State StatementFault) (k : ℕ) (go : Option ℕ → Result State StatementFault) → a ≡ go (Some k) → b ≡ and_then q go → (if t then a else b) ≡ and_then (if t then Ok (Some k) else q) go
if_then true q a b k go e f = e
if_then false q a b k go e f = f

pub picks : (b : Branches) (x : Setting) (s : State) → run_branch b x s ≡ and_then (picked b (sight x s)) (entered x s)
picks NoElse x s = refl
picks (Else block) x s = refl
picks (Test line test block rest) x s =
    line_then line (value test (sight x s)) _ _ (entered x s) (λ n. if_then (is_true n) (picked rest (sight x s)) (x.blocks block s) (run_branch rest x s) block (entered x s) refl (picks rest x s))

module _ (p : Program) (base : ℕ) (memory : List ℤ) (b : Branches) (fs : List Frame) (s : State) where
  pub if_some : (k : ℕ) → picked b (seen base memory s) ≡ Ok (Some k) → and_then (run (If b) (setting_of p base memory) s) (left p base memory fs) ≡ left p base memory (Rest k 0 ∷ fs) s
  if_some k is =
      ap (λ r. and_then r (left p base memory fs)) (picks b (setting_of p base memory) s ∙ ap (λ r. and_then r (entered (setting_of p base memory) s)) is)
      ∙ rest_all p base memory k fs s

  pub if_none : picked b (seen base memory s) ≡ Ok None → and_then (run (If b) (setting_of p base memory) s) (left p base memory fs) ≡ left p base memory fs s
  if_none is = ap (λ r. and_then r (left p base memory fs)) (picks b (setting_of p base memory) s ∙ ap (λ r. and_then r (entered (setting_of p base memory) s)) is)

  pub if_stop : (stop : StatementFault) → picked b (seen base memory s) ≡ Err stop → and_then (run (If b) (setting_of p base memory) s) (left p base memory fs) ≡ Err stop
  if_stop stop is = ap (λ r. and_then r (left p base memory fs)) (picks b (setting_of p base memory) s ∙ ap (λ r. and_then r (entered (setting_of p base memory) s)) is)

-- what a statement does at once
pub ran_went : {U : Type 0} (result : Result U StatementFault) (t : State) (r : Result State StatementFault) (go : State → Result State StatementFault) → Ran result t r → Went result (and_then r go) (go t)
ran_went (Ok u) t r go h = ap (λ q. and_then q go) h
ran_went (Err stop) t r go h = ap (λ q. and_then q go) h

pub begin : (p : Program) (base : ℕ) (memory : List ℤ) (block : ℕ) (s : State) → left p base memory (Rest block 0 ∷ []) s ≡ ran p base block memory s
begin p base memory block s = sym (rest_all p base memory block [] s) ∙ then_ok (ran p base block memory s)
  where
    then_ok : (r : Result State StatementFault) → and_then r (λ t. Ok t) ≡ r
    then_ok (Ok t) = refl
    then_ok (Err e) = refl

pick_case : (line block : ℕ) (r : Result ℤ FaultKind) (q : Result (Option ℕ) StatementFault) (k : ℕ) (Q : Type 0) → at_line line r (λ n. if is_true n then Ok (Some block) else q) ≡ Ok (Some k) → (block ≡ k → Q) → (q ≡ Ok (Some k) → Q) → Q
pick_case line block (Err z) q k Q h here later = cc
pick_case line block (Ok n) q k Q h here later = by_test (is_true n) h
  where
    by_test : (t : Bool) → (if t then Ok (Some block) else q) ≡ Ok (Some k) → Q
    by_test true e = let same : block ≡ k = cc in here same
    by_test false e = later e

-- the block that is picked is one of the `if`
pub picks_one : (p : ℕ → Bool) (b : Branches) (s : Sight) (k : ℕ) → picked b s ≡ Ok (Some k) → IsTrue (branch_blocks p b) → IsTrue (p k)
picks_one p NoElse s k h all = cc
picks_one p (Else block) s k h all = let same : block ≡ k = cc in subst (λ q. IsTrue (p q)) same all
picks_one p (Test line test block rest) s k h all =
    pick_case line block (value test s) (picked rest s) k (IsTrue (p k)) h (λ same. subst (λ q. IsTrue (p q)) same (first_holds _ _ all)) (λ e. picks_one p rest s k e (second_holds (p block) _ all))

-- the block that is picked has room
pub picked_fits : (bs : List Block) (b : Branches) (s : Sight) (k height room : ℕ) → picked b s ≡ Ok (Some k) → IsTrue (code_fits bs height room (If b)) → height + deep_at bs k ≤ room
picked_fits bs b s k height room is h =
    let fits : IsTrue (nat_le (height + deep_at bs k) room) = picks_one (λ block. nat_le (height + deep_at bs block) room) b s k is h in
    grind (arith, nat_tests)

pub run_fits : (bs : List Block) (k height room : ℕ) → IsTrue (code_fits bs height room (Run k)) → height + deep_at bs k ≤ room
run_fits bs k height room h = grind (arith, nat_tests)

pub picks_lighter : (w : ℕ → ℕ) (b : Branches) (s : Sight) (k : ℕ) → picked b s ≡ Ok (Some k) → w k < branch_weight b w
picks_lighter w NoElse s k h = cc
picks_lighter w (Else block) s k h = let same : block ≡ k = cc in let e : w block ≡ w k = ap w same in omega arith
picks_lighter w (Test line test block rest) s k h =
    pick_case line block (value test s) (picked rest s) k (w k < branch_weight (Test line test block rest) w) h (λ same. let e : w block ≡ w k = ap w same in omega arith) (λ e. omega (arith, picks_lighter w rest s k e))

-- ---- how much is left

module _ (n : ℕ) (f g : ℕ → ℕ) (same : (j : ℕ) → j < n → f j ≡ g j) where
  branch_weight_alike : (b : Branches) → IsTrue (branch_blocks (below n) b) → branch_weight b f ≡ branch_weight b g
  branch_weight_alike NoElse h = refl
  branch_weight_alike (Else k) h = ap (λ q. 1 + q) (same k (ltb-true k n h))
  branch_weight_alike (Test line test k rest) h =
      ap₂ (λ q r. 1 + q + r) (same k (ltb-true k n (first_holds _ _ h))) (branch_weight_alike rest (second_holds (below n k) _ h))

  code_weight_alike : (b : Code) → IsTrue (code_blocks (below n) b) → code_weight b f ≡ code_weight b g
  code_weight_alike Empty h = refl
  code_weight_alike (Declare line slot scalar e) h = refl
  code_weight_alike (SetLocal line slot scalar change) h = refl
  code_weight_alike (Assign line place change) h = refl
  code_weight_alike (If branches) h = ap (λ q. 1 + q) (branch_weight_alike branches h)
  code_weight_alike (For slot from bound k) h = ap (λ q. 2 + turn_count from bound * (2 + q)) (same k (ltb-true k n h))
  code_weight_alike (Run k) h = ap (λ q. 2 + q) (same k (ltb-true k n h))

  all_weight_alike : (all : List Code) → IsTrue (all_blocks (below n) all) → all_weight all f ≡ all_weight all g
  all_weight_alike [] h = refl
  all_weight_alike (first ∷ rest) h = ap₂ (λ q r. q + r) (code_weight_alike first (first_holds _ _ h)) (all_weight_alike rest (second_holds (code_blocks (below n) first) _ h))

weight_is : (bs : List (List Code)) → IsTrue (are_in_order 0 bs) → (k : ℕ) → block_weight bs k ≡ all_weight (block_at bs k) (block_weight bs)
weight_is bs h k = each_is all_weight 0 (record { alike = λ b n f g h same. all_weight_alike n f g same b h; nil = λ f. refl }) bs h k

pub begun_weighs : (bs : List (List Code)) → IsTrue (are_in_order 0 bs) → (k : ℕ) (fs : List Frame) → stack_weight bs (Rest k 0 ∷ fs) ≡ 1 + block_weight bs k + stack_weight bs fs
begun_weighs bs h k fs = ap (λ q. 1 + q + stack_weight bs fs) (sym (weight_is bs h k))

pub rest_weighs : (bs : List (List Code)) (k i : ℕ) (b : Code) (fs : List Frame) → drop i (block_at bs k) ≡ b ∷ drop (i + 1) (block_at bs k) → stack_weight bs (Rest k i ∷ fs) ≡ code_weight b (block_weight bs) + stack_weight bs (Rest k (i + 1) ∷ fs)
rest_weighs bs k i b fs is = let e : all_weight (drop i (block_at bs k)) (block_weight bs) ≡ all_weight (b ∷ drop (i + 1) (block_at bs k)) (block_weight bs) = ap (λ q. all_weight q (block_weight bs)) is in omega arith

pub turn_lighter : (bs : List (List Code)) → IsTrue (are_in_order 0 bs) → (slot number end block : ℕ) (fs : List Frame) → number < end → stack_weight bs (Rest block 0 ∷ Turns slot (number + 1) end block ∷ fs) < stack_weight bs (Turns slot number end block ∷ fs)
turn_lighter bs h slot number end block fs less =
    let more : end - number ≡ suc (end - (number + 1)) = omega arith in
    let all : (end - number) * (2 + block_weight bs block) ≡ (end - (number + 1)) * (2 + block_weight bs block) + (2 + block_weight bs block) =
    ap (λ q. q * (2 + block_weight bs block)) more ∙ suc-mul (end - (number + 1)) (2 + block_weight bs block) in
    let first = begun_weighs bs h block (Turns slot (number + 1) end block ∷ fs) in
    omega arith
