-- Memories that agree on what a body may read give it the same meaning.
use Rattle.std.proofs.Common.{◌≡◌, ℕ, zero, suc, ◌+◌, ◌<◌, ℤ, pos, ◌&&◌, IsTrue, List, [], ◌∷◌, ◌++◌, Option, Some, None, Result, Ok, unwrap_or, refl, ap, sym, subst, ◌∙◌}
use Rattle.std.specs.List.{slice_index_or}
use Rattle.trick_base.proofs.Truths.{first_holds, second_holds}
use Rattle.trick_lang.proofs.Places.{cell_is}
use Rattle.trick_lang.proofs.Tests.{in_left, in_right, and_then-same, at_line-same, if-same}
use Rattle.trick_lang.specs.Access.{is_in, term_reads, link_reads, choice_reads, range_of, index_reads, step_reads, change_reads, target_reads, first_reads, code_reads, branch_reads, all_reads, block_reads}
use Rattle.trick_lang.proofs.Alike.{setting, turns_same, runs_is, reads_is}
use Rattle.trick_lang.proofs.Blocks.{below, block_before, from_earlier}
use Rattle.std.proofs.lemmas.Bool.{ltb-true}
use Rattle.trick_lang.specs.Effect.{scalars_of, base_of, body_of, begun}
use Rattle.trick_lang.specs.Laws.{SameEffect}
use Rattle.trick_lang.specs.Numbers.{is_true, joined, applied}
use Rattle.trick_lang.specs.Blocks.{block_at}
use Rattle.trick_lang.specs.Run.{State, sight, changed, assigned, first_value, local_of, turn_count, with_local, run, run_branch, run_all, block_runs}
use Rattle.trick_lang.specs.TreeOf.{codes_of}
use Rattle.trick_lang.specs.Tree.{Term, Number, Local, Cell, Prefixed, Chain, Choose, Links, NoLink, Link, Choices, Last, Choice, Spot, spot, Steps, NoStep, Step, Change, Set, Update, Increase, Decrease, Code, Empty, Declare, SetLocal, Assign, If, For, Run, Branches, NoElse, Else, Test}
use Rattle.trick_lang.specs.Passes.{term_passes, link_passes, choice_passes, place_passes, step_passes, change_passes, first_passes, code_passes, branch_passes, all_pass, code_blocks, branch_blocks, all_blocks}
use Rattle.trick_lang.specs.Valid.{is_in_span, span_test, stay_in_span, are_in_order}
use Rattle.trick_lang.specs.Value.{Sight, value, linked, chosen, cell_of, led, origin}
use Rattle.trick_lang.specs.declared.fault.StatementFault.{StatementFault}
use Rattle.trick_lang.specs.declared.range.CellRange.{CellRange}
use Rattle.trick_lang.specs.declared.scalar.Scalar.{Scalar}

-- two memories have the same numbers in the ranges
abbrev Alike : List CellRange → (ℕ → ℤ) → (ℕ → ℤ) → Type 0
Alike ranges f g = (c : ℕ) → IsTrue (is_in ranges c) → f c ≡ g c

alike_left : (xs ys : List CellRange) (f g : ℕ → ℤ) → Alike (xs ++ ys) f g → Alike xs f g
alike_left xs ys f g h c k = h c (in_left xs ys c k)

alike_right : (xs ys : List CellRange) (f g : ℕ → ℤ) → Alike (xs ++ ys) f g → Alike ys f g
alike_right xs ys f g h c k = h c (in_right xs ys c k)

-- ---- expressions

-- what two expressions see, who differ in the cells alone
abbrev seeing : ℕ → (ℕ → ℤ) → (ℕ → ℤ) → Sight
seeing base local f = record { base = base; cell = f; local = local }

module _ (base : ℕ) (local f g : ℕ → ℤ) where
  mutual
    value_same : (e : Term) → IsTrue (term_passes span_test e) → Alike (term_reads e base) f g → value e (seeing base local f) ≡ value e (seeing base local g)
    value_same (Number n) fit h = refl
    value_same (Local k) fit h = refl
    value_same (Cell p) fit h =
        and_then-same _ _ _ _ (cell_same p fit (alike_right (range_of p base ∷ []) (index_reads p base) f g h))
        (λ c is. ap Ok (h c (cell_is p (seeing base local f) (index_reads p base) c fit is)))
    value_same (Prefixed o e) fit h = and_then-same _ _ _ _ (value_same e fit h) (λ x is. refl)
    value_same (Chain e links) fit h =
        and_then-same _ _ _ _ (value_same e (first_holds _ _ fit) (alike_left (term_reads e base) _ f g h))
        (λ x is. linked_same links x (second_holds (term_passes span_test e) _ fit) (alike_right (term_reads e base) _ f g h))
    value_same (Choose choices) fit h = chosen_same choices fit h

    linked_same : (links : Links) (x : ℤ) → IsTrue (link_passes span_test links) → Alike (link_reads links base) f g → linked links x (seeing base local f) ≡ linked links x (seeing base local g)
    linked_same NoLink x fit h = refl
    linked_same (Link o e rest) x fit h =
        and_then-same _ _ _ _ (ap (joined o x) (value_same e (first_holds _ _ fit) (alike_left (term_reads e base) _ f g h)))
        (λ y is. linked_same rest y (second_holds (term_passes span_test e) _ fit) (alike_right (term_reads e base) _ f g h))

    chosen_same : (choices : Choices) → IsTrue (choice_passes span_test choices) → Alike (choice_reads choices base) f g → chosen choices (seeing base local f) ≡ chosen choices (seeing base local g)
    chosen_same (Last e) fit h = value_same e fit h
    chosen_same (Choice test e rest) fit h =
        and_then-same _ _ _ _ (value_same test (first_holds _ _ fit) (alike_left (term_reads test base) _ f g h))
        (λ x is. if-same (is_true x) _ _ _ _
        (value_same e (first_holds _ _ (second_holds (term_passes span_test test) _ fit)) (alike_left (term_reads e base) _ f g (alike_right (term_reads test base) _ f g h)))
        (chosen_same rest (second_holds (term_passes span_test e) _ (second_holds (term_passes span_test test) _ fit)) (alike_right (term_reads e base) _ f g (alike_right (term_reads test base) _ f g h))))

    cell_same : (p : Spot) → IsTrue (place_passes span_test p) → Alike (index_reads p base) f g → cell_of p (seeing base local f) ≡ cell_of p (seeing base local g)
    cell_same (spot own first span offset literals steps) fit h =
        led_same steps (origin own base + first + offset) (second_holds (is_in_span (spot own first span offset literals steps)) _ fit) h

    led_same : (steps : Steps) (at : ℕ) → IsTrue (step_passes span_test steps) → Alike (step_reads steps base) f g → led steps (seeing base local f) at ≡ led steps (seeing base local g) at
    led_same NoStep at fit h = refl
    led_same (Step len stride e rest) at fit h =
        and_then-same _ _ _ _ (value_same e (first_holds _ _ fit) (alike_left (term_reads e base) _ f g h))
        (λ n is. and_then-same _ _ _ _ refl (λ next is. led_same rest next (second_holds (term_passes span_test e) _ fit) (alike_right (term_reads e base) _ f g h)))

-- ---- statements

module _ (scalars : List Scalar) (base : ℕ) (m n : ℕ → ℤ) (before after : ℕ → State → Result State StatementFault) (blocks : ℕ → List CellRange) (top : ℕ)
    (blocks_same : (k : ℕ) → k < top → Alike (blocks k) m n → (s : State) → before k s ≡ after k s) where
  seen_same : (ranges : List CellRange) (s : State) → Alike ranges m n → Alike ranges (sight (setting scalars base m before) s).cell (sight (setting scalars base n after) s).cell
  seen_same ranges s h c k = ap (unwrap_or (slice_index_or s.stored c None)) (h c k)

  sees_same : (e : Term) (s : State) → IsTrue (term_passes span_test e) → Alike (term_reads e base) m n → value e (sight (setting scalars base m before) s) ≡ value e (sight (setting scalars base n after) s)
  sees_same e s fit h = value_same base _ _ _ e fit (seen_same (term_reads e base) s h)

  first_same : (e : Option Term) (s : State) → IsTrue (first_passes span_test e) → Alike (first_reads e base) m n → first_value e (sight (setting scalars base m before) s) ≡ first_value e (sight (setting scalars base n after) s)
  first_same None s fit h = refl
  first_same (Some e) s fit h = sees_same e s fit h

  changed_same : (change : Change) (old new : ℤ) (s : State) → old ≡ new → IsTrue (change_passes span_test change) → Alike (change_reads change base) m n → changed change old (sight (setting scalars base m before) s) ≡ changed change new (sight (setting scalars base n after) s)
  changed_same (Set e) old new s is fit h = sees_same e s fit h
  changed_same (Update o e) old new s is fit h = and_then-same _ _ _ _ (sees_same e s fit h) (λ v _. ap (λ old. applied o old v) is)
  changed_same Increase old new s is fit h = ap (λ old. changed Increase old (sight (setting scalars base m before) s)) is
  changed_same Decrease old new s is fit h = ap (λ old. changed Decrease old (sight (setting scalars base m before) s)) is

  target_same : (p : Spot) (change : Change) (s : State) (c : ℕ) → IsTrue (place_passes span_test p) → IsTrue (change_passes span_test change) → Alike (target_reads p change base ++ change_reads change base) m n → cell_of p (sight (setting scalars base m before) s) ≡ Ok c → changed change ((sight (setting scalars base m before) s).cell c) (sight (setting scalars base m before) s) ≡ changed change ((sight (setting scalars base n after) s).cell c) (sight (setting scalars base n after) s)
  target_same p (Set e) s c fit fits h is = sees_same e s fits h
  target_same p (Update o e) s c fit fits h is =
      changed_same (Update o e) _ _ s (seen_same (range_of p base ∷ []) s (alike_left (range_of p base ∷ []) _ m n h) c (cell_is p (sight (setting scalars base m before) s) [] c fit is)) fits (alike_right (range_of p base ∷ []) _ m n h)
  target_same p Increase s c fit fits h is =
      changed_same Increase _ _ s (seen_same (range_of p base ∷ []) s h c (cell_is p (sight (setting scalars base m before) s) [] c fit is)) fits (alike_right (range_of p base ∷ []) [] m n h)
  target_same p Decrease s c fit fits h is =
      changed_same Decrease _ _ s (seen_same (range_of p base ∷ []) s h c (cell_is p (sight (setting scalars base m before) s) [] c fit is)) fits (alike_right (range_of p base ∷ []) [] m n h)

  assigned_same : (p : Spot) (change : Change) (s : State) → IsTrue (place_passes span_test p && change_passes span_test change) → Alike (index_reads p base ++ (target_reads p change base ++ change_reads change base)) m n → assigned p change (sight (setting scalars base m before) s) ≡ assigned p change (sight (setting scalars base n after) s)
  assigned_same p change s fit h =
      and_then-same _ _ _ _ (cell_same base _ _ _ p (first_holds _ _ fit) (seen_same (index_reads p base) s (alike_left (index_reads p base) _ m n h)))
      (λ c is. and_then-same _ _ _ _ (target_same p change s c (first_holds _ _ fit) (second_holds (place_passes span_test p) _ fit) (alike_right (index_reads p base) _ m n h) is) (λ v _. refl))

  run_branch_same : (b : Branches) (s : State) → IsTrue (branch_passes span_test b) → IsTrue (branch_blocks (below top) b) → Alike (branch_reads b base blocks) m n → run_branch b (setting scalars base m before) s ≡ run_branch b (setting scalars base n after) s
  run_branch_same NoElse s fit ok h = refl
  run_branch_same (Else k) s fit ok h = blocks_same k (ltb-true k top ok) h s
  run_branch_same (Test line test k rest) s fit ok h =
      at_line-same line _ _ _ _ (sees_same test s (first_holds _ _ fit) (alike_left (term_reads test base) _ m n h))
      (λ v _. if-same (is_true v) _ _ _ _
      (blocks_same k (ltb-true k top (first_holds _ _ ok)) (alike_left (blocks k) _ m n (alike_right (term_reads test base) _ m n h)) s)
      (run_branch_same rest s (second_holds (term_passes span_test test) _ fit) (second_holds (below top k) _ ok) (alike_right (blocks k) _ m n (alike_right (term_reads test base) _ m n h))))

  run_same : (b : Code) (s : State) → IsTrue (code_passes span_test b) → IsTrue (code_blocks (below top) b) → Alike (code_reads b base blocks) m n → run b (setting scalars base m before) s ≡ run b (setting scalars base n after) s
  run_same Empty s fit ok h = refl
  run_same (Declare line slot scalar e) s fit ok h = at_line-same line _ _ _ _ (first_same e (with_local s slot (pos 0)) fit h) (λ v _. refl)
  run_same (SetLocal line slot scalar change) s fit ok h = at_line-same line _ _ _ _ (changed_same change (local_of s slot) _ s refl fit h) (λ v _. refl)
  run_same (Assign line place change) s fit ok h = at_line-same line _ _ _ _ (assigned_same place change s fit h) (λ w _. refl)
  run_same (If branches) s fit ok h = run_branch_same branches s fit ok h
  run_same (For slot from bound k) s fit ok h = turns_same _ _ from (turn_count from bound) s (λ j t. blocks_same k (ltb-true k top ok) h (with_local t slot (pos j)))
  run_same (Run k) s fit ok h = blocks_same k (ltb-true k top ok) h s

  run_all_same : (all : List Code) (s : State) → IsTrue (all_pass span_test all) → IsTrue (all_blocks (below top) all) → Alike (all_reads all base blocks) m n → run_all all (setting scalars base m before) s ≡ run_all all (setting scalars base n after) s
  run_all_same [] s fit ok h = refl
  run_all_same (first ∷ rest) s fit ok h =
      and_then-same _ _ _ _ (run_same first s (first_holds _ _ fit) (first_holds _ _ ok) (alike_left (code_reads first base blocks) _ m n h))
      (λ t _. run_all_same rest t (second_holds (code_passes span_test first) _ fit) (second_holds (code_blocks (below top) first) _ ok) (alike_right (code_reads first base blocks) _ m n h))

-- ---- blocks and jobs

pub body_stays : (bs : List (List Code)) (k : ℕ) → IsTrue (stay_in_span bs) → IsTrue (all_pass span_test (block_at bs k))
body_stays [] k h = refl
body_stays (b ∷ bs) zero h = first_holds _ _ h
body_stays (b ∷ bs) (suc k) h = body_stays bs k (second_holds (all_pass span_test b) _ h)

runs_same : (scalars : List Scalar) (bs : List (List Code)) (base : ℕ) (m n : ℕ → ℤ) → IsTrue (stay_in_span bs) → IsTrue (are_in_order 0 bs) → (k : ℕ) → Alike (block_reads base bs k) m n → (s : State) → block_runs scalars base m bs k s ≡ block_runs scalars base n bs k s
runs_same scalars bs base m n fit ok =
    from_earlier (λ k. Alike (block_reads base bs k) m n → (s : State) → block_runs scalars base m bs k s ≡ block_runs scalars base n bs k s)
    (λ k earlier h s.
    let h' : Alike (all_reads (block_at bs k) base (block_reads base bs)) m n = subst (λ rs. Alike rs m n) (reads_is base bs ok k) h in
    runs_is scalars base m bs ok k s
    ∙ run_all_same scalars base m n (block_runs scalars base m bs) (block_runs scalars base n bs) (block_reads base bs) k earlier (block_at bs k) s (body_stays bs k fit) (block_before bs k ok) h'
    ∙ sym (runs_is scalars base n bs ok k s))

pub effect_same : SameEffect
effect_same p job m n h =
    and_then-same _ _ _ _ (runs_same (scalars_of p.cells) (codes_of p.blocks) (base_of p job) _ _ p.in_span p.in_order (body_of p job) h (begun p)) (λ s _. refl)
