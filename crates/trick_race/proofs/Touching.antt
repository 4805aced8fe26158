-- Ranges that have a cell of a set.
use Rattle.std.proofs.Common.{◌≡◌, ℕ, zero, suc, ◌+◌, ◌-◌, ◌<◌, ◌≤◌, Bool, true, false, ◌||◌, inl, inr, IsTrue, List, [], ◌∷◌, ◌++◌, length, get_or, map, refl, sym, ap, subst, ◌∙◌, arith}
use Rattle.std.proofs.lemmas.Bool.{cases_eq, or_left, or_right}
use Rattle.trick_lang.specs.Access.{is_in}
use Rattle.trick_lang.specs.Value.{origin}
use Rattle.trick_lang.specs.declared.cells.Cell.{Cell}
use Rattle.trick_lang.specs.declared.range.CellRange.{CellRange}
use Rattle.trick_model.specs.Acceptance.{IsDecidable, IsRecordable}
use Rattle.trick_model.specs.Plan.{Event, Plan}
use Rattle.trick_model.specs.PlanOf.{event_of}
use Rattle.trick_model.specs.declared.event.Event.{Event as EventValue}
use Rattle.trick_race.proofs.Merging.{either, in_head, in_tail, within}
use Rattle.trick_race.specs.Accesses.{has, has_from, has_some}
use Rattle.trick_race.specs.Reached.{IsOutside, IsReachSet}
use Rattle.trick_race.specs.Refusals.{IsFirstItemWithout}

-- a cell of the set from the first on
pub record Among (set : List Bool) (first n : ℕ) : Type 0 where
  pub cell : ℕ
  pub from : first ≤ cell
  pub below : cell < first + n
  pub in_set : IsTrue (has set cell)

among_from : (set : List Bool) (first n : ℕ) → IsTrue (has_from set first n) → Among set first n
among_from set first zero h = cc
among_from set first (suc n) h = elim (either (has set first) _ h) [
  | inl here ↦ record { cell = first; from = omega arith; below = omega arith; in_set = here }
  | inr rest ↦
      let found = among_from set (first + 1) n rest in
      let low = found.from in let high = found.below in
      record { cell = found.cell; from = omega arith; below = omega arith; in_set = found.in_set }
]

from_among : (set : List Bool) (first n : ℕ) → Among set first n → IsTrue (has_from set first n)
from_among set first zero found = let low = found.from in let high = found.below in absurd (omega arith)
from_among set first (suc n) found = elim (cases_eq found.cell first) [
  | inl here ↦ or_left (has set first) _ (subst (λ k. IsTrue (has set k)) here found.in_set)
  | inr other ↦
      let low = found.from in let high = found.below in
      or_right (has set first) _
      (from_among set (first + 1) n (record {
        cell = found.cell;
        from = omega arith;
        below = omega arith;
        in_set =
            found.in_set;
      }))
]

-- a cell of the set that is in the ranges
pub record Touches (set : List Bool) (ranges : List CellRange) : Type 0 where
  pub cell : ℕ
  pub in_ranges : IsTrue (is_in ranges cell)
  pub in_set : IsTrue (has set cell)

pub touches : (set : List Bool) (ranges : List CellRange) → IsTrue (has_some set ranges) → Touches set ranges
touches set [] h = cc
touches set (r ∷ rs) h = elim (either (has_from set (r.first).0 ((r.last).0 + 1 - (r.first).0)) _ h) [
  | inl here ↦
      let found = among_from set (r.first).0 ((r.last).0 + 1 - (r.first).0) here in
      let low = found.from in let high = found.below in
      record {
        cell = found.cell;
        in_ranges = in_head r rs found.cell
            (record { from = low; to = omega arith });
        in_set = found.in_set;
      }
  | inr rest ↦ let found = touches set rs rest in
      record { cell = found.cell; in_ranges = in_tail r rs found.cell found.in_ranges; in_set = found.in_set }
]

pub of_touches : (set : List Bool) (ranges : List CellRange) → Touches set ranges → IsTrue (has_some set ranges)
of_touches set [] found = let h = found.in_ranges in cc
of_touches set (r ∷ rs) found = elim (within r rs found.cell found.in_ranges) [
  | inl w ↦
      let low = w.from in let high = w.to in
      or_left (has_from set (r.first).0 ((r.last).0 + 1 - (r.first).0)) _
      (from_among set (r.first).0 ((r.last).0 + 1 - (r.first).0)
      (record { cell = found.cell; from = low; below = omega arith; in_set = found.in_set }))
  | inr rest ↦ or_right (has_from set (r.first).0 ((r.last).0 + 1 - (r.first).0)) _
      (of_touches set rs (record { cell = found.cell; in_ranges = rest; in_set = found.in_set }))
]

-- ranges of two lists
pub some_both : (set : List Bool) (xs ys : List CellRange)
    → has_some set (xs ++ ys) ≡ (has_some set xs || has_some set ys)
some_both set [] ys = refl
some_both set (r ∷ rs) ys =
    let here = has_from set (r.first).0 ((r.last).0 + 1 - (r.first).0) in
    ap (λ b. here || b) (some_both set rs ys) ∙ or_assoc here (has_some set rs) (has_some set ys)
  where
    or_assoc : (a b d : Bool) → a || (b || d) ≡ (a || b) || d
    or_assoc true b d = refl
    or_assoc false b d = refl

-- the first part of what is left is not in the set
pub some_rest : (set : List Bool) (first rest : List CellRange) (all b : Bool) → has_some set (first ++ rest) ≡ all
    → b ≡ has_some set first → b ≡ false
    → has_some set rest ≡ all
some_rest set first rest all b told is out =
    sym (some_both set first rest ∙ ap (λ q. q || has_some set rest) (sym is ∙ out)) ∙ told

-- the first part of what is left is in the set
pub some_here : (set : List Bool) (first rest : List CellRange) (all b : Bool) → has_some set (first ++ rest) ≡ all
    → b ≡ has_some set first → b ≡ true
    → true ≡ all
some_here set first rest all b told is inside =
    sym (some_both set first rest ∙ ap (λ q. q || has_some set rest) (sym is ∙ inside)) ∙ told

-- both parts decide
pub some_of_both : (set : List Bool) (first rest : List CellRange) (b d : Bool) → b ≡ has_some set first → b ≡ false
    → d ≡ has_some set rest
    → d ≡ has_some set (first ++ rest)
some_of_both set first rest b d is out rest_is = rest_is
    ∙ sym (some_both set first rest ∙ ap (λ q. q || has_some set rest) (sym is ∙ out))

-- ---- recorded cells and conditions

pub outside_of : (p : Plan) (set : List Bool) (cell : Cell) → IsReachSet p set → IsRecordable p cell
    → IsOutside set cell
outside_of p set cell reach h in_set = h ((reach cell.0).0 in_set)

pub of_outside : (p : Plan) (set : List Bool) (cell : Cell) → IsReachSet p set → IsOutside set cell
    → IsRecordable p cell
of_outside p set cell reach h reached = h ((reach cell.0).1 reached)

-- a property that says the same has the same first item without it
pub first_along : {A : Type 0} (P Q : A → Type 0) (items : List A) (x : A) → ((y : A) → P y → Q y)
    → ((y : A) → Q y → P y)
    → IsFirstItemWithout P items x → IsFirstItemWithout Q items x
first_along P Q items x go back first = (
  first.0,
  record {
    there = first.1.there;
    lacks = λ h. first.1.lacks (back x h);
    before = λ i d less. go _ (first.1.before i d less);
  },
)

pub event_fine : (p : Plan) (set : List Bool) (event : Event) (b : Bool) → IsReachSet p set
    → b ≡ has_some set event.reads → b ≡ false → IsDecidable p event
event_fine p set event b reach is out cell in_reads reached =
    let h = sym (is ∙ of_touches set event.reads
    (record { cell = cell; in_ranges = in_reads; in_set = (reach cell).1 reached })) ∙ out in cc

pub event_not : (p : Plan) (set : List Bool) (event : Event) (b : Bool) → IsReachSet p set
    → b ≡ has_some set event.reads → b ≡ true → IsDecidable p event → ⊥
event_not p set event b reach is inside fine =
    let found = touches set event.reads (sym is ∙ inside) in
    fine found.cell found.in_ranges ((reach found.cell).0 found.in_set)

-- an event of the plan, by what the code holds
pub event_at : (events : List EventValue) (k : ℕ) (item : EventValue) → k < length events → item ≡ get_or events k item
    → (d : Event)
    → get_or (map event_of events) k d ≡ event_of item
event_at [] k item there is d = absurd (omega arith)
event_at (e ∷ es) zero item there is d = ap event_of (sym is)
event_at (e ∷ es) (suc k) item there is d = event_at es k item (omega arith) is d

pub events_there : (events : List EventValue) (k : ℕ) → k < length events → k < length (map event_of events)
events_there [] k there = absurd (omega arith)
events_there (e ∷ es) zero there = omega arith
events_there (e ∷ es) (suc k) there = let rest = events_there es k (omega arith) in omega arith

-- the cells of a place of no object
pub place_some : (set : List Bool) (own : Bool) (first span : ℕ) (b : Bool)
    → b ≡ has_from set first (first + (span - 1) + 1 - first)
    → b ≡ (has_from set (origin own 0 + first)
    (origin own 0 + first + (span - 1) + 1 - (origin own 0 + first)) || false)
place_some set own first span b told =
    told ∙ ap (λ k. has_from set k (k + (span - 1) + 1 - k)) (sym (same own))
    ∙ or_none (has_from set (origin own 0 + first) (origin own 0 + first + (span - 1) + 1 - (origin own 0 + first)))
  where
    same : (own : Bool) → origin own 0 + first ≡ first
    same true = omega arith
    same false = omega arith

    or_none : (b : Bool) → b ≡ (b || false)
    or_none true = refl
    or_none false = refl
