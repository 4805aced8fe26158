-- What an accepted plan gives: effects and conditions that depend on what is read alone, and what is not reached.
use Rattle.std.proofs.Common.{◌≡◌, ℕ, ◌+◌, ◌-◌, ◌<◌, ℤ, pos, List, [], ◌∷◌, ◌++◌, length, map, Bool, true, false, not, ◌&&◌, nat_le, nat_lt, IsTrue, Option, Some, None, Ok, ap, arith, refl}
use Rattle.std.proofs.Math.Logic.{∥∥₁_elim}
use Rattle.std.proofs.lemmas.Bool.{false≢true, ltb-true}
use Rattle.std.specs.List.{slice_index_or}
use Rattle.std.specs.Prelude.{All}
use Rattle.trick_base.proofs.Truths.{first_holds, no_two_absurdities, second_holds}
use Rattle.trick_lang.proofs.Tests.{and_then-same, if-same, in_first, in_left, in_right}
use Rattle.trick_lang.specs.Access.{choice_reads, is_in, link_reads, term_reads}
use Rattle.trick_lang.specs.Laws.{AgreeOn, SameEffect, WritesOnly}
use Rattle.trick_lang.specs.Numbers.{is_true, joined}
use Rattle.trick_lang.specs.Tree.{Term, Number, Local, Cell, Prefixed, Chain, Choose, Links, NoLink, Link, Choices, Last, Choice, spot, Steps, NoStep, Step}
use Rattle.trick_lang.specs.TreeOf.{term_of}
use Rattle.trick_lang.specs.Value.{Sight, chosen, linked, value}
use Rattle.trick_lang.specs.declared.cells.Cell.{Cell as CellValue}
use Rattle.trick_lang.specs.declared.range.CellRange.{CellRange}
use Rattle.trick_lang.specs.declared.tree.Expr.{Expr}
use Rattle.trick_model.proofs.Turns.{IsAt}
use Rattle.trick_model.specs.Acceptance.{IsAccepted}
use Rattle.trick_model.specs.Access.{IsReached}
use Rattle.trick_model.specs.Condition.{are_all_conditions, are_conditions, condition_of, condition_reads, has_no_step, is_condition, is_condition_of, is_safe, number_or_0}
use Rattle.trick_model.specs.Events.{holds}
use Rattle.trick_model.specs.Plan.{Event, Plan, is_beside, process_in}
use Rattle.trick_model.specs.PlanOf.{event_of, plan_of}
use Rattle.trick_model.specs.State.{number_at}
use Rattle.trick_model.specs.declared.event.Event.{Event as EventValue}
use Rattle.trick_model.specs.declared.group.Group.{Group}
use Rattle.trick_model.specs.declared.plan.Plan.{Plan as PlanValue}
use Rattle.trick_model.specs.declared.thread.Thread.{Thread}
use Rattle.trick_model_publications.proofs.Members.{Every, every_of_all, process_at}
use Rattle.trick_model_publications.specs.Publications.{AgreeOutside}

-- no cell of the group is reached
abbrev pub IsClean : Plan → Group → Type 0
IsClean p group = Every (λ (cell : CellValue). IsReached p cell.0 → ⊥) group.cells

-- the condition is the same in memories that agree
abbrev pub IsDecided : Plan → Event → Type 0
IsDecided p event = (m n : List ℤ) → AgreeOutside p m n → holds event.condition m ≡ holds event.condition n

pub record IsSteady (p : Plan) : Type 0 where
  pub effects : (k : ℕ) (m n : List ℤ) → AgreeOn (p.reads k) m n → p.effect k m ≡ p.effect k n
  pub stores : (k cell : ℕ) (m : List ℤ) (stored : List (Option ℤ)) (n : ℤ) → p.effect k m ≡ Ok stored
      → slice_index_or stored cell None ≡ Some n → IsTrue (is_in (p.writes k) cell)
  pub processes : (place : ℕ) (thread : Thread) → IsAt p place thread → process_in p.threads thread.number ≡ thread.process
  pub recorded : Every (IsClean p) p.groups
  pub decided : Every (IsDecided p) p.events

-- ---- conditions

-- two memories have the same numbers in the ranges
abbrev Alike : List CellRange → (ℕ → ℤ) → (ℕ → ℤ) → Type 0
Alike ranges f g = (c : ℕ) → IsTrue (is_in ranges c) → f c ≡ g c

alike_left : (xs ys : List CellRange) (f g : ℕ → ℤ) → Alike (xs ++ ys) f g → Alike xs f g
alike_left xs ys f g h c k = h c (in_left xs ys c k)

alike_right : (xs ys : List CellRange) (f g : ℕ → ℤ) → Alike (xs ++ ys) f g → Alike ys f g
alike_right xs ys f g h c k = h c (in_right xs ys c k)

-- what a condition sees
abbrev seeing : (ℕ → ℤ) → Sight
seeing f = record { base = 0; cell = f; local = λ slot. pos 0 }

module _ (cells : ℕ) (f g : ℕ → ℤ) where
  plain_same : (own : Bool) (first span offset : ℕ) (literals : ℕ) (steps : Steps)
      → IsTrue (not own && (has_no_step steps && (nat_lt offset span && nat_le (first + span) cells)))
      → Alike (term_reads (Cell (spot own first span offset literals steps)) 0) f g
      → value (Cell (spot own first span offset literals steps)) (seeing f) ≡ value (Cell (spot own first span offset literals steps)) (seeing g)
  plain_same true first span offset literals steps plain h = absurd (false≢true plain)
  plain_same false first span offset literals NoStep plain h =
      let small : offset < span = ltb-true offset span (first_holds (nat_lt offset span) (nat_le (first + span) cells) plain) in
      ap Ok (h (0 + first + offset) (in_first (0 + first) (0 + first + (span - 1)) [] (0 + first + offset) (omega arith) (omega (arith, small))))
  plain_same false first span offset literals (Step len stride e rest) plain h = absurd (false≢true plain)

  mutual
    value_same : (e : Term) → IsTrue (is_condition cells e) → Alike (term_reads e 0) f g → value e (seeing f) ≡ value e (seeing g)
    value_same (Number n) fit h = refl
    value_same (Local slot) fit h = refl
    value_same (Cell (spot own first span offset literals steps)) fit h = plain_same own first span offset literals steps fit h
    value_same (Prefixed o e) fit h = and_then-same _ _ _ _ (value_same e fit h) (λ x is. refl)
    value_same (Chain e links) fit h =
        and_then-same _ _ _ _ (value_same e (first_holds _ _ fit) (alike_left (term_reads e 0) _ f g h))
        (λ x is. linked_same links x (second_holds (is_condition cells e) _ fit) (alike_right (term_reads e 0) _ f g h))
    value_same (Choose choices) fit h = chosen_same choices fit h

    linked_same : (links : Links) (x : ℤ) → IsTrue (are_conditions cells links) → Alike (link_reads links 0) f g
        → linked links x (seeing f) ≡ linked links x (seeing g)
    linked_same NoLink x fit h = refl
    linked_same (Link o e rest) x fit h =
        let others = second_holds (is_safe o) _ fit in
        and_then-same _ _ _ _ (ap (joined o x) (value_same e (first_holds _ _ others) (alike_left (term_reads e 0) _ f g h)))
        (λ y is. linked_same rest y (second_holds (is_condition cells e) _ others) (alike_right (term_reads e 0) _ f g h))

    chosen_same : (choices : Choices) → IsTrue (are_all_conditions cells choices) → Alike (choice_reads choices 0) f g
        → chosen choices (seeing f) ≡ chosen choices (seeing g)
    chosen_same (Last e) fit h = value_same e fit h
    chosen_same (Choice test e rest) fit h =
        let others = second_holds (is_condition cells test) _ fit in
        let later = alike_right (term_reads test 0) _ f g h in
        and_then-same _ _ _ _ (value_same test (first_holds _ _ fit) (alike_left (term_reads test 0) _ f g h))
        (λ x is. if-same (is_true x) _ _ _ _ (value_same e (first_holds _ _ others) (alike_left (term_reads e 0) _ f g later))
        (chosen_same rest (second_holds (is_condition cells e) _ others) (alike_right (term_reads e 0) _ f g later)))

condition_same : (p : Plan) (cells : ℕ) (condition : Option Expr) → IsTrue (is_condition_of cells condition)
    → ((cell : ℕ) → IsTrue (is_in (condition_reads condition) cell) → IsReached p cell → ⊥)
    → (m n : List ℤ) → AgreeOutside p m n → holds (condition_of condition) m ≡ holds (condition_of condition) n
condition_same p cells None fit clean m n h = refl
condition_same p cells (Some e) fit clean m n h =
    ap (λ r. is_true (number_or_0 r)) (value_same cells (number_at m) (number_at n) (term_of e) fit (λ c reads. h.same c (clean c reads)))

-- the cells that the event reads are not reached
abbrev IsApart : Plan → Event → Type 0
IsApart p event = (cell : ℕ) → IsTrue (is_in event.reads cell) → IsReached p cell → ⊥

all_decided : (p : Plan) (cells : ℕ) (events : List EventValue)
    → Every (λ (event : EventValue). IsTrue (is_condition_of cells event.condition)) events → Every (IsApart p) (map event_of events)
    → Every (IsDecided p) (map event_of events)
all_decided p cells [] plain apart = tt
all_decided p cells (event ∷ events) plain apart =
    (condition_same p cells event.condition plain.0 apart.0, all_decided p cells events plain.1 apart.1)

-- ---- an accepted plan

every_step : {A : Type 0} (P Q : A → Type 0) → ((x : A) → P x → Q x) → (xs : List A) → Every P xs → Every Q xs
every_step P Q step [] h = tt
every_step P Q step (x ∷ xs) h = (step x h.0, every_step P Q step xs h.1)

pub steady : SameEffect → WritesOnly → (plan : PlanValue) → ∥ IsAccepted (plan_of plan) ∥₁ → IsSteady (plan_of plan)
steady same only plan accepted =
    let p = plan_of plan in
    record {
      effects = λ k m n agree. same plan.program (record { 0 = k }) m n agree;
      stores = λ k cell m stored n e found. only plan.program (record { 0 = k }) m stored cell n e found;
      processes = λ place thread at.
          process_at (λ (t : Thread). is_beside t.process) p.threads place thread plan.threads_rise at.0 (at.1 thread);
      recorded = every_step (λ (group : Group). All (λ (cell : CellValue). IsReached p cell.0 → ⊥) group.cells) (IsClean p)
          (λ group all. every_of_all (λ (cell : CellValue). IsReached p cell.0 → ⊥) group.cells all) p.groups
          (every_of_all (λ (group : Group). All (λ (cell : CellValue). IsReached p cell.0 → ⊥) group.cells) p.groups
          (λ k d there j e less reached. ∥∥₁_elim accepted no_two_absurdities (λ (a : IsAccepted p). a.recordable k d there j e less reached)));
      decided = all_decided p (length plan.program.cells) plan.events
          (every_of_all (λ (event : EventValue). IsTrue (is_condition_of (length plan.program.cells) event.condition)) plan.events plan.conditions_right)
          (every_of_all (IsApart p) (map event_of plan.events)
          (λ k d there cell reads reached. ∥∥₁_elim accepted no_two_absurdities (λ (a : IsAccepted p). a.decidable k d there cell reads reached)));
    }
