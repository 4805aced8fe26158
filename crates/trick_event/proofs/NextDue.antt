-- The next tic at which something is due.
use Rattle.std.proofs.Common.{◌≡◌, ◌≢◌, ◌∙◌, ℕ, zero, suc, ◌+◌, ◌<◌, ◌≤◌, List, [], ◌∷◌, Bool, true, false, Some, None, ap, arith, get_or, inl, inr, length, map, refl, subst, sym}
use Rattle.std.proofs.lemmas.Bool.{eq-eqb, eqb-true}
use Rattle.std.specs.Prelude.{◌%◌, ◌==◌, ◌&&◌, ◌||◌, ◌⊎◌, cond, min, nat_lt, All}
use Rattle.std.specs.List.{list_any}
use Rattle.trick_cycle.specs.Least.{FindsLeast}
use Rattle.trick_event.proofs.Left.{left_kept, left_passed}
use Rattle.trick_event.specs.Due.{AreLeft, IsEventDue, IsNextEvent, IsStirred, cycle_of, no_event, no_read, read_is_due, tic_left, tic_of}
use Rattle.trick_model.specs.Laws.{event_is_due}
use Rattle.trick_model.specs.Plan.{is_on}
use Rattle.trick_model.specs.PlanOf.{event_of, plan_of}
use Rattle.trick_model.specs.State.{State}
use Rattle.trick_base.specs.Time.{tic_limit}
use Rattle.trick_model.specs.declared.event.Event.{Event}
use Rattle.trick_model.specs.declared.flags.Flags.{Flags}
use Rattle.trick_model.specs.declared.plan.Plan.{Plan as PlanValue}
use Rattle.trick_model.specs.declared.read_at.ReadAt.{ReadAt}
use Rattle.trick_queue.proofs.Trees.{below_or}
use Rattle.trick_queue.specs.Tree.{IsLeast, never}

-- ---- tests

or_cases : (a b : Bool) → a || b ≡ true → (a ≡ true) ⊎ (b ≡ true)
or_cases true b h = inl refl
or_cases false b h = inr h

or_left : (a b : Bool) → a ≡ true → a || b ≡ true
or_left true b h = refl
or_left false b h = cc h

or_right : (a b : Bool) → b ≡ true → a || b ≡ true
or_right true b h = refl
or_right false b h = h

both : (a b : Bool) → a && b ≡ true → (a ≡ true) × (b ≡ true)
both true b h = (refl, h)
both false b h = cc h

join : (a b : Bool) → a ≡ true → b ≡ true → a && b ≡ true
join true b g h = h
join false b g h = cc g

-- ---- reads

pub read_there : (reads : List ReadAt) (tic : ℕ) → read_is_due reads tic ≡ true → (k : ℕ) × (k < length reads) × (tic_of reads k ≡ tic)
read_there [] tic h = cc h
read_there (read ∷ reads) tic h = elim (or_cases (read.tic == tic) (read_is_due reads tic) h) [
  | inl here ↦ (0, omega arith, eqb-true read.tic tic here)
  | inr later ↦ let found = read_there reads tic later in (suc found.0, omega (arith, found.1), found.2)
]

pub read_back : (reads : List ReadAt) (k tic : ℕ) → k < length reads → tic_of reads k ≡ tic → read_is_due reads tic ≡ true
read_back [] k tic less is = absurd (omega arith)
read_back (read ∷ reads) zero tic less is = or_left (read.tic == tic) (read_is_due reads tic) (eq-eqb read.tic tic is)
read_back (read ∷ reads) (suc k) tic less is = or_right (read.tic == tic) (read_is_due reads tic) (read_back reads k tic (omega arith) is)

-- ---- events

pub event_there : (events : List Event) (s : State) (tic from : ℕ) → event_is_due tic from (map event_of events) s ≡ true
    → (k : ℕ) × (k < length events) × (is_on s.events (from + k) ≡ true) × (tic % cycle_of events k ≡ 0)
event_there [] s tic from h = cc h
event_there (event ∷ events) s tic from h = elim (or_cases (is_on s.events from && ((tic % event.cycle) == 0)) (event_is_due tic (suc from) (map event_of events) s) h) [
  | inl here ↦
      let parts = both (is_on s.events from) ((tic % event.cycle) == 0) here in
      let same : from ≡ from + 0 = omega arith in
      (0, omega arith, ap (is_on s.events) (sym same) ∙ parts.0, eqb-true (tic % event.cycle) 0 parts.1)
  | inr later ↦
      let found = event_there events s tic (suc from) later in
      let same : from + suc found.0 ≡ suc from + found.0 = omega arith in
      (suc found.0, omega (arith, found.1), ap (is_on s.events) same ∙ found.2, found.3)
]

pub event_back : (events : List Event) (s : State) (tic from k : ℕ) → k < length events → is_on s.events (from + k) ≡ true → tic % cycle_of events k ≡ 0
    → event_is_due tic from (map event_of events) s ≡ true
event_back [] s tic from k less on step = absurd (omega arith)
event_back (event ∷ events) s tic from zero less on step =
    let same : from ≡ from + zero = omega arith in
    or_left (is_on s.events from && ((tic % event.cycle) == 0)) (event_is_due tic (suc from) (map event_of events) s)
    (join (is_on s.events from) ((tic % event.cycle) == 0) (ap (is_on s.events) same ∙ on) (eq-eqb (tic % event.cycle) 0 step))
event_back (event ∷ events) s tic from (suc k) less on step =
    let same : suc from + k ≡ from + suc k = omega arith in
    or_right (is_on s.events from && ((tic % event.cycle) == 0)) (event_is_due tic (suc from) (map event_of events) s)
    (event_back events s tic (suc from) k (omega arith) (ap (is_on s.events) same ∙ on) step)

-- ---- the least

-- Nothing is due before both.
none_before : (plan : PlanValue) (on : Flags) (s : State) (tics : List ℕ) (from read event : ℕ) → s.events ≡ on
    → AreLeft from plan.reads tics → IsLeast tics read → IsNextEvent plan.events on from (length plan.events) event
    → (t : ℕ) → t < min read event → t < never → IsStirred (plan_of plan) s from t → ⊥
none_before plan on s tics from read event same left least next t less fits stirred =
    elim (or_cases (read_is_due plan.reads t) (event_is_due t 0 (map event_of plan.events) s) stirred.due) [
      | inl due ↦
          let found = read_there plan.reads t due in
          let as_many : length tics ≡ length plan.reads = left.as_many in
          let low : from ≤ t = stirred.not_passed in
          let kept : get_or tics found.0 never ≡ t =
          left.left found.0 found.1 ∙ ap (tic_left from) found.2 ∙ left_kept from t low in
          let below : read ≤ get_or tics found.0 never = least.below found.0 (omega (arith, found.1)) in
          omega arith
      | inr due ↦
          let found = event_there plan.events s t 0 due in
          let zero_more : found.0 ≡ 0 + found.0 = omega arith in
          next.none_before found.0 t found.1 stirred.not_passed (omega arith) stirred.in_range
          (record { active = ap (λ (f : Flags). is_on f found.0) (sym same) ∙ ap (is_on s.events) zero_more ∙ found.2; in_step = found.3 })
    ]

-- Something is due at the lesser of both.
due_then : (plan : PlanValue) (on : Flags) (s : State) (tics : List ℕ) (from read event : ℕ) → s.events ≡ on
    → AreLeft from plan.reads tics → IsLeast tics read → IsNextEvent plan.events on from (length plan.events) event
    → min read event < never → IsStirred (plan_of plan) s from (min read event)
due_then plan on s tics from read event same left least next fits = elim (below_or event read) [
  | inl h ↦
      let is : min read event ≡ event = omega arith in
      subst (IsStirred (plan_of plan) s from) (sym is) (elim (next.due) [
        | inl e ↦ absurd (omega arith)
        | inr found ↦
            let zero_more : 0 + found.0 ≡ found.0 = omega arith in
            record {
              not_passed = found.2;
              in_range = found.3;
              due = or_right (read_is_due plan.reads event) (event_is_due event 0 (map event_of plan.events) s)
                  (event_back plan.events s event 0 found.0 found.1 (ap (is_on s.events) zero_more ∙ ap (λ (f : Flags). is_on f found.0) same ∙ found.4.active) found.4.in_step);
            }
      ])
  | inr h ↦
      let is : min read event ≡ read = omega arith in
      subst (IsStirred (plan_of plan) s from) (sym is) (elim (least.there) [
        | inl e ↦ absurd (omega arith)
        | inr found ↦
            let as_many : length tics ≡ length plan.reads = left.as_many in
            let there : found.0 < length plan.reads = omega (arith, found.1) in
            let tic = tic_of plan.reads found.0 in
            let left_is : tic_left from tic ≡ read = sym (left.left found.0 there) ∙ found.2 in
            elim (below_or tic from) [
              | inl gone ↦ let e = left_passed from tic gone in absurd (omega (arith, e, left_is))
              | inr low ↦
                  let kept : tic ≡ read = sym (left_kept from tic low) ∙ left_is in
                  let range : tic ≤ tic_limit = plan.read_tics found.0 no_read there in
                  record {
                    not_passed = omega arith;
                    in_range = omega arith;
                    due = or_left (read_is_due plan.reads read) (event_is_due read 0 (map event_of plan.events) s) (read_back plan.reads found.0 read there kept);
                  }
            ]
      ])
]

pub finds_least : (plan : PlanValue) (on : Flags) (s : State) (tics : List ℕ) (from read event : ℕ) → s.events ≡ on
    → AreLeft from plan.reads tics → IsLeast tics read → IsNextEvent plan.events on from (length plan.events) event
    → FindsLeast (IsStirred (plan_of plan) s from) (cond (nat_lt (min read event) never) (Some (min read event)) None)
finds_least plan on s tics from read event same left least next = elim (below_or (min read event) never) [
  | inl h ↦
      let test : nat_lt (min read event) never ≡ true = grind arith in
      subst (λ (b : Bool). FindsLeast (IsStirred (plan_of plan) s from) (cond b (Some (min read event)) None)) (sym test) (
        due_then plan on s tics from read event same left least next h,
        λ t less. none_before plan on s tics from read event same left least next t less (omega arith),
      )
  | inr h ↦
      let test : nat_lt (min read event) never ≡ false = grind arith in
      subst (λ (b : Bool). FindsLeast (IsStirred (plan_of plan) s from) (cond b (Some (min read event)) None)) (sym test)
      (λ t stirred.
      let range : t ≤ tic_limit = stirred.in_range in
      none_before plan on s tics from read event same left least next t (omega arith) (omega arith) stirred)
]
