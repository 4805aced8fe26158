-- The next tic at which one of the first events is due.
use Rattle.std.proofs.Common.{◌≡◌, ◌∙◌, ℕ, ◌+◌, ◌-◌, ◌<◌, ◌≤◌, List, Bool, true, false, ap, arith, inl, inr, length, refl, subst, sym}
use Rattle.std.specs.Prelude.{◌⊎◌, ◌%◌, min}
use Rattle.trick_cycle.specs.Due.{IsDue}
use Rattle.trick_cycle.specs.declared.Due.{Due}
use Rattle.trick_event.specs.Due.{IsEventDue, IsNextEvent, IsNextWhere, cycle_of}
use Rattle.trick_model.specs.Plan.{is_on}
use Rattle.trick_base.specs.Time.{tic_limit}
use Rattle.trick_model.specs.declared.event.Event.{Event}
use Rattle.trick_model.specs.declared.flags.Flags.{Flags}
use Rattle.trick_queue.proofs.Trees.{below_or, same_or}
use Rattle.trick_queue.specs.Calendar.{IsNext}
use Rattle.trick_queue.specs.Tree.{never}

-- when an event of a place may be due
abbrev pub times_of : List Event → ℕ → Due
times_of events place = record { start = 0; cycle = cycle_of events place; stop = tic_limit }

-- it is due in the words of tics
as_due : (events : List Event) (on : Flags) (place t : ℕ) → t ≤ tic_limit → IsEventDue events on place t → IsDue (times_of events place) t
as_due events on place t fits due =
    let same : t - 0 ≡ t = omega arith in
    record { started = omega arith; not_over = fits; in_step = ap (λ (n : ℕ). n % cycle_of events place) same ∙ due.in_step }

none_here : (events : List Event) (on : Flags) (from place tic t : ℕ) → IsNextWhere (is_on on place) (times_of events place) from tic
    → from ≤ t → t < tic → t ≤ tic_limit → IsEventDue events on place t → ⊥
none_here events on from place tic t next low high fits due =
    let told : IsNext (times_of events place) from tic =
    subst (λ (b : Bool). IsNextWhere b (times_of events place) from tic) due.active next in
    told.none_before t low high (as_due events on place t fits due)

-- the tic of the event is one at which it is due
due_here : (events : List Event) (on : Flags) (from place tic : ℕ) → place < length events
    → (b : Bool) → is_on on place ≡ b → IsNextWhere b (times_of events place) from tic
    → (tic ≡ never) ⊎ ((k : ℕ) × (k < length events) × (from ≤ tic) × (tic ≤ tic_limit) × IsEventDue events on k tic)
due_here events on from place tic there false is next = inl next
due_here events on from place tic there true is next = elim (next.due) [
  | inl e ↦ inl e
  | inr h ↦
      let same : tic ≡ tic - 0 = omega arith in
      inr (place, there, h.0, h.1.not_over, record { active = is; in_step = ap (λ (n : ℕ). n % cycle_of events place) same ∙ h.1.in_step })
]

pub event_more : (events : List Event) (on : Flags) (from place next tic : ℕ) → place < length events
    → IsNextWhere (is_on on place) (times_of events place) from tic → IsNextEvent events on from place next
    → IsNextEvent events on from (place + 1) (min next tic)
event_more events on from place next tic there here before = record {
  none_before = λ k t less low high fits due. elim (same_or k place) [
    | inl e ↦
        let now : IsEventDue events on place t = subst (λ (i : ℕ). IsEventDue events on i t) e due in
        none_here events on from place tic t here low (omega arith) fits now
    | inr ne ↦ before.none_before k t (omega arith) low (omega arith) fits due
  ];
  due = elim (below_or tic next) [
    | inl h ↦
        let is : tic ≡ min next tic = omega arith in
        subst (λ (n : ℕ). (n ≡ never) ⊎ ((k : ℕ) × (k < length events) × (from ≤ n) × (n ≤ tic_limit) × IsEventDue events on k n)) is
        (due_here events on from place tic there (is_on on place) refl here)
    | inr h ↦
        let is : next ≡ min next tic = omega arith in
        subst (λ (n : ℕ). (n ≡ never) ⊎ ((k : ℕ) × (k < length events) × (from ≤ n) × (n ≤ tic_limit) × IsEventDue events on k n)) is before.due
  ];
}
