-- What an action asks for stays the same among more names.
use Rattle.std.proofs.Common.{◌≡◌, ◌∙◌, ◌<◌, ◌++◌, ◌∷◌, [], ℕ, zero, suc, ℤ, Bool, true, false, List, Option, Some, None, length, refl, sym, ap, subst, arith}
use Rattle.std.specs.Ordering.{int_eq}
use Rattle.std.specs.Prelude.{IfSome}
use Rattle.std.specs.Str.{bytes_eq}
use Rattle.trick_plan_variables.proofs.Plans.{HasMore}
use Rattle.trick_plan_draft.proofs.Grows.{HasAdded}
use Rattle.trick_lang.specs.Wrap.{scalar_at, wrap}
use Rattle.trick_lang.specs.declared.job.Job.{Job}
use Rattle.trick_lang.specs.declared.scalar.Scalar.{Scalar}
use Rattle.trick_model.proofs.Found.{name_within}
use Rattle.trick_model.specs.Names.{Names, deed_of, find_job, find_name, on_found, one_more, set_in_range}
use Rattle.trick_model.specs.declared.action.Action.{Action}
use Rattle.trick_model.specs.declared.action.Action.TheVariants as action
use Rattle.trick_model.specs.declared.deed.Deed.{Deed}
use Rattle.trick_model.specs.declared.deed.Deed.TheVariants.{SetCell, SetJob, SetGroup, SetEvent}

-- ---- places

found_more : (name : List ℕ) (names more : List (List ℕ)) (k : ℕ) → find_name name names ≡ Some k
    → find_name name (names ++ more) ≡ Some k
found_more name [] more k h = cc h
found_more name (other ∷ others) more k h = by (bytes_eq name other) refl k h (found_more name others more)
  where
    from : List (List ℕ) → Bool → Option ℕ
    from rest b = elim b [ true ↦ Some 0 | false ↦ one_more (find_name name rest) ]

    by : (b : Bool) → bytes_eq name other ≡ b → (k : ℕ) → find_name name (other ∷ others) ≡ Some k
        → ((j : ℕ) → find_name name others ≡ Some j → find_name name (others ++ more) ≡ Some j)
        → find_name name ((other ∷ others) ++ more) ≡ Some k
    by true s k h rest = ap (from (others ++ more)) s ∙ (sym (ap (from others) s) ∙ h)
    by false s k h rest = ap (from (others ++ more)) s ∙ behind (find_name name others) refl (sym (ap (from others) s) ∙ h)
      where
        behind : (o : Option ℕ) → find_name name others ≡ o → one_more o ≡ Some k
            → one_more (find_name name (others ++ more)) ≡ Some k
        behind None e i = cc i
        behind (Some j) e i = ap one_more (rest j e) ∙ i

on_more : (make : ℕ → Deed) (o p : Option ℕ) (deed : Deed) → ((k : ℕ) → o ≡ Some k → p ≡ Some k)
    → on_found make o ≡ Some deed → on_found make p ≡ Some deed
on_more make None p deed more h = cc h
on_more make (Some k) p deed more h = ap (λ (q : Option ℕ). on_found make q) (more k refl) ∙ h

-- ---- more groups and events

added : (old : Names) (groups events : List (List ℕ)) (a : Action) (deed : Deed) → deed_of old a ≡ Some deed
    → deed_of (record old { groups = old.groups ++ groups; events = old.events ++ events }) a ≡ Some deed
added old groups events (action.SetCell name number) deed h = h
added old groups events (action.SetGroup name on) deed h =
    on_more (λ k. SetGroup k on) (find_name name old.groups) (find_name name (old.groups ++ groups)) deed
    (found_more name old.groups groups) h
added old groups events (action.SetEvent name on) deed h =
    on_more (λ k. SetEvent k on) (find_name name old.events) (find_name name (old.events ++ events)) deed
    (found_more name old.events events) h
added old groups events a deed h = h

pub stays_added : (old new : Names) → HasAdded old new → (a : Action) (deed : Deed) → deed_of old a ≡ Some deed
    → deed_of new a ≡ Some deed
stays_added old new more a deed h =
    ap (λ (names : Names). deed_of names a) more.same ∙ added old more.more_groups more.more_events a deed h

-- ---- more cells

scalar_stays : (scalars more : List Scalar) (k : ℕ) → k < length scalars → scalar_at (scalars ++ more) k ≡ scalar_at scalars k
scalar_stays [] more k there = absurd (omega (arith, there))
scalar_stays (s ∷ ss) more zero there = refl
scalar_stays (s ∷ ss) more (suc k) there = scalar_stays ss more k (omega (arith, there))

within : (o : Option ℕ) (k n : ℕ) → o ≡ Some k → IfSome o (λ j. j < n) → k < n
within o k n e there = subst (λ (p : Option ℕ). IfSome p (λ j. j < n)) e there

set_more : (scalars more : List Scalar) (number : ℤ) (o p : Option ℕ) (deed : Deed)
    → ((k : ℕ) → o ≡ Some k → (p ≡ Some k) × (k < length scalars))
    → set_in_range scalars number o ≡ Some deed → set_in_range (scalars ++ more) number p ≡ Some deed
set_more scalars more number None p deed found h = cc h
set_more scalars more number (Some k) p deed found h =
    let there = found k refl in
    ap (λ (q : Option ℕ). set_in_range (scalars ++ more) number q) there.0
    ∙ (ap (λ (s : Scalar). elim (int_eq (wrap s number) number) as (λ _. Option Deed) [
      | true ↦ Some (SetCell (record { 0 = k }) number)
      | false ↦ None
    ]) (scalar_stays scalars more k there.1) ∙ h)

pub stays_more : (old new : Names) → HasMore old new → (a : Action) (deed : Deed) → deed_of old a ≡ Some deed
    → deed_of new a ≡ Some deed
stays_more old new more (action.SetCell name number) deed h =
    ap (λ (scalars : List Scalar). set_in_range scalars number (find_name name new.cells)) more.types
    ∙ set_more old.scalars more.scalars number (find_name name old.cells) (find_name name new.cells) deed
    (λ k e. (
      ap (find_name name) more.cells ∙ found_more name old.cells more.names k e,
      subst (λ (n : ℕ). k < n) more.as_many
          (within (find_name name old.cells) k (length old.cells) e (name_within name old.cells)),
    )) h
stays_more old new more (action.SetJob name instance on) deed h =
    ap (λ (names : List (List ℕ)). on_found (λ k. SetJob (record { 0 = k }) on) (find_job name instance names new.jobs)) more.job_names
    ∙ (ap (λ (jobs : List Job). on_found (λ k. SetJob (record { 0 = k }) on) (find_job name instance old.job_names jobs)) more.jobs ∙ h)
stays_more old new more action.Freeze deed h = h
stays_more old new more (action.Stop at) deed h = h
stays_more old new more action.Checkpoint deed h = h
stays_more old new more (action.SetGroup name on) deed h =
    ap (λ (names : List (List ℕ)). on_found (λ k. SetGroup k on) (find_name name names)) more.groups ∙ h
stays_more old new more (action.SetEvent name on) deed h =
    ap (λ (names : List (List ℕ)). on_found (λ k. SetEvent k on) (find_name name names)) more.events ∙ h
