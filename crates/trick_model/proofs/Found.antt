-- What an action asks for among names is about them.
use Rattle.std.proofs.Common.{◌≡◌, ℕ, suc, ◌+◌, ◌<◌, ◌==◌, ◌&&◌, nat_le, ℤ, List, [], ◌∷◌, length, Bool, true, false, Option, Some, None, refl}
use Rattle.std.proofs.lemmas.Bool.Decides.{Decides-int_eq}
use Rattle.std.proofs.lemmas.List.Elements.{All-cons}
use Rattle.std.specs.Ordering.{int_eq}
use Rattle.std.specs.Prelude.{All, IfSome, option_map}
use Rattle.std.specs.Str.{bytes_eq}
use native.Mathlib.Omega.{arith}
use Rattle.trick_base.specs.Time.{tic_limit}
use Rattle.trick_lang.specs.Wrap.{wrap, scalar_at}
use Rattle.trick_lang.specs.declared.job.Job.{Job}
use Rattle.trick_model.specs.Names.{Names, deed_of, deeds_of, find_job, find_name, on_found, one_more, set_in_range, stop_after}
use Rattle.trick_model.specs.Valid.{IsDeedAmong}
use Rattle.trick_model.specs.declared.action.Action.{Action}
use Rattle.trick_model.specs.declared.action.Action.TheVariants as action
use Rattle.trick_model.specs.declared.deed.Deed.{Deed}
use Rattle.trick_model.specs.declared.deed.Deed.TheVariants.{SetCell, SetJob, Stop, SetGroup, SetEvent}

-- ---- places

more : (o : Option ℕ) (n : ℕ) → IfSome o (λ k. k < n + 1) → IfSome o (λ k. k < suc n)
more None n there = tt
more (Some k) n there = omega (arith, there)

counted : (b : Bool) (o : Option ℕ) (n : ℕ) → IfSome o (λ k. k < n)
    → IfSome (elim b [ true ↦ Some 0 | false ↦ one_more o ]) (λ k. k < n + 1)
counted true o n there = omega arith
counted false None n there = tt
counted false (Some k) n there = omega (arith, there)

pub name_within : (name : List ℕ) (names : List (List ℕ)) → IfSome (find_name name names) (λ k. k < length names)
name_within name [] = tt
name_within name (other ∷ others) =
    more (elim (bytes_eq name other) [ true ↦ Some 0 | false ↦ one_more (find_name name others) ]) (length others)
    (counted (bytes_eq name other) (find_name name others) (length others) (name_within name others))

job_within : (name : List ℕ) (instance : ℕ) (names : List (List ℕ)) (jobs : List Job)
    → IfSome (find_job name instance names jobs) (λ k. k < length jobs)
job_within name instance [] jobs = tt
job_within name instance (other ∷ others) [] = tt
job_within name instance (other ∷ others) (job ∷ jobs) =
    let same = bytes_eq name other && (job.instance == instance) in
    more (elim same [ true ↦ Some 0 | false ↦ one_more (find_job name instance others jobs) ]) (length jobs)
    (counted same (find_job name instance others jobs) (length jobs) (job_within name instance others jobs))

-- ---- deeds

module _ (names : Names) where
  on_place : (deed : ℕ → Deed) (n : ℕ) (o : Option ℕ) → ((k : ℕ) → k < n → IsDeedAmong names (deed k))
      → IfSome o (λ k. k < n) → IfSome (on_found deed o) (IsDeedAmong names)
  on_place deed n None is there = tt
  on_place deed n (Some k) is there = is k there

  set_among : (number : ℤ) (o : Option ℕ) → IfSome o (λ k. k < length names.cells)
      → IfSome (set_in_range names.scalars number o) (IsDeedAmong names)
  set_among number None there = tt
  set_among number (Some cell) there = by (int_eq (wrap (scalar_at names.scalars cell) number) number) refl
    where
      by : (b : Bool) → int_eq (wrap (scalar_at names.scalars cell) number) number ≡ b
          → IfSome (elim b [ true ↦ Some (SetCell (record { 0 = cell }) number) | false ↦ None ]) (IsDeedAmong names)
      by true e = (there, (Decides-int_eq (wrap (scalar_at names.scalars cell) number) number).0 e)
      by false e = tt

  stop_among : (at : Option ℕ) → IfSome (stop_after at) (IsDeedAmong names)
  stop_among None = tt
  stop_among (Some at) = by (nat_le at tic_limit) refl
    where
      by : (b : Bool) → nat_le at tic_limit ≡ b → IfSome (elim b [ true ↦ Some (Stop (Some at)) | false ↦ None ]) (IsDeedAmong names)
      by true e = grind (arith, e)
      by false e = tt

  -- what one action asks for
  pub found_among : (wanted : Action) → IfSome (deed_of names wanted) (IsDeedAmong names)
  found_among (action.SetCell name number) = set_among number (find_name name names.cells) (name_within name names.cells)
  found_among (action.SetJob name instance on) =
      on_place (λ k. SetJob (record { 0 = k }) on) (length names.jobs) (find_job name instance names.job_names names.jobs)
      (λ k lt. lt) (job_within name instance names.job_names names.jobs)
  found_among action.Freeze = tt
  found_among (action.Stop at) = stop_among at
  found_among action.Checkpoint = tt
  found_among (action.SetGroup name on) =
      on_place (λ k. SetGroup k on) (length names.groups) (find_name name names.groups) (λ k lt. lt) (name_within name names.groups)
  found_among (action.SetEvent name on) =
      on_place (λ k. SetEvent k on) (length names.events) (find_name name names.events) (λ k lt. lt) (name_within name names.events)

  -- what all of them ask for
  pub all_among : (actions : List Action) → IfSome (deeds_of names actions) (All (IsDeedAmong names))
  all_among [] = λ k d lt. absurd (omega (arith, lt))
  all_among (wanted ∷ actions) = by (deed_of names wanted) (deeds_of names actions) (found_among wanted) (all_among actions)
    where
      by : (o : Option Deed) (more : Option (List Deed)) → IfSome o (IsDeedAmong names) → IfSome more (All (IsDeedAmong names))
          → IfSome (elim o [ None ↦ None | Some deed ↦ option_map (λ deeds. deed ∷ deeds) more ]) (All (IsDeedAmong names))
      by None more first rest = tt
      by (Some deed) None first rest = tt
      by (Some deed) (Some deeds) first rest = All-cons (IsDeedAmong names) deed deeds first rest
