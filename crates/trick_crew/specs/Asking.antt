-- How the clerks of a crew were asked.
use Rattle.std.proofs.Common.{refl, subst, sym}
use Rattle.std.specs.Prelude.{◌≡◌, List, [], ◌++◌}
use Rattle.trick_crew.specs.InHand.{lateness_of}
use Rattle.trick_crew.specs.declared.clerks.Clerks.{Clerks}
use Rattle.trick_crew.specs.declared.clerks.Clerks.TheVariants as clerks
use Rattle.trick_crew_clerks.specs.Tending.{AreTended, WasAsked, tended_join, tended_none}
use Rattle.trick_post.specs.Lateness.{counts_join, late_through, rose_counted}
use Rattle.trick_model.specs.declared.planned.Planned.{Ghosts}
use Rattle.trick_outside.specs.Causes.{RoseBy}
use Rattle.trick_post_work.specs.Polls.{Poll, not_ready}

module _ {P G R : Type 0} {planned : Ghosts P} where
  -- The clerks go from one state to the other by these polls: the desk counts them, and for a clerk that stayed nothing
  -- waits once its thread was asked for. Nobody is never asked.
  abbrev pub WereAsked : Clerks P G R planned → List Poll → Clerks P G R planned → Type 0
  WereAsked (clerks.Nobody old) polls (clerks.Nobody new) = polls ≡ []
  WereAsked (clerks.Nobody old) polls (clerks.Yard new) = ⊥
  WereAsked (clerks.Yard old) polls (clerks.Nobody new) = ⊥
  WereAsked (clerks.Yard old) polls (clerks.Yard new) = (new.desk.late ≡ late_through old.desk.late polls)
      × AreTended (WasAsked polls) old.staff.here.items new.staff.here.items

  -- ---- laws

  pub asked_none : (one : Clerks P G R planned) → WereAsked one [] one
  asked_none (clerks.Nobody nobody) = refl
  asked_none (clerks.Yard yard) = (refl, tended_none yard.staff.here.items)

  pub asked_join : (first second third : Clerks P G R planned) (early late : List Poll) → WereAsked first early second
      → WereAsked second late third → WereAsked first (early ++ late) third
  asked_join (clerks.Nobody a) (clerks.Nobody b) (clerks.Nobody c) early late one two =
      subst (λ (polls : List Poll). polls ++ late ≡ []) (sym one) two
  asked_join (clerks.Nobody a) (clerks.Nobody b) (clerks.Yard c) early late one two = absurd two
  asked_join (clerks.Nobody a) (clerks.Yard b) third early late one two = absurd one
  asked_join (clerks.Yard a) (clerks.Nobody b) third early late one two = absurd one
  asked_join (clerks.Yard a) (clerks.Yard b) (clerks.Nobody c) early late one two = absurd two
  asked_join (clerks.Yard a) (clerks.Yard b) (clerks.Yard c) early late one two = (
    counts_join a.desk.late b.desk.late c.desk.late early late one.0 two.0,
    tended_join early late a.staff.here.items b.staff.here.items c.staff.here.items one.1 two.1,
  )

  pub asked_late : (old new : Clerks P G R planned) (polls : List Poll) → WereAsked old polls new
      → RoseBy (lateness_of old) (not_ready polls) (lateness_of new)
  asked_late (clerks.Nobody a) (clerks.Nobody b) polls none =
      rose_counted 0 0 polls (subst (λ (ps : List Poll). 0 ≡ late_through 0 ps) (sym none) refl)
  asked_late (clerks.Nobody a) (clerks.Yard b) polls counted = absurd counted
  asked_late (clerks.Yard a) (clerks.Nobody b) polls counted = absurd counted
  asked_late (clerks.Yard a) (clerks.Yard b) polls counted = rose_counted a.desk.late b.desk.late polls counted.0
