-- What clients' lines ask for.
use Rattle.std.proofs.Common.{◌≡◌, Some, ap, refl, sym}
use Rattle.trick_event.proofs.Deeds.{can_do}
use Rattle.trick_event.specs.Deeds.{CanDo}
use Rattle.trick_phase_jobs.specs.Belongs.{IsMemoryOf}
use Rattle.trick_lang.specs.declared.scalar.Scalar.{Scalar}
use Rattle.std.specs.Prelude.{ℤ, List, length}
use Rattle.trick_model.specs.Events.{Asking, Between, do_deed, enter_freeze, names_of}
use Rattle.trick_model.specs.Plan.{Plan}
use Rattle.trick_model.specs.PlanOf.{plan_of}
use Rattle.trick_model.specs.Turn.{do_between}
use Rattle.trick_model.specs.Valid.{IsDeedAmong}
use Rattle.trick_model.specs.declared.deed.Deed.{Deed}
use Rattle.trick_model.specs.declared.deed.Deed.TheVariants.{SetCell, SetJob, Freeze, Stop, Checkpoint, SetGroup, SetEvent}
use Rattle.trick_model.specs.declared.plan.Plan.{Plan as PlanValue}

-- what is no freeze is done between two tics as in one
pub other_deed : (p : Plan) (deed : Deed) (a : Asking) → (deed ≡ Freeze → ⊥) → do_deed Between deed a ≡ do_between p (Some deed) a
other_deed p (SetCell cell number) a not = refl
other_deed p (SetJob job on) a not = refl
other_deed p Freeze a not = absurd (not refl)
other_deed p (Stop at) a not = refl
other_deed p Checkpoint a not = refl
other_deed p (SetGroup group on) a not = refl
other_deed p (SetEvent event on) a not = refl

-- Freeze is entered at once.
pub freeze_now : (p : Plan) (deed : Deed) (a : Asking) → deed ≡ Freeze
    → record a { state = enter_freeze p a.state } ≡ do_between p (Some deed) a
freeze_now p deed a is = ap (λ (x : Deed). do_between p (Some x) a) (sym is)

-- a deed about the plan's names can be done to a memory of it
pub can_between : (plan : PlanValue) (numbers : List ℤ) (scalars : List Scalar) (deed : Deed) → IsMemoryOf plan.program numbers scalars
    → IsDeedAmong (names_of (plan_of plan)) deed → CanDo (length numbers) scalars deed
can_between plan numbers scalars deed is among = can_do plan.program (names_of (plan_of plan)) refl refl numbers scalars is deed among
