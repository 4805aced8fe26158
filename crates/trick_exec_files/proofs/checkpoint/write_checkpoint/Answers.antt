use Rattle.std.proofs.Common.{Bool, ap}
use Rattle.trick_exec_files.proofs.checkpoint.write_checkpoint.Goals as goal
use Rattle.trick_model.specs.PlanOf.{plan_of}
use Rattle.trick_model.specs.State.{seen}
use Rattle.trick_model.specs.Turn.{checkpoint_writes}
use Rattle.trick_outside.proofs.DoesLemmas.{does_idle, does_none}
use Rattle.trick_exec_tic.specs.Steps.{steps_of}

pub returns-then-not-asked : goal.returns-then-not-asked
returns-then-not-asked g c =
    does_idle _ _ _ (g.met.F.Shelf.called_none _) (λ f. cc)
    (ap (λ (asked : Bool). steps_of (checkpoint_writes (plan_of c.args.plan.now) asked (seen g.M.Cells.numbers c.args.state.now))) c.if-not-asked.true)

pub returns-in_default : goal.returns-in_default
returns-in_default g c = does_none _ _ _ (g.met.F.Shelf.called_none _) (λ d. cc) (λ f. cc)

pub returns-in_default-print : goal.returns-in_default-print
returns-in_default-print g c = does_none _ _ _ (g.met.F.Shelf.called_none _) (λ d. cc) (λ f. cc)
