use Rattle.std.proofs.Common.{◌≡◌, ◌∙◌, Some, ap, refl}
use Rattle.std.proofs.lemmas.Result.{err_from_is_err_and}
use Rattle.trick_exec.specs.declared.ended.Ended.{Ended as EndedValue}
use Rattle.trick_model.specs.PlanOf.{plan_of}
use Rattle.trick_model.specs.State.{State, World, seen}
use Rattle.trick_exec_alone.proofs.ReplayLemmas.{misfit, none_kept, stopped, whole}
use Rattle.trick_exec_alone.proofs.under_journal.replay_by.Goals as goal
use Rattle.trick_exec_alone.specs.Serial.{summary_of}
use Rattle.trick_exec_sources.specs.Joins.{joins_of}
use Rattle.trick_exec_sources.specs.Turns.{Told}

pub returns-in_default : goal.returns-in_default
returns-in_default g c =
    record { run = none_kept _ (plan_of c.args.accepted.now.plan) (seen g.M.Cells.numbers c.args.start.state) c.args.journal (g.met.F.Shelf.called_none _) }

pub returns-in_err-world : goal.returns-in_err-world
returns-in_err-world g c =
    let error = err_from_is_err_and c.from_residual.result c.from_residual.ensures.1 in
    let run = c.in_err-world.ensures.run in
    rw error.1 (record {
      run = stopped (plan_of c.args.accepted.now.plan) (seen g.M.Cells.numbers c.args.start.state) c.args.journal run.0 _ _ run.1 refl
          (ap (λ (told : Told). Some told) c.in-Ok.ensures.told) refl error.2;
    })

pub returns-in-Done : goal.returns-in-Done
returns-in-Done g c =
    let run = rw c.in-Done.is at c.in_ok-world.ensures.run in
    record {
      run = whole (plan_of c.args.accepted.now.plan) (seen g.M.Cells.numbers c.args.start.state) c.args.journal run.0 _ _ c.journals_show.ensures run.1 refl
          (ap (λ (told : Told). Some told) c.in-Ok.ensures.told)
          (c.summary_of.ensures ∙ ap (λ (w : World). summary_of w.state) run.2)
          (c.joins-joins.ensures ∙ ap (λ (told : Told). joins_of told.lists) c.in-Ok.ensures.told);
    }

pub returns : goal.returns
returns g c =
    let run = rw c.in-Length.is at c.in_ok-world.ensures.run in
    record {
      run = misfit (plan_of c.args.accepted.now.plan) (seen g.M.Cells.numbers c.args.start.state) c.args.journal run.0 c.in-Length.kept c.in-Length.given
          c.journals_show.ensures run.1 refl (ap (λ (told : Told). Some told) c.in-Ok.ensures.told);
    }
