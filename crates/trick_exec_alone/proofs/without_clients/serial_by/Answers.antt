use Rattle.std.proofs.Common.{◌∙◌, Err, Ok, ap, refl, subst}
use Rattle.std.proofs.lemmas.Result.{err_from_is_err_and}
use Rattle.std.specs.Prelude.{Result}
use Rattle.trick_exec.specs.Own.{RunsAs}
use Rattle.trick_exec.specs.declared.ended.Ended.{Ended as EndedValue}
use Rattle.trick_model.specs.PlanOf.{plan_of}
use Rattle.trick_model.specs.State.{State, World, seen}
use Rattle.trick_outside.specs.declared.stop.Stop.{Stop}
use Rattle.trick_exec_meaning.specs.Hosts.{at}
use Rattle.trick_exec_alone.proofs.SerialLemmas.{came, stopped}
use Rattle.trick_exec_alone.proofs.without_clients.serial_by.Goals as goal
use Rattle.trick_exec_alone.specs.Serial.{summary_of}

pub run-requires-clause-free : goal.run-requires-clause-free
run-requires-clause-free g c = λ place within. c.requires.free _

pub returns-in_err-world : goal.returns-in_err-world
returns-in_err-world g c =
    let plan = c.args.accepted.now.plan in
    let s : State = seen g.M.Cells.numbers c.args.state in
    let error = err_from_is_err_and c.from_residual.result c.from_residual.ensures.1 in
    let result : Result (EndedValue g.row.M.Denot) Stop = Err c.in_err-world.field-0.0 in
    let run : RunsAs g.F.Shelf g.M.Cells.numbers (plan_of plan) s c.args.shelf.now c.run.new.shelf result =
    c.runs_are_alone.ensures plan s (at c.args.shelf.now (record {}) c.args.workers.now.posts)
    (at c.run.new.shelf c.run.new.turns c.run.new.workers.posts) result c.serial_forms_are_alone.ensures.always c.in_err-world.ensures.run in
    rw error.1 (record { run = stopped (plan_of plan) s run.0 _ _ run.1 refl error.2 })

pub returns : goal.returns
returns g c =
    let plan = c.args.accepted.now.plan in
    let s : State = seen g.M.Cells.numbers c.args.state in
    let result : Result (EndedValue g.row.M.Denot) Stop = Ok c.in_ok-world.field-0 in
    let all : RunsAs g.F.Shelf g.M.Cells.numbers (plan_of plan) s c.args.shelf.now c.run.new.shelf result =
    c.runs_are_alone.ensures plan s (at c.args.shelf.now (record {}) c.args.workers.now.posts)
    (at c.run.new.shelf c.run.new.turns c.run.new.workers.posts) result c.serial_forms_are_alone.ensures.always c.in_ok-world.ensures.run in
    let run = subst (λ (e : EndedValue g.row.M.Denot). let r : Result (EndedValue g.row.M.Denot) Stop = Ok e in
    RunsAs g.F.Shelf g.M.Cells.numbers (plan_of plan) s c.args.shelf.now c.run.new.shelf r) c.in-Done.is all in
    record { run = came (plan_of plan) s run.0 _ run.1 refl (c.summary_of.ensures ∙ ap (λ (w : World). summary_of w.state) run.2) }
