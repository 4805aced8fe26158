use Rattle.std.proofs.Common.{ℕ, List, ◌++◌, map, ap, ◌∙◌}
use Rattle.std.proofs.lemmas.Result.{on_ok_weaker}
use Rattle.std.specs.Prelude.{codes}
use Rattle.trick_chkpt_printer.proofs.Threads.{held_by}
use Rattle.trick_chkpt_printer.proofs.records.push_held.Goals as goal
use Rattle.trick_chkpt_printer.specs.Parts.{held_of}
use Rattle.trick_lang.specs.declared.cells.Cell.{Cell}
use Rattle.trick_lang.specs.declared.job.JobId.{JobId}
use Rattle.trick_model.specs.Checkpoint.{at}
use Rattle.trick_model.specs.PlanOf.{plan_of}

pub returns : goal.returns
returns c =
    let p = plan_of c.args.plan.now in
    let cells = c.deref.result.now in
    let jobs = c.deref-2.result.now in
    let taken = c.args.taken.now in
    let name = at (codes "taken") c.args.thread.number in
    let held = held_by p c.args.thread taken name cells jobs
    (ap (map (λ (cell : Cell). cell.0)) c.deref.ensures.value ∙ c.in_ok-cells.ensures)
    (ap (map (λ (job : JobId). job.0)) c.deref-2.ensures.value ∙ c.in_ok-jobs.ensures.jobs) in
    let parts = ap (λ (us : List ℕ). held_of p.names us cells jobs taken) c.in_ok-name.ensures ∙ held in
    on_ok_weaker c.push_held_lines.result (λ e. e
    ∙ ap (λ (us : List ℕ). c.args.text.now.items ++ us) parts) c.push_held_lines.ensures
