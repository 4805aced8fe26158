use Rattle.std.proofs.Common.{List, false, get_or, ap, sym, ◌∙◌}
use Rattle.trick_model.specs.declared.thread.Process.TheVariants as process
use Rattle.trick_model.specs.declared.thread.Thread.{Thread}
use Rattle.trick_race.proofs.Firsts.{read_at}
use Rattle.trick_race.proofs.writers.thread_at.Goals as goal

pub returns : goal.returns
returns c d =
    let none : Thread = record { number = 0; process = process.Scheduled; cycle = 0; named = false } in
    read_at c.args.plan.now.threads c.args.place d none c.requires
    ∙ ap (λ (threads : List Thread). get_or threads c.args.place none) (sym c.as_slice.ensures)
