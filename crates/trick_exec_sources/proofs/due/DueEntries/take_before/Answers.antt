use Rattle.std.proofs.Common.{sym, ◌∙◌}
use Rattle.trick_exec_sources.proofs.TurnEntries.{since_all}
use Rattle.trick_exec_sources.proofs.due.DueEntries.take_before.Goals as goal

pub returns-clause-left : goal.returns-clause-left
returns-clause-left c =
    c.in_default.ensures.rest ∙ sym (since_all c.args.turn c.loop-entry.self c.in_default.ensures.none) ∙ c.loop-entry.invariant.left
