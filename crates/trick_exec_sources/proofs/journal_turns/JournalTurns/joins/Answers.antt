use Rattle.std.proofs.Common.{sym, ◌∙◌}
use Rattle.trick_exec_sources.proofs.Replaying.{joins_left}
use Rattle.trick_exec_sources.proofs.journal_turns.JournalTurns.joins.Goals as goal
use Rattle.trick_exec_sources.specs.Due.{sessions_so_far}

pub returns : goal.returns
returns c =
    let s = c.args.self.now in
    c.joins.ensures ∙ sym (joins_left s.at s.end (sessions_so_far s.over s.start s.at s.whole.value) s.due s.rules)
