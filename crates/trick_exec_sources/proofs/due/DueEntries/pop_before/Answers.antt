use Rattle.trick_exec_sources.proofs.TurnEntries.{none_there}
use Rattle.trick_exec_sources.proofs.due.DueEntries.pop_before.Goals as goal

pub returns-clause-none : goal.returns-clause-none
returns-clause-none c = none_there c.pop.result c.args.turn c.args.self.now c.pop.ensures.none
