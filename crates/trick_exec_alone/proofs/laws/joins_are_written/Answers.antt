use Rattle.trick_exec_alone.proofs.Joins.{joins_written}
use Rattle.trick_exec_alone.proofs.laws.joins_are_written.Goals as goal

pub returns : goal.returns
returns c = joins_written
