use Rattle.trick_model_remainder.proofs.Remains.{remains}
use Rattle.trick_model_remainder.proofs.laws.remainders_are_written.Goals as goal

pub returns : goal.returns
returns c = remains c.runs_continue.ensures c.sessions_do_not_matter.ensures c.joins_are_noted.ensures
