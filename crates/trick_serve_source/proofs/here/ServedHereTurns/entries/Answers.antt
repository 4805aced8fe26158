use Rattle.trick_serve_source.proofs.Gaps.{no_gap}
use Rattle.trick_serve_source.proofs.here.ServedHereTurns.entries.Goals as goal

pub returns-clause-gap : goal.returns-clause-gap
returns-clause-gap g c = no_gap c.next.result _ c.next.ensures.no_gap
