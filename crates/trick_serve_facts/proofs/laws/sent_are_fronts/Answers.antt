use Rattle.trick_serve_facts.proofs.Sent.{sent_fronts}
use Rattle.trick_serve_facts.proofs.laws.sent_are_fronts.Goals as goal

pub returns : goal.returns
returns c = λ p s lists n said rest tale was is. sent_fronts p s lists n said rest tale was is
