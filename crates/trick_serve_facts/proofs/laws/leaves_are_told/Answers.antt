use Rattle.trick_serve_facts.proofs.Wants.{leaves_told}
use Rattle.trick_serve_facts.proofs.laws.leaves_are_told.Goals as goal

pub returns : goal.returns
returns c = λ n lines others leave other same. leaves_told n lines others leave other same
