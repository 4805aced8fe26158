use Rattle.trick_model_sessions.proofs.Files.{do_the_same}
use Rattle.trick_model_sessions.proofs.laws.same_lines_do_the_same.Goals as goal

pub returns : goal.returns
returns c = λ p w v one other e all. do_the_same p w v one other e all
