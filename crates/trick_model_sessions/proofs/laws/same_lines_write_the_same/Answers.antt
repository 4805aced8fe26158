use Rattle.trick_model_sessions.proofs.Files.{write_the_same}
use Rattle.trick_model_sessions.proofs.laws.same_lines_write_the_same.Goals as goal

pub returns : goal.returns
returns c = λ p s one other all. write_the_same p s one other all
