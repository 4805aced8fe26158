use Rattle.std.proofs.Common.{refl}
use Rattle.trick_input.specs.Forms.{outcome_of}
use Rattle.trick_input.proofs.Table.{exact}
use Rattle.trick_input.proofs.laws.rows_are_exact.Goals as goal

pub returns : goal.returns
returns c = λ ws. exact ws (outcome_of ws) refl
