use Rattle.trick_chkpt.proofs.Text.{spells}
use Rattle.trick_chkpt.proofs.laws.lines_are_the_text.Goals as goal

pub returns : goal.returns
returns c = λ plan s h. spells plan s h
