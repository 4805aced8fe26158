use Rattle.trick_top_words.proofs.OneCommand.{one_command}
use Rattle.trick_top_words.proofs.laws.one_command.Goals as goal

pub returns : goal.returns
returns c words first second one two = one_command words first second one two
