use Rattle.trick_top_texts.proofs.OneReading.{one_reading}
use Rattle.trick_top_texts.proofs.laws.inputs_have_one_reading.Goals as goal

pub returns : goal.returns
returns c = one_reading
