use Rattle.trick_codes.proofs.Lines.{no_front}
use Rattle.trick_codes_example.proofs.IsSound.{panel_sound}
use Rattle.trick_codes_example.proofs.laws.no_file_is_a_proper_prefix.Goals as goal
use Rattle.trick_codes_example.specs.Panel.{panel}

pub returns : goal.returns
returns c = λ gauges. no_front (panel gauges) (panel_sound gauges)
