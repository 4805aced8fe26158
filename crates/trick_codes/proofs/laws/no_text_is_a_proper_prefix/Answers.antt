use Rattle.trick_codes.proofs.Lines.{no_front}
use Rattle.trick_codes.proofs.laws.no_text_is_a_proper_prefix.Goals as goal

pub returns : goal.returns
returns g c = let f = g.F.LineFile in no_front f.lines f.is_sound
