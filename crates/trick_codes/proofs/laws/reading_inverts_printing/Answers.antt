use Rattle.trick_codes.proofs.Lines.{whole_back}
use Rattle.trick_codes.proofs.laws.reading_inverts_printing.Goals as goal

pub returns : goal.returns
returns g c = let f = g.F.LineFile in whole_back f.lines f.is_sound
