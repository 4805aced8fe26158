use Rattle.trick_codes.proofs.Lines.{lines_tell}
use Rattle.trick_codes.proofs.laws.reading_is_exact.Goals as goal

pub returns : goal.returns
returns g c = let f = g.F.LineFile in λ ts. lines_tell f.lines ts f.is_sound
