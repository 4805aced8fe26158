use Rattle.trick_codes.proofs.Once.{due_once}
use Rattle.trick_codes.proofs.laws.one_line_is_due.Goals as goal

pub returns : goal.returns
returns g c = let f = g.F.LineFile in λ front k j. due_once f.lines front k j f.is_sound
