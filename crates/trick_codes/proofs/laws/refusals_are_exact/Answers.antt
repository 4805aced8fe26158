use Rattle.trick_codes.proofs.Loading.{refuses}
use Rattle.trick_codes.proofs.laws.refusals_are_exact.Goals as goal

pub returns : goal.returns
returns g c = let f = g.F.LineFile in λ ts. refuses f.lines f.is_sound ts
