use Rattle.std.proofs.Common.{refl}
use Rattle.std.specs.Fmt.{digits}
use Rattle.trick_top_refusals.proofs.laws.check_lines.Goals as goal

pub returns : goal.returns
unfolding digits
returns c = record {
  twice = refl;
  unknown = refl;
  not_scalar = refl;
  recursive = refl;
  many_cells = refl;
  many_jobs = refl;
  many_steps = refl;
}
