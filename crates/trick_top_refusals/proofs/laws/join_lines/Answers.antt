use Rattle.std.proofs.Common.{refl}
use Rattle.std.specs.Fmt.{digits}
use Rattle.trick_top_refusals.proofs.laws.join_lines.Goals as goal

pub returns : goal.returns
unfolding digits
returns c = record {
  inexact = refl;
  too_large = refl;
  unknown_name = refl;
  unknown_job = refl;
  out_of_range = refl;
  twice_named = refl;
  bad_action = refl;
  too_many = refl;
  no_memory = refl;
}
