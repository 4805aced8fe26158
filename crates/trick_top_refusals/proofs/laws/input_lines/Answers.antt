use Rattle.std.proofs.Common.{refl}
use Rattle.std.specs.Fmt.{digits}
use Rattle.trick_top_refusals.proofs.laws.input_lines.Goals as goal

pub returns : goal.returns
unfolding digits
returns c = record {
  bad_byte = refl;
  expected = refl;
  not_in_profile = refl;
  bad_literal = refl;
}
