use Rattle.std.proofs.Common.{refl}
use Rattle.std.specs.Fmt.{digits}
use Rattle.trick_top_refusals.proofs.laws.s_define_lines.Goals as goal

pub returns : goal.returns
unfolding digits
returns c = record {
  long_text = refl;
  bad_byte = refl;
  open_comment = refl;
  long_number = refl;
  expected = refl;
  not_in_profile = refl;
  loop_bound = refl;
  long_list = refl;
  inexact = refl;
  too_large = refl;
  no_memory = refl;
}
