use Rattle.std.proofs.Common.{refl}
use Rattle.std.specs.Fmt.{digits}
use Rattle.trick_top_refusals.proofs.laws.checkpoint_lines.Goals as goal

pub returns : goal.returns
unfolding digits
returns c = record {
  bad_line = refl;
  wrong_plan = refl;
  out_of_range = refl;
  truncated = refl;
  trailing = refl;
  no_memory = refl;
}
