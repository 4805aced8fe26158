use Rattle.std.proofs.Common.{refl}
use Rattle.std.specs.Fmt.{digits}
use Rattle.trick_top_refusals.proofs.laws.journal_lines.Goals as goal

pub returns : goal.returns
unfolding digits
returns c = record {
  bad_line = refl;
  not_rising = refl;
  not_joined = refl;
  not_async = refl;
  no_end = refl;
  no_memory = refl;
  length = refl;
}
