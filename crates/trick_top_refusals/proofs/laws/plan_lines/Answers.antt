use Rattle.std.proofs.Common.{refl}
use Rattle.std.specs.Fmt.{digits}
use Rattle.trick_top_refusals.proofs.laws.plan_lines.Goals as goal

pub returns : goal.returns
unfolding digits
returns c = λ p. record {
  no_thread = refl;
  class_on_child = refl;
  backwards = refl;
  shared_writer = refl;
  recorded = refl;
  async_event = refl;
  race = refl;
  no_memory = refl;
}
