use Rattle.std.proofs.Common.{refl}
use Rattle.std.specs.Int.{int_wrap}
use Rattle.trick_plan_lines.proofs.laws.worked_lines_in_turn_are_answered.Goals as goal
use Rattle.trick_plan_lines.specs.Worked.{no_texts}

pub returns : goal.returns
unfolding int_wrap
returns c = record {
  nothing = refl;
  first = (no_texts, tt, (no_texts, tt, refl));
  before = (no_texts, tt, refl);
  in_order = (no_texts, tt, (no_texts, tt, refl));
}
