use Rattle.trick_check_meaning_kept.proofs.Values.{value_kept}
use Rattle.trick_check_meaning_kept.proofs.laws.expressions_keep.Goals as goal

pub returns : goal.returns
returns c = λ w done memory slots declared sight x s named same see e none.
    value_kept w done memory slots declared sight x s named same see c.place_law.ensures c.object_law.ensures c.wrap_law.ensures e none
