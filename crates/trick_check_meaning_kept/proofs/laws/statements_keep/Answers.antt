use Rattle.trick_check_meaning_kept.proofs.Statements.{all_end}
use Rattle.trick_check_meaning_kept.proofs.laws.statements_keep.Goals as goal

pub returns : goal.returns
returns c = λ w done memory size top x y blocks place runs all n slots declared a b none can has below all_below alike.
    all_end w done memory size top x y blocks place runs c.place_law.ensures c.object_law.ensures c.wrap_law.ensures all n slots declared a b none can has below all_below alike
