use Rattle.trick_check.proofs.Excluded.{not_refused}
use Rattle.trick_check.proofs.laws.no_file_is_named_and_refused.Goals as goal

pub returns : goal.returns
returns c = λ ds p fault a h. not_refused ds fault a.right h
