use Rattle.trick_check_meaning_kept.proofs.Tabled.{tables_same}
use Rattle.trick_check_meaning_kept.proofs.laws.tables_keep.Goals as goal

pub returns : goal.returns
returns c = λ ds done none unfolds small elements. tables_same ds done unfolds small none elements
