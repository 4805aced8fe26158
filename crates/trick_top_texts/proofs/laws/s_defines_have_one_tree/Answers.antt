use Rattle.trick_top_texts.proofs.OneTree.{one_tree}
use Rattle.trick_top_texts.proofs.laws.s_defines_have_one_tree.Goals as goal

pub returns : goal.returns
returns c = one_tree
