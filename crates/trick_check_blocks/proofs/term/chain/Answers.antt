use Rattle.std.proofs.Common.{rules, ◌≡◌, ◌∙◌, ap}
use Rattle.trick_check_blocks.proofs.term.chain.Goals as goal
use Rattle.trick_lang.proofs.TreeLists as built
use Rattle.trick_lang.specs.Tree as Tree
use Rattle.trick_lang.specs.TreeOf as tree

pub returns : goal.returns
returns c =
    let boxed : c.in_ok-new.field-0.value ≡ c.args.first = search rules in
    built.chain_is c.in_ok-new.field-0 c.args.links ∙ ap (λ e. Tree.Chain (tree.term_of e) (tree.links_of_list c.args.links.items)) boxed
