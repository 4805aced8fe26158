use Rattle.std.proofs.Common.{rules, ◌≡◌, ◌∙◌, ap}
use Rattle.trick_check_blocks.proofs.term.choose.Goals as goal
use Rattle.trick_lang.proofs.TreeLists as built
use Rattle.trick_lang.specs.Tree as Tree
use Rattle.trick_lang.specs.TreeOf as tree

pub returns : goal.returns
returns c =
    let boxed : c.in_ok-new.field-0.value ≡ c.args.last = search rules in
    built.choose_is c.args.choices c.in_ok-new.field-0 ∙ ap (λ e. Tree.Choose (tree.choices_of_list c.args.choices.items (tree.term_of e))) boxed
