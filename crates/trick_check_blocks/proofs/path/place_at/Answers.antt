use Rattle.std.proofs.Common.{ap, ◌∙◌}
use Rattle.trick_lang.proofs.TreeLists.{place_is}
use Rattle.trick_lang.specs.Tree.{spot}
use Rattle.trick_lang.specs.TreeOf.{steps_of_list}
use Rattle.trick_check_blocks.specs.Terms.{span_of}
use Rattle.trick_check_blocks.proofs.path.place_at.Goals as goal

pub returns : goal.returns
returns c =
    place_is c.args.at.own c.args.at.first c.span.result c.offset.result c.args.literals c.args.indexes
    ∙ (ap (λ n. spot c.args.at.own c.args.at.first n c.offset.result c.args.literals (steps_of_list c.args.indexes.items)) c.span.ensures
    ∙ ap (λ n. spot c.args.at.own c.args.at.first (span_of c.args.at.loose) n c.args.literals (steps_of_list c.args.indexes.items)) c.offset.ensures)
