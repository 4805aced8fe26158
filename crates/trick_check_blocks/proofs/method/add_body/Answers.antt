use Rattle.std.proofs.Common.{◌≡◌, ◌++◌, ◌∷◌, [], OnOk, length, subst}
use Rattle.trick_check_blocks.proofs.method.add_body.Goals as goal
use Rattle.trick_check_blocks.specs.Bodies.{with_bodies}
use Rattle.trick_check_blocks.specs.Codes.{all_codes, all_inner}
use Rattle.trick_check_blocks.specs.Held.{bodies_of}
use Rattle.trick_lang.specs.Syntax.{statements_of_list}

pub returns-clause-blocks : goal.returns-clause-blocks
returns-clause-blocks c =
    let w = c.args.scope.now in
    let n = length c.args.blocks.now.items in
    let old = bodies_of c.args.blocks.now.items in
    let all = statements_of_list c.args.body.now in
    subst (λ ls. OnOk c.add_statements.result (bodies_of c.add_statements.new.blocks.items ≡ with_bodies w.class (all_inner all w ls n ++ all_codes all w ls n ∷ []) old)) c.new-locals.ensures c.add_statements.ensures.blocks
