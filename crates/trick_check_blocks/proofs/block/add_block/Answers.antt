use Rattle.std.proofs.Common.{◌≡◌, ◌+◌, ◌++◌, ◌∷◌, [], ap, ◌∙◌}
use Rattle.trick_check_blocks.proofs.Grow.{bodies_grown}
use Rattle.trick_check_blocks.proofs.block.add_block.Goals as goal
use Rattle.trick_check_blocks.specs.Bodies.{all_depth}
use Rattle.trick_check_blocks.specs.Held.{bodies_of}
use Rattle.trick_lang.specs.TreeOf.{code_list}

pub returns-clause-blocks : goal.returns-clause-blocks
returns-clause-blocks c =
    let old = bodies_of c.args.blocks.now.items in
    let all = code_list c.args.statements.items in
    let deep : c.in_ok-deep.deep ≡ all_depth all old + 1 =
    c.in_ok-deep.ensures ∙ ap (λ n. n + 1) (c.in_ok-depth_of_all.ensures ∙ (ap (λ q. all_depth (code_list q) (bodies_of c.deref-2.result.now)) c.deref.ensures.value ∙ ap (λ q. all_depth all (bodies_of q)) c.deref-2.ensures.value)) in
    ap bodies_of c.in_ok-push.ensures.items
    ∙ (bodies_grown c.args.blocks.now.items _
    ∙ (ap (λ q. old ++ record { class = c.args.class; codes = code_list q; deep = c.in_ok-deep.deep } ∷ []) c.from_vec.ensures
    ∙ ap (λ n. old ++ record { class = c.args.class; codes = all; deep = n } ∷ []) deep))
