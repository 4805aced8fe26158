use Rattle.std.proofs.Common.{◌≡◌, ◌+◌, [], ◌∷◌, ◌++◌, take, ap, sym, ◌∙◌}
use Rattle.std.proofs.lemmas.List.{take_more}
use Rattle.trick_base.specs.Capped.{capped}
use Rattle.trick_lang.specs.Count.{all_steps}
use Rattle.trick_lang.specs.TreeOf.{code_list, codes_of}
use Rattle.trick_check_steps.proofs.Blocks.{steps_append}
use Rattle.trick_check_steps.proofs.block.steps.Goals as goal
use Rattle.trick_check_steps.specs.Steps.{blocks_steps, count_at}

pub loop-block-preserved : goal.loop-block-preserved
loop-block-preserved c =
    let bs = c.args.blocks.now in
    let i = c.loop-block.block-index in
    let b = c.block-item.result in
    let more : take (i + 1) bs ≡ take i bs ++ b ∷ [] = take_more bs i b c.loop-block-test.true ∙ ap (λ x. take i bs ++ x ∷ []) (sym c.block-item.is) in
    let count = c.all_steps-count.ensures ∙ (ap (λ ss. capped (all_steps (code_list ss) (count_at c.deref.result.now))) c.as_slice.ensures ∙ ap (λ ns. capped (all_steps (code_list b.statements) (count_at ns))) (c.deref.ensures.value ∙ c.loop-block.invariant)) in
    c.in_ok-push.ensures.items ∙ (ap (λ xs. xs ++ c.all_steps-count.result ∷ []) c.loop-block.invariant ∙ (sym (steps_append (take i bs) b c.all_steps-count.result count) ∙ sym (ap (λ xs. blocks_steps (codes_of xs)) more)))
