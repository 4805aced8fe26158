use Rattle.std.proofs.Common.{◌≡◌, ◌+◌, [], drop, sym, ap, subst, ◌∙◌, arith}
use Rattle.std.proofs.Math.ListN.{drop_of_length-le}
use Rattle.trick_access.proofs.Loops.{links_next, steps_next}
use Rattle.trick_access.proofs.Weights.{choice_weight, link_weight, spot_weight, step_weight, term_weight}
use Rattle.trick_base.proofs.ListLemmas.{next_item}
use Rattle.trick_lang.proofs.TreeLists.{chain_is, choose_is, spot_is}
use Rattle.trick_lang.specs.Count.{choice_steps, computed_steps, index_steps, link_steps, term_steps}
use Rattle.trick_lang.specs.TreeOf.{choices_of_list, links_of_list, spot_of, steps_of_list, term_of}
use Rattle.trick_check_steps.proofs.expression.+steps.Goals as goal

pub link_steps-loop-link-preserved : goal.link_steps-loop-link-preserved
link_steps-loop-link-preserved t c =
    let next = links_next c.args.links.now c.loop-link.link-index c.link-item.result c.loop-link-test.true c.link-item.is in
    let more = ap link_steps next in
    let heavy = ap link_weight next in
    record {
      told = omega (arith, more, c.expression_steps.ensures, c.saturating_add-steps.ensures, c.saturating_add-total.ensures, c.loop-link.invariant.told, c.loop-link.invariant.small);
      small = omega (arith, c.saturating_add-total.ensures);
      weighs = omega (arith, heavy, c.loop-link.invariant.weighs);
    }

pub link_steps-returns : goal.link_steps-returns
link_steps-returns t c =
    let rest : link_steps (links_of_list (drop c.loop-link.link-index c.args.links.now)) ≡ 0 = ap (λ xs. link_steps (links_of_list xs)) (drop_of_length-le c.args.links.now (omega arith)) in
    omega (arith, rest, c.loop-link.invariant.told, c.loop-link.invariant.small)

pub choice_steps-loop-choice-preserved : goal.choice_steps-loop-choice-preserved
choice_steps-loop-choice-preserved t c =
    let last = term_of c.args.last.now in
    let next = ap (λ q. choices_of_list q last) (next_item c.args.choices.now c.loop-choice.choice-index c.choice-item.result c.loop-choice-test.true c.choice-item.is) in
    let more = ap choice_steps next in
    let heavy = ap choice_weight next in
    record {
      told = omega (arith, more, c.expression_steps.ensures, c.saturating_add-test.ensures, c.expression_steps-value.ensures, c.saturating_add.ensures, c.saturating_add-total.ensures, c.loop-choice.invariant.told, c.loop-choice.invariant.small);
      small = omega (arith, c.saturating_add-total.ensures);
      weighs = omega (arith, heavy, c.loop-choice.invariant.weighs);
    }

pub index_steps-loop-index-init : goal.index_steps-loop-index-init
index_steps-loop-index-init t c =
    let p = c.args.place.now in
    let weighs = ap spot_weight (spot_is p) in
    let steps = ap index_steps (spot_is p) in
    record {
      told = rw c.deref-index-items.ensures.value (omega (arith, steps));
      small = omega arith;
      weighs = rw c.deref-index-items.ensures.value (omega (arith, weighs));
    }

pub index_steps-loop-index-preserved : goal.index_steps-loop-index-preserved
index_steps-loop-index-preserved t c =
    let next = steps_next c.deref-index-items.result.now c.loop-index.index-index c.index-item.result c.loop-index-test.true c.index-item.is in
    let more = ap computed_steps next in
    let heavy = ap step_weight next in
    record {
      told = omega (arith, more, c.expression_steps-steps.ensures, c.saturating_add-total.ensures, c.loop-index.invariant.told, c.loop-index.invariant.small);
      small = omega (arith, c.saturating_add-total.ensures);
      weighs = omega (arith, heavy, c.loop-index.invariant.weighs);
    }

pub expression_steps-link_steps-requires : goal.expression_steps-link_steps-requires
expression_steps-link_steps-requires t c =
    let heavy = ap term_weight (ap term_of c.in-Chain.is ∙ chain_is c.in-Chain.first c.in-Chain.links) in
    (rw c.deref-in-Chain-2.ensures.value (omega (arith, c.decreases, heavy)), tt)

pub expression_steps-choice_steps-requires : goal.expression_steps-choice_steps-requires
expression_steps-choice_steps-requires t c =
    let heavy = ap term_weight (ap term_of c.in-Choose.is ∙ choose_is c.in-Choose.choices c.in-Choose.last) in
    (rw (c.deref-in-Choose.ensures.value, c.deref-in-Choose-2.ensures) (omega (arith, c.decreases, heavy)), tt)

pub expression_steps-returns-in-Chain : goal.expression_steps-returns-in-Chain
expression_steps-returns-in-Chain t c =
    let is = ap term_steps (ap term_of c.in-Chain.is ∙ chain_is c.in-Chain.first c.in-Chain.links) in
    let first = ap (λ e. term_steps (term_of e)) c.deref-in-Chain.ensures in
    let links = ap (λ ls. link_steps (links_of_list ls)) c.deref-in-Chain-2.ensures.value in
    omega (arith, is, first, links, c.expression_steps-steps.ensures, c.link_steps.ensures, c.saturating_add-in-Chain.ensures)

pub expression_steps-returns-in-Choose : goal.expression_steps-returns-in-Choose
expression_steps-returns-in-Choose t c =
    let is = ap term_of c.in-Choose.is ∙ choose_is c.in-Choose.choices c.in-Choose.last in
    rw (is, ← c.deref-in-Choose.ensures.value, ← c.deref-in-Choose-2.ensures) c.choice_steps.ensures
