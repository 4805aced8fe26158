use Rattle.std.proofs.Common.{◌≡◌, ◌+◌, drop, sym, ap, subst, ◌∙◌, arith}
use Rattle.trick_access.proofs.Ends.{note_next, noted_both}
use Rattle.trick_access.proofs.Loops.{links_next, steps_next}
use Rattle.trick_base.proofs.ListLemmas.{next_item}
use Rattle.trick_lang.proofs.TreeLists.{chain_is, choose_is, spot_is}
use Rattle.trick_access.proofs.Weights.{choice_weight, link_weight, spot_weight, step_weight, term_weight}
use Rattle.trick_access.proofs.reach.note.+note.Goals as goal
use Rattle.trick_lang.specs.Access.{choice_reads, index_reads, link_reads, step_reads, term_reads}
use Rattle.trick_access.specs.Reached.{noted}
use Rattle.trick_lang.specs.TreeOf.{choices_of_list, links_of_list, spot_of, steps_of_list, term_of}

pub note_links-loop-link-preserved : goal.note_links-loop-link-preserved
note_links-loop-link-preserved t c =
    let xs = c.args.links.now in
    let i = c.loop-link.link-index in
    let item = c.link-item.result in
    let base = c.args.base in
    let rest = links_of_list (drop (i + 1) xs) in
    let next = links_next xs i item c.loop-link-test.true c.link-item.is in
    let heavy = ap link_weight next in
    let told = subst (λ q. noted (link_reads q base) c.loop-link.ends ≡ noted (link_reads (links_of_list xs) base) c.args.ends.now) next c.loop-link.invariant.told in
    record {
      told = note_next (term_reads (term_of item.operand) base) (link_reads rest base) c.loop-link.ends _ _ told c.note_expression.ensures;
      weighs = omega (arith, heavy, c.loop-link.invariant.weighs);
    }

pub note_choices-loop-choice-preserved : goal.note_choices-loop-choice-preserved
note_choices-loop-choice-preserved t c =
    let xs = c.args.choices.now in
    let i = c.loop-choice.choice-index in
    let item = c.choice-item.result in
    let base = c.args.base in
    let last = term_of c.args.last.now in
    let rest = choices_of_list (drop (i + 1) xs) last in
    let next = ap (λ q. choices_of_list q last) (next_item xs i item c.loop-choice-test.true c.choice-item.is) in
    let heavy = ap choice_weight next in
    let told = subst (λ q. noted (choice_reads q base) c.loop-choice.ends ≡ noted (choice_reads (choices_of_list xs last) base) c.args.ends.now) next c.loop-choice.invariant.told in
    record {
      told =
          note_next (term_reads (term_of item.value) base) (choice_reads rest base) c.note_expression.new.ends _ _
          (note_next (term_reads (term_of item.test) base) _ c.loop-choice.ends _ _ told c.note_expression.ensures)
          c.note_expression-in-loop-choice.ensures;
      weighs = omega (arith, heavy, c.loop-choice.invariant.weighs);
    }

pub note_indexes-loop-index-init : goal.note_indexes-loop-index-init
note_indexes-loop-index-init t c =
    let p = c.args.place.now in
    let weighs = ap spot_weight (spot_is p) in
    record {
      told = rw c.deref-index-items.ensures.value (sym (ap (λ q. noted (index_reads q c.args.base) c.args.ends.now) (spot_is p)));
      weighs = rw c.deref-index-items.ensures.value (omega (arith, weighs));
    }

pub note_indexes-loop-index-preserved : goal.note_indexes-loop-index-preserved
note_indexes-loop-index-preserved t c =
    let xs = c.deref-index-items.result.now in
    let i = c.loop-index.index-index in
    let item = c.index-item.result in
    let base = c.args.base in
    let rest = steps_of_list (drop (i + 1) xs) in
    let next = steps_next xs i item c.loop-index-test.true c.index-item.is in
    let heavy = ap step_weight next in
    let told = subst (λ q. noted (step_reads q base) c.loop-index.ends ≡ noted (index_reads (spot_of c.args.place.now) base) c.args.ends.now) next c.loop-index.invariant.told in
    record {
      told = note_next (term_reads (term_of item.at) base) (step_reads rest base) c.loop-index.ends _ _ told c.note_expression.ensures;
      weighs = omega (arith, heavy, c.loop-index.invariant.weighs);
    }

pub note_expression-note_links-requires : goal.note_expression-note_links-requires
note_expression-note_links-requires t c =
    let heavy = ap term_weight (ap term_of c.in-Chain.is ∙ chain_is c.in-Chain.first c.in-Chain.links) in
    (rw c.deref-in-Chain-2.ensures.value (omega (arith, c.decreases, heavy)), tt)

pub note_expression-note_choices-requires : goal.note_expression-note_choices-requires
note_expression-note_choices-requires t c =
    let heavy = ap term_weight (ap term_of c.in-Choose.is ∙ choose_is c.in-Choose.choices c.in-Choose.last) in
    (rw (c.deref-in-Choose.ensures.value, c.deref-in-Choose-2.ensures) (omega (arith, c.decreases, heavy)), tt)

pub note_expression-returns-in-Chain : goal.note_expression-returns-in-Chain
note_expression-returns-in-Chain t c =
    let base = c.args.base in
    let old = c.args.ends.now in
    let first = term_reads (term_of c.in-Chain.first.value) base in
    let links = link_reads (links_of_list c.in-Chain.links.items) base in
    let is = ap term_of c.in-Chain.is ∙ chain_is c.in-Chain.first c.in-Chain.links in
    c.note_links.ensures
    ∙ ap (λ ls. noted (link_reads (links_of_list ls) base) c.note_expression-in-Chain.new.ends) c.deref-in-Chain-2.ensures.value
    ∙ ap (noted links) (c.note_expression-in-Chain.ensures ∙ ap (λ e. noted (term_reads (term_of e) base) old) c.deref-in-Chain.ensures)
    ∙ sym (noted_both first links old)
    ∙ sym (ap (λ e. noted (term_reads e base) old) is)

pub note_expression-returns-in-Choose : goal.note_expression-returns-in-Choose
note_expression-returns-in-Choose t c =
    let is = ap term_of c.in-Choose.is ∙ choose_is c.in-Choose.choices c.in-Choose.last in
    rw (is, ← c.deref-in-Choose.ensures.value, ← c.deref-in-Choose-2.ensures) c.note_choices.ensures
