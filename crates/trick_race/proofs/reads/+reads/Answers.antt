use Rattle.std.proofs.Common.{◌≡◌, ◌+◌, drop, refl, sym, ap, subst, ◌∙◌, arith}
use Rattle.trick_access.proofs.Loops.{links_next, steps_next}
use Rattle.trick_access.proofs.Weights.{choice_weight, link_weight, spot_weight, step_weight, term_weight}
use Rattle.trick_base.proofs.ListLemmas.{next_item}
use Rattle.trick_lang.proofs.TreeLists.{chain_is, choose_is, spot_is}
use Rattle.trick_lang.specs.Access.{choice_reads, index_reads, link_reads, step_reads, term_reads}
use Rattle.trick_lang.specs.TreeOf.{choices_of_list, links_of_list, spot_of, steps_of_list, term_of}
use Rattle.trick_race.proofs.Touching.{some_here, some_of_both, some_rest}
use Rattle.trick_race.specs.Accesses.{has_some}
use Rattle.trick_race.proofs.reads.+reads.Goals as goal

pub links_read_some-loop-link-preserved : goal.links_read_some-loop-link-preserved
links_read_some-loop-link-preserved t c =
    let set = c.args.set.now in
    let xs = c.args.links.now in
    let i = c.loop-link.link-index in
    let item = c.link-item.result in
    let rest = links_of_list (drop (i + 1) xs) in
    let next = links_next xs i item c.loop-link-test.true c.link-item.is in
    let heavy = ap link_weight next in
    let told = subst (λ q. has_some set (link_reads q 0) ≡ has_some set (link_reads (links_of_list xs) 0)) next
    c.loop-link.invariant.told in
    record {
      told = some_rest set (term_reads (term_of item.operand) 0)
          (link_reads rest 0) _ c.reads_some.result told c.reads_some.ensures c.if-reads_some.false;
      weighs = omega (arith, heavy, c.loop-link.invariant.weighs);
    }

pub links_read_some-returns-then-reads_some : goal.links_read_some-returns-then-reads_some
links_read_some-returns-then-reads_some t c =
    let set = c.args.set.now in
    let xs = c.args.links.now in
    let i = c.loop-link.link-index in
    let item = c.link-item.result in
    let rest = links_of_list (drop (i + 1) xs) in
    let next = links_next xs i item c.loop-link-test.true c.link-item.is in
    let told = subst (λ q. has_some set (link_reads q 0) ≡ has_some set (link_reads (links_of_list xs) 0)) next
    c.loop-link.invariant.told in
    some_here set (term_reads (term_of item.operand) 0)
    (link_reads rest 0) _ c.reads_some.result told c.reads_some.ensures c.if-reads_some.true

pub choices_read_some-loop-choice-preserved : goal.choices_read_some-loop-choice-preserved
choices_read_some-loop-choice-preserved t c =
    let set = c.args.set.now in
    let xs = c.args.choices.now in
    let i = c.loop-choice.choice-index in
    let item = c.choice-item.result in
    let last = term_of c.args.last.now in
    let rest = choices_of_list (drop (i + 1) xs) last in
    let next = ap (λ q. choices_of_list q last) (next_item xs i item c.loop-choice-test.true c.choice-item.is) in
    let heavy = ap choice_weight next in
    let told = subst (λ q. has_some set (choice_reads q 0) ≡ has_some set (choice_reads (choices_of_list xs last) 0))
    next c.loop-choice.invariant.told in
    record {
      told = some_rest set (term_reads (term_of item.value) 0) (choice_reads rest 0) _ c.reads_some-chosen.result
          (some_rest set (term_reads (term_of item.test) 0) _ _ c.reads_some-tested.result told
          c.reads_some-tested.ensures c.if-tested.false)
          c.reads_some-chosen.ensures c.if-chosen.false;
      weighs = omega (arith, heavy, c.loop-choice.invariant.weighs);
    }

pub choices_read_some-returns-then-tested : goal.choices_read_some-returns-then-tested
choices_read_some-returns-then-tested t c =
    let set = c.args.set.now in
    let xs = c.args.choices.now in
    let i = c.loop-choice.choice-index in
    let item = c.choice-item.result in
    let last = term_of c.args.last.now in
    let next = ap (λ q. choices_of_list q last) (next_item xs i item c.loop-choice-test.true c.choice-item.is) in
    let told = subst (λ q. has_some set (choice_reads q 0) ≡ has_some set (choice_reads (choices_of_list xs last) 0))
    next c.loop-choice.invariant.told in
    some_here set (term_reads (term_of item.test) 0) _ _ c.reads_some-tested.result told c.reads_some-tested.ensures
    c.if-tested.true

pub choices_read_some-returns-then-chosen : goal.choices_read_some-returns-then-chosen
choices_read_some-returns-then-chosen t c =
    let set = c.args.set.now in
    let xs = c.args.choices.now in
    let i = c.loop-choice.choice-index in
    let item = c.choice-item.result in
    let last = term_of c.args.last.now in
    let rest = choices_of_list (drop (i + 1) xs) last in
    let next = ap (λ q. choices_of_list q last) (next_item xs i item c.loop-choice-test.true c.choice-item.is) in
    let told = subst (λ q. has_some set (choice_reads q 0) ≡ has_some set (choice_reads (choices_of_list xs last) 0))
    next c.loop-choice.invariant.told in
    some_here set (term_reads (term_of item.value) 0) (choice_reads rest 0) _ c.reads_some-chosen.result
    (some_rest set (term_reads (term_of item.test) 0) _ _ c.reads_some-tested.result told c.reads_some-tested.ensures
    c.if-tested.false)
    c.reads_some-chosen.ensures c.if-chosen.true

pub indexes_read_some-loop-index-init : goal.indexes_read_some-loop-index-init
indexes_read_some-loop-index-init t c =
    let p = c.args.place.now in
    let weighs = ap spot_weight (spot_is p) in
    record {
      told = rw c.deref-index-items.ensures.value
          (sym (ap (λ q. has_some c.args.set.now (index_reads q 0)) (spot_is p)));
      weighs = rw c.deref-index-items.ensures.value (omega (arith, weighs));
    }

pub indexes_read_some-loop-index-preserved : goal.indexes_read_some-loop-index-preserved
indexes_read_some-loop-index-preserved t c =
    let set = c.args.set.now in
    let xs = c.deref-index-items.result.now in
    let i = c.loop-index.index-index in
    let item = c.index-item.result in
    let rest = steps_of_list (drop (i + 1) xs) in
    let next = steps_next xs i item c.loop-index-test.true c.index-item.is in
    let heavy = ap step_weight next in
    let told = subst (λ q. has_some set (step_reads q 0) ≡ has_some set (index_reads (spot_of c.args.place.now) 0)) next
    c.loop-index.invariant.told in
    record {
      told = some_rest set (term_reads (term_of item.at) 0)
          (step_reads rest 0) _ c.reads_some.result told c.reads_some.ensures c.if-reads_some.false;
      weighs = omega (arith, heavy, c.loop-index.invariant.weighs);
    }

pub indexes_read_some-returns-then-reads_some : goal.indexes_read_some-returns-then-reads_some
indexes_read_some-returns-then-reads_some t c =
    let set = c.args.set.now in
    let xs = c.deref-index-items.result.now in
    let i = c.loop-index.index-index in
    let item = c.index-item.result in
    let rest = steps_of_list (drop (i + 1) xs) in
    let next = steps_next xs i item c.loop-index-test.true c.index-item.is in
    let told = subst (λ q. has_some set (step_reads q 0) ≡ has_some set (index_reads (spot_of c.args.place.now) 0)) next
    c.loop-index.invariant.told in
    some_here set (term_reads (term_of item.at) 0)
    (step_reads rest 0) _ c.reads_some.result told c.reads_some.ensures c.if-reads_some.true

pub reads_some-links_read_some-requires : goal.reads_some-links_read_some-requires
reads_some-links_read_some-requires t c =
    let heavy = ap term_weight (ap term_of c.in-Chain.is ∙ chain_is c.in-Chain.first c.in-Chain.links) in
    (rw c.deref-in-Chain-2.ensures.value (omega (arith, c.decreases, heavy)), tt)

pub reads_some-choices_read_some-requires : goal.reads_some-choices_read_some-requires
reads_some-choices_read_some-requires t c =
    let heavy = ap term_weight (ap term_of c.in-Choose.is ∙ choose_is c.in-Choose.choices c.in-Choose.last) in
    (rw (c.deref-in-Choose.ensures.value, c.deref-in-Choose-2.ensures) (omega (arith, c.decreases, heavy)), tt)

pub reads_some-returns-then-reads_some : goal.reads_some-returns-then-reads_some
reads_some-returns-then-reads_some t c =
    let set = c.args.set.now in
    let first = term_reads (term_of c.in-Chain.first.value) 0 in
    let links = link_reads (links_of_list c.in-Chain.links.items) 0 in
    let is = ap term_of c.in-Chain.is ∙ chain_is c.in-Chain.first c.in-Chain.links in
    let first_is : c.reads_some-in-Chain.result ≡ has_some set first =
    c.reads_some-in-Chain.ensures ∙ ap (λ e. has_some set (term_reads (term_of e) 0)) c.deref-in-Chain.ensures in
    some_here set first links _ c.reads_some-in-Chain.result refl first_is c.if-reads_some.true
    ∙ sym (ap (λ e. has_some set (term_reads e 0)) is)

pub reads_some-returns-else-reads_some : goal.reads_some-returns-else-reads_some
reads_some-returns-else-reads_some t c =
    let set = c.args.set.now in
    let first = term_reads (term_of c.in-Chain.first.value) 0 in
    let links = link_reads (links_of_list c.in-Chain.links.items) 0 in
    let is = ap term_of c.in-Chain.is ∙ chain_is c.in-Chain.first c.in-Chain.links in
    let first_is : c.reads_some-in-Chain.result ≡ has_some set first =
    c.reads_some-in-Chain.ensures ∙ ap (λ e. has_some set (term_reads (term_of e) 0)) c.deref-in-Chain.ensures in
    let links_is : c.links_read_some.result ≡ has_some set links =
    c.links_read_some.ensures ∙ ap (λ ls. has_some set (link_reads (links_of_list ls) 0))
    c.deref-in-Chain-2.ensures.value in
    some_of_both set first links c.reads_some-in-Chain.result c.links_read_some.result first_is c.if-reads_some.false
    links_is
    ∙ sym (ap (λ e. has_some set (term_reads e 0)) is)

pub reads_some-returns-in-Choose : goal.reads_some-returns-in-Choose
reads_some-returns-in-Choose t c =
    let is = ap term_of c.in-Choose.is ∙ choose_is c.in-Choose.choices c.in-Choose.last in
    rw (is, ← c.deref-in-Choose.ensures.value, ← c.deref-in-Choose-2.ensures) c.choices_read_some.ensures
