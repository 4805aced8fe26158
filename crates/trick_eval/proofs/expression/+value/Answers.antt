use Rattle.std.proofs.Common.{◌≡◌, ◌+◌, ◌^◌, ◌<◌, IsTrue, drop, nat_lt, sym, ap, subst, ◌∙◌, arith, rules, Ok, FitsSigned, w64}
use Rattle.std.proofs.lemmas.Bool.{ltb-true}
use Rattle.std.proofs.lemmas.Int.{to_z-of_z}
use Rattle.trick_access.proofs.Loops.{links_next, steps_next, led_next}
use Rattle.trick_base.proofs.Truths.{first_holds, second_holds}
use Rattle.trick_lang.proofs.Places.{stepped_is}
use Rattle.trick_lang.proofs.TreeLists.{chain_is, choose_is, spot_is}
use Rattle.trick_access.proofs.Weights.{term_weight, link_weight, spot_weight, step_weight, some_links}
use Rattle.trick_eval.proofs.expression.+value.Goals as goal
use Rattle.trick_eval.specs.Evaluation.{seen}
use Rattle.trick_lang.specs.Numbers.{and_then}
use Rattle.trick_lang.specs.TreeOf.{links_of_list, spot_of, steps_of_list, term_of}
use Rattle.trick_lang.specs.Passes.{term_passes, link_passes, place_passes, step_passes}
use Rattle.trick_lang.specs.Valid.{span_test, reach}
use Rattle.trick_lang.specs.Value.{cell_of, led, linked, stepped, value}
use Rattle.trick_lang.specs.declared.tree.Place.{out-Place}

pub value_of-chain-requires : goal.value_of-chain-requires
value_of-chain-requires t c =
    let is = ap term_of c.in-Chain.is ∙ chain_is c.in-Chain.first c.in-Chain.links in
    let heavy = ap term_weight is in
    let fits = subst (λ e. IsTrue (term_passes span_test e)) is c.requires in
    (rw c.deref-in-Chain-2.ensures.value (omega (arith, c.decreases, heavy)), rw c.deref-in-Chain-2.ensures.value (second_holds (term_passes span_test (term_of c.in-Chain.first.value)) _ fits))

pub value_of-returns-in_ok-x-in-Chain : goal.value_of-returns-in_ok-x-in-Chain
value_of-returns-in_ok-x-in-Chain t c =
    let f : FitsSigned w64 c.in_ok-x-in-Chain.x = search rules in
    let sight = seen c.args.base c.args.memory.now c.args.working.now in
    let links = links_of_list c.in-Chain.links.items in
    let whole : value (term_of c.args.expression.now) sight ≡ and_then (value (term_of c.in-Chain.first.value) sight) (λ x. linked links x sight) = ap (λ e. value e sight) (ap term_of c.in-Chain.is ∙ chain_is c.in-Chain.first c.in-Chain.links) in
    let first : Ok c.in_ok-x-in-Chain.x ≡ value (term_of c.in-Chain.first.value) sight = c.in_ok-x-in-Chain.ensures ∙ ap (λ e. value (term_of e) sight) c.deref-in-Chain.ensures in
    let rest : c.chain.result ≡ linked links c.in_ok-x-in-Chain.x sight = (simp to_z-of_z at c.chain.ensures) ∙ ap (λ ls. linked (links_of_list ls) c.in_ok-x-in-Chain.x sight) c.deref-in-Chain-2.ensures.value in
    rest ∙ ap (λ v. and_then v (λ x. linked links x sight)) first ∙ sym whole

pub value_of-choose-requires : goal.value_of-choose-requires
value_of-choose-requires t c =
    let is = ap term_of c.in-Choose.is ∙ choose_is c.in-Choose.choices c.in-Choose.last in
    let heavy = ap term_weight is in
    let fits = subst (λ e. IsTrue (term_passes span_test e)) is c.requires in
    (rw (c.deref-in-Choose.ensures.value, c.deref-in-Choose-2.ensures) (omega (arith, c.decreases, heavy)), rw (c.deref-in-Choose.ensures.value, c.deref-in-Choose-2.ensures) fits)

pub value_of-returns-in-Choose : goal.value_of-returns-in-Choose
value_of-returns-in-Choose t c =
    let is = ap term_of c.in-Choose.is ∙ choose_is c.in-Choose.choices c.in-Choose.last in
    rw (is, ← c.deref-in-Choose.ensures.value, ← c.deref-in-Choose-2.ensures) c.choose.ensures

pub chain-join-requires : goal.chain-join-requires
chain-join-requires t c =
    let item = c.link-item.result in
    let next = links_next c.args.links.now c.loop-link.link-index item c.loop-link-test.true c.link-item.is in
    let heavy : link_weight (links_of_list (drop c.loop-link.link-index c.args.links.now)) ≡ 1 + (term_weight (term_of item.operand) + link_weight (links_of_list (drop (c.loop-link.link-index + 1) c.args.links.now))) = ap link_weight next in
    let fits = subst (λ q. IsTrue (link_passes span_test q)) next c.loop-link.invariant.fits in
    (omega (arith, c.decreases, heavy, some_links (links_of_list (drop (c.loop-link.link-index + 1) c.args.links.now)), c.loop-link.invariant.weighs), first_holds (term_passes span_test (term_of item.operand)) _ fits)

pub find-loop-index-init : goal.find-loop-index-init
find-loop-index-init t c =
    let p = c.args.place.now in
    let sight = seen c.args.base c.args.memory.now c.args.working.now in
    let fit = subst (λ q. IsTrue (place_passes span_test q)) (spot_is p) c.requires in
    let room = ltb-true ((out-Place p).offset + reach (steps_of_list (out-Place p).indexes.items)) (out-Place p).span (first_holds _ _ fit) in
    let weighs = ap spot_weight (spot_is p) in
    record {
      told = rw (c.deref-index-items.ensures.value, c.first_cell-at.ensures.is) (sym (ap (λ q. cell_of q sight) (spot_is p)));
      fits = rw c.deref-index-items.ensures.value (second_holds (nat_lt ((out-Place p).offset + reach (steps_of_list (out-Place p).indexes.items)) (out-Place p).span) _ fit);
      room = rw c.deref-index-items.ensures.value (omega (arith, room));
      weighs = rw c.deref-index-items.ensures.value (omega (arith, weighs));
    }

pub find-loop-index-preserved : goal.find-loop-index-preserved
find-loop-index-preserved t c =
    let f : FitsSigned w64 c.in_ok-number.number = search rules in
    let xs = c.deref-index-items.result.now in
    let item = c.index-item.result in
    let i = c.loop-index.index-index in
    let sight = seen c.args.base c.args.memory.now c.args.working.now in
    let next = steps_next xs i item c.loop-index-test.true c.index-item.is in
    let moved : Ok c.in_ok-at.at ≡ stepped item.length item.stride c.loop-index.at c.in_ok-number.number = simp to_z-of_z at c.in_ok-at.ensures in
    let told = subst (λ q. led q sight c.loop-index.at ≡ cell_of (spot_of c.args.place.now) sight) next c.loop-index.invariant.told in
    let fits = subst (λ q. IsTrue (step_passes span_test q)) next c.loop-index.invariant.fits in
    let room = subst (λ q. c.loop-index.at + reach q < 2 ^ 35) next c.loop-index.invariant.room in
    let weighs = subst (λ q. step_weight q < spot_weight (spot_of c.args.place.now)) next c.loop-index.invariant.weighs in
    let near = stepped_is item.length item.stride c.loop-index.at c.in_ok-number.number c.in_ok-at.at (sym moved) in
    record {
      told = led_next (steps_of_list (drop (i + 1) xs)) item.length item.stride _ (value (term_of item.at) sight) sight c.loop-index.at c.in_ok-at.at c.in_ok-number.number told c.in_ok-number.ensures moved;
      fits = second_holds (term_passes span_test (term_of item.at)) _ fits;
      room = omega (arith, room, near);
      weighs = omega (arith, weighs);
    }
