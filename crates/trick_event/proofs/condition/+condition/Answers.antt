use Rattle.std.proofs.Common.{rules, ◌≡◌, ◌∙◌, ◌+◌, ◌<◌, IsTrue, Ok, ap, arith, drop, length, subst, sym, FitsSigned, w64}
use Rattle.std.proofs.lemmas.Int.{to_z-of_z}
use Rattle.trick_access.proofs.Loops.{links_next}
use Rattle.trick_access.proofs.Weights.{link_weight, some_links, term_weight}
use Rattle.trick_base.proofs.Truths.{first_holds, second_holds}
use Rattle.trick_event.proofs.condition.+condition.Goals as goal
use Rattle.trick_event.specs.Condition.{sight_of}
use Rattle.trick_lang.proofs.TreeLists.{chain_is, choose_is}
use Rattle.trick_lang.specs.Numbers.{and_then}
use Rattle.trick_lang.specs.TreeOf.{links_of_list, term_of}
use Rattle.trick_lang.specs.Value.{linked, value}
use Rattle.trick_model.specs.Condition.{are_conditions, is_condition, is_safe}

pub chain-join-x-requires : goal.chain-join-x-requires
chain-join-x-requires g t c κs within =
    let n = length (g.M.Cells.numbers c.args.memory.now) in
    let item = c.link-item.result in
    let rest = links_of_list (drop (c.loop-link.link-index + 1) c.args.links.now) in
    let next = links_next c.args.links.now c.loop-link.link-index item c.loop-link-test.true c.link-item.is in
    let heavy : link_weight (links_of_list (drop c.loop-link.link-index c.args.links.now)) ≡ 1 + (term_weight (term_of item.operand) + link_weight rest) = ap link_weight next in
    let fits = subst (λ q. IsTrue (are_conditions n q)) next c.loop-link.invariant.fits in
    let tests = second_holds (is_safe item.operator) _ fits in (
      omega (arith, c.decreases, heavy, some_links rest, c.loop-link.invariant.weighs),
      (within, (first_holds (is_safe item.operator) _ fits, first_holds (is_condition n (term_of item.operand)) (are_conditions n rest) tests)),
    )

pub number_of-chain-requires : goal.number_of-chain-requires
number_of-chain-requires g t c κs within =
    let n = length (g.M.Cells.numbers c.args.memory.now) in
    let is = ap term_of c.in-Chain.is ∙ chain_is c.in-Chain.first c.in-Chain.links in
    let heavy = ap term_weight is in
    let fits = subst (λ e. IsTrue (is_condition n e)) is c.requires in (
      rw c.deref-in-Chain-2.ensures.value (omega (arith, c.decreases, heavy)),
      (within, rw c.deref-in-Chain-2.ensures.value (second_holds (is_condition n (term_of c.in-Chain.first.value)) _ fits)),
    )

pub number_of-choose-requires : goal.number_of-choose-requires
number_of-choose-requires g t c κs within =
    let n = length (g.M.Cells.numbers c.args.memory.now) in
    let is = ap term_of c.in-Choose.is ∙ choose_is c.in-Choose.choices c.in-Choose.last in
    let heavy = ap term_weight is in
    let fits = subst (λ e. IsTrue (is_condition n e)) is c.requires in (
      rw (c.deref-in-Choose.ensures.value, c.deref-in-Choose-2.ensures) (omega (arith, c.decreases, heavy)),
      (within, rw (c.deref-in-Choose.ensures.value, c.deref-in-Choose-2.ensures) fits),
    )

pub number_of-returns-in-Chain : goal.number_of-returns-in-Chain
number_of-returns-in-Chain g t c =
    let sight = sight_of (g.M.Cells.numbers c.args.memory.now) in
    let links = links_of_list c.in-Chain.links.items in
    let whole : value (term_of c.args.condition.now) sight ≡ and_then (value (term_of c.in-Chain.first.value) sight) (λ x. linked links x sight) =
    ap (λ e. value e sight) (ap term_of c.in-Chain.is ∙ chain_is c.in-Chain.first c.in-Chain.links) in
    let f : FitsSigned w64 c.number_of-x.result = search rules in
    let h : FitsSigned w64 c.chain.result = search rules in
    let first : value (term_of c.in-Chain.first.value) sight ≡ Ok c.number_of-x.result =
    ap (λ e. value (term_of e) sight) (sym c.deref-in-Chain.ensures) ∙ c.number_of-x.ensures in
    let rest : linked links c.number_of-x.result sight ≡ Ok c.chain.result =
    ap (λ ls. linked (links_of_list ls) c.number_of-x.result sight) (sym c.deref-in-Chain-2.ensures.value) ∙ (simp to_z-of_z at c.chain.ensures) in
    simp to_z-of_z (whole ∙ ap (λ v. and_then v (λ x. linked links x sight)) first ∙ rest)

pub number_of-returns-in-Choose : goal.number_of-returns-in-Choose
number_of-returns-in-Choose g t c =
    let is = ap term_of c.in-Choose.is ∙ choose_is c.in-Choose.choices c.in-Choose.last in
    let h : FitsSigned w64 c.choose.result = search rules in
    simp to_z-of_z (rw (is, ← c.deref-in-Choose.ensures.value, ← c.deref-in-Choose-2.ensures) c.choose.ensures)
