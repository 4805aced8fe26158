use Rattle.std.proofs.Common.{◌≡◌, ◌+◌, [], ◌∷◌, IfOk, Some, drop, ap, sym, ◌∙◌, subst, arith}
use Rattle.trick_base.proofs.ListLemmas.{next_item}
use Rattle.trick_lang.proofs.SyntaxLists.{chain_is, choose_is, named_is}
use Rattle.trick_lang.specs.Syntax as text
use Rattle.trick_lang.specs.Tree as Tree
use Rattle.trick_lang.specs.Tree.{NoStep, Step}
use Rattle.trick_lang.specs.TreeOf as tree
use Rattle.trick_check_blocks.proofs.Build.{links_after, links_grown, links_done, choices_after, choices_grown, choices_done, choices_weight, choices_heavy, added_none, added_added, added_one, steps_split, part_weighs, some_part}
use Rattle.trick_check_blocks.proofs.Fitting.{step_fits}
use Rattle.trick_check_blocks.proofs.Lists.{drop_all}
use Rattle.trick_check_blocks.proofs.Weights.{expression_weight, link_weight, part_weight}
use Rattle.trick_check_blocks.proofs.term.+terms.Goals as goal
use Rattle.trick_check_blocks.specs.Places.{element_at}
use Rattle.trick_check_blocks.specs.Terms.{added_steps, choice_terms, computed, goal_term, link_terms, stepped, steps, term}
use Rattle.trick_check_blocks.specs.Room.{Fits}

pub resolve_expression-resolve_path-requires : goal.resolve_expression-resolve_path-requires
resolve_expression-resolve_path-requires t c =
    let heavy = ap expression_weight (ap text.expression_of c.in-Named.is ∙ named_is c.in-Named.path) in
    (omega (arith, c.decreases, heavy), c.requires.laid)

pub resolve_expression-resolve_links-requires : goal.resolve_expression-resolve_links-requires
resolve_expression-resolve_links-requires t c =
    let heavy = ap expression_weight (ap text.expression_of c.in-Chain.is ∙ chain_is c.in-Chain.first c.in-Chain.links) in
    (rw c.deref-in-Chain-2.ensures.value (omega (arith, c.decreases, heavy)), c.requires.laid)

pub resolve_expression-resolve_choices-requires : goal.resolve_expression-resolve_choices-requires
resolve_expression-resolve_choices-requires t c =
    let heavy = ap expression_weight (ap text.expression_of c.in-Choose.is ∙ choose_is c.in-Choose.choices c.in-Choose.last) in
    let cells = choices_heavy c.in-Choose.choices.items (text.expression_of c.in-Choose.last.value) in
    (rw c.deref-in-Choose.ensures.value (omega (arith, c.decreases, heavy, cells)), c.requires.laid)

pub resolve_expression-resolve_expression-requires-in-Choose : goal.resolve_expression-resolve_expression-requires-in-Choose
resolve_expression-resolve_expression-requires-in-Choose t c =
    let heavy = ap expression_weight (ap text.expression_of c.in-Choose.is ∙ choose_is c.in-Choose.choices c.in-Choose.last) in
    let cells = choices_heavy c.in-Choose.choices.items (text.expression_of c.in-Choose.last.value) in
    (rw c.deref-in-Choose-2.ensures (omega (arith, c.decreases, heavy, cells)), c.requires.laid)

pub resolve_expression-returns-in_ok-reached-in-Named : goal.resolve_expression-returns-in_ok-reached-in-Named
resolve_expression-returns-in_ok-reached-in-Named t c =
    c.named.ensures ∙ (ap goal_term c.in_ok-reached-in-Named.ensures ∙ ap (λ e. term e c.args.scope.now c.args.locals.now) (sym (ap text.expression_of c.in-Named.is ∙ named_is c.in-Named.path)))

pub resolve_expression-returns-in_ok-more-in-Chain : goal.resolve_expression-returns-in_ok-more-in-Chain
resolve_expression-returns-in_ok-more-in-Chain t c =
    let w = c.args.scope.now in
    let locals = c.args.locals.now in
    let is = ap text.expression_of c.in-Chain.is ∙ chain_is c.in-Chain.first c.in-Chain.links in
    let more = tree.links_of_list c.in_ok-more-in-Chain.more.items in
    let first : tree.term_of c.in_ok-begin-in-Chain.begin ≡ term (text.expression_of c.in-Chain.first.value) w locals = c.in_ok-begin-in-Chain.ensures ∙ ap (λ e. term (text.expression_of e) w locals) c.deref-in-Chain.ensures in
    let rest : more ≡ link_terms (text.links_of_list c.in-Chain.links.items) w locals = c.in_ok-more-in-Chain.ensures ∙ ap (λ ls. link_terms (text.links_of_list ls) w locals) c.deref-in-Chain-2.ensures.value in
    subst (λ q. IfOk c.chain.result (λ made. tree.term_of made ≡ q))
    (ap (λ e. Tree.Chain e more) first ∙ (ap (Tree.Chain (term (text.expression_of c.in-Chain.first.value) w locals)) rest ∙ ap (λ e. term e w locals) (sym is)))
    c.chain.ensures

pub resolve_expression-returns-in_ok-end-in-Choose : goal.resolve_expression-returns-in_ok-end-in-Choose
resolve_expression-returns-in_ok-end-in-Choose t c =
    let w = c.args.scope.now in
    let locals = c.args.locals.now in
    let is = ap text.expression_of c.in-Choose.is ∙ choose_is c.in-Choose.choices c.in-Choose.last in
    let tests = c.in_ok-tests-in-Choose.tests in
    let last = text.expression_of c.in-Choose.last.value in
    let end : tree.term_of c.in_ok-end-in-Choose.end ≡ term last w locals = c.in_ok-end-in-Choose.ensures ∙ ap (λ e. term (text.expression_of e) w locals) c.deref-in-Choose-2.ensures in
    let all : tree.choices_of_list tests.items (term last w locals) ≡ choice_terms (text.choices_of_list c.in-Choose.choices.items last) w locals = c.in_ok-tests-in-Choose.ensures last ∙ ap (λ cs. choice_terms (text.choices_of_list cs last) w locals) c.deref-in-Choose.ensures.value in
    subst (λ q. IfOk c.choose.result (λ made. tree.term_of made ≡ q))
    (ap (λ e. Tree.Choose (tree.choices_of_list tests.items e)) end ∙ (ap Tree.Choose all ∙ ap (λ e. term e w locals) (sym is)))
    c.choose.ensures

pub resolve_links-loop-link-preserved : goal.resolve_links-loop-link-preserved
resolve_links-loop-link-preserved t c =
    let w = c.args.scope.now in
    let locals = c.args.locals.now in
    let xs = c.args.links.now in
    let i = c.loop-link.link-index in
    let item = c.link-item.result in
    let out = c.loop-link.out.items in
    let next = ap text.links_of_list (next_item xs i item c.loop-link-test.true c.link-item.is) in
    let heavy = ap link_weight next in
    let more = link_terms (text.links_of_list (drop (i + 1) xs)) w locals in
    record {
      made = ap (λ ls. links_after ls more) c.in_ok-push.ensures.items
          ∙ (links_grown out _ more
          ∙ (ap (λ x. links_after out (Tree.Link item.operator x more)) c.in_ok-operand.ensures
          ∙ subst (λ q. links_after out (link_terms q w locals) ≡ link_terms (text.links_of_list xs) w locals) next c.loop-link.invariant.made));
      weighs = omega (arith, c.loop-link.invariant.weighs, heavy);
    }

pub resolve_links-returns : goal.resolve_links-returns
resolve_links-returns t c =
    let w = c.args.scope.now in
    let locals = c.args.locals.now in
    let none : drop c.loop-link.link-index c.args.links.now ≡ [] = drop_all c.args.links.now c.loop-link.link-index (omega (arith, c.loop-link-test.false)) in
    sym (links_done c.loop-link.out.items) ∙ subst (λ q. links_after c.loop-link.out.items (link_terms (text.links_of_list q) w locals) ≡ link_terms (text.links_of_list c.args.links.now) w locals) none c.loop-link.invariant.made

pub resolve_choices-loop-choice-preserved : goal.resolve_choices-loop-choice-preserved
resolve_choices-loop-choice-preserved t c =
    let w = c.args.scope.now in
    let locals = c.args.locals.now in
    let xs = c.args.choices.now in
    let i = c.loop-choice.choice-index in
    let item = c.choice-item.result in
    let out = c.loop-choice.out.items in
    let next = next_item xs i item c.loop-choice-test.true c.choice-item.is in
    let heavy = ap choices_weight next in
    record {
      made = λ last.
          let more = choice_terms (text.choices_of_list (drop (i + 1) xs) last) w locals in
          ap (λ cs. choices_after cs more) c.in_ok-push.ensures.items
          ∙ (choices_grown out _ more
          ∙ (ap (λ x. choices_after out (Tree.Choice x (tree.term_of c.in_ok-value.value) more)) c.in_ok-test.ensures
          ∙ (ap (λ x. choices_after out (Tree.Choice (term (text.expression_of item.test) w locals) x more)) c.in_ok-value.ensures
          ∙ subst (λ q. choices_after out (choice_terms (text.choices_of_list q last) w locals) ≡ choice_terms (text.choices_of_list xs last) w locals) next (c.loop-choice.invariant.made last))));
      weighs = omega (arith, c.loop-choice.invariant.weighs, heavy);
    }

pub resolve_choices-returns : goal.resolve_choices-returns
resolve_choices-returns t c = λ last.
    let w = c.args.scope.now in
    let locals = c.args.locals.now in
    let out = c.loop-choice.out.items in
    let none : drop c.loop-choice.choice-index c.args.choices.now ≡ [] = drop_all c.args.choices.now c.loop-choice.choice-index (omega (arith, c.loop-choice-test.false)) in
    sym (choices_done out (term last w locals)) ∙ subst (λ q. choices_after out (choice_terms (text.choices_of_list q last) w locals) ≡ choice_terms (text.choices_of_list c.args.choices.now last) w locals) none (c.loop-choice.invariant.made last)

pub resolve_step-returns-in-Member : goal.resolve_step-returns-in-Member
resolve_step-returns-in-Member t c =
    let so = tree.steps_of_list c.args.out.now.items in
    ap (λ p. added_steps so (steps (text.parts_of_list (p ∷ [])) c.args.scope.now c.args.locals.now c.args.at)) c.in-Member.is ∙ added_none so

pub resolve_step-returns-in-None : goal.resolve_step-returns-in-None
resolve_step-returns-in-None t c =
    let so = tree.steps_of_list c.args.out.now.items in
    let x = term (text.expression_of c.in-Index.e) c.args.scope.now c.args.locals.now in
    ap (λ p. added_steps so (steps (text.parts_of_list (p ∷ [])) c.args.scope.now c.args.locals.now c.args.at)) c.in-Index.is
    ∙ (ap (λ o. added_steps so (stepped o x NoStep)) (ap (λ k. computed k (element_at c.args.at)) (sym c.literal.ensures) ∙ (sym c.computed_array.ensures ∙ c.in-None.is)) ∙ added_none so)

pub resolve_step-returns-in_ok-push-in-Some : goal.resolve_step-returns-in_ok-push-in-Some
resolve_step-returns-in_ok-push-in-Some t c =
    let is = c.args.out.now.items in
    let so = tree.steps_of_list is in
    let found = c.in-Some.found in
    let x = term (text.expression_of c.in-Index.e) c.args.scope.now c.args.locals.now in
    ap (λ p. added_steps so (steps (text.parts_of_list (p ∷ [])) c.args.scope.now c.args.locals.now c.args.at)) c.in-Index.is
    ∙ (ap (λ o. added_steps so (stepped o x NoStep)) (ap (λ k. computed k (element_at c.args.at)) (sym c.literal.ensures) ∙ (sym c.computed_array.ensures ∙ c.in-Some.is))
    ∙ (ap (λ y. added_steps so (Step found.dim.length found.dim.stride y NoStep)) (sym c.in_ok-x-in-Some.ensures)
    ∙ (added_one is _ ∙ ap tree.steps_of_list (sym c.in_ok-push-in-Some.ensures.items))))

pub resolve_steps-resolve_step-requires : goal.resolve_steps-resolve_step-requires
resolve_steps-resolve_step-requires t c =
    let xs = c.args.parts.now in
    let i = c.loop-part.part-index in
    let item = c.part-item.result in
    let heavy = ap part_weight (ap text.parts_of_list (next_item xs i item c.loop-part-test.true c.part-item.is)) in
    (omega (arith, c.decreases, c.loop-part.invariant.weighs, heavy, part_weighs item (drop (i + 1) xs), some_part (text.parts_of_list (drop (i + 1) xs))), c.requires.laid)

pub resolve_steps-loop-part-preserved : goal.resolve_steps-loop-part-preserved
resolve_steps-loop-part-preserved t c =
    let w = c.args.scope.now in
    let locals = c.args.locals.now in
    let xs = c.args.parts.now in
    let i = c.loop-part.part-index in
    let item = c.part-item.result in
    let at = c.loop-part.at in
    let so = tree.steps_of_list c.loop-part.out.items in
    let one = text.parts_of_list (item ∷ []) in
    let rest = text.parts_of_list (drop (i + 1) xs) in
    let next = ap text.parts_of_list (next_item xs i item c.loop-part-test.true c.part-item.is) in
    let heavy = ap part_weight next in
    let there = c.step-at.ensures in
    record {
      made = ap (λ q. added_steps q (steps rest w locals c.step-at.result)) (sym c.in_ok-resolve_step.ensures)
          ∙ (added_added so (steps one w locals at) (steps rest w locals c.step-at.result)
          ∙ (ap (λ q. added_steps so (added_steps (steps one w locals at) (steps rest w locals q))) there
          ∙ (ap (added_steps so) (sym (steps_split item (drop (i + 1) xs) w locals at))
          ∙ (ap (λ q. added_steps so (steps q w locals at)) (sym next) ∙ c.loop-part.invariant.made))));
      fits = subst (Fits w) (sym there) (step_fits item w at c.requires.laid c.loop-part.invariant.fits);
      weighs = omega (arith, c.loop-part.invariant.weighs, heavy, part_weighs item (drop (i + 1) xs), some_part one);
    }

pub resolve_steps-returns : goal.resolve_steps-returns
resolve_steps-returns t c =
    let w = c.args.scope.now in
    let locals = c.args.locals.now in
    let so = tree.steps_of_list c.loop-part.out.items in
    let none : drop c.loop-part.part-index c.args.parts.now ≡ [] = drop_all c.args.parts.now c.loop-part.part-index (omega (arith, c.loop-part-test.false)) in
    sym (added_none so) ∙ subst (λ q. added_steps so (steps (text.parts_of_list q) w locals c.loop-part.at) ≡ steps (text.parts_of_list c.args.parts.now) w locals (Some c.args.from)) none c.loop-part.invariant.made
