use Rattle.std.proofs.Common.{◌≡◌, ◌+◌, [], ◌∷◌, ◌++◌, drop, ap, sym, ◌∙◌, subst, arith}
use Rattle.trick_base.proofs.ListLemmas.{next_item}
use Rattle.trick_lang.proofs.SyntaxLists.{chain_is, choose_is, named_is}
use Rattle.trick_lang.specs.Syntax.{choices_of_list, expression_of, links_of_list, parts_of_list}
use Rattle.trick_check_names.proofs.Noted.{noted_both, noted_next}
use Rattle.trick_check_names.proofs.Trees.{links_next, choices_next, part_splits, part_weighs, some_part}
use Rattle.trick_check_names.proofs.Weights.{expression_weight, link_weight, choice_weight, part_weight}
use Rattle.trick_check_names.proofs.body.+look.Goals as goal
use Rattle.trick_check_names.specs.BodyMistakes.{choice_mistakes, expression_mistakes, link_mistakes, part_mistakes}
use Rattle.trick_check_names.specs.Mistakes.{noted}
use Rattle.trick_check_names.specs.Places.{followed}

pub look_expression-look_path-requires : goal.look_expression-look_path-requires
look_expression-look_path-requires t c =
    let heavy = ap expression_weight (ap expression_of c.in-Named.is ∙ named_is c.in-Named.path) in
    (omega (arith, c.decreases, heavy), tt)

pub look_expression-look_links-requires : goal.look_expression-look_links-requires
look_expression-look_links-requires t c =
    let heavy = ap expression_weight (ap expression_of c.in-Chain.is ∙ chain_is c.in-Chain.first c.in-Chain.links) in
    (rw c.deref-in-Chain-2.ensures.value (omega (arith, c.decreases, heavy)), tt)

pub look_expression-look_choices-requires : goal.look_expression-look_choices-requires
look_expression-look_choices-requires t c =
    let heavy = ap expression_weight (ap expression_of c.in-Choose.is ∙ choose_is c.in-Choose.choices c.in-Choose.last) in
    (rw (c.deref-in-Choose.ensures.value, c.deref-in-Choose-2.ensures) (omega (arith, c.decreases, heavy)), tt)

pub look_expression-returns-in-Named : goal.look_expression-returns-in-Named
look_expression-returns-in-Named t c =
    c.look_path.ensures ∙ ap (λ e. noted (expression_mistakes e c.args.scope.now c.args.locals.now) c.args.found.now) (sym (ap expression_of c.in-Named.is ∙ named_is c.in-Named.path))

pub look_expression-returns-in-Chain : goal.look_expression-returns-in-Chain
look_expression-returns-in-Chain t c =
    let w = c.args.scope.now in
    let locals = c.args.locals.now in
    let is = ap expression_of c.in-Chain.is ∙ chain_is c.in-Chain.first c.in-Chain.links in
    let first : c.look_expression-in-Chain.new.found ≡ noted (expression_mistakes (expression_of c.in-Chain.first.value) w locals) c.args.found.now = c.look_expression-in-Chain.ensures ∙ ap (λ e. noted (expression_mistakes (expression_of e) w locals) c.args.found.now) c.deref-in-Chain.ensures in
    let rest : c.look_links.new.found ≡ noted (link_mistakes (links_of_list c.in-Chain.links.items) w locals) c.look_expression-in-Chain.new.found = c.look_links.ensures ∙ ap (λ ls. noted (link_mistakes (links_of_list ls) w locals) c.look_expression-in-Chain.new.found) c.deref-in-Chain-2.ensures.value in
    rest ∙ (ap (noted (link_mistakes (links_of_list c.in-Chain.links.items) w locals)) first ∙ (sym (noted_both (expression_mistakes (expression_of c.in-Chain.first.value) w locals) _ c.args.found.now) ∙ ap (λ e. noted (expression_mistakes e w locals) c.args.found.now) (sym is)))

pub look_expression-returns-in-Choose : goal.look_expression-returns-in-Choose
look_expression-returns-in-Choose t c =
    let is = ap expression_of c.in-Choose.is ∙ choose_is c.in-Choose.choices c.in-Choose.last in
    rw (is, ← c.deref-in-Choose.ensures.value, ← c.deref-in-Choose-2.ensures) c.look_choices.ensures

pub look_links-loop-link-preserved : goal.look_links-loop-link-preserved
look_links-loop-link-preserved t c =
    let w = c.args.scope.now in
    let locals = c.args.locals.now in
    let xs = c.args.links.now in
    let i = c.loop-link.link-index in
    let item = c.link-item.result in
    let next = links_next xs i item c.loop-link-test.true c.link-item.is in
    let heavy = ap link_weight next in
    let told = subst (λ q. noted (link_mistakes q w locals) c.loop-link.found ≡ noted (link_mistakes (links_of_list xs) w locals) c.args.found.now) next c.loop-link.invariant.told in
    record {
      told = noted_next (expression_mistakes (expression_of item.operand) w locals) (link_mistakes (links_of_list (drop (i + 1) xs)) w locals) c.loop-link.found c.look_expression.new.found _ told c.look_expression.ensures;
      weighs = omega (arith, c.loop-link.invariant.weighs, heavy);
    }

pub look_choices-loop-choice-preserved : goal.look_choices-loop-choice-preserved
look_choices-loop-choice-preserved t c =
    let w = c.args.scope.now in
    let locals = c.args.locals.now in
    let xs = c.args.choices.now in
    let i = c.loop-choice.choice-index in
    let item = c.choice-item.result in
    let last = expression_of c.args.last.now in
    let next = choices_next xs i item last c.loop-choice-test.true c.choice-item.is in
    let heavy = ap choice_weight next in
    let rest = choice_mistakes (choices_of_list (drop (i + 1) xs) last) w locals in
    let told = subst (λ q. noted (choice_mistakes q w locals) c.loop-choice.found ≡ noted (choice_mistakes (choices_of_list xs last) w locals) c.args.found.now) next c.loop-choice.invariant.told in
    let tested = noted_next (expression_mistakes (expression_of item.test) w locals) (expression_mistakes (expression_of item.value) w locals ++ rest) c.loop-choice.found c.look_expression.new.found _ told c.look_expression.ensures in
    record {
      told = noted_next (expression_mistakes (expression_of item.value) w locals) rest c.look_expression.new.found c.look_expression-in-loop-choice.new.found _ tested c.look_expression-in-loop-choice.ensures;
      weighs = omega (arith, c.loop-choice.invariant.weighs, heavy);
    }

pub look_parts-look_part-state-requires : goal.look_parts-look_part-state-requires
look_parts-look_part-state-requires t c =
    let xs = c.args.parts.now in
    let i = c.loop-part.part-index in
    let item = c.part-item.result in
    let heavy = ap part_weight (ap parts_of_list (next_item xs i item c.loop-part-test.true c.part-item.is)) in
    (omega (arith, c.decreases, c.loop-part.invariant.weighs, heavy, part_weighs item (drop (i + 1) xs), some_part (parts_of_list (drop (i + 1) xs))), tt)

pub look_parts-loop-part-preserved : goal.look_parts-loop-part-preserved
look_parts-loop-part-preserved t c =
    let w = c.args.scope.now in
    let locals = c.args.locals.now in
    let xs = c.args.parts.now in
    let i = c.loop-part.part-index in
    let item = c.part-item.result in
    let s = c.loop-part.state in
    let rest = parts_of_list (drop (i + 1) xs) in
    let one = parts_of_list (item ∷ []) in
    let next = ap parts_of_list (next_item xs i item c.loop-part-test.true c.part-item.is) in
    let heavy = ap part_weight next in
    let split : part_mistakes (parts_of_list (drop i xs)) w locals s ≡ part_mistakes one w locals s ++ part_mistakes rest w locals (followed one w s) = ap (λ q. part_mistakes q w locals s) next ∙ part_splits item (drop (i + 1) xs) w locals s in
    let told = subst (λ ms. noted ms c.loop-part.found ≡ noted (part_mistakes (parts_of_list xs) w locals c.args.from) c.args.found.now) split c.loop-part.invariant.told in
    let after = noted_next (part_mistakes one w locals s) (part_mistakes rest w locals (followed one w s)) c.loop-part.found c.look_part-state.new.found _ told c.look_part-state.ensures.found in
    record {
      told = ap (λ q. noted (part_mistakes rest w locals q) c.look_part-state.new.found) c.look_part-state.ensures.next ∙ after;
      weighs = omega (arith, c.loop-part.invariant.weighs, heavy, part_weighs item (drop (i + 1) xs), some_part one);
    }
