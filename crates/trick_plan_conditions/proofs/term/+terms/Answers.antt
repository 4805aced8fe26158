use Rattle.std.proofs.Common.{rules, ◌≡◌, ◌+◌, ◌||◌, [], ◌∷◌, false, drop, List, Err, Ok, ap, sym, ◌∙◌, subst, arith}
use Rattle.std.proofs.lemmas.Bool.{or_from}
use Rattle.std.proofs.lemmas.List.{drop_all, drop_more}
use Rattle.std.proofs.lemmas.Result.{err_from_is_err_and}
use Rattle.trick_base.proofs.ListLemmas.{next_item}
use Rattle.trick_check_blocks.proofs.Build.{choices_after, choices_done, choices_grown, choices_heavy, choices_weight, links_after, links_done, links_grown}
use Rattle.trick_plan_conditions.proofs.Resolved.{choices_fail, last_fails, links_fail, parts_fail, place_resolves, test_fails, value_fails}
use Rattle.trick_check_blocks.proofs.Weights.{expression_weight, link_weight}
use Rattle.trick_plan_conditions.proofs.term.+terms.Goals as goal
use Rattle.trick_plan_conditions.specs.Conditions.{choice_terms, choices_unknown, has_unknown, link_terms, links_unknown, term}
use Rattle.trick_plan_conditions.specs.Held.{AreResolved, ChecksParts, Resolves, ResolvesChoices, ResolvesLinks, known_by}
use Rattle.trick_lang.proofs.SyntaxLists.{chain_is, choose_is, named_is}
use Rattle.trick_lang.proofs.TreeLists as built
use Rattle.trick_lang.specs.Syntax as text
use Rattle.trick_lang.specs.SyntaxTree.{Expression}
use Rattle.trick_lang.specs.Tree as Tree
use Rattle.trick_lang.specs.TreeOf as tree
use Rattle.trick_lang.specs.declared.syntax.expression.Choice.{Choice}
use Rattle.trick_lang.specs.declared.syntax.expression.Expr.{Expr}
use Rattle.trick_lang.specs.declared.syntax.expression.Link.{Link}
use Rattle.trick_lang.specs.declared.syntax.expression.Part.{Part}

pub resolve-check_parts-requires : goal.resolve-check_parts-requires
resolve-check_parts-requires t c =
    let heavy = ap expression_weight (ap text.expression_of c.in-Named.is ∙ named_is c.in-Named.path) in
    (rw c.as_slice.ensures.value (omega (arith, c.decreases, heavy)), tt)

pub resolve-resolve_links-requires : goal.resolve-resolve_links-requires
resolve-resolve_links-requires t c =
    let heavy = ap expression_weight (ap text.expression_of c.in-Chain.is ∙ chain_is c.in-Chain.first c.in-Chain.links) in
    (rw c.deref-in-Chain-2.ensures.value (omega (arith, c.decreases, heavy)), tt)

pub resolve-resolve_choices-requires : goal.resolve-resolve_choices-requires
resolve-resolve_choices-requires t c =
    let heavy = ap expression_weight (ap text.expression_of c.in-Choose.is ∙ choose_is c.in-Choose.choices c.in-Choose.last) in
    let cells = choices_heavy c.in-Choose.choices.items (text.expression_of c.in-Choose.last.value) in
    (rw c.deref-in-Choose.ensures.value (omega (arith, c.decreases, heavy, cells)), tt)

pub resolve-resolve-requires-in-Choose : goal.resolve-resolve-requires-in-Choose
resolve-resolve-requires-in-Choose t c =
    let heavy = ap expression_weight (ap text.expression_of c.in-Choose.is ∙ choose_is c.in-Choose.choices c.in-Choose.last) in
    let cells = choices_heavy c.in-Choose.choices.items (text.expression_of c.in-Choose.last.value) in
    (rw c.deref-in-Choose-2.ensures (omega (arith, c.decreases, heavy, cells)), tt)

pub resolve-returns-in_err-check_parts-in-Named : goal.resolve-returns-in_err-check_parts-in-Named
resolve-returns-in_err-check_parts-in-Named t c =
    let known = known_by c.args.items.now c.args.cells.now in
    let path = c.in-Named.path in
    let parts = text.parts_of_list path.parts.items in
    let is = ap text.expression_of c.in-Named.is ∙ named_is path in
    let p = err_from_is_err_and c.from_residual.result c.from_residual.ensures.1 in
    let f = c.in_err-check_parts-in-Named.field-0.0 in
    let h : ChecksParts known parts (Err f) = subst (λ (ps : List Part). ChecksParts known (text.parts_of_list ps) (Err f)) c.as_slice.ensures.value c.in_err-check_parts-in-Named.ensures in
    rw (p.1, p.2) (subst (λ (e : Expression). Resolves known e (Err f)) (sym is) (parts_fail known path.line path.name parts f h))

pub resolve-returns-in_ok-check_parts-in-Named : goal.resolve-returns-in_ok-check_parts-in-Named
resolve-returns-in_ok-check_parts-in-Named t c =
    let known = known_by c.args.items.now c.args.cells.now in
    let path = c.in-Named.path in
    let parts = text.parts_of_list path.parts.items in
    let is = ap text.expression_of c.in-Named.is ∙ named_is path in
    let r = c.resolve_place.result in
    let inside = subst (λ (ps : List Part). ChecksParts known (text.parts_of_list ps) (Ok tt)) c.as_slice.ensures.value c.in_ok-check_parts-in-Named.ensures in
    subst (λ (e : Expression). Resolves known e r) (sym is) (place_resolves known path.line path.name parts r inside c.resolve_place.ensures)

pub resolve-returns-in_err-more-in-Chain : goal.resolve-returns-in_err-more-in-Chain
resolve-returns-in_err-more-in-Chain t c =
    let known = known_by c.args.items.now c.args.cells.now in
    let is = ap text.expression_of c.in-Chain.is ∙ chain_is c.in-Chain.first c.in-Chain.links in
    let p = err_from_is_err_and c.from_residual-in_err-more-in-Chain.result c.from_residual-in_err-more-in-Chain.ensures.1 in
    let f = c.in_err-more-in-Chain.field-0.0 in
    let links = text.links_of_list c.in-Chain.links.items in
    let h : ResolvesLinks known links (Err f) = subst (λ (ls : List Link). ResolvesLinks known (text.links_of_list ls) (Err f)) c.deref-in-Chain-2.ensures.value c.in_err-more-in-Chain.ensures in
    rw (p.1, p.2) (subst (λ (e : Expression). Resolves known e (Err f)) (sym is) (links_fail known (text.expression_of c.in-Chain.first.value) links f h))

pub resolve-returns-in_ok-new-in-Chain : goal.resolve-returns-in_ok-new-in-Chain
resolve-returns-in_ok-new-in-Chain t c =
    let known = known_by c.args.items.now c.args.cells.now in
    let is = ap text.expression_of c.in-Chain.is ∙ chain_is c.in-Chain.first c.in-Chain.links in
    let begin = c.in_ok-begin-in-Chain.begin in
    let more = c.in_ok-more-in-Chain.more in
    let one = text.expression_of c.in-Chain.first.value in
    let links = text.links_of_list c.in-Chain.links.items in
    let boxed : c.in_ok-new-in-Chain.field-0.value ≡ begin = search rules in
    let first : Resolves known one (Ok begin) = subst (λ (e : Expr). Resolves known (text.expression_of e) (Ok begin)) c.deref-in-Chain.ensures c.in_ok-begin-in-Chain.ensures in
    let rest : ResolvesLinks known links (Ok more) = subst (λ (ls : List Link). ResolvesLinks known (text.links_of_list ls) (Ok more)) c.deref-in-Chain-2.ensures.value c.in_ok-more-in-Chain.ensures in (
      ap (has_unknown known) is ∙ or_from (has_unknown known one) (links_unknown known links) first.0 rest.0,
      built.chain_is c.in_ok-new-in-Chain.field-0 more
          ∙ (ap (λ e. Tree.Chain e (tree.links_of_list more.items)) (ap tree.term_of boxed ∙ first.1)
          ∙ (ap (Tree.Chain (term known one)) rest.1 ∙ ap (term known) (sym is))),
    )

pub resolve-returns-in_err-tests-in-Choose : goal.resolve-returns-in_err-tests-in-Choose
resolve-returns-in_err-tests-in-Choose t c =
    let known = known_by c.args.items.now c.args.cells.now in
    let is = ap text.expression_of c.in-Choose.is ∙ choose_is c.in-Choose.choices c.in-Choose.last in
    let p = err_from_is_err_and c.from_residual-in_err-tests-in-Choose.result c.from_residual-in_err-tests-in-Choose.ensures.1 in
    let f = c.in_err-tests-in-Choose.field-0.0 in
    let h : ResolvesChoices known c.in-Choose.choices.items (Err f) = subst (λ (cs : List Choice). ResolvesChoices known cs (Err f)) c.deref-in-Choose.ensures.value c.in_err-tests-in-Choose.ensures in
    rw (p.1, p.2) (subst (λ (e : Expression). Resolves known e (Err f)) (sym is) (choices_fail known c.in-Choose.choices.items (text.expression_of c.in-Choose.last.value) f h))

pub resolve-returns-in_err-end-in-Choose : goal.resolve-returns-in_err-end-in-Choose
resolve-returns-in_err-end-in-Choose t c =
    let known = known_by c.args.items.now c.args.cells.now in
    let is = ap text.expression_of c.in-Choose.is ∙ choose_is c.in-Choose.choices c.in-Choose.last in
    let p = err_from_is_err_and c.from_residual-in_err-end-in-Choose.result c.from_residual-in_err-end-in-Choose.ensures.1 in
    let f = c.in_err-end-in-Choose.field-0.0 in
    let last = text.expression_of c.in-Choose.last.value in
    let tests = c.in_ok-tests-in-Choose.tests in
    let made : ResolvesChoices known c.in-Choose.choices.items (Ok tests) = subst (λ (cs : List Choice). ResolvesChoices known cs (Ok tests)) c.deref-in-Choose.ensures.value c.in_ok-tests-in-Choose.ensures in
    let h : Resolves known last (Err f) = subst (λ (e : Expr). Resolves known (text.expression_of e) (Err f)) c.deref-in-Choose-2.ensures c.in_err-end-in-Choose.ensures in
    rw (p.1, p.2) (subst (λ (e : Expression). Resolves known e (Err f)) (sym is) (last_fails known c.in-Choose.choices.items last f (made.unknown last) h))

pub resolve-returns-in_ok-new-in-Choose : goal.resolve-returns-in_ok-new-in-Choose
resolve-returns-in_ok-new-in-Choose t c =
    let known = known_by c.args.items.now c.args.cells.now in
    let is = ap text.expression_of c.in-Choose.is ∙ choose_is c.in-Choose.choices c.in-Choose.last in
    let last = text.expression_of c.in-Choose.last.value in
    let tests = c.in_ok-tests-in-Choose.tests in
    let end = c.in_ok-end-in-Choose.end in
    let boxed : c.in_ok-new-in-Choose.field-0.value ≡ end = search rules in
    let made : ResolvesChoices known c.in-Choose.choices.items (Ok tests) = subst (λ (cs : List Choice). ResolvesChoices known cs (Ok tests)) c.deref-in-Choose.ensures.value c.in_ok-tests-in-Choose.ensures in
    let ended : Resolves known last (Ok end) = subst (λ (e : Expr). Resolves known (text.expression_of e) (Ok end)) c.deref-in-Choose-2.ensures c.in_ok-end-in-Choose.ensures in (
      ap (has_unknown known) is ∙ (made.unknown last ∙ ended.0),
      built.choose_is tests c.in_ok-new-in-Choose.field-0
          ∙ (ap (λ e. Tree.Choose (tree.choices_of_list tests.items e)) (ap tree.term_of boxed ∙ ended.1)
          ∙ (ap Tree.Choose (made.terms last) ∙ ap (term known) (sym is))),
    )

pub resolve_links-loop-link-preserved : goal.resolve_links-loop-link-preserved
resolve_links-loop-link-preserved t c =
    let known = known_by c.args.items.now c.args.cells.now in
    let xs = c.args.links.now in
    let i = c.loop-link.link-index in
    let item = c.link-item.result in
    let out = c.loop-link.out.items in
    let next = ap text.links_of_list (next_item xs i item c.loop-link-test.true c.link-item.is) in
    let heavy = ap link_weight next in
    let rest = text.links_of_list (drop (i + 1) xs) in
    let more = link_terms known rest in
    record {
      made = ap (λ ls. links_after ls more) c.in_ok-push.ensures.items
          ∙ (links_grown out _ more
          ∙ (ap (λ x. links_after out (Tree.Link item.operator x more)) c.in_ok-operand.ensures.1
          ∙ subst (λ q. links_after out (link_terms known q) ≡ link_terms known (text.links_of_list xs)) next c.loop-link.invariant.made));
      unknown = sym (ap (λ b. b || links_unknown known rest) c.in_ok-operand.ensures.0)
          ∙ subst (λ q. links_unknown known q ≡ links_unknown known (text.links_of_list xs)) next c.loop-link.invariant.unknown;
      weighs = omega (arith, c.loop-link.invariant.weighs, heavy);
    }

pub resolve_links-returns : goal.resolve_links-returns
resolve_links-returns t c =
    let known = known_by c.args.items.now c.args.cells.now in
    let all = c.args.links.now in
    let out = c.loop-link.out.items in
    let none : drop c.loop-link.link-index all ≡ [] = drop_all c.loop-link.link-index all (omega (arith, c.loop-link-test.false)) in (
      sym (subst (λ (q : List Link). links_unknown known (text.links_of_list q) ≡ links_unknown known (text.links_of_list all)) none c.loop-link.invariant.unknown),
      sym (links_done out)
          ∙ subst (λ (q : List Link). links_after out (link_terms known (text.links_of_list q)) ≡ link_terms known (text.links_of_list all)) none c.loop-link.invariant.made,
    )

pub resolve_choices-returns-in_err-test : goal.resolve_choices-returns-in_err-test
resolve_choices-returns-in_err-test t c =
    let known = known_by c.args.items.now c.args.cells.now in
    let xs = c.args.choices.now in
    let i = c.loop-choice.choice-index in
    let item = c.choice-item.result in
    let next = next_item xs i item c.loop-choice-test.true c.choice-item.is in
    let p = err_from_is_err_and c.from_residual.result c.from_residual.ensures.1 in
    rw (p.1, p.2)
    (test_fails known xs (drop (i + 1) xs) item
    (λ last. subst (λ (q : List Choice). choices_unknown known (text.choices_of_list q last) ≡ choices_unknown known (text.choices_of_list xs last)) next (c.loop-choice.invariant.unknown last))
    c.in_err-test.field-0.0 c.in_err-test.ensures)

pub resolve_choices-returns-in_err-value : goal.resolve_choices-returns-in_err-value
resolve_choices-returns-in_err-value t c =
    let known = known_by c.args.items.now c.args.cells.now in
    let xs = c.args.choices.now in
    let i = c.loop-choice.choice-index in
    let item = c.choice-item.result in
    let next = next_item xs i item c.loop-choice-test.true c.choice-item.is in
    let p = err_from_is_err_and c.from_residual-in_err-value.result c.from_residual-in_err-value.ensures.1 in
    rw (p.1, p.2)
    (value_fails known xs (drop (i + 1) xs) item
    (λ last. subst (λ (q : List Choice). choices_unknown known (text.choices_of_list q last) ≡ choices_unknown known (text.choices_of_list xs last)) next (c.loop-choice.invariant.unknown last))
    c.in_err-value.field-0.0 c.in_err-value.ensures)

pub resolve_choices-loop-choice-preserved : goal.resolve_choices-loop-choice-preserved
resolve_choices-loop-choice-preserved t c =
    let known = known_by c.args.items.now c.args.cells.now in
    let xs = c.args.choices.now in
    let i = c.loop-choice.choice-index in
    let item = c.choice-item.result in
    let out = c.loop-choice.out.items in
    let next = next_item xs i item c.loop-choice-test.true c.choice-item.is in
    let heavy = ap choices_weight next in
    record {
      made = λ last.
          let more = choice_terms known (text.choices_of_list (drop (i + 1) xs) last) in
          ap (λ cs. choices_after cs more) c.in_ok-push.ensures.items
          ∙ (choices_grown out _ more
          ∙ (ap (λ x. choices_after out (Tree.Choice x (tree.term_of c.in_ok-value.value) more)) c.in_ok-test.ensures.1
          ∙ (ap (λ x. choices_after out (Tree.Choice (term known (text.expression_of item.test)) x more)) c.in_ok-value.ensures.1
          ∙ subst (λ q. choices_after out (choice_terms known (text.choices_of_list q last)) ≡ choice_terms known (text.choices_of_list xs last)) next (c.loop-choice.invariant.made last))));
      unknown = λ last.
          let rest = choices_unknown known (text.choices_of_list (drop (i + 1) xs) last) in
          sym (ap (λ b. b || rest) c.in_ok-value.ensures.0)
          ∙ (sym (ap (λ b. b || (has_unknown known (text.expression_of item.value) || rest)) c.in_ok-test.ensures.0)
          ∙ subst (λ (q : List Choice). choices_unknown known (text.choices_of_list q last) ≡ choices_unknown known (text.choices_of_list xs last)) next (c.loop-choice.invariant.unknown last));
      weighs = omega (arith, c.loop-choice.invariant.weighs, heavy);
    }

pub resolve_choices-returns : goal.resolve_choices-returns
resolve_choices-returns t c =
    let known = known_by c.args.items.now c.args.cells.now in
    let all = c.args.choices.now in
    let out = c.loop-choice.out.items in
    let none : drop c.loop-choice.choice-index all ≡ [] = drop_all c.loop-choice.choice-index all (omega (arith, c.loop-choice-test.false)) in
    record {
      unknown = λ last. sym (subst (λ (q : List Choice). choices_unknown known (text.choices_of_list q last) ≡ choices_unknown known (text.choices_of_list all last)) none (c.loop-choice.invariant.unknown last));
      terms = λ last.
          sym (choices_done out (term known last))
          ∙ subst (λ (q : List Choice). choices_after out (choice_terms known (text.choices_of_list q last)) ≡ choice_terms known (text.choices_of_list all last)) none (c.loop-choice.invariant.made last);
    }
