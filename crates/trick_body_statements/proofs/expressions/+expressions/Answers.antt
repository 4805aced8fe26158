use Rattle.std.proofs.Common.{arith, length, [], ◌∷◌, Ok, sym, ◌∙◌, ap}
use Rattle.std.proofs.lemmas.Result.{err_from_is_err_and}
use Rattle.trick_body_symbols.specs.Expressions.{binary, choice, link, nested, operand, step}
use Rattle.trick_body_symbols.specs.Symbols.{number_of}
use Rattle.trick_body_statements.specs.Trees.{link_of, step_of}
use Rattle.trick_body_symbols.specs.declared.nested.Nested.TheVariants.{Chosen}
use Rattle.trick_body_symbols.specs.declared.symbol.Symbol.TheVariants.{Dot, OpenBracket}
use Rattle.trick_body_statements.proofs.ExpressionTests.{choice_shrinks}
use Rattle.trick_body_symbols.proofs.Countdown.{items_halt}
use Rattle.trick_body_statements.proofs.Lists.{chain_made, chosen, chosen_next, choose_made, folded_end, folded_next, link_begins, link_shrinks, some_items}
use Rattle.trick_grammar.proofs.Loops.{items_down, items_end, many_next}
use Rattle.trick_grammar.specs.Gives.{class_of}
use Rattle.trick_grammar.specs.Reading.{read}
use Rattle.trick_grammar.specs.StartsWith.{next_in}
use Rattle.trick_lang.proofs.SyntaxLists.{named_is}
use Rattle.trick_lang.specs.Syntax.{expression_of}
use Rattle.trick_lang.specs.SyntaxTree.{Expression}
use Rattle.trick_body_statements.proofs.expressions.+expressions.Goals as goal

-- ---- chains of `?:`

pub read_choices-loop-alloc-smaller : goal.read_choices-loop-alloc-smaller
read_choices-loop-alloc-smaller t c =
    choice_shrinks c.args.source.text.now c.args.source.limit c.args.depth c.loop-alloc.rest.now _ c.in_ok-value.after.now c.in_ok-value.ensures

pub read_choices-loop-alloc-preserved : goal.read_choices-loop-alloc-preserved
read_choices-loop-alloc-preserved t c =
    let l = c.loop-alloc in
    let s = c.args.source in
    let e = expression_of c.in_ok-value.next in
    folded_next (choice (nested s.text.now s.limit Chosen c.args.depth) (operand s.text.now s.limit c.args.depth)) (choice_shrinks s.text.now s.limit c.args.depth) (chosen l.found.items (expression_of l.last)) (chosen c.push.new.self.items e) (expression_of c.in_ok-value.value, e) l.rest.now c.in_ok-value.after.now _
    (λ ys. chosen_next l.found.items (record { test = l.last; value = c.in_ok-value.value }) e ys ∙ ap (λ cs. chosen cs e ys) (sym c.in_ok-push.ensures.items))
    (sym c.loop-alloc-test.ensures) c.in_ok-value.ensures l.invariant

pub read_choices-returns : goal.read_choices-returns
read_choices-returns t c =
    let l = c.loop-alloc in
    let s = c.args.source in
    folded_end (choice (nested s.text.now s.limit Chosen c.args.depth) (operand s.text.now s.limit c.args.depth)) (choice_shrinks s.text.now s.limit c.args.depth) (chosen l.found.items (expression_of l.last)) l.rest.now _ (sym c.loop-alloc-test.ensures) l.invariant
    ∙ ap (λ (x : Expression). Ok (x, l.rest.now)) (sym (choose_made l.found c.in_ok-new.field-0 l.last c.in_ok-new.ensures.ok (λ h. some_items _ (sym c.if-is_empty.ensures) (omega (arith, ap length h, l.found.ok)))))

-- ---- chains of operators

pub read_level-returns : goal.read_level-returns
read_level-returns t c =
    rw (c.in_ok-first.ensures, c.in_ok-links.ensures) (ap (λ (x : Expression). Ok (x, c.in_ok-links.rest.now)) (sym (chain_made c.in_ok-new.field-0 c.in_ok-links.links c.in_ok-first.first c.in_ok-new.ensures.ok (λ h. some_items _ (sym c.if-is_empty.ensures) (omega (arith, ap length h, c.in_ok-links.links.ok))))))

pub read_links-loop-alloc-smaller : goal.read_links-loop-alloc-smaller
read_links-loop-alloc-smaller t c =
    let s = c.args.source in
    link_shrinks c.args.level (binary c.args.level (operand s.text.now s.limit c.args.depth)) c.loop-alloc.rest.now _ c.in_ok-link.after.now c.in_ok-link.ensures

pub read_links-loop-alloc-preserved : goal.read_links-loop-alloc-preserved
read_links-loop-alloc-preserved t c =
    let l = c.loop-alloc in
    let s = c.args.source in
    let b = binary c.args.level (operand s.text.now s.limit c.args.depth) in
    many_next number_of link_of [] (link c.args.level b) (link_shrinks c.args.level b) l.found.items c.push.new.self.items c.in_ok-link.link l.rest.now c.in_ok-link.after.now _ (sym (link_begins c.args.level b l.rest.now) ∙ sym (ap (λ cs. next_in number_of class_of cs l.rest.now) c.marks.ensures) ∙ sym c.loop-alloc-test.ensures) c.in_ok-link.ensures c.in_ok-push.ensures.items l.invariant

-- ---- places

pub read_named-returns : goal.read_named-returns
read_named-returns t c =
    rw c.in_ok-path.ensures (ap (λ (x : Expression). Ok (x, c.in_ok-path.rest.now)) (sym (named_is c.in_ok-path.path)))

pub read_more_steps-returns-in_err-part : goal.read_more_steps-returns-in_err-part
read_more_steps-returns-in_err-part t c =
    let l = c.loop-alloc in
    let s = c.args.source in
    let p = err_from_is_err_and c.from_residual.result c.from_residual.ensures.1 in
    rw (p.1, p.2) (items_halt number_of step_of (Dot ∷ OpenBracket ∷ []) (read number_of class_of [] (step s.text.now s.limit c.args.depth)) l.left l.found.items c.in_err-part.field-0.0 l.rest.now _ (omega arith) (sym c.loop-alloc-test.ensures) c.in_err-part.ensures l.invariant)

pub read_more_steps-loop-alloc-preserved : goal.read_more_steps-loop-alloc-preserved
read_more_steps-loop-alloc-preserved t c =
    let l = c.loop-alloc in
    let s = c.args.source in
    items_down number_of step_of (Dot ∷ OpenBracket ∷ []) (read number_of class_of [] (step s.text.now s.limit c.args.depth)) l.left l.found.items c.push.new.self.items c.in_ok-part.part l.rest.now c.in_ok-part.after.now _ (omega arith) (sym c.loop-alloc-test.ensures) c.in_ok-part.ensures c.in_ok-push.ensures.items l.invariant

pub read_more_steps-returns : goal.read_more_steps-returns
read_more_steps-returns t c =
    let l = c.loop-alloc in
    let s = c.args.source in
    items_end number_of step_of (Dot ∷ OpenBracket ∷ []) (read number_of class_of [] (step s.text.now s.limit c.args.depth)) l.left l.found.items l.rest.now _ (sym c.loop-alloc-test.ensures) l.invariant
