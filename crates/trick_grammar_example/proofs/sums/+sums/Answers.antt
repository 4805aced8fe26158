use Rattle.std.proofs.Common.{arith, ◌≡◌, length, [], ◌∷◌, Ok, List, sym, ◌∙◌, ap}
use Rattle.trick_grammar.proofs.Loops.{many_next}
use Rattle.trick_grammar.specs.Gives.{class_of}
use Rattle.trick_grammar.specs.StartsWith.{next_in}
use Rattle.trick_grammar_example.specs.Statements.{binary, link_at, operand}
use Rattle.trick_grammar_example.specs.Trees.{Expression, expression_of}
use Rattle.trick_grammar_example.specs.Words.{number_of}
use Rattle.trick_grammar_example.proofs.Chains.{chain_made, link_begins, link_shrinks, some_items}
use Rattle.trick_grammar_example.proofs.sums.+sums.Goals as goal

pub read_level-returns : goal.read_level-returns
read_level-returns t c =
    rw (c.in_ok-first.ensures, c.in_ok-links.ensures) (ap (λ (x : Expression). Ok (x, c.in_ok-links.rest.now)) (sym (chain_made c.in_ok-new.field-0 c.in_ok-links.links c.in_ok-first.first c.in_ok-new.ensures.ok (λ h. some_items _ (sym c.if-is_empty.ensures) (omega (arith, ap length h, c.in_ok-links.links.ok))))))

pub read_links-loop-alloc-smaller : goal.read_links-loop-alloc-smaller
read_links-loop-alloc-smaller t c = link_shrinks c.args.level (binary c.args.level (operand c.args.depth)) c.loop-alloc.rest.now _ c.in_ok-link.after.now c.in_ok-link.ensures

pub read_links-loop-alloc-preserved : goal.read_links-loop-alloc-preserved
read_links-loop-alloc-preserved t c =
    let l = c.loop-alloc in
    let b = binary c.args.level (operand c.args.depth) in
    many_next number_of expression_of [] (link_at c.args.level b) (link_shrinks c.args.level b) l.found.items c.push.new.self.items c.in_ok-link.link l.rest.now c.in_ok-link.after.now _ (sym (link_begins c.args.level b l.rest.now) ∙ sym (ap (λ cs. next_in number_of class_of cs l.rest.now) c.marks.ensures) ∙ sym c.loop-alloc-test.ensures) c.in_ok-link.ensures c.in_ok-push.ensures.items l.invariant
