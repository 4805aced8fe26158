use Rattle.std.proofs.Common.{◌≡◌, ◌+◌, ◌-◌, [], ◌∷◌, sym, arith, ◌∙◌, ap, vec_len}
use Rattle.std.proofs.lemmas.Result.{err_from_is_err_and}
use Rattle.trick_grammar.proofs.Loops.{items_left, items_next, links_next}
use Rattle.trick_grammar.proofs.Scopes.{scope_reads, scope_stops}
use Rattle.trick_grammar.specs.Gives.{class_of}
use Rattle.trick_grammar.specs.Reading.{read}
use Rattle.trick_grammar.specs.declared.refusal.Refusal.TheVariants.{BadHeader}
use Rattle.trick_grammar_example.specs.Statements.{statement, statement_first, link, turns_with}
use Rattle.trick_grammar_example.specs.Trees.{statement_of}
use Rattle.trick_grammar_example.specs.Words.{number_of}
use Rattle.trick_grammar_example.specs.declared.word.Word.TheVariants.{Else, Name}
use Rattle.trick_grammar_example.proofs.Predictive.{link_shrinks}
use Rattle.trick_grammar_example.proofs.statements.+statements.Goals as goal

pub read_statements-loop-alloc-preserved : goal.read_statements-loop-alloc-preserved
read_statements-loop-alloc-preserved t c =
    let l = c.loop-alloc in
    let s = c.args.source in
    let r = read number_of class_of s.scope.now (statement s.text.now s.limit c.args.depth) in
    let len : vec_len c.push.new.self ≡ vec_len l.found + 1 = c.in_ok-push.ensures.len in
    record {
      few = omega arith;
      going = ap (λ k. items_left number_of statement_of statement_first r (s.limit - k) c.push.new.self.items c.in_ok-statement.after.now) len
          ∙ items_next number_of statement_of statement_first r s.limit (vec_len l.found) l.found.items c.push.new.self.items c.in_ok-statement.statement l.rest.now c.in_ok-statement.after.now _ (omega arith) (sym c.loop-alloc-test.ensures) c.in_ok-statement.ensures c.in_ok-push.ensures.items l.invariant.going;
    }

pub read_links-loop-alloc-preserved : goal.read_links-loop-alloc-preserved
read_links-loop-alloc-preserved t c =
    let l = c.loop-alloc in
    let s = c.args.source in
    let r = read number_of class_of s.scope.now (link s.text.now s.limit c.args.depth) in
    links_next number_of statement_of (Else ∷ []) r (link_shrinks s.text.now s.limit c.args.depth s.scope.now) l.found.items c.push.new.self.items c.in-Onward.branch l.rest.now c.in_ok-link.after.now _ (sym c.loop-alloc-test.ensures) (rw c.in-Onward.is at c.in_ok-link.ensures) c.in_ok-push-in-Onward.ensures.items l.invariant

pub read_links-loop-alloc-smaller : goal.read_links-loop-alloc-smaller
read_links-loop-alloc-smaller t c =
    let s = c.args.source in
    link_shrinks s.text.now s.limit c.args.depth s.scope.now c.loop-alloc.rest.now _ c.in_ok-link.after.now c.in_ok-link.ensures

pub read_scoped-returns-in_err-header : goal.read_scoped-returns-in_err-header
read_scoped-returns-in_err-header t c =
    let s = c.args.source in
    let inside = turns_with s.text.now (statement s.text.now s.limit c.args.depth) in
    let p = err_from_is_err_and c.from_residual-in_err-header.result c.from_residual-in_err-header.ensures.1 in
    rw (p.1, p.2) (scope_stops number_of s.scope.now c.as_slice.result.now BadHeader (Name ∷ []) inside c.args.rest.now c.in_ok-name.name.now c.in_ok-name.rest.now c.in_ok-name.ensures (c.as_slice.ensures.value ∙ c.in_ok-scope.ensures) c.in_err-header.field-0.0 c.in_err-header.ensures)

pub read_scoped-returns : goal.read_scoped-returns
read_scoped-returns t c =
    let s = c.args.source in
    let inside = turns_with s.text.now (statement s.text.now s.limit c.args.depth) in
    scope_reads number_of s.scope.now c.as_slice.result.now BadHeader (Name ∷ []) inside c.args.rest.now c.in_ok-name.name.now c.in_ok-name.rest.now c.in_ok-name.ensures (c.as_slice.ensures.value ∙ c.in_ok-scope.ensures) _ c.in_ok-header.rest.now c.in_ok-header.ensures
