use Rattle.std.proofs.Common.{[], ◌∷◌, sym, arith, ◌∙◌}
use Rattle.std.proofs.lemmas.Result.{err_from_is_err_and}
use Rattle.trick_body_symbols.specs.Expressions.{names}
use Rattle.trick_body_symbols.specs.Statements.{branch, else_link, statement, statement_first, turns_with}
use Rattle.trick_body_symbols.specs.Symbols.{number_of}
use Rattle.trick_body_statements.specs.Trees.{branch_of}
use Rattle.trick_body_symbols.specs.declared.symbol.Symbol.TheVariants.{Else}
use Rattle.trick_body_statements.proofs.StatementTests.{else_shrinks}
use Rattle.trick_grammar.proofs.Loops.{items_down, links_next}
use Rattle.trick_grammar.proofs.Scopes.{scope_reads, scope_stops}
use Rattle.trick_grammar.specs.Gives.{class_of}
use Rattle.trick_grammar.specs.Reading.{read}
use Rattle.trick_grammar.specs.declared.refusal.Refusal.TheVariants.{BadHeader}
use Rattle.trick_lang.specs.Syntax.{statement_of}
use Rattle.trick_body_statements.proofs.statements.+statements.Goals as goal

pub read_statements-loop-alloc-preserved : goal.read_statements-loop-alloc-preserved
read_statements-loop-alloc-preserved t c =
    let l = c.loop-alloc in
    let s = c.args.source in
    items_down number_of statement_of statement_first (read number_of class_of s.scope.now (statement s.text.now s.limit c.args.depth)) l.left l.found.items c.push.new.self.items c.in_ok-statement.statement l.rest.now c.in_ok-statement.after.now _ (omega arith) (sym c.loop-alloc-test.ensures) c.in_ok-statement.ensures c.in_ok-push.ensures.items l.invariant

pub read_elses-loop-alloc-smaller : goal.read_elses-loop-alloc-smaller
read_elses-loop-alloc-smaller t c =
    let s = c.args.source in
    else_shrinks s.text.now s.limit c.args.depth s.scope.now c.loop-alloc.rest.now _ c.in_ok-link.after.now c.in_ok-link.ensures

pub read_elses-loop-alloc-preserved : goal.read_elses-loop-alloc-preserved
read_elses-loop-alloc-preserved t c =
    let l = c.loop-alloc in
    let s = c.args.source in
    links_next number_of branch_of (Else ∷ []) (read number_of class_of s.scope.now (else_link s.text.now s.limit c.args.depth)) (else_shrinks s.text.now s.limit c.args.depth s.scope.now) l.found.items c.push.new.self.items c.in-Onward.branch l.rest.now c.in_ok-link.after.now _ (sym c.loop-alloc-test.ensures) (rw c.in-Onward.is at c.in_ok-link.ensures) c.in_ok-push-in-Onward.ensures.items l.invariant

pub read_scoped-returns-in_err-header : goal.read_scoped-returns-in_err-header
read_scoped-returns-in_err-header t c =
    let s = c.args.source in
    let inside = turns_with s.text.now s.limit (branch s.text.now s.limit c.args.depth) in
    let p = err_from_is_err_and c.from_residual-in_err-header.result c.from_residual-in_err-header.ensures.1 in
    rw (p.1, p.2) (scope_stops number_of s.scope.now c.as_slice.result.now BadHeader names inside c.args.rest.now c.in_ok-name.name.now c.in_ok-name.rest.now c.in_ok-name.ensures (c.as_slice.ensures.value ∙ c.in_ok-scope.ensures) c.in_err-header.field-0.0 c.in_err-header.ensures)

pub read_scoped-returns : goal.read_scoped-returns
read_scoped-returns t c =
    let s = c.args.source in
    let inside = turns_with s.text.now s.limit (branch s.text.now s.limit c.args.depth) in
    scope_reads number_of s.scope.now c.as_slice.result.now BadHeader names inside c.args.rest.now c.in_ok-name.name.now c.in_ok-name.rest.now c.in_ok-name.ensures (c.as_slice.ensures.value ∙ c.in_ok-scope.ensures) _ c.in_ok-header.rest.now c.in_ok-header.ensures
