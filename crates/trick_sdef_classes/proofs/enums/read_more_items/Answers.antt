use Rattle.std.proofs.Common.{◌≡◌, ◌+◌, ◌-◌, [], ◌∷◌, sym, arith, vec_len, subst}
use Rattle.std.proofs.lemmas.Result.{err_from_is_err_and}
use Rattle.trick_body_symbols.specs.Expressions.{names}
use Rattle.trick_body_symbols.specs.Symbols.{number_of}
use Rattle.trick_body_symbols.specs.declared.symbol.Symbol.TheVariants as the
use Rattle.trick_grammar.proofs.Trailing.{Separating, separating_end, separating_full, separating_last, separating_next, separating_stops}
use Rattle.trick_grammar.specs.Gives.{class_of}
use Rattle.trick_grammar.specs.Reading.{prefixed, read}
use Rattle.trick_grammar.specs.Separated.{more_items}
use Rattle.trick_sdef_classes.specs.Members.{item_body}
use Rattle.trick_sdef_classes.specs.Trees.{item_of}
use Rattle.trick_sdef_classes.proofs.enums.read_more_items.Goals as goal

pub returns-then-not-next_is_one_of : goal.returns-then-not-next_is_one_of
returns-then-not-next_is_one_of c =
    let l = c.loop-alloc in
    separating_last number_of [] the.Comma names (the.Assign ∷ []) (item_body c.args.source.text.now) item_of (c.args.source.limit - 1) _ l.found.items (vec_len l.found) l.rest.now c.in_ok-after.field-0-0.now c.in_ok-after.after.now l.invariant (sym c.loop-alloc-test.ensures) c.in_ok-after.ensures (sym c.if-not-next_is_one_of.ensures)

pub returns-then-len-source : goal.returns-then-len-source
returns-then-len-source c =
    let l = c.loop-alloc in
    separating_full number_of [] the.Comma names (the.Assign ∷ []) (item_body c.args.source.text.now) item_of (c.args.source.limit - 1) _ l.found.items (vec_len l.found) l.rest.now c.in_ok-after.field-0-0.now c.in_ok-after.after.now l.invariant (omega (arith, c.len.ensures)) (sym c.loop-alloc-test.ensures) c.in_ok-after.ensures (sym c.if-not-next_is_one_of.ensures)

pub returns-in_err-item : goal.returns-in_err-item
returns-in_err-item c =
    let l = c.loop-alloc in
    let p = err_from_is_err_and c.from_residual-in_err-item.result c.from_residual-in_err-item.ensures.1 in
    rw (p.1, p.2) (separating_stops number_of [] the.Comma names (the.Assign ∷ []) (item_body c.args.source.text.now) item_of (c.args.source.limit - 1) _ l.found.items (vec_len l.found) l.rest.now c.in_ok-after.field-0-0.now c.in_ok-after.after.now c.in_err-item.field-0.0 l.invariant (omega (arith, c.len.ensures)) (sym c.loop-alloc-test.ensures) c.in_ok-after.ensures (sym c.if-not-next_is_one_of.ensures) c.in_err-item.ensures)

pub loop-alloc-preserved : goal.loop-alloc-preserved
loop-alloc-preserved c =
    let l = c.loop-alloc in
    let body = item_body c.args.source.text.now in
    let len : vec_len c.push-in-loop-alloc.new.self ≡ vec_len l.found + 1 = c.in_ok-push-2.ensures.len in
    subst (λ k. Separating number_of [] the.Comma names (the.Assign ∷ []) body item_of (c.args.source.limit - 1) (prefixed (item_of c.args.first ∷ []) (read number_of class_of [] (more_items the.Comma names (the.Assign ∷ []) body (c.args.source.limit - 1)) c.args.rest.now)) c.push-in-loop-alloc.new.self.items k c.in_ok-item.after.now) (sym len)
    (separating_next number_of [] the.Comma names (the.Assign ∷ []) body item_of (c.args.source.limit - 1) _ l.found.items c.push-in-loop-alloc.new.self.items (vec_len l.found) l.rest.now c.in_ok-after.field-0-0.now c.in_ok-after.after.now c.in_ok-item.item c.in_ok-item.after.now l.invariant (omega (arith, c.len.ensures)) (sym c.loop-alloc-test.ensures) c.in_ok-after.ensures (sym c.if-not-next_is_one_of.ensures) c.in_ok-item.ensures c.in_ok-push-2.ensures.items)

pub returns : goal.returns
returns c =
    let l = c.loop-alloc in
    separating_end number_of [] the.Comma names (the.Assign ∷ []) (item_body c.args.source.text.now) item_of (c.args.source.limit - 1) _ l.found.items (vec_len l.found) l.rest.now l.invariant (sym c.loop-alloc-test.ensures)
