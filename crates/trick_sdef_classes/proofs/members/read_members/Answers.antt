use Rattle.std.proofs.Common.{arith, sym, [], ◌∷◌, ◌++◌}
use Rattle.std.proofs.lemmas.Result.{err_from_is_err_and}
use Rattle.trick_body_symbols.proofs.Countdown.{items_halt}
use Rattle.trick_body_symbols.specs.Expressions.{names}
use Rattle.trick_body_symbols.specs.Statements.{basic_first}
use Rattle.trick_body_symbols.specs.Symbols.{number_of}
use Rattle.trick_body_symbols.specs.declared.symbol.Symbol.TheVariants as the
use Rattle.trick_grammar.proofs.Loops.{items_down, items_end}
use Rattle.trick_grammar.specs.Gives.{class_of}
use Rattle.trick_grammar.specs.Reading.{read}
use Rattle.trick_sdef_classes.specs.Members.{member}
use Rattle.trick_lang.specs.Syntax.{members_of}
use Rattle.trick_sdef_classes.proofs.members.read_members.Goals as goal

pub returns-in_err-members : goal.returns-in_err-members
returns-in_err-members c =
    let l = c.loop-alloc in
    let p = err_from_is_err_and c.from_residual.result c.from_residual.ensures.1 in
    rw (p.1, p.2) (items_halt number_of members_of (basic_first ++ names) (read number_of class_of [] (member c.args.source.text.now c.args.source.limit)) l.left l.found.items c.in_err-members.field-0.0 l.rest.now _ (omega arith) (sym c.loop-alloc-test.ensures) c.in_err-members.ensures l.invariant)

pub loop-alloc-preserved : goal.loop-alloc-preserved
loop-alloc-preserved c =
    let l = c.loop-alloc in
    items_down number_of members_of (basic_first ++ names) (read number_of class_of [] (member c.args.source.text.now c.args.source.limit)) l.left l.found.items c.push.new.self.items c.in_ok-members.members l.rest.now c.in_ok-members.after.now _ (omega arith) (sym c.loop-alloc-test.ensures) c.in_ok-members.ensures c.in_ok-push.ensures.items l.invariant

pub returns : goal.returns
returns c =
    let l = c.loop-alloc in
    items_end number_of members_of (basic_first ++ names) (read number_of class_of [] (member c.args.source.text.now c.args.source.limit)) l.left l.found.items l.rest.now _ (sym c.loop-alloc-test.ensures) l.invariant
