use Rattle.std.proofs.Common.{arith, sym, [], ◌∷◌, ◌++◌}
use Rattle.std.proofs.lemmas.Result.{err_from_is_err_and}
use Rattle.trick_body_symbols.proofs.Countdown.{items_halt}
use Rattle.trick_body_symbols.specs.Expressions.{names}
use Rattle.trick_body_symbols.specs.Statements.{basic_first}
use Rattle.trick_body_symbols.specs.Symbols.{number_of}
use Rattle.trick_body_symbols.specs.declared.symbol.Symbol.TheVariants as the
use Rattle.trick_grammar.proofs.Loops.{items_down, items_end}
use Rattle.trick_grammar.specs.Gives.{class_of}
use Rattle.trick_grammar.specs.Reading.{read}
use Rattle.trick_sdef_classes.specs.Files.{definition}
use Rattle.trick_lang.specs.Syntax.{definition_of}
use Rattle.trick_sdef_classes.proofs.definitions.read_definitions.Goals as goal

pub returns-in_err-definition : goal.returns-in_err-definition
returns-in_err-definition c =
    let l = c.loop-alloc in
    let p = err_from_is_err_and c.from_residual.result c.from_residual.ensures.1 in
    rw (p.1, p.2) (items_halt number_of definition_of (the.Hash ∷ the.Enum ∷ the.Struct ∷ the.Class ∷ names) (read number_of class_of [] (definition c.args.source.text.now c.args.source.limit c.args.depth)) l.left l.found.items c.in_err-definition.field-0.0 l.rest.now _ (omega arith) (sym c.loop-alloc-test.ensures) c.in_err-definition.ensures l.invariant)

pub loop-alloc-preserved : goal.loop-alloc-preserved
loop-alloc-preserved c =
    let l = c.loop-alloc in
    items_down number_of definition_of (the.Hash ∷ the.Enum ∷ the.Struct ∷ the.Class ∷ names) (read number_of class_of [] (definition c.args.source.text.now c.args.source.limit c.args.depth)) l.left l.found.items c.push.new.self.items c.in_ok-definition.definition l.rest.now c.in_ok-definition.after.now _ (omega arith) (sym c.loop-alloc-test.ensures) c.in_ok-definition.ensures c.in_ok-push.ensures.items l.invariant

pub returns : goal.returns
returns c =
    let l = c.loop-alloc in
    items_end number_of definition_of (the.Hash ∷ the.Enum ∷ the.Struct ∷ the.Class ∷ names) (read number_of class_of [] (definition c.args.source.text.now c.args.source.limit c.args.depth)) l.left l.found.items l.rest.now _ (sym c.loop-alloc-test.ensures) l.invariant
