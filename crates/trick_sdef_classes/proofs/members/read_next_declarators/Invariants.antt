use Rattle.std.proofs.Common.{◌≡◌, ◌-◌, [], ◌∷◌, ◌++◌}
use Rattle.trick_body_symbols.specs.Expressions.{names}
use Rattle.trick_body_symbols.specs.Statements.{basic_first}
use Rattle.trick_body_symbols.specs.Symbols.{number_of}
use Rattle.trick_body_symbols.specs.declared.symbol.Symbol.TheVariants as the
use Rattle.trick_grammar.proofs.Loops.{items_left}
use Rattle.trick_grammar.specs.Gives.{class_of}
use Rattle.trick_grammar.specs.Grammar.{repetition}
use Rattle.trick_grammar.specs.Reading.{read}
use Rattle.trick_sdef_classes.specs.Members.{next_declarator}
use Rattle.trick_sdef_classes.specs.Trees.{declarator_of}
use Rattle.trick_sdef_classes.proofs.members.read_next_declarators.Given as goal

abbrev pub invariant-loop-alloc : goal.invariant-loop-alloc
invariant-loop-alloc l =
    let r = next_declarator l.source.text.now in
    items_left number_of declarator_of (the.Comma ∷ []) (read number_of class_of [] r) l.left l.found.items l.rest ≡ read number_of class_of [] (repetition (l.source.limit - 1) r) l.fn.rest

abbrev pub decreases-loop-alloc : goal.decreases-loop-alloc
decreases-loop-alloc l = l.left
