use Rattle.std.proofs.Common.{◌-◌, [], ◌∷◌, vec_len}
use Rattle.trick_body_symbols.specs.Expressions.{names}
use Rattle.trick_body_symbols.specs.Symbols.{number_of}
use Rattle.trick_body_symbols.specs.declared.symbol.Symbol.TheVariants as the
use Rattle.trick_grammar.proofs.Trailing.{Separating}
use Rattle.trick_grammar.specs.Gives.{class_of}
use Rattle.trick_grammar.specs.Reading.{prefixed, read}
use Rattle.trick_grammar.specs.Separated.{more_items}
use Rattle.trick_sdef_classes.specs.Members.{item_body}
use Rattle.trick_sdef_classes.specs.Trees.{item_of}
use Rattle.trick_sdef_classes.proofs.enums.read_more_items.Given as goal

abbrev pub invariant-loop-alloc : goal.invariant-loop-alloc
invariant-loop-alloc l =
    let body = item_body l.source.text.now in
    Separating number_of [] the.Comma names (the.Assign ∷ []) body item_of (l.source.limit - 1) (prefixed (item_of l.fn.first ∷ []) (read number_of class_of [] (more_items the.Comma names (the.Assign ∷ []) body (l.source.limit - 1)) l.fn.rest)) l.found.items (vec_len l.found) l.rest

abbrev pub decreases-loop-alloc : goal.decreases-loop-alloc
decreases-loop-alloc l = l.source.limit - vec_len l.found
