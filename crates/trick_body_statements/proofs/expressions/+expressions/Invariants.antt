use Rattle.std.proofs.Common.{◌≡◌, ◌+◌, ◌*◌, [], ◌∷◌, length, map}
use Rattle.trick_body_symbols.specs.Expressions.{binary, choice, choose_of, link, nested, operand, step}
use Rattle.trick_body_symbols.specs.Symbols.{number_of}
use Rattle.trick_body_statements.specs.Trees.{link_of, step_of}
use Rattle.trick_body_symbols.specs.declared.nested.Nested.TheVariants.{Chosen}
use Rattle.trick_body_symbols.specs.declared.symbol.Symbol.TheVariants.{Dot, OpenBracket}
use Rattle.trick_body_statements.proofs.ExpressionTests.{choice_shrinks}
use Rattle.trick_body_statements.proofs.Lists.{chosen, folded, link_shrinks}
use Rattle.trick_grammar.proofs.Loops.{items_left, many_left}
use Rattle.trick_grammar.specs.Gives.{class_of}
use Rattle.trick_grammar.specs.Grammar.{act, any_number, repetition}
use Rattle.trick_grammar.specs.Reading.{prefixed, read}
use Rattle.trick_lang.specs.Syntax.{expression_of}
use Rattle.trick_body_statements.proofs.expressions.+expressions.Given as goal

-- 60 for each level that may still nest, and in it 4 for each level of precedence

abbrev pub decreases-read_inside : goal.decreases-read_inside
decreases-read_inside l = 60 * l.depth + 59

abbrev pub decreases-read_prefix : goal.decreases-read_prefix
decreases-read_prefix l = 60 * l.depth + 58

abbrev pub decreases-read_enclosed : goal.decreases-read_enclosed
decreases-read_enclosed l = 60 * l.depth + 58

abbrev pub decreases-read_expression : goal.decreases-read_expression
decreases-read_expression l = 60 * l.depth + 57

abbrev pub decreases-read_choices : goal.decreases-read_choices
decreases-read_choices l = 60 * l.depth + 56

abbrev pub decreases-read_choice : goal.decreases-read_choice
decreases-read_choice l = 60 * l.depth + 55

abbrev pub decreases-read_level : goal.decreases-read_level
decreases-read_level l = 60 * l.depth + 4 * l.level + 13

abbrev pub decreases-read_links : goal.decreases-read_links
decreases-read_links l = 60 * l.depth + 4 * l.level + 12

abbrev pub decreases-read_link : goal.decreases-read_link
decreases-read_link l = 60 * l.depth + 4 * l.level + 11

abbrev pub decreases-read_binary : goal.decreases-read_binary
decreases-read_binary l = 60 * l.depth + 4 * l.level + 10

abbrev pub decreases-read_operand : goal.decreases-read_operand
decreases-read_operand l = 60 * l.depth + 9

abbrev pub decreases-read_named : goal.decreases-read_named
decreases-read_named l = 60 * l.depth + 8

abbrev pub decreases-read_place : goal.decreases-read_place
decreases-read_place l = 60 * l.depth + 7

abbrev pub decreases-read_steps : goal.decreases-read_steps
decreases-read_steps l = 60 * l.depth + 6

abbrev pub decreases-read_more_steps : goal.decreases-read_more_steps
decreases-read_more_steps l = 60 * l.depth + 5

abbrev pub decreases-read_step : goal.decreases-read_step
decreases-read_step l = 60 * l.depth + 4

abbrev pub decreases-read_nested : goal.decreases-read_nested
decreases-read_nested l = 60 * l.depth

abbrev pub invariant-read_choices-loop-alloc : goal.invariant-read_choices-loop-alloc
invariant-read_choices-loop-alloc l =
    let c = choice (nested l.source.text.now l.source.limit Chosen l.depth) (operand l.source.text.now l.source.limit l.depth) in
    folded c (choice_shrinks l.source.text.now l.source.limit l.depth) (chosen l.found.items (expression_of l.last)) l.rest ≡ read number_of class_of [] (act (choose_of (expression_of l.fn.first)) (any_number c)) l.fn.rest

abbrev pub decreases-read_choices-loop-alloc : goal.decreases-read_choices-loop-alloc
decreases-read_choices-loop-alloc l = length l.rest

abbrev pub invariant-read_links-loop-alloc : goal.invariant-read_links-loop-alloc
invariant-read_links-loop-alloc l =
    let b = binary l.level (operand l.source.text.now l.source.limit l.depth) in
    many_left number_of link_of [] (link l.level b) (link_shrinks l.level b) l.found.items l.rest ≡ read number_of class_of [] (any_number (link l.level b)) l.fn.rest

abbrev pub decreases-read_links-loop-alloc : goal.decreases-read_links-loop-alloc
decreases-read_links-loop-alloc l = length l.rest

abbrev pub invariant-read_more_steps-loop-alloc : goal.invariant-read_more_steps-loop-alloc
invariant-read_more_steps-loop-alloc l =
    let s = step l.source.text.now l.source.limit l.depth in
    items_left number_of step_of (Dot ∷ OpenBracket ∷ []) (read number_of class_of [] s) l.left l.found.items l.rest ≡ prefixed (map step_of l.fn.so_far.0.items) (read number_of class_of [] (repetition l.fn.so_far.1 s) l.fn.rest)

abbrev pub decreases-read_more_steps-loop-alloc : goal.decreases-read_more_steps-loop-alloc
decreases-read_more_steps-loop-alloc l = l.left
