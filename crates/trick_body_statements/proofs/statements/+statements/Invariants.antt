use Rattle.std.proofs.Common.{◌≡◌, ◌+◌, ◌*◌, [], ◌∷◌, length, map}
use Rattle.trick_body_symbols.specs.Statements.{choice_rest, else_link, statement, statement_first}
use Rattle.trick_body_symbols.specs.Symbols.{number_of}
use Rattle.trick_body_statements.specs.Trees.{branch_of}
use Rattle.trick_body_symbols.specs.declared.symbol.Symbol.TheVariants.{Else}
use Rattle.trick_body_statements.proofs.StatementTests.{else_shrinks}
use Rattle.trick_grammar.proofs.Loops.{items_left, links_left}
use Rattle.trick_grammar.specs.Gives.{class_of}
use Rattle.trick_grammar.specs.Grammar.{repetition}
use Rattle.trick_grammar.specs.Reading.{read}
use Rattle.trick_lang.specs.Syntax.{statement_of}
use Rattle.trick_body_statements.proofs.statements.+statements.Given as goal

-- 20 for each level that may still nest

abbrev pub decreases-read_inside : goal.decreases-read_inside
decreases-read_inside l = 20 * l.depth + 19

abbrev pub decreases-read_choice : goal.decreases-read_choice
decreases-read_choice l = 20 * l.depth + 8

abbrev pub decreases-read_elses : goal.decreases-read_elses
decreases-read_elses l = 20 * l.depth + 7

abbrev pub decreases-read_else : goal.decreases-read_else
decreases-read_else l = 20 * l.depth + 6

abbrev pub decreases-read_loop : goal.decreases-read_loop
decreases-read_loop l = 20 * l.depth + 7

abbrev pub decreases-read_scoped : goal.decreases-read_scoped
decreases-read_scoped l = 20 * l.depth + 6

abbrev pub decreases-read_turns : goal.decreases-read_turns
decreases-read_turns l = 20 * l.depth + 5

abbrev pub decreases-read_test : goal.decreases-read_test
decreases-read_test l = 20 * l.depth + 5

abbrev pub decreases-read_branch : goal.decreases-read_branch
decreases-read_branch l = 20 * l.depth + 4

abbrev pub decreases-read_otherwise : goal.decreases-read_otherwise
decreases-read_otherwise l = 20 * l.depth + 4

abbrev pub decreases-read_block : goal.decreases-read_block
decreases-read_block l = 20 * l.depth + 3

abbrev pub decreases-read_statements : goal.decreases-read_statements
decreases-read_statements l = 20 * l.depth + 2

abbrev pub decreases-read_statement : goal.decreases-read_statement
decreases-read_statement l = 20 * l.depth + 1

abbrev pub decreases-read_unblocked : goal.decreases-read_unblocked
decreases-read_unblocked l = 20 * l.depth + 1

abbrev pub decreases-read_unbranched : goal.decreases-read_unbranched
decreases-read_unbranched l = 20 * l.depth + 1

abbrev pub decreases-read_level : goal.decreases-read_level
decreases-read_level l = 20 * l.depth

abbrev pub invariant-read_statements-loop-alloc : goal.invariant-read_statements-loop-alloc
invariant-read_statements-loop-alloc l =
    let s = statement l.source.text.now l.source.limit l.depth in
    items_left number_of statement_of statement_first (read number_of class_of l.source.scope.now s) l.left l.found.items l.rest ≡ read number_of class_of l.source.scope.now (repetition l.source.limit s) l.fn.rest

abbrev pub decreases-read_statements-loop-alloc : goal.decreases-read_statements-loop-alloc
decreases-read_statements-loop-alloc l = l.left

abbrev pub invariant-read_elses-loop-alloc : goal.invariant-read_elses-loop-alloc
invariant-read_elses-loop-alloc l =
    links_left number_of branch_of (Else ∷ []) (read number_of class_of l.source.scope.now (else_link l.source.text.now l.source.limit l.depth)) (else_shrinks l.source.text.now l.source.limit l.depth l.source.scope.now) l.found.items l.rest
    ≡ read number_of class_of l.source.scope.now (choice_rest l.source.text.now l.source.limit l.depth (map branch_of l.fn.found.items)) l.fn.rest

abbrev pub decreases-read_elses-loop-alloc : goal.decreases-read_elses-loop-alloc
decreases-read_elses-loop-alloc l = length l.rest
