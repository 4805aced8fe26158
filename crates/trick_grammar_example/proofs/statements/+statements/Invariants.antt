use Rattle.std.proofs.Common.{◌≡◌, ◌+◌, ◌*◌, ◌≤◌, ◌-◌, [], ◌∷◌, length, vec_len}
use Rattle.trick_grammar.proofs.Loops.{items_left, links_left}
use Rattle.trick_grammar.specs.Gives.{class_of}
use Rattle.trick_grammar.specs.Grammar.{repetition, nearest}
use Rattle.trick_grammar.specs.Reading.{read}
use Rattle.trick_grammar_example.specs.Statements.{statement, statement_first, link}
use Rattle.trick_grammar_example.specs.Trees.{statement_of}
use Rattle.trick_grammar_example.specs.Words.{number_of}
use Rattle.trick_grammar_example.specs.declared.word.Word.TheVariants.{Else}
use Rattle.trick_grammar_example.proofs.Predictive.{link_shrinks}
use Rattle.trick_grammar_example.proofs.statements.+statements.Given as goal

-- 10 for each level that may still nest

abbrev pub decreases-read_statement : goal.decreases-read_statement
decreases-read_statement l = 10 * l.depth

abbrev pub decreases-read_nested : goal.decreases-read_nested
decreases-read_nested l = 10 * l.depth + 9

abbrev pub decreases-read_choice : goal.decreases-read_choice
decreases-read_choice l = 10 * l.depth + 8

abbrev pub decreases-read_links : goal.decreases-read_links
decreases-read_links l = 10 * l.depth + 7

abbrev pub decreases-read_link : goal.decreases-read_link
decreases-read_link l = 10 * l.depth + 6

abbrev pub decreases-read_when : goal.decreases-read_when
decreases-read_when l = 10 * l.depth + 5

abbrev pub decreases-read_other : goal.decreases-read_other
decreases-read_other l = 10 * l.depth + 5

abbrev pub decreases-read_loop : goal.decreases-read_loop
decreases-read_loop l = 10 * l.depth + 4

abbrev pub decreases-read_scoped : goal.decreases-read_scoped
decreases-read_scoped l = 10 * l.depth + 3

abbrev pub decreases-read_turns : goal.decreases-read_turns
decreases-read_turns l = 10 * l.depth + 2

abbrev pub decreases-read_block : goal.decreases-read_block
decreases-read_block l = 10 * l.depth + 2

abbrev pub decreases-read_statements : goal.decreases-read_statements
decreases-read_statements l = 10 * l.depth + 1

abbrev pub invariant-read_statements-loop-alloc : goal.invariant-read_statements-loop-alloc
invariant-read_statements-loop-alloc l = record {
  few : vec_len l.found ≤ l.source.limit;
  going : items_left number_of statement_of statement_first (read number_of class_of l.source.scope.now (statement l.source.text.now l.source.limit l.depth)) (l.source.limit - vec_len l.found) l.found.items l.rest ≡ read number_of class_of l.source.scope.now (repetition l.source.limit (statement l.source.text.now l.source.limit l.depth)) l.fn.rest;
}

abbrev pub decreases-read_statements-loop-alloc : goal.decreases-read_statements-loop-alloc
decreases-read_statements-loop-alloc l = l.source.limit - vec_len l.found

abbrev pub invariant-read_links-loop-alloc : goal.invariant-read_links-loop-alloc
invariant-read_links-loop-alloc l = links_left number_of statement_of (Else ∷ []) (read number_of class_of l.source.scope.now (link l.source.text.now l.source.limit l.depth)) (link_shrinks l.source.text.now l.source.limit l.depth l.source.scope.now) l.found.items l.rest ≡ read number_of class_of l.source.scope.now (nearest (link l.source.text.now l.source.limit l.depth)) l.fn.rest

abbrev pub decreases-read_links-loop-alloc : goal.decreases-read_links-loop-alloc
decreases-read_links-loop-alloc l = length l.rest
