use Rattle.std.proofs.Common.{◌≡◌, ◌+◌, ◌*◌, [], length}
use Rattle.trick_grammar.proofs.Loops.{many_left}
use Rattle.trick_grammar.specs.Gives.{class_of}
use Rattle.trick_grammar.specs.Grammar.{any_number}
use Rattle.trick_grammar.specs.Reading.{read}
use Rattle.trick_grammar_example.specs.Statements.{binary, link_at, operand}
use Rattle.trick_grammar_example.specs.Trees.{expression_of}
use Rattle.trick_grammar_example.specs.Words.{number_of}
use Rattle.trick_grammar_example.proofs.Chains.{link_shrinks}
use Rattle.trick_grammar_example.proofs.sums.+sums.Given as goal

abbrev pub decreases-read_binary : goal.decreases-read_binary
decreases-read_binary l = 12 * l.depth + 4 * l.level + 1

abbrev pub decreases-read_level : goal.decreases-read_level
decreases-read_level l = 12 * l.depth + 4 * l.level + 4

abbrev pub decreases-read_links : goal.decreases-read_links
decreases-read_links l = 12 * l.depth + 4 * l.level + 3

abbrev pub decreases-read_link : goal.decreases-read_link
decreases-read_link l = 12 * l.depth + 4 * l.level + 2

abbrev pub decreases-read_operand : goal.decreases-read_operand
decreases-read_operand l = 12 * l.depth

abbrev pub decreases-read_inner : goal.decreases-read_inner
decreases-read_inner l = 12 * l.depth + 11

abbrev pub invariant-read_links-loop-alloc : goal.invariant-read_links-loop-alloc
invariant-read_links-loop-alloc l =
    let b = binary l.level (operand l.depth) in
    many_left number_of expression_of [] (link_at l.level b) (link_shrinks l.level b) l.found.items l.rest ≡ read number_of class_of [] (any_number (link_at l.level b)) l.fn.rest

abbrev pub decreases-read_links-loop-alloc : goal.decreases-read_links-loop-alloc
decreases-read_links-loop-alloc l = length l.rest
