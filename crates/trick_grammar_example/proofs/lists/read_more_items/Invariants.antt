use Rattle.std.proofs.Common.{◌-◌, [], ◌∷◌, vec_len}
use Rattle.trick_grammar.proofs.Trailing.{Separating}
use Rattle.trick_grammar.specs.Gives.{class_of}
use Rattle.trick_grammar.specs.Reading.{prefixed, read}
use Rattle.trick_grammar_example.specs.Statements.{item, items_behind}
use Rattle.trick_grammar_example.specs.Words.{number_of}
use Rattle.trick_grammar_example.specs.declared.word.Word.TheVariants.{Name, Comma}
use Rattle.trick_grammar_example.proofs.lists.read_more_items.Given as goal

abbrev pub invariant-loop-rest : goal.invariant-loop-rest
invariant-loop-rest l = Separating number_of [] Comma (Name ∷ []) [] item (λ x. x) (l.limit - 1) (prefixed (l.fn.first ∷ []) (read number_of class_of [] (items_behind (l.limit - 1)) l.fn.rest)) l.found.items (vec_len l.found) l.rest

abbrev pub decreases-loop-rest : goal.decreases-loop-rest
decreases-loop-rest l = l.limit - vec_len l.found
