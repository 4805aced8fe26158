-- The line that a refusal is told with: two reasons stand for what is wrong with a loop, and each has
-- a line of its own.
use Rattle.std.specs.Prelude.{ℕ, List, [], ◌∷◌, if◌then◌else◌}
use Rattle.trick_grammar.specs.Classes.{is_one_of}
use Rattle.trick_grammar.specs.Gives.{line_of}
use Rattle.trick_grammar.specs.declared.refusal.Refusal.{Refusal}
use Rattle.trick_grammar.specs.declared.refusal.Refusal.TheVariants.{Expected, NotInProfile, TooLong, TooDeep, BadHeader, BadLoop, BadName, BadTime}
use Rattle.trick_grammar_example.specs.Words.{number_of, Token}
use Rattle.trick_grammar_example.specs.declared.word.Word.{Word}
use Rattle.trick_grammar_example.specs.declared.word.Word.TheVariants.{For, Name}

-- the line of the last token of a class, and the given one where there is none
abbrev pub last_line_of : Word → ℕ → List Token → ℕ
last_line_of word line [] = line
last_line_of word line (t ∷ ts) =
    last_line_of word (if is_one_of number_of t.class (word ∷ []) then t.line else line) ts

-- A bad header is told at its `for`, and an assignment to the name of a loop at that name, which is the
-- last one before the refused token. All else is told at the refused token, and at the last line where
-- the text ends. The front stands before the refused token.
abbrev pub told_line : ℕ → Refusal → List Token → List Token → ℕ
told_line last_line BadHeader front rest = last_line_of For last_line front
told_line last_line BadLoop front rest = last_line_of Name last_line front
told_line last_line Expected front rest = line_of last_line rest
told_line last_line NotInProfile front rest = line_of last_line rest
told_line last_line TooLong front rest = line_of last_line rest
told_line last_line TooDeep front rest = line_of last_line rest
told_line last_line BadName front rest = line_of last_line rest
told_line last_line BadTime front rest = line_of last_line rest
