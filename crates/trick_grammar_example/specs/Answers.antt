-- What reading a whole text answers.
use Rattle.std.specs.Prelude.{◌≡◌, ℕ, List, ◌++◌, Result, Ok, Err}
use Rattle.trick_grammar.specs.Gives.{class_of}
use Rattle.trick_grammar.specs.Text.{IsText, IsRefusedAt, read_all}
use Rattle.trick_grammar_example.specs.Statements.{Of}
use Rattle.trick_grammar_example.specs.Told.{told_line}
use Rattle.trick_grammar_example.specs.Words.{number_of, spelled, Token}
use Rattle.trick_grammar_example.specs.declared.program.Fault.{Fault}
use Rattle.trick_grammar_example.specs.declared.program.Fault.TheVariants.{OutOfMemory, Refused}

-- Ok is the one value of the text. A refusal is of the first token with which no text goes on, for the
-- reason for which reading refuses it, and with the line at which that reason is told.
abbrev pub Answers : {X Y : Type 0} → (X → Y) → Of Y → List Token → ℕ → Result X Fault → Type 0
Answers {X} {Y} view g ts last_line (Ok x) = IsText number_of class_of g ts (view x)
    × ((y : Y) → IsText number_of class_of g ts y → y ≡ view x)
Answers view g ts last_line (Err OutOfMemory) = Unit {0}
Answers view g ts last_line (Err (Refused kind line)) =
    (front rest : List Token) × (ts ≡ front ++ rest) × IsRefusedAt number_of class_of spelled g ts rest
    × (line ≡ told_line last_line kind front rest)
    × (read_all number_of class_of g ts ≡ Err (record { kind = kind; rest = rest }))
