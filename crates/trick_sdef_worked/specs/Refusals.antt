-- What a grammar refuses of symbols alone, with the reason that is told and the place of the refused token,
-- counted from 0; no place is the end of the text.
use Rattle.std.specs.Prelude.{ℕ, ◌+◌, List, [], ◌∷◌, Option, Some, None, Result, Ok, Err}
use Rattle.trick_body_symbols.specs.Expressions.{Of}
use Rattle.trick_body_symbols.specs.Symbols.{number_of, Token}
use Rattle.trick_body_symbols.specs.Told.{told}
use Rattle.trick_body_symbols.specs.declared.symbol.Symbol.{Symbol}
use Rattle.trick_grammar.specs.Gives.{class_of}
use Rattle.trick_grammar.specs.Reading.{Refused}
use Rattle.trick_grammar.specs.Text.{read_all}
use Rattle.trick_grammar.specs.declared.refusal.Refusal.{Refusal}

-- tokens of these symbols, the first at the place n; what their bytes are makes no difference
abbrev pub tokens_from : ℕ → List Symbol → List Token
tokens_from n [] = []
tokens_from n (s ∷ ss) = record { class = s; start = n; end = n; number = 0; line = 1 } ∷ tokens_from (n + 1) ss

abbrev pub place_of : List Token → Option ℕ
place_of [] = None
place_of (t ∷ ts) = Some t.start

abbrev pub refusal_of : {A : Type 0} → Result A (Refused Token) → Option (Refusal × Option ℕ)
refusal_of (Ok x) = None
refusal_of (Err e) = Some (told e.kind e.rest, place_of e.rest)

-- what a grammar refuses these symbols for, and where
abbrev pub refusal_by : {A : Type 0} → Of A → List Symbol → Option (Refusal × Option ℕ)
refusal_by grammar symbols = refusal_of (read_all number_of class_of grammar (tokens_from 0 symbols))
