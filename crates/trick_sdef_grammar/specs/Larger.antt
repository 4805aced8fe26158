-- Which refusals come of a limit.
use Rattle.std.specs.Prelude.{◌≡◌, ◌⊎◌, true, false, List, [], ◌∷◌, ◌++◌, Result, Ok, Err}
use Rattle.trick_body_symbols.specs.Expressions.{Of}
use Rattle.trick_body_symbols.specs.Symbols.{number_of, Token}
use Rattle.trick_body_symbols.specs.declared.symbol.Symbol.{Symbol}
use Rattle.trick_body_symbols.specs.declared.symbol.Symbol.TheVariants as the
use Rattle.trick_grammar.specs.Classes.{is_one_of}
use Rattle.trick_grammar.specs.Gives.{class_of}
use Rattle.trick_grammar.specs.Larger.{is_limit}
use Rattle.trick_grammar.specs.Reading.{Refused}
use Rattle.trick_grammar.specs.Text.{GoesOn, read_all}
use Rattle.trick_grammar.specs.declared.refusal.Refusal.TheVariants.{NotInProfile}
use Rattle.trick_lang.specs.SyntaxTree.{SDefine}

-- the threads and phases that are not in the profile, with which a job may seem to begin
abbrev pub outside : List Symbol
outside = the.OtherThread ∷ the.OtherPhase ∷ []

-- What an answer says of a grammar with larger limits: where a limit is the reason of a refusal, some
-- text of that grammar goes on with the token, or the token is a thread or a phase that is not in the
-- profile, and that grammar refuses it so; and each other answer stays the same.
abbrev pub TellsLimits : Of SDefine → List Token → Result SDefine (Refused Token) → Type 0
TellsLimits h ts (Ok x) = read_all number_of class_of h ts ≡ Ok x
TellsLimits h ts (Err z) = (is_limit z.kind ≡ false → read_all number_of class_of h ts ≡ Err z)
    × (is_limit z.kind ≡ true → (front : List Token) × (t : Token) × (more : List Token) × (z.rest ≡ t ∷ more)
    × (ts ≡ front ++ t ∷ more)
    × (GoesOn number_of class_of h (front ++ t ∷ [])
    ⊎ ((is_one_of number_of t.class outside ≡ true)
    × (read_all number_of class_of h ts ≡ Err (record { kind = NotInProfile; rest = z.rest })))))
