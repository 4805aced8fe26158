-- The tokens of an input with what the forms of lines and their values see of them.
use Rattle.std.specs.Prelude.{ℕ, Bool, true, false, ◌&&◌, List, [], ◌∷◌, map, Result, Ok, Err, if◌then◌else◌}
use Rattle.trick_input.specs.Classes.{class_of, is}
use Rattle.trick_input.specs.declared.class.Class.{Class}
use Rattle.trick_input.specs.declared.class.Class.TheVariants as the
use Rattle.trick_text.specs.Numbers.{whole_value}
use Rattle.trick_text.specs.Seconds.{seconds_of}
use Rattle.trick_text.specs.Tokens.{spelling}
use Rattle.trick_text.specs.declared.fault.TimeFault.{TimeFault}
use Rattle.trick_text.specs.declared.token.Token.{Token}
use Rattle.trick_text.specs.declared.token.TokenKind.{TokenKind}
use Rattle.trick_text.specs.declared.token.TokenKind.TheVariants as kinds

-- a token with its class, its bytes, its number and its time
pub record Lexeme : Type 0 where
  pub class : Class
  pub bytes : List ℕ
  pub number : ℕ
  pub time : Result ℕ TimeFault

-- a whole number has its value, and another token 0
abbrev pub whole_in : TokenKind → List ℕ → ℕ
whole_in kinds.Name bytes = 0
whole_in kinds.Whole bytes = whole_value bytes
whole_in kinds.Decimal bytes = 0
whole_in kinds.Text bytes = 0
whole_in kinds.Mark bytes = 0

-- a number of seconds has its tics, or the fault of its line; another token 0
abbrev pub time_in : ℕ → TokenKind → List ℕ → Result ℕ TimeFault
time_in line kinds.Name bytes = Ok 0
time_in line kinds.Whole bytes = seconds_of line bytes
time_in line kinds.Decimal bytes = seconds_of line bytes
time_in line kinds.Text bytes = Ok 0
time_in line kinds.Mark bytes = Ok 0

-- a token of the text
abbrev pub lexeme_of : List ℕ → Token → Lexeme
lexeme_of text t = record {
  class = class_of t.kind (spelling text t);
  bytes = spelling text t;
  number = whole_in t.kind (spelling text t);
  time = time_in t.line t.kind (spelling text t);
}

abbrev pub lexemes_of : List ℕ → List Token → List Lexeme
lexemes_of text ts = map (lexeme_of text) ts

-- the classes of a line's tokens
abbrev pub classes : List Lexeme → List Class
classes ls = map (λ (l : Lexeme). l.class) ls

-- ---- `trick.sim_services.` is read as `trick.`

-- the words are `trick.sim_services`
abbrev pub is_services : Lexeme → Lexeme → Lexeme → Bool
is_services t d s = is t.class the.Trick && (is d.class the.Dot && is s.class the.Services)

-- After `trick.` the word `sim_services` and its point count nothing; where a fault of the text cuts the
-- line off after the word, its point may still come.
abbrev pub plain : Bool → List Lexeme → List Lexeme
plain cut [] = []
plain cut (t ∷ []) = t ∷ []
plain cut (t ∷ d ∷ []) = t ∷ d ∷ []
plain cut (t ∷ d ∷ s ∷ []) = if cut && is_services t d s then t ∷ d ∷ [] else t ∷ d ∷ s ∷ []
plain cut (t ∷ d ∷ s ∷ e ∷ ls) =
    if is_services t d s && is e.class the.Dot then t ∷ d ∷ plain cut ls
    else t ∷ plain cut (d ∷ s ∷ e ∷ ls)

-- a line of the text as the forms see it
abbrev pub line_of_words : List ℕ → Bool → List Token → List Lexeme
line_of_words text cut ts = plain cut (lexemes_of text ts)
