-- The grammar of a declaration, and what a text declares.
use Rattle.std.specs.Prelude.{◌≡◌, ℕ, List, [], ◌∷◌, Option, Some, None, Result, Ok, Err, ◌⊎◌}
use Rattle.trick_body_symbols.specs.Expressions.{Of, name_of, names}
use Rattle.trick_body_symbols.specs.Lexemes.{lexemes_of}
use Rattle.trick_body_symbols.specs.Statements.{basic}
use Rattle.trick_body_symbols.specs.Symbols.{Token, number_of}
use Rattle.trick_body_symbols.specs.declared.symbol.Symbol.{Symbol}
use Rattle.trick_body_symbols.specs.declared.symbol.Symbol.TheVariants as the
use Rattle.trick_plan_variables.specs.declared.declaration.Declaration.{Declaration}
use Rattle.trick_plan_variables.specs.declared.spelled.SpelledDeclaration.{SpelledDeclaration}
use Rattle.trick_grammar.specs.Gives.{class_of}
use Rattle.trick_grammar.specs.Grammar.{act, one, optional, token, ◌⨾◌}
use Rattle.trick_grammar.specs.Reading.{Refused}
use Rattle.trick_grammar.specs.Text.{read_all}
use Rattle.trick_text.specs.Tokens.{AreAllTokens}
use Rattle.trick_text.specs.declared.token.Style.TheVariants.{Command}
use Rattle.trick_text.specs.declared.token.Token as cut

-- the whole numbers that a length can be: 0 is none
abbrev pub counts : List Symbol
counts = the.One ∷ the.Small ∷ the.Large ∷ the.Huge ∷ []

-- "[" WHOLE "]"
abbrev pub length : Of ℕ
length = act (λ v. v.1.0.number) (one the.OpenBracket ⨾ token counts ⨾ one the.CloseBracket)

-- the lengths, of which there are two at most
abbrev pub lengths_of : Option (ℕ × Option ℕ) → List ℕ
lengths_of None = []
lengths_of (Some v) = elim v.1 [ None ↦ v.0 ∷ [] | Some m ↦ v.0 ∷ m ∷ [] ]

-- [ "[" WHOLE "]" [ "[" WHOLE "]" ] ]
abbrev pub lengths : Of (List ℕ)
lengths = act lengths_of (optional (length ⨾ optional length))

-- declaration = basic NAME [ "[" WHOLE "]" [ "[" WHOLE "]" ] ], where `basic` is a type by its keywords
abbrev pub declaration : List ℕ → Of Declaration
declaration text =
    act (λ v. record { scalar = v.0.1; name = name_of text v.1.0; lengths = v.1.1 }) (basic ⨾ token names ⨾ lengths)

-- what was read, if it was
abbrev pub read_or_none : {A : Type 0} → Result A (Refused Token) → Option A
read_or_none (Ok a) = Some a
read_or_none (Err refused) = None

-- the declaration that these are all the tokens of
abbrev pub declaration_of : List ℕ → List cut.Token → Option Declaration
declaration_of text ts = read_or_none (read_all number_of class_of (declaration text) (lexemes_of text ts))

-- the declaration that a text has
abbrev pub declaration_in : Option SpelledDeclaration → Option Declaration
declaration_in None = None
declaration_in (Some known) = Some known.declaration

-- What a text declares: what its tokens are the declaration of, where it has tokens. It is cut in the style of
-- commands.
abbrev pub Declares : List ℕ → Option Declaration → Type 0
Declares text declared =
    ((ts : List cut.Token) × AreAllTokens Command text ts × (declared ≡ declaration_of text ts))
    ⊎ (((ts : List cut.Token) → AreAllTokens Command text ts → ⊥) × (declared ≡ None))
