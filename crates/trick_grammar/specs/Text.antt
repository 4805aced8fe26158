-- Whole texts: which lists of tokens are texts of a grammar, and what an exact answer is.
use Rattle.std.specs.Prelude.{◌≡◌, ◌⊎◌, ℕ, List, [], ◌∷◌, ◌++◌, Contains, Result, Ok, Err}
use Rattle.trick_grammar.specs.Grammar.{Grammar}
use Rattle.trick_grammar.specs.StartsWith.{Each, StartsWith}
use Rattle.trick_grammar.specs.Reading.{Refused, Reading, read}
use Rattle.trick_grammar.specs.declared.refusal.Refusal.TheVariants.{Expected}

-- the value where no token is left; a token after a text is not expected
abbrev pub at_end : {T A : Type 0} → Reading T A → Result A (Refused T)
at_end (Ok (x, [])) = Ok x
at_end (Ok (x, t ∷ ts)) = Err (record { kind = Expected; rest = t ∷ ts })
at_end (Err e) = Err e

module _ {C T : Type 0} (number : C → ℕ) (class : T → C) where
  -- what reading all of the tokens gives
  abbrev pub read_all : {A : Type 0} → Grammar C T A → List T → Result A (Refused T)
  read_all g ts = at_end (read number class [] g ts)

  -- all of the tokens are a text of the grammar, with this value
  abbrev pub IsText : {A : Type 0} → Grammar C T A → List T → A → Type 0
  IsText g ts x = StartsWith number class [] g ts x []

  -- some text of the grammar begins with these tokens
  abbrev pub GoesOn : {A : Type 0} → Grammar C T A → List T → Type 0
  GoesOn {A} g ts = (more : List T) × (x : A) × IsText g (ts ++ more) x

  module _ (spelled : C → T) where
    -- a token that any text may have: one spelled for its class, or one of this text
    abbrev pub IsOffered : List T → T → Type 0
    IsOffered ts t = ((c : C) × (t ≡ spelled c)) ⊎ Contains ts t

    -- Of the tokens, those before rest go on to a text by offered tokens, and with the next one no
    -- text begins, whatever follows. No text is all of the tokens.
    pub record IsRefusedAt {A : Type 0} (g : Grammar C T A) (ts rest : List T) : Type 0 where
      pub front : List T
      pub parts : ts ≡ front ++ rest
      pub goes_on : (more : List T) × (x : A) × Each (IsOffered ts) more × IsText g (front ++ more) x
      pub stops : (t : T) (more : List T) → rest ≡ t ∷ more → GoesOn g (front ++ t ∷ []) → ⊥
      pub outside : (x : A) → IsText g ts x → ⊥

    -- the one value of the text, or the first token with which no text goes on
    abbrev pub IsExact : {A : Type 0} → Grammar C T A → List T → Result A (Refused T) → Type 0
    IsExact {A} g ts (Ok x) = IsText g ts x × ((y : A) → IsText g ts y → y ≡ x)
    IsExact g ts (Err e) = IsRefusedAt g ts e.rest

    -- What is read up to rest is the one text of the grammar that the tokens start with; or the first
    -- token is refused with which no text goes on, and they start with no text.
    abbrev pub IsExactFront : {A : Type 0} → Grammar C T A → List T → Reading T A → Type 0
    IsExactFront {A} g ts (Ok x) = StartsWith number class [] g ts x.0 x.1
        × ((y : A) (rest : List T) → StartsWith number class [] g ts y rest → (y ≡ x.0) × (rest ≡ x.1))
    IsExactFront {A} g ts (Err e) = IsRefusedAt g ts e.rest
        × ((y : A) (rest : List T) → StartsWith number class [] g ts y rest → ⊥)
