-- Laws of declarations.
use Rattle.std.specs.Prelude.{◌≡◌, ℕ, List, Option}
use Rattle.trick_body_symbols.specs.Symbols.{Token, number_of, spelled}
use Rattle.trick_plan_variables.specs.Grammar.{Declares, declaration}
use Rattle.trick_plan_variables.specs.declared.declaration.Declaration.{Declaration}
use Rattle.trick_grammar.specs.Gives.{class_of}
use Rattle.trick_grammar.specs.Text.{IsExact, read_all}

-- a text declares one thing
abbrev pub DeclaresOne : Type 0
DeclaresOne = (text : List ℕ) (a b : Option Declaration) → Declares text a → Declares text b → a ≡ b

-- reading gives the one declaration of a text, and else the first token with which none goes on
abbrev pub DeclarationsAreExact : Type 0
DeclarationsAreExact =
    (text : List ℕ) (ts : List Token)
    → IsExact number_of class_of spelled (declaration text) ts (read_all number_of class_of (declaration text) ts)
