-- The grammar of enums, structs and members. The text gives the bytes of names, and the limit bounds
-- each list. No type, member or object is named `trick`: such a name is not in the profile.
use Rattle.std.specs.Prelude.{ℕ, ◌-◌, ℤ, pos, ◌-ℤ◌, List, [], ◌∷◌, ◌++◌, Option, Some, None, true}
use Rattle.trick_body_symbols.specs.Expressions.{Of, names, wholes, name_of}
use Rattle.trick_body_symbols.specs.Statements.{basic, basic_first}
use Rattle.trick_body_symbols.specs.Symbols.{Token}
use Rattle.trick_body_symbols.specs.declared.symbol.Symbol.{Symbol}
use Rattle.trick_body_symbols.specs.declared.symbol.Symbol.TheVariants as the
use Rattle.trick_grammar.specs.Grammar.{outline, token, refuse, repetition, rule, act, one, optional, ◌⨾◌, ◌∣◌}
use Rattle.trick_grammar.specs.Separated.{separated_body}
use Rattle.trick_grammar.specs.declared.refusal.Refusal.TheVariants.{NotInProfile}
use Rattle.trick_lang.specs.SyntaxTree as tree
use Rattle.trick_lang.specs.SyntaxTree.{EnumItem, Declarator, Members, TypeName, Definition}

-- ---- names that may not be `trick`

abbrev pub free_names : List Symbol
free_names = the.Name ∷ the.UpperTrick ∷ the.SimObject ∷ the.Thread ∷ the.OtherThread ∷ the.Phase ∷ the.OtherPhase ∷ []

-- NAME, and not `trick`
unfoldable pub free_name_body : Of Token
free_name_body = refuse NotInProfile (the.LowerTrick ∷ []) ∣ token free_names

abbrev pub free_name : Of Token
free_name = rule (outline names [] []) free_name_body

-- "}" ";": what ends an enum, a struct and a class
abbrev pub closing : Of (Token × Token)
closing = one the.CloseBrace ⨾ one the.Semicolon

-- ---- enums

-- [ "=" [ "-" ] WHOLE ]
unfoldable pub item_value_body : Of ℤ
item_value_body = act (λ v. v.1) (one the.Assign ⨾ (act (λ v. pos 0 -ℤ pos v.1.number) (one the.Minus ⨾ token wholes)
    ∣ act (λ t. pos t.number) (token wholes)))

abbrev pub item_value : Of ℤ
item_value = rule (outline (the.Assign ∷ []) [] []) item_value_body

module _ (text : List ℕ) where
  -- item = NAME [ "=" [ "-" ] WHOLE ]
  unfoldable pub item_body : Of EnumItem
  item_body = act (λ v. record { line = v.0.line; name = name_of text v.0; value = v.1 }) (token names
      ⨾ optional item_value)

  -- an item of a list
  abbrev pub item : Of EnumItem
  item = rule (outline names (the.Assign ∷ []) []) item_body

  module _ (limit : ℕ) where
    -- item { "," item } [ "," ]
    abbrev pub items : Of (List EnumItem)
    items = rule (outline names (the.Comma ∷ the.Assign ∷ names) [])
        (separated_body the.Comma names (the.Assign ∷ []) item_body limit)

    -- enum = "enum" NAME "{" item { "," item } [ "," ] "}" ";"
    unfoldable pub enum_body : Of Definition
    enum_body = act (λ v. tree.Enum (name_of text v.1.0) v.1.1.1.0) (one the.Enum ⨾ free_name ⨾ one the.OpenBrace
        ⨾ items ⨾ closing)

    abbrev pub enum : Of Definition
    enum = rule (outline (the.Enum ∷ []) [] []) enum_body

-- ---- declarators. A pointer or a reference, where the name, a length or its bracket is due, is not
-- in the profile, and neither is a length of 0.

-- WHOLE, as a length
abbrev pub length_number : Of Token
length_number = refuse NotInProfile (the.Times ∷ the.BitAnd ∷ the.Zero ∷ the.LongZero ∷ [])
    ∣ token (the.One ∷ the.Small ∷ the.Large ∷ the.Huge ∷ [])

-- "]", after a length
abbrev pub length_end : Of Token
length_end = refuse NotInProfile (the.Times ∷ the.BitAnd ∷ []) ∣ one the.CloseBracket

-- "[" WHOLE "]"
unfoldable pub length_body : Of ℕ
length_body = act (λ v. v.1.0.number) (one the.OpenBracket ⨾ length_number ⨾ length_end)

abbrev pub length : Of ℕ
length = rule (outline (the.OpenBracket ∷ []) [] []) length_body

abbrev pub lengths_of : Option (ℕ × Option ℕ) → List ℕ
lengths_of None = []
lengths_of (Some v) = elim v.1 [ None ↦ v.0 ∷ [] | Some m ↦ v.0 ∷ m ∷ [] ]

-- [ "[" WHOLE "]" [ "[" WHOLE "]" ] ]
unfoldable pub lengths_body : Of (List ℕ)
lengths_body = act lengths_of (optional (length ⨾ optional length))

abbrev pub lengths : Of (List ℕ)
lengths = rule (record {
  nullable = true;
  inhabited = true;
  first = the.OpenBracket ∷ [];
  more = the.OpenBracket ∷ [];
  barred = [];
}) lengths_body

abbrev pub declarator_first : List Symbol
declarator_first = the.Times ∷ the.BitAnd ∷ names

-- NAME, as a member's name
abbrev pub declared_name : Of Token
declared_name = refuse NotInProfile (the.Times ∷ the.BitAnd ∷ []) ∣ free_name

module _ (text : List ℕ) where
  abbrev pub declarator_of : Token → List ℕ → Declarator
  declarator_of t ls = record { name = name_of text t; lengths = ls }

  -- declarator = NAME [ "[" WHOLE "]" [ "[" WHOLE "]" ] ]
  unfoldable pub declarator_body : Of Declarator
  declarator_body = act (λ v. declarator_of v.0 v.1) (declared_name ⨾ lengths)

  abbrev pub declarator : Of Declarator
  declarator = rule (outline declarator_first (the.OpenBracket ∷ []) []) declarator_body

  -- "," declarator
  abbrev pub next_declarator : Of Declarator
  next_declarator = act (λ v. v.1) (one the.Comma ⨾ declarator)

  module _ (limit : ℕ) where
    -- { "," declarator } ";", after the first declarator: with it the limit of declarators at most
    unfoldable pub more_declarators_body : Of (List Declarator)
    more_declarators_body = act (λ v. v.0) (repetition (limit - 1) next_declarator ⨾ one the.Semicolon)

    abbrev pub more_declarators : Of (List Declarator)
    more_declarators = rule (outline (the.Comma ∷ the.Semicolon ∷ []) [] []) more_declarators_body

    -- declarator { "," declarator } ";"
    unfoldable pub declarators_body : Of (List Declarator)
    declarators_body = act (λ v. v.0 ∷ v.1) (declarator ⨾ more_declarators)

    abbrev pub declarators : Of (List Declarator)
    declarators = rule (outline declarator_first [] []) declarators_body

    abbrev pub members_of : TypeName → List Declarator → Members
    members_of written ds = record { written = written; declarators = ds }

    abbrev pub custom : Token → TypeName
    custom t = tree.Custom t.line (name_of text t)

    -- member = type declarator { "," declarator } ";", where type = basic | NAME
    unfoldable pub member_body : Of Members
    member_body =
        act (λ v. members_of (tree.Basic v.0.1) v.1) (basic ⨾ declarators)
        ∣ act (λ v. members_of (custom v.0) v.1) (token names ⨾ declarators)

    abbrev pub member : Of Members
    member = rule (outline (basic_first ++ names) [] []) member_body

    -- struct = "struct" NAME "{" { member } "}" ";"
    unfoldable pub struct_body : Of Definition
    struct_body = act (λ v. tree.Struct (name_of text v.1.0) v.1.1.1.0) (one the.Struct ⨾ free_name
        ⨾ one the.OpenBrace ⨾ repetition limit member ⨾ closing)

    abbrev pub struct : Of Definition
    struct = rule (outline (the.Struct ∷ []) [] []) struct_body
