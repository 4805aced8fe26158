-- The grammar of places and expressions. The text gives the bytes of names, the limit bounds each
-- list, and n says how many levels may still nest: brackets, prefix operators whose operand has not
-- ended, and `?` whose `:` has not come. Operators of one precedence and the last parts of `?:` are
-- lists without a limit and without nesting.
use Rattle.std.specs.Prelude.{ℕ, zero, suc, ◌-◌, Bool, true, false, List, [], ◌∷◌, ◌++◌}
use Rattle.trick_body_symbols.specs.Symbols.{Token}
use Rattle.trick_body_symbols.specs.declared.nested.Nested.{Nested}
use Rattle.trick_body_symbols.specs.declared.nested.Nested.TheVariants.{Prefixed, Parenthesized, Indexed, Chosen}
use Rattle.trick_body_symbols.specs.declared.symbol.Symbol.{Symbol}
use Rattle.trick_body_symbols.specs.declared.symbol.Symbol.TheVariants as the
use Rattle.trick_grammar.specs.Gives.{text_of}
use Rattle.trick_grammar.specs.Grammar.{Grammar, Outline, outline, token, refuse, repetition, rule, act, one, any_number, ◌⨾◌, ◌∣◌}
use Rattle.trick_grammar.specs.declared.refusal.Refusal.TheVariants.{TooDeep}
use Rattle.trick_lang.specs.SyntaxTree as tree
use Rattle.trick_lang.specs.SyntaxTree.{Expression, Links, Choices, Path, Parts}
use Rattle.trick_lang.specs.declared.operator.Arithmetic.TheVariants as arithmetic
use Rattle.trick_lang.specs.declared.operator.Comparison.TheVariants as comparison
use Rattle.trick_lang.specs.declared.operator.Operator.{Operator}
use Rattle.trick_lang.specs.declared.operator.Operator.TheVariants.{Arithmetic, Comparison, And, Or}
use Rattle.trick_lang.specs.declared.operator.Prefix.{Prefix}
use Rattle.trick_lang.specs.declared.operator.Prefix.TheVariants as prefix

-- a grammar of values of a type
abbrev pub Of : Type 0 → Type 1
Of A = Grammar Symbol Token A

-- ---- terminals that are several symbols

-- NAME
abbrev pub names : List Symbol
names = the.Name ∷ the.UpperTrick ∷ the.SimObject ∷ the.LowerTrick ∷ the.Thread ∷ the.OtherThread ∷ the.Phase
    ∷ the.OtherPhase ∷ []

-- WHOLE
abbrev pub wholes : List Symbol
wholes = the.Zero ∷ the.LongZero ∷ the.One ∷ the.Small ∷ the.Large ∷ the.Huge ∷ []

abbrev pub prefixes : List Symbol
prefixes = the.Minus ∷ the.Plus ∷ the.Not ∷ the.Complement ∷ []

-- the binary operators, by falling precedence
abbrev pub product_marks : List Symbol
product_marks = the.Times ∷ the.Divide ∷ the.Remainder ∷ []

abbrev pub sum_marks : List Symbol
sum_marks = the.Plus ∷ the.Minus ∷ []

abbrev pub shift_marks : List Symbol
shift_marks = the.ShiftLeft ∷ the.ShiftRight ∷ []

abbrev pub order_marks : List Symbol
order_marks = the.Less ∷ the.AtMost ∷ the.Greater ∷ the.AtLeast ∷ []

abbrev pub equality_marks : List Symbol
equality_marks = the.Equal ∷ the.NotEqual ∷ []

-- ---- what the tokens mean

-- the operator of a mark; other symbols stand in no chain
abbrev pub operator_of : Symbol → Operator
operator_of the.Times = Arithmetic arithmetic.Times
operator_of the.Divide = Arithmetic arithmetic.Divide
operator_of the.Remainder = Arithmetic arithmetic.Remainder
operator_of the.Plus = Arithmetic arithmetic.Plus
operator_of the.Minus = Arithmetic arithmetic.Minus
operator_of the.ShiftLeft = Arithmetic arithmetic.ShiftLeft
operator_of the.ShiftRight = Arithmetic arithmetic.ShiftRight
operator_of the.BitAnd = Arithmetic arithmetic.BitAnd
operator_of the.BitXor = Arithmetic arithmetic.BitXor
operator_of the.BitOr = Arithmetic arithmetic.BitOr
operator_of the.Less = Comparison comparison.Less
operator_of the.AtMost = Comparison comparison.AtMost
operator_of the.Greater = Comparison comparison.Greater
operator_of the.AtLeast = Comparison comparison.AtLeast
operator_of the.Equal = Comparison comparison.Equal
operator_of the.NotEqual = Comparison comparison.NotEqual
operator_of the.And = And
operator_of _ = Or

-- the prefix operator of a mark; other symbols stand before no operand
abbrev pub prefix_of : Symbol → Prefix
prefix_of the.Minus = prefix.Negate
prefix_of the.Plus = prefix.Keep
prefix_of the.Not = prefix.Not
prefix_of _ = prefix.Complement

abbrev pub links_of : List (Operator × Expression) → Links
links_of [] = tree.NoLink
links_of (v ∷ vs) = tree.Link v.0 v.1 (links_of vs)

-- an operand alone, or a chain
abbrev pub chain_of : Expression → List (Operator × Expression) → Expression
chain_of e [] = e
chain_of e (v ∷ vs) = tree.Chain e (links_of (v ∷ vs))

abbrev pub choices_of : Expression → List (Expression × Expression) → Choices
choices_of e [] = tree.Last e
choices_of e (v ∷ vs) = tree.Choice e v.0 (choices_of v.1 vs)

-- an expression alone, or a `?:` chain
abbrev pub choose_of : Expression → List (Expression × Expression) → Expression
choose_of e [] = e
choose_of e (v ∷ vs) = tree.Choose (choices_of e (v ∷ vs))

-- a step of a place
pub data Step : Type 0 where
  -- the name's line, and the name
  member : ℕ → tree.Name → Step
  index : Expression → Step

abbrev pub parts_of : List Step → Parts
parts_of [] = tree.NoPart
parts_of (member line name ∷ steps) = tree.Member line name (parts_of steps)
parts_of (index e ∷ steps) = tree.Index e (parts_of steps)

-- ---- what rules begin with, and what they would take next

abbrev pub operand_first : List Symbol
operand_first = prefixes ++ (wholes ++ (the.True ∷ the.False ∷ the.OpenParen ∷ names))

abbrev pub place_more : List Symbol
place_more = the.Dot ∷ the.OpenBracket ∷ []

-- the binary operators by levels of precedence, from the tightest
abbrev pub rows : List (List Symbol)
rows = product_marks ∷ sum_marks ∷ shift_marks ∷ order_marks ∷ equality_marks ∷ (the.BitAnd ∷ []) ∷ (the.BitXor ∷ [])
    ∷ (the.BitOr ∷ []) ∷ (the.And ∷ []) ∷ (the.Or ∷ []) ∷ []

abbrev pub row_at : List (List Symbol) → ℕ → List Symbol
row_at [] l = []
row_at (r ∷ rs) zero = r
row_at (r ∷ rs) (suc l) = row_at rs l

abbrev pub marks_of : ℕ → List Symbol
marks_of l = row_at rows l

abbrev pub levels : ℕ
levels = 10

-- what would go on after an operand, and after operators of the levels below l
abbrev pub more_at : ℕ → List Symbol
more_at zero = place_more
more_at (suc l) = marks_of l ++ more_at l

abbrev pub expression_more : List Symbol
expression_more = the.Question ∷ more_at levels

-- ---- binary operators, over an operand

-- link = mark operand
abbrev pub link : ℕ → Of Expression → Of (Operator × Expression)
link l operand = act (λ v. (operator_of v.0.class, v.1)) (token (marks_of l) ⨾ operand)

-- level = next { mark next }, where level 0 is the operand
abbrev pub binary : ℕ → Of Expression → Of Expression
binary zero operand = operand
binary (suc l) operand = rule (outline operand_first (more_at (suc l)) [])
    (act (λ v. chain_of v.0 v.1) (binary l operand ⨾ any_number (link l (binary l operand))))

abbrev pub or : Of Expression → Of Expression
or operand = binary levels operand

-- expression = or { "?" expression ":" or }, which is C's or [ "?" expression ":" expression ],
-- where the expression after the colon is no deeper. Given what stands from `?` up to `:`.
abbrev pub choice : Of Expression → Of Expression → Of (Expression × Expression)
choice middle operand = middle ⨾ or operand

unfoldable pub expression_body : Of Expression → Of Expression → Of Expression
expression_body middle operand = act (λ v. choose_of v.0 v.1) (or operand ⨾ any_number (choice middle operand))

abbrev pub expression_with : Of Expression → Of Expression → Of Expression
expression_with middle operand = rule (outline operand_first expression_more []) (expression_body middle operand)

-- the bytes of a name
abbrev pub name_of : List ℕ → Token → tree.Name
name_of text t = text_of text t

-- an expression between two marks
abbrev pub enclosed : Symbol → Of Expression → Symbol → Of Expression
enclosed first inside last = act (λ v. v.1.0) (one first ⨾ inside ⨾ one last)

-- a prefix operator and its operand
abbrev pub prefix_with : Of Expression → Of Expression
prefix_with operand = act (λ v. tree.Prefixed (prefix_of v.0.class) v.1) (token prefixes ⨾ operand)

-- WHOLE
abbrev pub whole_literal : Of Expression
whole_literal = act (λ t. tree.Whole t.line t.number) (token wholes)

-- "true" or "false"
abbrev pub truth_literal : Symbol → Bool → Of Expression
truth_literal word value = act (λ t. tree.Truth t.line value) (one word)

-- what counts as a level, over what is inside
abbrev pub nesting : Nested → Of Expression → Of Expression → Of Expression
nesting Prefixed operand expression = prefix_with operand
nesting Parenthesized operand expression = enclosed the.OpenParen expression the.CloseParen
nesting Indexed operand expression = enclosed the.OpenBracket expression the.CloseBracket
nesting Chosen operand expression = enclosed the.Question expression the.Colon

abbrev pub nested_first : Nested → List Symbol
nested_first Prefixed = prefixes
nested_first Parenthesized = the.OpenParen ∷ []
nested_first Indexed = the.OpenBracket ∷ []
nested_first Chosen = the.Question ∷ []

abbrev pub nested_more : Nested → List Symbol
nested_more Prefixed = place_more
nested_more _ = []

-- what it begins with, and would take next; it has no text where nothing may nest
abbrev pub nested_outline : Nested → Outline Symbol
nested_outline k = record {
  nullable = false;
  inhabited = false;
  first = nested_first k;
  more = nested_more k;
  barred = [];
}

module _ (text : List ℕ) (limit : ℕ) where
  -- "." NAME
  abbrev pub member_step : Of Step
  member_step = act (λ v. member v.1.line (name_of text v.1)) (one the.Dot ⨾ token names)

  -- step = "." NAME | "[" expression "]", given the brackets
  unfoldable pub step_body : Of Expression → Of Step
  step_body brackets = member_step ∣ act index brackets

  abbrev pub step_with : Of Expression → Of Step
  step_with brackets = rule (outline (the.Dot ∷ the.OpenBracket ∷ []) [] []) (step_body brackets)

  -- place = NAME { "." NAME | "[" expression "]" }
  unfoldable pub place_body : Of Expression → Of Path
  place_body brackets = act (λ v. tree.path v.0.line (name_of text v.0) (parts_of v.1)) (token names
      ⨾ repetition limit (step_with brackets))

  abbrev pub place_with : Of Expression → Of Path
  place_with brackets = rule (outline names place_more []) (place_body brackets)

  abbrev pub named_with : Of Expression → Of Expression
  named_with brackets = act tree.Named (place_with brackets)

  -- operand = prefix operand | WHOLE | "true" | "false" | "(" expression ")" | place, given what
  -- begins with a prefix, the parentheses and the brackets
  unfoldable pub operand_body : Of Expression → Of Expression → Of Expression → Of Expression
  operand_body signed parentheses brackets =
      signed
      ∣ whole_literal
      ∣ truth_literal the.True true
      ∣ truth_literal the.False false
      ∣ parentheses
      ∣ named_with brackets

  abbrev pub operand_with : Of Expression → Of Expression → Of Expression → Of Expression
  operand_with signed parentheses brackets =
      rule (outline operand_first place_more []) (operand_body signed parentheses brackets)

  -- What counts as a level: with no level left it is refused, else its inside has one level less.
  unfoldable pub nested_body : Nested → ℕ → Of Expression
  nested_body k zero = refuse TooDeep (nested_first k)
  nested_body k (suc n) =
      let inner : Nested → Of Expression = λ j. rule (nested_outline j) (nested_body j n) in
      let operand = operand_with (inner Prefixed) (inner Parenthesized) (inner Indexed) in
      nesting k operand (expression_with (inner Chosen) operand)

  abbrev pub nested : Nested → ℕ → Of Expression
  nested k n = rule (nested_outline k) (nested_body k n)

  -- with n levels left
  abbrev pub step : ℕ → Of Step
  step n = step_with (nested Indexed n)

  abbrev pub place : ℕ → Of Path
  place n = place_with (nested Indexed n)

  abbrev pub named : ℕ → Of Expression
  named n = named_with (nested Indexed n)

  abbrev pub operand : ℕ → Of Expression
  operand n = operand_with (nested Prefixed n) (nested Parenthesized n) (nested Indexed n)

  abbrev pub expression : ℕ → Of Expression
  expression n = expression_with (nested Chosen n) (operand n)

  -- step { step }, with the limit of steps at most, which is 1 at least
  abbrev pub some_steps : ℕ → Of (List Step)
  some_steps n = act (λ v. v.0 ∷ v.1) (step n ⨾ repetition (limit - 1) (step n))
