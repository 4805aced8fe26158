-- Worked texts, written as they are and cut at blanks: expressions and the statements of a method with
-- their trees, for each operator, each form of a statement and each type, and loops that are refused,
-- with the reason and how many tokens of the statements stand before the refused one.
use Rattle.std.specs.List.{list_any}
use Rattle.std.specs.Prelude.{◌≡◌, ℕ, ◌+◌, ◌-◌, List, [], ◌∷◌, length, codes, Option, Some, None, Result, Ok, Err, nat_eq, Bool, true, false, ◌&&◌, not, if◌then◌else◌}
use Rattle.trick_body_symbols.specs.Methods.{condition}
use Rattle.trick_body_symbols.specs.Statements.{statement}
use Rattle.trick_body_symbols.specs.Symbols.{number_of, symbol_of, is_number, Token}
use Rattle.trick_body_symbols.specs.declared.symbol.Symbol.{Symbol}
use Rattle.trick_body_symbols.specs.declared.symbol.Symbol.TheVariants as the
use Rattle.trick_grammar.specs.Gives.{class_of, text_of}
use Rattle.trick_grammar.specs.Grammar.{repetition}
use Rattle.trick_grammar.specs.Reading.{Refused}
use Rattle.trick_grammar.specs.Text.{read_all}
use Rattle.trick_grammar.specs.declared.refusal.Refusal.{Refusal}
use Rattle.trick_grammar.specs.declared.refusal.Refusal.TheVariants.{Expected, BadHeader, BadLoop}
use Rattle.trick_lang.specs.SyntaxTree as tree
use Rattle.trick_lang.specs.SyntaxTree.{Expression, Statement, Statements}
use Rattle.trick_lang.specs.declared.bound.Bound.TheVariants.{Below, UpTo}
use Rattle.trick_lang.specs.declared.operator.Arithmetic.TheVariants as arithmetic
use Rattle.trick_lang.specs.declared.operator.Comparison.TheVariants as comparison
use Rattle.trick_lang.specs.declared.operator.Operator.TheVariants.{Arithmetic, Comparison, And, Or}
use Rattle.trick_lang.specs.declared.operator.Prefix.TheVariants as prefix
use Rattle.trick_lang.specs.declared.scalar.Scalar.TheVariants as scalar
use Rattle.trick_body_symbols.specs.Statements.{statements_of}
use Rattle.trick_text.specs.Numbers.{whole_value}

-- the number that the bytes of a whole number stand for, 0 for other bytes
abbrev pub value_of : List ℕ → ℕ
value_of bytes = if is_number bytes then whole_value bytes else 0

-- whether these are the tokens of a text that single blanks cut, from a place on
abbrev pub are_cut : List ℕ → ℕ → List Token → Bool
are_cut text from [] = nat_eq from (length text + 1)
are_cut text from (t ∷ ts) =
    nat_eq t.start from
    && (not (list_any (λ b. nat_eq b 32) (text_of text t))
    && (nat_eq (number_of (symbol_of (text_of text t))) (number_of t.class)
    && (nat_eq (value_of (text_of text t)) t.number && are_cut text (t.end + 1) ts)))

-- a token of a symbol, from a place up to another, with the number that it stands for
abbrev pub at : Symbol → ℕ → ℕ → ℕ → Token
at symbol start end number = record { class = symbol; start = start; end = end; number = number; line = 1 }

abbrev pub shown : {A B : Type 0} → (A → B) → ℕ → Result A (Refused Token) → Result B (Refusal × ℕ)
shown view count (Ok x) = Ok (view x)
shown view count (Err z) = Err (z.kind, count - length z.rest)

-- what reading all tokens of a text as an expression gives, with 8 items in a list at most, 4 levels deep
abbrev pub expression_in : List ℕ → List Token → Result Expression (Refusal × ℕ)
expression_in text ts = shown (λ e. e) (length ts) (read_all number_of class_of (condition text 8 4) ts)

-- and as statements
abbrev pub statements_in : List ℕ → List Token → Result Statements (Refusal × ℕ)
statements_in text ts = shown statements_of (length ts)
    (read_all number_of class_of (repetition 8 (statement text 8 4)) ts)

abbrev pub IsExpression : List ℕ → List Token → Expression → Type 0
IsExpression text ts e = (are_cut text 0 ts ≡ true) × (expression_in text ts ≡ Ok e)

abbrev pub AreStatements : List ℕ → List Token → Statements → Type 0
AreStatements text ts ss = (are_cut text 0 ts ≡ true) × (statements_in text ts ≡ Ok ss)

abbrev pub AreRefused : List ℕ → List Token → Refusal → ℕ → Type 0
AreRefused text ts k before = (are_cut text 0 ts ≡ true) × (statements_in text ts ≡ Err (k, before))

-- ---- expressions

abbrev pub FallingPrecedence : Type 0
FallingPrecedence = IsExpression (codes "a * b + c << d < e == f & g ^ h | i && j || k") (at the.Name 0 1 0
    ∷ at the.Times 2 3 0 ∷ at the.Name 4 5 0 ∷ at the.Plus 6 7 0 ∷ at the.Name 8 9 0 ∷ at the.ShiftLeft 10 12 0
    ∷ at the.Name 13 14 0 ∷ at the.Less 15 16 0 ∷ at the.Name 17 18 0 ∷ at the.Equal 19 21 0 ∷ at the.Name 22 23 0
    ∷ at the.BitAnd 24 25 0 ∷ at the.Name 26 27 0 ∷ at the.BitXor 28 29 0 ∷ at the.Name 30 31 0
    ∷ at the.BitOr 32 33 0 ∷ at the.Name 34 35 0 ∷ at the.And 36 38 0 ∷ at the.Name 39 40 0 ∷ at the.Or 41 43 0
    ∷ at the.Name 44 45 0 ∷ [])
    (tree.Chain (tree.Chain (tree.Chain
    (tree.Chain (tree.Chain (tree.Chain
    (tree.Chain (tree.Chain (tree.Chain (tree.Chain (tree.Named (tree.path 1 (codes "a") tree.NoPart))
    (tree.Link (Arithmetic arithmetic.Times) (tree.Named (tree.path 1 (codes "b") tree.NoPart)) tree.NoLink))
    (tree.Link (Arithmetic arithmetic.Plus) (tree.Named (tree.path 1 (codes "c") tree.NoPart)) tree.NoLink))
    (tree.Link (Arithmetic arithmetic.ShiftLeft) (tree.Named (tree.path 1 (codes "d") tree.NoPart)) tree.NoLink))
    (tree.Link (Comparison comparison.Less) (tree.Named (tree.path 1 (codes "e") tree.NoPart)) tree.NoLink))
    (tree.Link (Comparison comparison.Equal) (tree.Named (tree.path 1 (codes "f") tree.NoPart)) tree.NoLink))
    (tree.Link (Arithmetic arithmetic.BitAnd) (tree.Named (tree.path 1 (codes "g") tree.NoPart)) tree.NoLink))
    (tree.Link (Arithmetic arithmetic.BitXor) (tree.Named (tree.path 1 (codes "h") tree.NoPart)) tree.NoLink))
    (tree.Link (Arithmetic arithmetic.BitOr) (tree.Named (tree.path 1 (codes "i") tree.NoPart)) tree.NoLink))
    (tree.Link And (tree.Named (tree.path 1 (codes "j") tree.NoPart)) tree.NoLink))
    (tree.Link Or (tree.Named (tree.path 1 (codes "k") tree.NoPart)) tree.NoLink))

abbrev pub RisingPrecedence : Type 0
RisingPrecedence = IsExpression (codes "k || j && i | h ^ g & f == e < d << c + b * a") (at the.Name 0 1 0
    ∷ at the.Or 2 4 0 ∷ at the.Name 5 6 0 ∷ at the.And 7 9 0 ∷ at the.Name 10 11 0 ∷ at the.BitOr 12 13 0
    ∷ at the.Name 14 15 0 ∷ at the.BitXor 16 17 0 ∷ at the.Name 18 19 0 ∷ at the.BitAnd 20 21 0
    ∷ at the.Name 22 23 0 ∷ at the.Equal 24 26 0 ∷ at the.Name 27 28 0 ∷ at the.Less 29 30 0 ∷ at the.Name 31 32 0
    ∷ at the.ShiftLeft 33 35 0 ∷ at the.Name 36 37 0 ∷ at the.Plus 38 39 0 ∷ at the.Name 40 41 0
    ∷ at the.Times 42 43 0 ∷ at the.Name 44 45 0 ∷ [])
    (tree.Chain (tree.Named (tree.path 1 (codes "k") tree.NoPart))
    (tree.Link Or (tree.Chain (tree.Named (tree.path 1 (codes "j") tree.NoPart))
    (tree.Link And (tree.Chain (tree.Named (tree.path 1 (codes "i") tree.NoPart))
    (tree.Link (Arithmetic arithmetic.BitOr) (tree.Chain (tree.Named (tree.path 1 (codes "h") tree.NoPart))
    (tree.Link (Arithmetic arithmetic.BitXor) (tree.Chain (tree.Named (tree.path 1 (codes "g") tree.NoPart))
    (tree.Link (Arithmetic arithmetic.BitAnd) (tree.Chain (tree.Named (tree.path 1 (codes "f") tree.NoPart))
    (tree.Link (Comparison comparison.Equal) (tree.Chain (tree.Named (tree.path 1 (codes "e") tree.NoPart))
    (tree.Link (Comparison comparison.Less) (tree.Chain (tree.Named (tree.path 1 (codes "d") tree.NoPart))
    (tree.Link (Arithmetic arithmetic.ShiftLeft) (tree.Chain (tree.Named (tree.path 1 (codes "c") tree.NoPart))
    (tree.Link (Arithmetic arithmetic.Plus) (tree.Chain (tree.Named (tree.path 1 (codes "b") tree.NoPart))
    (tree.Link (Arithmetic arithmetic.Times) (tree.Named (tree.path 1 (codes "a") tree.NoPart)) tree.NoLink))
    tree.NoLink)) tree.NoLink)) tree.NoLink)) tree.NoLink)) tree.NoLink)) tree.NoLink)) tree.NoLink)) tree.NoLink))
    tree.NoLink))

abbrev pub Products : Type 0
Products = IsExpression (codes "a * b / c % d") (at the.Name 0 1 0 ∷ at the.Times 2 3 0 ∷ at the.Name 4 5 0
    ∷ at the.Divide 6 7 0 ∷ at the.Name 8 9 0 ∷ at the.Remainder 10 11 0 ∷ at the.Name 12 13 0 ∷ [])
    (tree.Chain (tree.Named (tree.path 1 (codes "a") tree.NoPart))
    (tree.Link (Arithmetic arithmetic.Times) (tree.Named (tree.path 1 (codes "b") tree.NoPart))
    (tree.Link (Arithmetic arithmetic.Divide) (tree.Named (tree.path 1 (codes "c") tree.NoPart))
    (tree.Link (Arithmetic arithmetic.Remainder) (tree.Named (tree.path 1 (codes "d") tree.NoPart)) tree.NoLink))))

abbrev pub Sums : Type 0
Sums = IsExpression (codes "a + b - c") (at the.Name 0 1 0 ∷ at the.Plus 2 3 0 ∷ at the.Name 4 5 0
    ∷ at the.Minus 6 7 0 ∷ at the.Name 8 9 0 ∷ []) (tree.Chain (tree.Named (tree.path 1 (codes "a") tree.NoPart))
    (tree.Link (Arithmetic arithmetic.Plus) (tree.Named (tree.path 1 (codes "b") tree.NoPart))
    (tree.Link (Arithmetic arithmetic.Minus) (tree.Named (tree.path 1 (codes "c") tree.NoPart)) tree.NoLink)))

abbrev pub Shifts : Type 0
Shifts = IsExpression (codes "a << b >> c") (at the.Name 0 1 0 ∷ at the.ShiftLeft 2 4 0 ∷ at the.Name 5 6 0
    ∷ at the.ShiftRight 7 9 0 ∷ at the.Name 10 11 0 ∷ [])
    (tree.Chain (tree.Named (tree.path 1 (codes "a") tree.NoPart))
    (tree.Link (Arithmetic arithmetic.ShiftLeft) (tree.Named (tree.path 1 (codes "b") tree.NoPart))
    (tree.Link (Arithmetic arithmetic.ShiftRight) (tree.Named (tree.path 1 (codes "c") tree.NoPart)) tree.NoLink)))

abbrev pub Orders : Type 0
Orders = IsExpression (codes "a < b <= c > d >= e") (at the.Name 0 1 0 ∷ at the.Less 2 3 0 ∷ at the.Name 4 5 0
    ∷ at the.AtMost 6 8 0 ∷ at the.Name 9 10 0 ∷ at the.Greater 11 12 0 ∷ at the.Name 13 14 0
    ∷ at the.AtLeast 15 17 0 ∷ at the.Name 18 19 0 ∷ [])
    (tree.Chain (tree.Named (tree.path 1 (codes "a") tree.NoPart))
    (tree.Link (Comparison comparison.Less) (tree.Named (tree.path 1 (codes "b") tree.NoPart))
    (tree.Link (Comparison comparison.AtMost) (tree.Named (tree.path 1 (codes "c") tree.NoPart))
    (tree.Link (Comparison comparison.Greater) (tree.Named (tree.path 1 (codes "d") tree.NoPart))
    (tree.Link (Comparison comparison.AtLeast) (tree.Named (tree.path 1 (codes "e") tree.NoPart)) tree.NoLink)))))

abbrev pub Equalities : Type 0
Equalities = IsExpression (codes "a == b != c") (at the.Name 0 1 0 ∷ at the.Equal 2 4 0 ∷ at the.Name 5 6 0
    ∷ at the.NotEqual 7 9 0 ∷ at the.Name 10 11 0 ∷ [])
    (tree.Chain (tree.Named (tree.path 1 (codes "a") tree.NoPart))
    (tree.Link (Comparison comparison.Equal) (tree.Named (tree.path 1 (codes "b") tree.NoPart))
    (tree.Link (Comparison comparison.NotEqual) (tree.Named (tree.path 1 (codes "c") tree.NoPart)) tree.NoLink)))

abbrev pub Prefixes : Type 0
Prefixes = IsExpression (codes "- + ! ~ a") (at the.Minus 0 1 0 ∷ at the.Plus 2 3 0 ∷ at the.Not 4 5 0
    ∷ at the.Complement 6 7 0 ∷ at the.Name 8 9 0 ∷ [])
    (tree.Prefixed prefix.Negate
    (tree.Prefixed prefix.Keep
    (tree.Prefixed prefix.Not
    (tree.Prefixed prefix.Complement (tree.Named (tree.path 1 (codes "a") tree.NoPart))))))

abbrev pub PrefixBeforeProduct : Type 0
PrefixBeforeProduct = IsExpression (codes "- a * b") (at the.Minus 0 1 0 ∷ at the.Name 2 3 0
    ∷ at the.Times 4 5 0 ∷ at the.Name 6 7 0 ∷ [])
    (tree.Chain (tree.Prefixed prefix.Negate (tree.Named (tree.path 1 (codes "a") tree.NoPart)))
    (tree.Link (Arithmetic arithmetic.Times) (tree.Named (tree.path 1 (codes "b") tree.NoPart)) tree.NoLink))

abbrev pub Parentheses : Type 0
Parentheses = IsExpression (codes "a * ( b + c )") (at the.Name 0 1 0 ∷ at the.Times 2 3 0
    ∷ at the.OpenParen 4 5 0 ∷ at the.Name 6 7 0 ∷ at the.Plus 8 9 0 ∷ at the.Name 10 11 0
    ∷ at the.CloseParen 12 13 0 ∷ []) (tree.Chain (tree.Named (tree.path 1 (codes "a") tree.NoPart))
    (tree.Link (Arithmetic arithmetic.Times) (tree.Chain (tree.Named (tree.path 1 (codes "b") tree.NoPart))
    (tree.Link (Arithmetic arithmetic.Plus) (tree.Named (tree.path 1 (codes "c") tree.NoPart)) tree.NoLink))
    tree.NoLink))

abbrev pub Choices : Type 0
Choices = IsExpression (codes "a ? b : c ? d : e") (at the.Name 0 1 0 ∷ at the.Question 2 3 0
    ∷ at the.Name 4 5 0 ∷ at the.Colon 6 7 0 ∷ at the.Name 8 9 0 ∷ at the.Question 10 11 0 ∷ at the.Name 12 13 0
    ∷ at the.Colon 14 15 0 ∷ at the.Name 16 17 0 ∷ [])
    (tree.Choose (tree.Choice (tree.Named (tree.path 1 (codes "a") tree.NoPart))
    (tree.Named (tree.path 1 (codes "b") tree.NoPart))
    (tree.Choice (tree.Named (tree.path 1 (codes "c") tree.NoPart))
    (tree.Named (tree.path 1 (codes "d") tree.NoPart))
    (tree.Last (tree.Named (tree.path 1 (codes "e") tree.NoPart))))))

abbrev pub ChoiceInside : Type 0
ChoiceInside = IsExpression (codes "a ? b ? c : d : e") (at the.Name 0 1 0 ∷ at the.Question 2 3 0
    ∷ at the.Name 4 5 0 ∷ at the.Question 6 7 0 ∷ at the.Name 8 9 0 ∷ at the.Colon 10 11 0 ∷ at the.Name 12 13 0
    ∷ at the.Colon 14 15 0 ∷ at the.Name 16 17 0 ∷ [])
    (tree.Choose (tree.Choice (tree.Named (tree.path 1 (codes "a") tree.NoPart))
    (tree.Choose (tree.Choice (tree.Named (tree.path 1 (codes "b") tree.NoPart))
    (tree.Named (tree.path 1 (codes "c") tree.NoPart))
    (tree.Last (tree.Named (tree.path 1 (codes "d") tree.NoPart)))))
    (tree.Last (tree.Named (tree.path 1 (codes "e") tree.NoPart)))))

abbrev pub Literals : Type 0
Literals = IsExpression (codes "0 + 00 + 1 + 0x10 + true + false") (at the.Zero 0 1 0 ∷ at the.Plus 2 3 0
    ∷ at the.LongZero 4 6 0 ∷ at the.Plus 7 8 0 ∷ at the.One 9 10 1 ∷ at the.Plus 11 12 0 ∷ at the.Small 13 17 16
    ∷ at the.Plus 18 19 0 ∷ at the.True 20 24 0 ∷ at the.Plus 25 26 0 ∷ at the.False 27 32 0 ∷ [])
    (tree.Chain (tree.Whole 1 0) (tree.Link (Arithmetic arithmetic.Plus) (tree.Whole 1 0)
    (tree.Link (Arithmetic arithmetic.Plus) (tree.Whole 1 1)
    (tree.Link (Arithmetic arithmetic.Plus) (tree.Whole 1 16)
    (tree.Link (Arithmetic arithmetic.Plus) (tree.Truth 1 true)
    (tree.Link (Arithmetic arithmetic.Plus) (tree.Truth 1 false) tree.NoLink))))))

abbrev pub Steps : Type 0
Steps = IsExpression (codes "a . b [ 2 ] [ c ] . d") (at the.Name 0 1 0 ∷ at the.Dot 2 3 0 ∷ at the.Name 4 5 0
    ∷ at the.OpenBracket 6 7 0 ∷ at the.Small 8 9 2 ∷ at the.CloseBracket 10 11 0 ∷ at the.OpenBracket 12 13 0
    ∷ at the.Name 14 15 0 ∷ at the.CloseBracket 16 17 0 ∷ at the.Dot 18 19 0 ∷ at the.Name 20 21 0 ∷ [])
    (tree.Named (tree.path 1 (codes "a")
    (tree.Member 1 (codes "b")
    (tree.Index (tree.Whole 1 2) (tree.Index (tree.Named (tree.path 1 (codes "c") tree.NoPart))
    (tree.Member 1 (codes "d") tree.NoPart))))))

-- ---- statements

abbrev pub Changes : Type 0
Changes = AreStatements (codes "a = 1 ; a += 1 ; a -= 1 ; a *= 1 ; a /= 1 ; a %= 1 ;") (at the.Name 0 1 0
    ∷ at the.Assign 2 3 0 ∷ at the.One 4 5 1 ∷ at the.Semicolon 6 7 0 ∷ at the.Name 8 9 0
    ∷ at the.PlusAssign 10 12 0 ∷ at the.One 13 14 1 ∷ at the.Semicolon 15 16 0 ∷ at the.Name 17 18 0
    ∷ at the.MinusAssign 19 21 0 ∷ at the.One 22 23 1 ∷ at the.Semicolon 24 25 0 ∷ at the.Name 26 27 0
    ∷ at the.TimesAssign 28 30 0 ∷ at the.One 31 32 1 ∷ at the.Semicolon 33 34 0 ∷ at the.Name 35 36 0
    ∷ at the.DivideAssign 37 39 0 ∷ at the.One 40 41 1 ∷ at the.Semicolon 42 43 0 ∷ at the.Name 44 45 0
    ∷ at the.RemainderAssign 46 48 0 ∷ at the.One 49 50 1 ∷ at the.Semicolon 51 52 0 ∷ [])
    (tree.Then (tree.Assign 1 (tree.path 1 (codes "a") tree.NoPart) (tree.Set (tree.Whole 1 1)))
    (tree.Then (tree.Assign 1 (tree.path 1 (codes "a") tree.NoPart) (tree.Update arithmetic.Plus (tree.Whole 1 1)))
    (tree.Then (tree.Assign 1 (tree.path 1 (codes "a") tree.NoPart) (tree.Update arithmetic.Minus (tree.Whole 1 1)))
    (tree.Then (tree.Assign 1 (tree.path 1 (codes "a") tree.NoPart) (tree.Update arithmetic.Times (tree.Whole 1 1)))
    (tree.Then (tree.Assign 1 (tree.path 1 (codes "a") tree.NoPart)
    (tree.Update arithmetic.Divide (tree.Whole 1 1)))
    (tree.Then (tree.Assign 1 (tree.path 1 (codes "a") tree.NoPart)
    (tree.Update arithmetic.Remainder (tree.Whole 1 1))) tree.NoStatement))))))

abbrev pub ChangesOfBits : Type 0
ChangesOfBits = AreStatements (codes "a &= 1 ; a |= 1 ; a ^= 1 ; a <<= 1 ; a >>= 1 ;") (at the.Name 0 1 0
    ∷ at the.AndAssign 2 4 0 ∷ at the.One 5 6 1 ∷ at the.Semicolon 7 8 0 ∷ at the.Name 9 10 0
    ∷ at the.OrAssign 11 13 0 ∷ at the.One 14 15 1 ∷ at the.Semicolon 16 17 0 ∷ at the.Name 18 19 0
    ∷ at the.XorAssign 20 22 0 ∷ at the.One 23 24 1 ∷ at the.Semicolon 25 26 0 ∷ at the.Name 27 28 0
    ∷ at the.ShiftLeftAssign 29 32 0 ∷ at the.One 33 34 1 ∷ at the.Semicolon 35 36 0 ∷ at the.Name 37 38 0
    ∷ at the.ShiftRightAssign 39 42 0 ∷ at the.One 43 44 1 ∷ at the.Semicolon 45 46 0 ∷ [])
    (tree.Then (tree.Assign 1 (tree.path 1 (codes "a") tree.NoPart)
    (tree.Update arithmetic.BitAnd (tree.Whole 1 1)))
    (tree.Then (tree.Assign 1 (tree.path 1 (codes "a") tree.NoPart) (tree.Update arithmetic.BitOr (tree.Whole 1 1)))
    (tree.Then (tree.Assign 1 (tree.path 1 (codes "a") tree.NoPart)
    (tree.Update arithmetic.BitXor (tree.Whole 1 1)))
    (tree.Then (tree.Assign 1 (tree.path 1 (codes "a") tree.NoPart)
    (tree.Update arithmetic.ShiftLeft (tree.Whole 1 1)))
    (tree.Then (tree.Assign 1 (tree.path 1 (codes "a") tree.NoPart)
    (tree.Update arithmetic.ShiftRight (tree.Whole 1 1))) tree.NoStatement)))))

abbrev pub Counting : Type 0
Counting = AreStatements (codes "a ++ ; a -- ; ++ a . b ; -- a [ 2 ] ; ;") (at the.Name 0 1 0
    ∷ at the.Increment 2 4 0 ∷ at the.Semicolon 5 6 0 ∷ at the.Name 7 8 0 ∷ at the.Decrement 9 11 0
    ∷ at the.Semicolon 12 13 0 ∷ at the.Increment 14 16 0 ∷ at the.Name 17 18 0 ∷ at the.Dot 19 20 0
    ∷ at the.Name 21 22 0 ∷ at the.Semicolon 23 24 0 ∷ at the.Decrement 25 27 0 ∷ at the.Name 28 29 0
    ∷ at the.OpenBracket 30 31 0 ∷ at the.Small 32 33 2 ∷ at the.CloseBracket 34 35 0 ∷ at the.Semicolon 36 37 0
    ∷ at the.Semicolon 38 39 0 ∷ []) (tree.Then (tree.Assign 1 (tree.path 1 (codes "a") tree.NoPart) tree.Increase)
    (tree.Then (tree.Assign 1 (tree.path 1 (codes "a") tree.NoPart) tree.Decrease)
    (tree.Then (tree.Assign 1 (tree.path 1 (codes "a") (tree.Member 1 (codes "b") tree.NoPart)) tree.Increase)
    (tree.Then (tree.Assign 1 (tree.path 1 (codes "a") (tree.Index (tree.Whole 1 2) tree.NoPart)) tree.Decrease)
    (tree.Then (tree.Empty) tree.NoStatement)))))

abbrev pub SignedTypes : Type 0
SignedTypes = AreStatements (codes "bool a ; char b ; short c ; int d ; long e = 2 ;") (at the.Bool 0 4 0
    ∷ at the.Name 5 6 0 ∷ at the.Semicolon 7 8 0 ∷ at the.Char 9 13 0 ∷ at the.Name 14 15 0
    ∷ at the.Semicolon 16 17 0 ∷ at the.Short 18 23 0 ∷ at the.Name 24 25 0 ∷ at the.Semicolon 26 27 0
    ∷ at the.Int 28 31 0 ∷ at the.Name 32 33 0 ∷ at the.Semicolon 34 35 0 ∷ at the.Long 36 40 0
    ∷ at the.Name 41 42 0 ∷ at the.Assign 43 44 0 ∷ at the.Small 45 46 2 ∷ at the.Semicolon 47 48 0 ∷ [])
    (tree.Then (tree.Declare 1 (tree.Basic scalar.Bool) (codes "a") None)
    (tree.Then (tree.Declare 1 (tree.Basic scalar.Char) (codes "b") None)
    (tree.Then (tree.Declare 1 (tree.Basic scalar.Short) (codes "c") None)
    (tree.Then (tree.Declare 1 (tree.Basic scalar.Int) (codes "d") None)
    (tree.Then (tree.Declare 1 (tree.Basic scalar.Long) (codes "e") (Some (tree.Whole 1 2))) tree.NoStatement)))))

abbrev pub UnsignedTypes : Type 0
UnsignedTypes = AreStatements
    (codes "unsigned a ; unsigned char b ; unsigned short c ; unsigned int d ; m e = 2 ;") (at the.Unsigned 0 8 0
    ∷ at the.Name 9 10 0 ∷ at the.Semicolon 11 12 0 ∷ at the.Unsigned 13 21 0 ∷ at the.Char 22 26 0
    ∷ at the.Name 27 28 0 ∷ at the.Semicolon 29 30 0 ∷ at the.Unsigned 31 39 0 ∷ at the.Short 40 45 0
    ∷ at the.Name 46 47 0 ∷ at the.Semicolon 48 49 0 ∷ at the.Unsigned 50 58 0 ∷ at the.Int 59 62 0
    ∷ at the.Name 63 64 0 ∷ at the.Semicolon 65 66 0 ∷ at the.Name 67 68 0 ∷ at the.Name 69 70 0
    ∷ at the.Assign 71 72 0 ∷ at the.Small 73 74 2 ∷ at the.Semicolon 75 76 0 ∷ [])
    (tree.Then (tree.Declare 1 (tree.Basic scalar.UInt) (codes "a") None)
    (tree.Then (tree.Declare 1 (tree.Basic scalar.UChar) (codes "b") None)
    (tree.Then (tree.Declare 1 (tree.Basic scalar.UShort) (codes "c") None)
    (tree.Then (tree.Declare 1 (tree.Basic scalar.UInt) (codes "d") None)
    (tree.Then (tree.Declare 1 (tree.Custom 1 (codes "m")) (codes "e") (Some (tree.Whole 1 2)))
    tree.NoStatement)))))

abbrev pub CallsAndBlocks : Type 0
CallsAndBlocks = AreStatements (codes "g ( ) ; { ; } { }") (at the.Name 0 1 0 ∷ at the.OpenParen 2 3 0
    ∷ at the.CloseParen 4 5 0 ∷ at the.Semicolon 6 7 0 ∷ at the.OpenBrace 8 9 0 ∷ at the.Semicolon 10 11 0
    ∷ at the.CloseBrace 12 13 0 ∷ at the.OpenBrace 14 15 0 ∷ at the.CloseBrace 16 17 0 ∷ [])
    (tree.Then (tree.Call 1 (codes "g")) (tree.Then (tree.Block (tree.Then (tree.Empty) tree.NoStatement))
    (tree.Then (tree.Block tree.NoStatement) tree.NoStatement)))

abbrev pub ElseOfTheNearest : Type 0
ElseOfTheNearest = AreStatements (codes "if ( a ) if ( b ) ; else g ( ) ;") (at the.If 0 2 0
    ∷ at the.OpenParen 3 4 0 ∷ at the.Name 5 6 0 ∷ at the.CloseParen 7 8 0 ∷ at the.If 9 11 0
    ∷ at the.OpenParen 12 13 0 ∷ at the.Name 14 15 0 ∷ at the.CloseParen 16 17 0 ∷ at the.Semicolon 18 19 0
    ∷ at the.Else 20 24 0 ∷ at the.Name 25 26 0 ∷ at the.OpenParen 27 28 0 ∷ at the.CloseParen 29 30 0
    ∷ at the.Semicolon 31 32 0 ∷ [])
    (tree.Then (tree.If (tree.Test 1 (tree.Named (tree.path 1 (codes "a") tree.NoPart))
    (tree.If (tree.Test 1 (tree.Named (tree.path 1 (codes "b") tree.NoPart)) tree.Empty
    (tree.Else (tree.Call 1 (codes "g"))))) tree.NoElse)) tree.NoStatement)

abbrev pub ElseIfs : Type 0
ElseIfs = AreStatements (codes "if ( a ) ; else if ( b ) { } else ;") (at the.If 0 2 0 ∷ at the.OpenParen 3 4 0
    ∷ at the.Name 5 6 0 ∷ at the.CloseParen 7 8 0 ∷ at the.Semicolon 9 10 0 ∷ at the.Else 11 15 0
    ∷ at the.If 16 18 0 ∷ at the.OpenParen 19 20 0 ∷ at the.Name 21 22 0 ∷ at the.CloseParen 23 24 0
    ∷ at the.OpenBrace 25 26 0 ∷ at the.CloseBrace 27 28 0 ∷ at the.Else 29 33 0 ∷ at the.Semicolon 34 35 0 ∷ [])
    (tree.Then (tree.If (tree.Test 1 (tree.Named (tree.path 1 (codes "a") tree.NoPart)) tree.Empty
    (tree.Test 1 (tree.Named (tree.path 1 (codes "b") tree.NoPart)) (tree.Block tree.NoStatement)
    (tree.Else tree.Empty)))) tree.NoStatement)

abbrev pub LoopBelow : Type 0
LoopBelow = AreStatements (codes "for ( int i = 2 ; i < 9 ; i ++ ) ;") (at the.For 0 3 0
    ∷ at the.OpenParen 4 5 0 ∷ at the.Int 6 9 0 ∷ at the.Name 10 11 0 ∷ at the.Assign 12 13 0 ∷ at the.Small 14 15 2
    ∷ at the.Semicolon 16 17 0 ∷ at the.Name 18 19 0 ∷ at the.Less 20 21 0 ∷ at the.Small 22 23 9
    ∷ at the.Semicolon 24 25 0 ∷ at the.Name 26 27 0 ∷ at the.Increment 28 30 0 ∷ at the.CloseParen 31 32 0
    ∷ at the.Semicolon 33 34 0 ∷ []) (tree.Then (tree.For (codes "i") 2 (Below 9) tree.Empty) tree.NoStatement)

abbrev pub LoopUpTo : Type 0
LoopUpTo = AreStatements (codes "for ( long i = 0 ; i <= 1000000 ; ++ i ) a = i ;") (at the.For 0 3 0
    ∷ at the.OpenParen 4 5 0 ∷ at the.Long 6 10 0 ∷ at the.Name 11 12 0 ∷ at the.Assign 13 14 0
    ∷ at the.Zero 15 16 0 ∷ at the.Semicolon 17 18 0 ∷ at the.Name 19 20 0 ∷ at the.AtMost 21 23 0
    ∷ at the.Small 24 31 1000000 ∷ at the.Semicolon 32 33 0 ∷ at the.Increment 34 36 0 ∷ at the.Name 37 38 0
    ∷ at the.CloseParen 39 40 0 ∷ at the.Name 41 42 0 ∷ at the.Assign 43 44 0 ∷ at the.Name 45 46 0
    ∷ at the.Semicolon 47 48 0 ∷ [])
    (tree.Then (tree.For (codes "i") 0 (UpTo 1000000) (tree.Assign 1 (tree.path 1 (codes "a") tree.NoPart)
    (tree.Set (tree.Named (tree.path 1 (codes "i") tree.NoPart))))) tree.NoStatement)

abbrev pub LoopByOne : Type 0
LoopByOne = AreStatements (codes "for ( int i = 0 ; i < 3 ; i += 1 ) i . a = 1 ;") (at the.For 0 3 0
    ∷ at the.OpenParen 4 5 0 ∷ at the.Int 6 9 0 ∷ at the.Name 10 11 0 ∷ at the.Assign 12 13 0 ∷ at the.Zero 14 15 0
    ∷ at the.Semicolon 16 17 0 ∷ at the.Name 18 19 0 ∷ at the.Less 20 21 0 ∷ at the.Small 22 23 3
    ∷ at the.Semicolon 24 25 0 ∷ at the.Name 26 27 0 ∷ at the.PlusAssign 28 30 0 ∷ at the.One 31 32 1
    ∷ at the.CloseParen 33 34 0 ∷ at the.Name 35 36 0 ∷ at the.Dot 37 38 0 ∷ at the.Name 39 40 0
    ∷ at the.Assign 41 42 0 ∷ at the.One 43 44 1 ∷ at the.Semicolon 45 46 0 ∷ [])
    (tree.Then (tree.For (codes "i") 0 (Below 3)
    (tree.Assign 1 (tree.path 1 (codes "i") (tree.Member 1 (codes "a") tree.NoPart)) (tree.Set (tree.Whole 1 1))))
    tree.NoStatement)

abbrev pub LoopInALoop : Type 0
LoopInALoop = AreStatements (codes "for ( int i = 0 ; i < 3 ; i ++ ) for ( int j = 0 ; j < 3 ; j ++ ) ;")
    (at the.For 0 3 0 ∷ at the.OpenParen 4 5 0 ∷ at the.Int 6 9 0 ∷ at the.Name 10 11 0 ∷ at the.Assign 12 13 0
    ∷ at the.Zero 14 15 0 ∷ at the.Semicolon 16 17 0 ∷ at the.Name 18 19 0 ∷ at the.Less 20 21 0
    ∷ at the.Small 22 23 3 ∷ at the.Semicolon 24 25 0 ∷ at the.Name 26 27 0 ∷ at the.Increment 28 30 0
    ∷ at the.CloseParen 31 32 0 ∷ at the.For 33 36 0 ∷ at the.OpenParen 37 38 0 ∷ at the.Int 39 42 0
    ∷ at the.Name 43 44 0 ∷ at the.Assign 45 46 0 ∷ at the.Zero 47 48 0 ∷ at the.Semicolon 49 50 0
    ∷ at the.Name 51 52 0 ∷ at the.Less 53 54 0 ∷ at the.Small 55 56 3 ∷ at the.Semicolon 57 58 0
    ∷ at the.Name 59 60 0 ∷ at the.Increment 61 63 0 ∷ at the.CloseParen 64 65 0 ∷ at the.Semicolon 66 67 0 ∷ [])
    (tree.Then (tree.For (codes "i") 0 (Below 3) (tree.For (codes "j") 0 (Below 3) tree.Empty)) tree.NoStatement)

-- ---- loops that are refused

abbrev pub OtherName : Type 0
OtherName = AreRefused (codes "for ( int i = 0 ; j") (at the.For 0 3 0 ∷ at the.OpenParen 4 5 0
    ∷ at the.Int 6 9 0 ∷ at the.Name 10 11 0 ∷ at the.Assign 12 13 0 ∷ at the.Zero 14 15 0
    ∷ at the.Semicolon 16 17 0 ∷ at the.Name 18 19 0 ∷ []) BadHeader 7

abbrev pub OuterName : Type 0
OuterName = AreRefused (codes "for ( int i = 0 ; i < 3 ; i ++ ) for ( int j = 0 ; i") (at the.For 0 3 0
    ∷ at the.OpenParen 4 5 0 ∷ at the.Int 6 9 0 ∷ at the.Name 10 11 0 ∷ at the.Assign 12 13 0 ∷ at the.Zero 14 15 0
    ∷ at the.Semicolon 16 17 0 ∷ at the.Name 18 19 0 ∷ at the.Less 20 21 0 ∷ at the.Small 22 23 3
    ∷ at the.Semicolon 24 25 0 ∷ at the.Name 26 27 0 ∷ at the.Increment 28 30 0 ∷ at the.CloseParen 31 32 0
    ∷ at the.For 33 36 0 ∷ at the.OpenParen 37 38 0 ∷ at the.Int 39 42 0 ∷ at the.Name 43 44 0
    ∷ at the.Assign 45 46 0 ∷ at the.Zero 47 48 0 ∷ at the.Semicolon 49 50 0 ∷ at the.Name 51 52 0 ∷ []) BadHeader
    21

abbrev pub LargeBound : Type 0
LargeBound = AreRefused (codes "for ( int i = 0 ; i <= 1000001") (at the.For 0 3 0 ∷ at the.OpenParen 4 5 0
    ∷ at the.Int 6 9 0 ∷ at the.Name 10 11 0 ∷ at the.Assign 12 13 0 ∷ at the.Zero 14 15 0
    ∷ at the.Semicolon 16 17 0 ∷ at the.Name 18 19 0 ∷ at the.AtMost 20 22 0 ∷ at the.Large 23 30 1000001 ∷ [])
    BadHeader 9

abbrev pub Assigned : Type 0
Assigned = AreRefused (codes "for ( int i = 0 ; i < 3 ; i ++ ) i = 1") (at the.For 0 3 0
    ∷ at the.OpenParen 4 5 0 ∷ at the.Int 6 9 0 ∷ at the.Name 10 11 0 ∷ at the.Assign 12 13 0 ∷ at the.Zero 14 15 0
    ∷ at the.Semicolon 16 17 0 ∷ at the.Name 18 19 0 ∷ at the.Less 20 21 0 ∷ at the.Small 22 23 3
    ∷ at the.Semicolon 24 25 0 ∷ at the.Name 26 27 0 ∷ at the.Increment 28 30 0 ∷ at the.CloseParen 31 32 0
    ∷ at the.Name 33 34 0 ∷ at the.Assign 35 36 0 ∷ at the.One 37 38 1 ∷ []) BadLoop 15

abbrev pub AssignedInside : Type 0
AssignedInside = AreRefused (codes "for ( int i = 0 ; i < 3 ; i ++ ) for ( int j = 0 ; j < 3 ; j ++ ) { i = 1")
    (at the.For 0 3 0 ∷ at the.OpenParen 4 5 0 ∷ at the.Int 6 9 0 ∷ at the.Name 10 11 0 ∷ at the.Assign 12 13 0
    ∷ at the.Zero 14 15 0 ∷ at the.Semicolon 16 17 0 ∷ at the.Name 18 19 0 ∷ at the.Less 20 21 0
    ∷ at the.Small 22 23 3 ∷ at the.Semicolon 24 25 0 ∷ at the.Name 26 27 0 ∷ at the.Increment 28 30 0
    ∷ at the.CloseParen 31 32 0 ∷ at the.For 33 36 0 ∷ at the.OpenParen 37 38 0 ∷ at the.Int 39 42 0
    ∷ at the.Name 43 44 0 ∷ at the.Assign 45 46 0 ∷ at the.Zero 47 48 0 ∷ at the.Semicolon 49 50 0
    ∷ at the.Name 51 52 0 ∷ at the.Less 53 54 0 ∷ at the.Small 55 56 3 ∷ at the.Semicolon 57 58 0
    ∷ at the.Name 59 60 0 ∷ at the.Increment 61 63 0 ∷ at the.CloseParen 64 65 0 ∷ at the.OpenBrace 66 67 0
    ∷ at the.Name 68 69 0 ∷ at the.Assign 70 71 0 ∷ at the.One 72 73 1 ∷ []) BadLoop 30

abbrev pub CountedBehind : Type 0
CountedBehind = AreRefused (codes "for ( int i = 0 ; i < 3 ; i ++ ) i ++") (at the.For 0 3 0
    ∷ at the.OpenParen 4 5 0 ∷ at the.Int 6 9 0 ∷ at the.Name 10 11 0 ∷ at the.Assign 12 13 0 ∷ at the.Zero 14 15 0
    ∷ at the.Semicolon 16 17 0 ∷ at the.Name 18 19 0 ∷ at the.Less 20 21 0 ∷ at the.Small 22 23 3
    ∷ at the.Semicolon 24 25 0 ∷ at the.Name 26 27 0 ∷ at the.Increment 28 30 0 ∷ at the.CloseParen 31 32 0
    ∷ at the.Name 33 34 0 ∷ at the.Increment 35 37 0 ∷ []) BadLoop 15

abbrev pub CountedBefore : Type 0
CountedBefore = AreRefused (codes "for ( int i = 0 ; i < 3 ; i ++ ) ++ i ;") (at the.For 0 3 0
    ∷ at the.OpenParen 4 5 0 ∷ at the.Int 6 9 0 ∷ at the.Name 10 11 0 ∷ at the.Assign 12 13 0 ∷ at the.Zero 14 15 0
    ∷ at the.Semicolon 16 17 0 ∷ at the.Name 18 19 0 ∷ at the.Less 20 21 0 ∷ at the.Small 22 23 3
    ∷ at the.Semicolon 24 25 0 ∷ at the.Name 26 27 0 ∷ at the.Increment 28 30 0 ∷ at the.CloseParen 31 32 0
    ∷ at the.Increment 33 35 0 ∷ at the.Name 36 37 0 ∷ at the.Semicolon 38 39 0 ∷ []) BadLoop 16

abbrev pub NotCounted : Type 0
NotCounted = AreRefused (codes "for ( int i = 0 ; i < 3 ; i ++ ) ++ i )") (at the.For 0 3 0
    ∷ at the.OpenParen 4 5 0 ∷ at the.Int 6 9 0 ∷ at the.Name 10 11 0 ∷ at the.Assign 12 13 0 ∷ at the.Zero 14 15 0
    ∷ at the.Semicolon 16 17 0 ∷ at the.Name 18 19 0 ∷ at the.Less 20 21 0 ∷ at the.Small 22 23 3
    ∷ at the.Semicolon 24 25 0 ∷ at the.Name 26 27 0 ∷ at the.Increment 28 30 0 ∷ at the.CloseParen 31 32 0
    ∷ at the.Increment 33 35 0 ∷ at the.Name 36 37 0 ∷ at the.CloseParen 38 39 0 ∷ []) Expected 16

abbrev pub LocalOfThatName : Type 0
LocalOfThatName = AreRefused (codes "for ( int i = 0 ; i < 3 ; i ++ ) { int i ; i = 1") (at the.For 0 3 0
    ∷ at the.OpenParen 4 5 0 ∷ at the.Int 6 9 0 ∷ at the.Name 10 11 0 ∷ at the.Assign 12 13 0 ∷ at the.Zero 14 15 0
    ∷ at the.Semicolon 16 17 0 ∷ at the.Name 18 19 0 ∷ at the.Less 20 21 0 ∷ at the.Small 22 23 3
    ∷ at the.Semicolon 24 25 0 ∷ at the.Name 26 27 0 ∷ at the.Increment 28 30 0 ∷ at the.CloseParen 31 32 0
    ∷ at the.OpenBrace 33 34 0 ∷ at the.Int 35 38 0 ∷ at the.Name 39 40 0 ∷ at the.Semicolon 41 42 0
    ∷ at the.Name 43 44 0 ∷ at the.Assign 45 46 0 ∷ at the.One 47 48 1 ∷ []) BadLoop 19

-- Each of these texts has these tokens and this tree, or this refusal.
pub record BodiesAreRead : Type 0 where
  pub falling_precedence : FallingPrecedence
  pub rising_precedence : RisingPrecedence
  pub products : Products
  pub sums : Sums
  pub shifts : Shifts
  pub orders : Orders
  pub equalities : Equalities
  pub prefixes : Prefixes
  pub prefix_before_product : PrefixBeforeProduct
  pub parentheses : Parentheses
  pub choices : Choices
  pub choice_inside : ChoiceInside
  pub literals : Literals
  pub steps : Steps
  pub changes : Changes
  pub changes_of_bits : ChangesOfBits
  pub counting : Counting
  pub signed_types : SignedTypes
  pub unsigned_types : UnsignedTypes
  pub calls_and_blocks : CallsAndBlocks
  pub else_of_the_nearest : ElseOfTheNearest
  pub else_ifs : ElseIfs
  pub loop_below : LoopBelow
  pub loop_up_to : LoopUpTo
  pub loop_by_one : LoopByOne
  pub loop_in_a_loop : LoopInALoop
  pub other_name : OtherName
  pub outer_name : OuterName
  pub large_bound : LargeBound
  pub assigned : Assigned
  pub assigned_inside : AssignedInside
  pub counted_behind : CountedBehind
  pub counted_before : CountedBefore
  pub not_counted : NotCounted
  pub local_of_that_name : LocalOfThatName
