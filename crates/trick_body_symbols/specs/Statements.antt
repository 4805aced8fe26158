-- The grammar of types and statements. The text gives the bytes of names, the limit bounds each
-- list, and n says how many levels may still nest: braces, brackets, and each statement of an `if`,
-- an `else` or a `for` that is no block and, after `else`, no `if`.
use Rattle.std.specs.Prelude.{ℕ, zero, suc, min, false, List, [], ◌∷◌, ◌++◌, Option, Some, None}
use Rattle.trick_body_symbols.specs.Expressions.{Of, names, wholes, name_of, Step, parts_of, place_more, expression_more, step, some_steps, expression}
use Rattle.trick_body_symbols.specs.Symbols.{Token, bound_limit}
use Rattle.trick_body_symbols.specs.declared.level.Level.{Level}
use Rattle.trick_body_symbols.specs.declared.level.Level.TheVariants.{Block, If, For}
use Rattle.trick_body_symbols.specs.declared.symbol.Symbol.{Symbol}
use Rattle.trick_body_symbols.specs.declared.symbol.Symbol.TheVariants as the
use Rattle.trick_grammar.specs.Gives.{is_in_scope, text_of}
use Rattle.trick_grammar.specs.Grammar.{Link, onward, last, Outline, outline, token, refuse, repetition, nearest, rule, hint, scope, after, again, alone, act, one, optional, ◌⨾◌, ◌∣◌}
use Rattle.trick_grammar.specs.declared.refusal.Refusal.TheVariants.{Expected, TooDeep, BadHeader, BadLoop}
use Rattle.trick_lang.specs.SyntaxTree as tree
use Rattle.trick_lang.specs.SyntaxTree.{Expression, Path, TypeName, Change, Statement, Branches, Statements}
use Rattle.trick_lang.specs.declared.bound.Bound.{Bound}
use Rattle.trick_lang.specs.declared.bound.Bound.TheVariants.{Below, UpTo}
use Rattle.trick_lang.specs.declared.operator.Arithmetic.TheVariants as arithmetic
use Rattle.trick_lang.specs.declared.scalar.Scalar.{Scalar}
use Rattle.trick_lang.specs.declared.scalar.Scalar.TheVariants as scalar

-- ---- what the tokens mean

-- the type of a keyword; other symbols are no type
abbrev pub scalar_of : Symbol → Scalar
scalar_of the.Bool = scalar.Bool
scalar_of the.Char = scalar.Char
scalar_of the.Short = scalar.Short
scalar_of the.Int = scalar.Int
scalar_of _ = scalar.Long

-- the type of `unsigned`, alone or with a keyword after it
abbrev pub unsigned_of : Option Token → Scalar
unsigned_of None = scalar.UInt
unsigned_of (Some t) = elim t.class [ the.Char ↦ scalar.UChar | the.Short ↦ scalar.UShort | _ ↦ scalar.UInt ]

-- what an operator of assignment and its right side do; other symbols are no such operator
abbrev pub change_of : Symbol → Expression → Change
change_of the.Assign e = tree.Set e
change_of the.PlusAssign e = tree.Update arithmetic.Plus e
change_of the.MinusAssign e = tree.Update arithmetic.Minus e
change_of the.TimesAssign e = tree.Update arithmetic.Times e
change_of the.DivideAssign e = tree.Update arithmetic.Divide e
change_of the.RemainderAssign e = tree.Update arithmetic.Remainder e
change_of the.AndAssign e = tree.Update arithmetic.BitAnd e
change_of the.OrAssign e = tree.Update arithmetic.BitOr e
change_of the.XorAssign e = tree.Update arithmetic.BitXor e
change_of the.ShiftLeftAssign e = tree.Update arithmetic.ShiftLeft e
change_of _ e = tree.Update arithmetic.ShiftRight e

-- `++` or `--`
abbrev pub counting_of : Symbol → Change
counting_of the.Increment = tree.Increase
counting_of _ = tree.Decrease

abbrev pub statements_of : List Statement → Statements
statements_of [] = tree.NoStatement
statements_of (s ∷ ss) = tree.Then s (statements_of ss)

-- ---- terminals that are several symbols

abbrev pub counting : List Symbol
counting = the.Increment ∷ the.Decrement ∷ []

-- op = "=" | "+=" | "-=" | "*=" | "/=" | "%=" | "&=" | "|=" | "^=" | "<<=" | ">>="
abbrev pub assignments : List Symbol
assignments =
    the.Assign ∷ the.PlusAssign ∷ the.MinusAssign ∷ the.TimesAssign ∷ the.DivideAssign ∷ the.RemainderAssign
    ∷ the.AndAssign ∷ the.OrAssign ∷ the.XorAssign ∷ the.ShiftLeftAssign ∷ the.ShiftRightAssign ∷ []

-- ---- types

abbrev pub scalars : List Symbol
scalars = the.Bool ∷ the.Char ∷ the.Short ∷ the.Int ∷ the.Long ∷ []

abbrev pub basic_first : List Symbol
basic_first = the.Bool ∷ the.Char ∷ the.Short ∷ the.Int ∷ the.Long ∷ the.Unsigned ∷ []

abbrev pub basic_more : List Symbol
basic_more = the.Char ∷ the.Short ∷ the.Int ∷ []

-- basic = "bool" | "char" | "short" | "int" | "long" | "unsigned" [ "char" | "short" | "int" ],
-- which is a type that is no name; its line, and the type
unfoldable pub basic_body : Of (ℕ × Scalar)
basic_body =
    act (λ t. (t.line, scalar_of t.class)) (token scalars)
    ∣ act (λ v. (v.0.line, unsigned_of v.1)) (one the.Unsigned ⨾ optional (token basic_more))

abbrev pub basic : Of (ℕ × Scalar)
basic = rule (outline basic_first basic_more []) basic_body

-- ---- the header of a loop

-- what the header says after the loop's name: its first number, and its bound
abbrev pub Header : Type 0
Header = ℕ × Bound

-- the bound of a mark and a number, which is 1,000,000 at most, as its symbol says
abbrev pub bound_of : Symbol → ℕ → Bound
bound_of the.Less n = Below (min n bound_limit)
bound_of _ n = UpTo (min n bound_limit)

-- the whole numbers up to 1,000,000
abbrev pub bounds : List Symbol
bounds = the.Zero ∷ the.LongZero ∷ the.One ∷ the.Small ∷ []

module _ (text : List ℕ) where
  -- v: a NAME that is the loop's
  abbrev pub the_name : Of Token
  the_name = again (text_of text) names

  -- step = v "++" | "++" v | v "+=" "1"
  unfoldable pub loop_step_body : Of Token
  loop_step_body =
      act (λ v. v.0) (the_name ⨾ (one the.Increment ∣ act (λ v. v.1) (one the.PlusAssign ⨾ one the.One)))
      ∣ act (λ v. v.1) (one the.Increment ⨾ the_name)

  abbrev pub loop_step : Of Token
  loop_step = rule (outline (the.Increment ∷ names) [] []) loop_step_body

  -- v ( "<" | "<=" ) WHOLE, where the number is 1,000,000 at most
  unfoldable pub loop_test_body : Of Bound
  loop_test_body = act (λ v. bound_of v.1.0.class v.1.1.number) (the_name ⨾ token (the.Less ∷ the.AtMost ∷ [])
      ⨾ token bounds)

  abbrev pub loop_test : Of Bound
  loop_test = rule (outline names [] []) loop_test_body

  -- "=" WHOLE ";" test ";" step ")"
  unfoldable pub header_body : Of Header
  header_body =
      act (λ v. (v.1.0.number, v.1.1.1.0))
      (one the.Assign ⨾ token wholes ⨾ one the.Semicolon ⨾ loop_test ⨾ one the.Semicolon ⨾ loop_step
      ⨾ one the.CloseParen)

  abbrev pub plain_header : Of Header
  plain_header = rule (outline (the.Assign ∷ []) [] []) header_body

  -- the same, where a token that is not expected is refused for a bad header
  abbrev pub header : Of Header
  header = hint BadHeader plain_header

-- ---- statements

-- what may stand after the NAME that a statement begins with
pub data AfterName : Type 0 where
  -- NAME [ "=" expression ] ";": the first name is a type
  declares : Token → Option Expression → AfterName
  -- "(" ")" ";"
  calls : AfterName
  -- the steps of the place, and its change
  changes : List Step → Change → AfterName

abbrev pub simple_first : List Symbol
simple_first = names ++ (basic_first ++ (the.Increment ∷ the.Decrement ∷ the.Semicolon ∷ []))

abbrev pub unbranched_first : List Symbol
unbranched_first = the.For ∷ simple_first

abbrev pub unblocked_first : List Symbol
unblocked_first = the.If ∷ unbranched_first

abbrev pub statement_first : List Symbol
statement_first = the.OpenBrace ∷ unblocked_first

-- a branch of an `if`: its line, its test and its statement
abbrev pub Branch : Type 0
Branch = ℕ × Expression × Statement

abbrev pub branches_of : List Branch → Option Statement → Branches
branches_of [] None = tree.NoElse
branches_of [] (Some s) = tree.Else s
branches_of (v ∷ vs) end = tree.Test v.0 v.1 v.2 (branches_of vs end)

abbrev pub operation_first : List Symbol
operation_first = assignments ++ counting

abbrev pub change_first : List Symbol
change_first = place_more ++ operation_first

abbrev pub steps_first : List Symbol
steps_first = place_more ++ (the.Semicolon ∷ [])

-- ---- levels

abbrev pub level_first : Level → List Symbol
level_first Block = the.OpenBrace ∷ []
level_first If = the.If ∷ []
level_first For = the.For ∷ []

abbrev pub level_outline : Level → Outline Symbol
level_outline k = record {
  nullable = false;
  inhabited = false;
  first = level_first k;
  more = [];
  barred = the.Else ∷ [];
}

module _ (text : List ℕ) where
  abbrev pub named_of : Token → AfterName → Statement
  named_of t (declares name value) = tree.Declare t.line (tree.Custom t.line (name_of text t)) (name_of text name) value
  named_of t calls = tree.Call t.line (name_of text t)
  named_of t (changes steps change) = tree.Assign t.line (tree.path t.line (name_of text t) (parts_of steps)) change

  -- `++` or `--` before the place of this name and these steps
  abbrev pub counted_of : Token → Token → List Step → Statement
  counted_of mark t steps = tree.Assign mark.line (tree.path t.line (name_of text t) (parts_of steps))
      (counting_of mark.class)

  -- a local of a type of keywords
  abbrev pub declared_of : ℕ × Scalar → Token → Option Expression → Statement
  declared_of kind t value = tree.Declare kind.0 (tree.Basic kind.1) (name_of text t) value

  -- the loop of this name with this header
  abbrev pub loop_of : Token → Header → Statement → Statement
  loop_of t header body = tree.For (name_of text t) header.0 header.1 body

module _ (text : List ℕ) (limit : ℕ) where
  -- [ "=" expression ] ";": what stands after the name of a local
  unfoldable pub value_body : ℕ → Of (Option Expression)
  value_body n = act (λ v. v.0) (optional (act (λ v. v.1) (one the.Assign ⨾ expression text limit n))
      ⨾ one the.Semicolon)

  abbrev pub value : ℕ → Of (Option Expression)
  value n = rule (outline (the.Assign ∷ the.Semicolon ∷ []) [] []) (value_body n)

  -- "(" ")" ";", which is a call
  unfoldable pub call_body : ℕ → Of AfterName
  call_body zero = refuse TooDeep (the.OpenParen ∷ [])
  call_body (suc n) = act (λ v. calls) (one the.OpenParen ⨾ one the.CloseParen ⨾ one the.Semicolon)

  abbrev pub call : ℕ → Of AfterName
  call n = rule (record (outline (the.OpenParen ∷ []) [] []) { inhabited = false }) (call_body n)

  -- operation = op expression | "++" | "--"
  unfoldable pub operation_body : ℕ → Of Change
  operation_body n = act (λ v. change_of v.0.class v.1) (token assignments ⨾ expression text limit n)
      ∣ act (λ t. counting_of t.class) (token counting)

  abbrev pub operation : ℕ → Of Change
  operation n = rule (outline operation_first expression_more []) (operation_body n)

  -- operation ";"
  abbrev pub ended_operation : ℕ → Of (Change × Token)
  ended_operation n = operation n ⨾ one the.Semicolon

  -- { step } operation ";": what stands after the first name of a place that is changed
  unfoldable pub free_change_body : ℕ → Of AfterName
  free_change_body n = act (λ v. changes v.0 v.1.0) (repetition limit (step text limit n) ⨾ ended_operation n)

  abbrev pub free_change : ℕ → Of AfterName
  free_change n = rule (outline change_first [] []) (free_change_body n)

  -- step { step } operation ";" after the name of a loop round it: right after that name an operator
  -- is refused
  unfoldable pub bound_change_body : ℕ → Of AfterName
  bound_change_body n =
      act (λ v. changes v.0 v.1.0) (some_steps text limit n ⨾ ended_operation n)
      ∣ refuse BadLoop operation_first

  abbrev pub bound_change : ℕ → Of AfterName
  bound_change n = rule (outline change_first [] []) (bound_change_body n)

  -- what may stand after the NAME that a statement begins with, given the change: a declaration, a
  -- call or a change
  abbrev pub local : ℕ → Of AfterName
  local n = act (λ v. declares v.0 v.1) (token names ⨾ value n)

  unfoldable pub named_body : ℕ → Of AfterName → Of AfterName
  named_body n changed = local n ∣ call n ∣ changed

  abbrev pub named : ℕ → Of AfterName → Of AfterName
  named n changed = rule (outline (names ++ (the.OpenParen ∷ change_first)) [] []) (named_body n changed)

  -- NAME and what stands after it, by whether it is the name of a loop round it
  unfoldable pub by_name_body : ℕ → Of Statement
  by_name_body n = act (λ v. named_of text v.0 v.1)
      (after Expected names (is_in_scope text) (alone (named n (bound_change n))) (alone (named n (free_change n))))

  abbrev pub by_name : ℕ → Of Statement
  by_name n = rule (outline names [] []) (by_name_body n)

  -- { step } ";"
  unfoldable pub free_steps_body : ℕ → Of (List Step)
  free_steps_body n = act (λ v. v.0) (repetition limit (step text limit n) ⨾ one the.Semicolon)

  abbrev pub free_steps : ℕ → Of (List Step)
  free_steps n = rule (outline steps_first [] []) (free_steps_body n)

  -- step { step } ";" after the name of a loop round it: right after that name ";" is refused
  unfoldable pub bound_steps_body : ℕ → Of (List Step)
  bound_steps_body n = act (λ v. v.0) (some_steps text limit n ⨾ one the.Semicolon)
      ∣ refuse BadLoop (the.Semicolon ∷ [])

  abbrev pub bound_steps : ℕ → Of (List Step)
  bound_steps n = rule (outline steps_first [] []) (bound_steps_body n)

  -- ( "++" | "--" ) place ";"
  unfoldable pub counted_body : ℕ → Of Statement
  counted_body n =
      act (λ v. counted_of text v.0 v.1.0 v.1.1)
      (token counting ⨾ after Expected names (is_in_scope text) (alone (bound_steps n)) (alone (free_steps n)))

  abbrev pub counted : ℕ → Of Statement
  counted n = rule (outline counting [] []) (counted_body n)

  -- basic NAME [ "=" expression ] ";"
  unfoldable pub declaration_body : ℕ → Of Statement
  declaration_body n = act (λ v. declared_of text v.0 v.1.0 v.1.1) (basic ⨾ token names ⨾ value n)

  abbrev pub declaration : ℕ → Of Statement
  declaration n = rule (outline basic_first [] []) (declaration_body n)

  -- simple = NAME .. | basic NAME .. | "++" .. | "--" .. | ";"
  unfoldable pub simple_body : ℕ → Of Statement
  simple_body n = by_name n ∣ alone (declaration n) ∣ counted n ∣ act (λ t. tree.Empty) (one the.Semicolon)

  abbrev pub simple : ℕ → Of Statement
  simple n = rule (outline simple_first [] []) (simple_body n)

  -- ---- what nests, over the statements of a block, the statement of an `if` or a `for`, and that of
  -- an `else` which is no `if`

  -- block = "{" { statement } "}"
  unfoldable pub block_body : Of Statement → Of Statement
  block_body inner = act (λ v. tree.Block (statements_of v.1.0)) (one the.OpenBrace ⨾ repetition limit inner
      ⨾ one the.CloseBrace)

  abbrev pub block_with : Of Statement → Of Statement
  block_with inner = rule (outline (the.OpenBrace ∷ []) [] (the.Else ∷ [])) (block_body inner)

  -- test = "if" "(" expression ")" statement; its line, the expression and the statement
  unfoldable pub test_body : Of Expression → Of Statement → Of Branch
  test_body inner branch = act (λ v. (v.0.line, v.1.1.0, v.1.1.1.1)) (one the.If ⨾ one the.OpenParen ⨾ alone inner
      ⨾ one the.CloseParen ⨾ branch)

  abbrev pub test_with : Of Expression → Of Statement → Of Branch
  test_with inner branch = rule (outline (the.If ∷ []) [] (the.Else ∷ [])) (test_body inner branch)

  -- "else" ( test | statement ), where the statement is no `if`
  unfoldable pub else_body : Of Branch → Of Statement → Of (Link Branch Statement)
  else_body test otherwise = act (λ v. v.1) (one the.Else ⨾ (act onward test ∣ act last otherwise))

  abbrev pub else_with : Of Branch → Of Statement → Of (Link Branch Statement)
  else_with test otherwise = rule (outline (the.Else ∷ []) [] (the.Else ∷ [])) (else_body test otherwise)

  -- choice = "if" "(" expression ")" statement [ "else" statement ], which is
  -- test { "else" test } [ "else" statement ], so that an `else if` chain is a list. Each `else` is
  -- of the nearest `if`.
  unfoldable pub choice_body : Of Branch → Of Statement → Of Statement
  choice_body test otherwise =
      act (λ v. tree.If (branches_of (v.0 ∷ v.1.0) v.1.1)) (test ⨾ nearest (else_with test otherwise))

  abbrev pub choice_with : Of Branch → Of Statement → Of Statement
  choice_with test otherwise = rule (outline (the.If ∷ []) [] (the.Else ∷ [])) (choice_body test otherwise)

  -- header statement, after the name of a loop
  abbrev pub turns_with : Of Statement → Of (Header × Statement)
  turns_with branch = header text ⨾ branch

  -- v header statement, with v in scope
  abbrev pub scoped_with : Of Statement → Of (Token × (Header × Statement))
  scoped_with branch = scope BadHeader names (turns_with branch)

  -- loop = "for" "(" ( "int" | "long" ) scoped
  unfoldable pub loop_body : Of Statement → Of Statement
  loop_body branch =
      act (λ v. loop_of text v.1.1.1.0 v.1.1.1.1.0 v.1.1.1.1.1)
      (one the.For ⨾ hint BadHeader (one the.OpenParen) ⨾ hint BadHeader (token (the.Int ∷ the.Long ∷ []))
      ⨾ scoped_with branch)

  abbrev pub loop_with : Of Statement → Of Statement
  loop_with branch = rule (outline (the.For ∷ []) [] (the.Else ∷ [])) (loop_body branch)

  -- ---- statements, over the block, the `if` and the `for` of a level

  -- a statement that is no block, and one that is no `if` either
  unfoldable pub unbranched_body : ℕ → Of Statement → Of Statement
  unbranched_body n loop = loop ∣ simple n

  abbrev pub unbranched_with : ℕ → Of Statement → Of Statement
  unbranched_with n loop = rule (outline unbranched_first [] (the.Else ∷ [])) (unbranched_body n loop)

  unfoldable pub unblocked_body : ℕ → Of Statement → Of Statement → Of Statement
  unblocked_body n chosen loop = chosen ∣ loop ∣ simple n

  abbrev pub unblocked_with : ℕ → Of Statement → Of Statement → Of Statement
  unblocked_with n chosen loop = rule (outline unblocked_first [] (the.Else ∷ [])) (unblocked_body n chosen loop)

  unfoldable pub statement_body : ℕ → Of Statement → Of Statement → Of Statement → Of Statement
  statement_body n block chosen loop = block ∣ chosen ∣ loop ∣ simple n

  abbrev pub statement_with : ℕ → Of Statement → Of Statement → Of Statement → Of Statement
  statement_with n block chosen loop =
      rule (outline statement_first [] (the.Else ∷ [])) (statement_body n block chosen loop)

  -- the statement of an `if` or a `for`: a block, or a statement that counts as a level itself
  unfoldable pub branch_body : Of Statement → Of Statement → Of Statement
  branch_body block other = block ∣ other

  abbrev pub branch_with : Of Statement → Of Statement → Of Statement
  branch_with block other = rule (outline statement_first [] (the.Else ∷ [])) (branch_body block other)

  abbrev pub otherwise_with : Of Statement → Of Statement → Of Statement
  otherwise_with block other =
      rule (outline (the.OpenBrace ∷ unbranched_first) [] (the.Else ∷ [])) (branch_body block other)

  -- ---- statements with n levels left. An `if` or a `for` with no level left is refused, since its
  -- bracket would be one more.

  -- what counts as a level, over its block, the statement of its branches, and that of an `else`
  abbrev pub nesting : ℕ → Level → Of Statement → Of Statement → Of Statement → Of Statement
  nesting n Block block branch otherwise = block
  nesting n If block branch otherwise = choice_with (test_with (expression text limit n) branch) otherwise
  nesting n For block branch otherwise = loop_with branch

  unfoldable pub nested_body : Level → ℕ → Of Statement
  nested_body k zero = refuse TooDeep (level_first k)
  nested_body k (suc n) =
      let inner : Level → Of Statement = λ j. rule (level_outline j) (nested_body j n) in
      let block = block_with (statement_with n (inner Block) (inner If) (inner For)) in
      nesting n k block (branch_with block (unblocked_with n (inner If) (inner For)))
      (otherwise_with block (unbranched_with n (inner For)))

  abbrev pub nested : Level → ℕ → Of Statement
  nested k n = rule (level_outline k) (nested_body k n)

  abbrev pub statement : ℕ → Of Statement
  statement n = statement_with n (nested Block n) (nested If n) (nested For n)

  abbrev pub block : ℕ → Of Statement
  block n = block_with (statement n)

  abbrev pub unblocked : ℕ → Of Statement
  unblocked n = unblocked_with n (nested If n) (nested For n)

  abbrev pub unbranched : ℕ → Of Statement
  unbranched n = unbranched_with n (nested For n)

  -- inside an `if` or a `for`
  abbrev pub branch : ℕ → Of Statement
  branch n = branch_with (block n) (unblocked n)

  abbrev pub otherwise : ℕ → Of Statement
  otherwise n = otherwise_with (block n) (unbranched n)

  abbrev pub test : ℕ → Of Branch
  test n = test_with (expression text limit n) (branch n)

  abbrev pub else_link : ℕ → Of (Link Branch Statement)
  else_link n = else_with (test n) (otherwise n)

  abbrev pub chosen : ℕ → Of Statement
  chosen n = choice_with (test n) (otherwise n)

  -- the tests that were read, and what stands after them
  abbrev pub choice_rest : ℕ → List Branch → Of (List Branch × Option Statement)
  choice_rest n found = act (λ v. (found ++ v.0, v.1)) (nearest (else_link n))
