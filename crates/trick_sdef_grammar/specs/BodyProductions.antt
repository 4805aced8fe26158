-- The language of bodies production by production, as docs/FORMATS.md writes it. The grammar that is
-- read by decides each step by one token ahead, which costs it some detours: what may stand after a
-- NAME is read together. Here each production stands alone, over the parts of that grammar, and
-- whatever begins with a NAME is written out.
use Rattle.std.specs.List.{list_any}
use Rattle.std.specs.Prelude.{◌≡◌, ◌↔◌, ℕ, zero, suc, Bool, true, false, not, List, [], ◌∷◌, Option, Some, None, map}
use Rattle.std.specs.Str.{bytes_eq}
use Rattle.trick_body_symbols.specs.Expressions as read
use Rattle.trick_body_symbols.specs.Expressions.{Of, names, wholes, prefixes, name_of, Step, member, index, parts_of, operator_of, prefix_of, marks_of, chain_of, choices_of, enclosed, whole_literal, truth_literal, or, choice}
use Rattle.trick_body_symbols.specs.Methods as method_parts
use Rattle.trick_body_symbols.specs.Methods.{method_of}
use Rattle.trick_body_symbols.specs.Statements as body
use Rattle.trick_body_symbols.specs.Statements.{Header, assignments, bound_of, bounds, change_of, counting, counting_of, statements_of, the_name, basic}
use Rattle.trick_body_symbols.specs.Symbols.{Token, number_of}
use Rattle.trick_body_symbols.specs.declared.nested.Nested.TheVariants.{Chosen}
use Rattle.trick_body_symbols.specs.declared.level.Level.TheVariants as level
use Rattle.trick_body_symbols.specs.declared.symbol.Symbol.TheVariants as the
use Rattle.trick_grammar.specs.Gives.{class_of, text_of}
use Rattle.trick_grammar.specs.Grammar.{last, token, refuse, repetition, nearest, scope, alone, act, one, optional, any_number, ◌⨾◌, ◌∣◌}
use Rattle.trick_grammar.specs.StartsWith.{StartsWith}
use Rattle.trick_grammar.specs.declared.refusal.Refusal.TheVariants.{TooDeep, BadHeader}
use Rattle.trick_lang.specs.SyntaxTree as tree
use Rattle.trick_lang.specs.SyntaxTree.{Branches, Choices, Expression, Method, Path, Statement, TypeName}

-- what counts as a level, with this many levels left: it has no text where none is left
abbrev pub deeper : {A : Type 0} → ℕ → (ℕ → Of A) → Of A
deeper zero part = refuse TooDeep []
deeper (suc n) part = part n

-- both have the same texts with the same values, whatever names of loops are in scope
abbrev pub Same : {A : Type 0} → Of A → Of A → Type 0
Same {A} a b =
    (e ts : List Token) (x : A) (rest : List Token)
    → StartsWith number_of class_of e a ts x rest ↔ StartsWith number_of class_of e b ts x rest

-- ---- expressions

-- a last part alone, or a choice before the parts after its colon
abbrev pub choices_with : Expression → Option (Expression × Choices) → Choices
choices_with e None = tree.Last e
choices_with e (Some v) = tree.Choice e v.0 v.1

-- one part alone is an expression without a choice
abbrev pub chosen_value : Choices → Expression
chosen_value (tree.Last e) = e
chosen_value (tree.Choice test value others) = tree.Choose (tree.Choice test value others)

module _ (text : List ℕ) (limit : ℕ) where
  -- part = "." NAME | "[" expression "]"
  abbrev pub part : ℕ → Of Step
  part n =
      act (λ v. member v.1.line (name_of text v.1)) (one the.Dot ⨾ token names)
      ∣ act index (deeper n (λ m. enclosed the.OpenBracket (read.expression text limit m) the.CloseBracket))

  -- place = NAME { part }
  abbrev pub place : ℕ → Of Path
  place n =
      act (λ v. tree.path v.0.line (name_of text v.0) (parts_of v.1)) (token names ⨾ repetition limit (part n))

  -- operand = WHOLE | "true" | "false" | place | "(" expression ")" | ( "-" | "+" | "!" | "~" ) operand
  abbrev pub operand : ℕ → Of Expression
  operand n =
      whole_literal
      ∣ truth_literal the.True true
      ∣ truth_literal the.False false
      ∣ act tree.Named (read.place text limit n)
      ∣ deeper n (λ m. enclosed the.OpenParen (read.expression text limit m) the.CloseParen)
      ∣ deeper n (λ m. act (λ v. tree.Prefixed (prefix_of v.0.class) v.1) (token prefixes ⨾ read.operand text limit m))

  -- The operators of one level of precedence, from the tightest: product = operand { mark operand } with
  -- the marks `*`, `/`, `%`, then sum = product { mark product }, and so on up to `||`.
  abbrev pub chain : ℕ → ℕ → Of Expression
  chain l n =
      act (λ v. chain_of v.0 v.1)
      (read.binary l (read.operand text limit n)
      ⨾ any_number (act (λ v. (operator_of v.0.class, v.1)) (token (marks_of l) ⨾ read.binary l
      (read.operand text limit n))))

  -- the parts of a `?:` chain, as they are read
  abbrev pub read_choices : ℕ → Of Choices
  read_choices n =
      act (λ v. choices_of v.0 v.1)
      (or (read.operand text limit n)
      ⨾ any_number (choice (read.nested text limit Chosen n) (read.operand text limit n)))

  -- choices = or [ "?" expression ":" choices ]
  abbrev pub choices : ℕ → Of Choices
  choices n =
      act (λ v. choices_with v.0 v.1)
      (or (read.operand text limit n)
      ⨾ optional (deeper n (λ m. enclosed the.Question (read.expression text limit m) the.Colon) ⨾ read_choices n))

  -- expression = choices
  abbrev pub expression : ℕ → Of Expression
  expression n = act chosen_value (read_choices n)

-- ---- statements

abbrev pub line_of_path : Path → ℕ
line_of_path (tree.path line name parts) = line

-- what stands after an `else`: an `if` is one more branch
abbrev pub branches_after : Option Statement → Branches
branches_after None = tree.NoElse
branches_after (Some (tree.If branches)) = branches
branches_after (Some s) = tree.Else s

-- type = basic | NAME; the line, and the type
abbrev pub type_name : List ℕ → Of (ℕ × TypeName)
type_name text =
    act (λ v. (v.0, tree.Basic v.1)) basic
    ∣ act (λ t. (t.line, tree.Custom t.line (name_of text t))) (token names)

-- step = v "++" | "++" v | v "+=" "1"
abbrev pub loop_step : List ℕ → Of Token
loop_step text =
    act (λ v. v.0) (the_name text ⨾ one the.Increment)
    ∣ act (λ v. v.1) (one the.Increment ⨾ the_name text)
    ∣ act (λ v. v.0) (the_name text ⨾ one the.PlusAssign ⨾ one the.One)

-- after the name of a loop: "=" WHOLE ";" v ( "<" | "<=" ) WHOLE ";" step ")"
abbrev pub header : List ℕ → Of Header
header text =
    act (λ v. (v.1.0.number, bound_of v.1.1.1.1.0.class v.1.1.1.1.1.0.number))
    (one the.Assign ⨾ token wholes ⨾ one the.Semicolon
    ⨾ the_name text ⨾ token (the.Less ∷ the.AtMost ∷ []) ⨾ token bounds ⨾ one the.Semicolon
    ⨾ body.loop_step text ⨾ one the.CloseParen)

module _ (text : List ℕ) (limit : ℕ) where
  -- an expression, in which no name of a loop is in scope
  abbrev pub value : ℕ → Of Expression
  value n = alone (read.expression text limit n)

  -- type NAME [ "=" expression ] ";"
  abbrev pub declaration : ℕ → Of Statement
  declaration n =
      act (λ v. tree.Declare v.0.0 v.0.1 (name_of text v.1.0) v.1.1.0)
      (type_name text ⨾ token names ⨾ optional (act (λ v. v.1) (one the.Assign ⨾ value n)) ⨾ one the.Semicolon)

  -- place op expression ";"
  abbrev pub assignment : ℕ → Of Statement
  assignment n =
      act (λ v. tree.Assign (line_of_path v.0) v.0 (change_of v.1.0.class v.1.1.0))
      (alone (read.place text limit n) ⨾ token assignments ⨾ value n ⨾ one the.Semicolon)

  -- place ( "++" | "--" ) ";"
  abbrev pub counted_behind : ℕ → Of Statement
  counted_behind n =
      act (λ v. tree.Assign (line_of_path v.0) v.0 (counting_of v.1.0.class))
      (alone (read.place text limit n) ⨾ token counting ⨾ one the.Semicolon)

  -- ( "++" | "--" ) place ";"
  abbrev pub counted_before : ℕ → Of Statement
  counted_before n =
      act (λ v. tree.Assign v.0.line v.1.0 (counting_of v.0.class))
      (token counting ⨾ alone (read.place text limit n) ⨾ one the.Semicolon)

  -- NAME "(" ")" ";"
  abbrev pub call : ℕ → Of Statement
  call n =
      deeper n (λ m. act (λ v. tree.Call v.0.line (name_of text v.0))
      (token names ⨾ one the.OpenParen ⨾ one the.CloseParen ⨾ one the.Semicolon))

  -- block = "{" { statement } "}"
  abbrev pub block : ℕ → Of Statement
  block n =
      deeper n (λ m. act (λ v. tree.Block (statements_of v.1.0))
      (one the.OpenBrace ⨾ repetition limit (body.statement text limit m) ⨾ one the.CloseBrace))

  -- "if" "(" expression ")" statement [ "else" statement ], where an `else` is of the nearest `if`
  abbrev pub choosing : ℕ → Of Statement
  choosing n =
      act (λ v. tree.If (tree.Test v.0.line v.1.1.0 v.1.1.1.1.0 (branches_after v.1.1.1.1.1.1)))
      (one the.If ⨾ one the.OpenParen ⨾ value n ⨾ one the.CloseParen ⨾ body.branch text limit n
      ⨾ nearest {A = Statement} (act (λ v. last v.1) (one the.Else ⨾
      (body.chosen text limit n ∣ body.otherwise text limit n))))

  -- "for" "(" ( "int" | "long" ) v header statement, where v is in scope from there on
  abbrev pub looping : ℕ → Of Statement
  looping n =
      act (λ v. tree.For (name_of text v.1.1.1.0) v.1.1.1.1.0.0 v.1.1.1.1.0.1 v.1.1.1.1.1)
      (one the.For ⨾ one the.OpenParen ⨾ token (the.Int ∷ the.Long ∷ [])
      ⨾ scope BadHeader names (header text ⨾ body.branch text limit n))

  -- statement, with n levels left
  abbrev pub statement : ℕ → Of Statement
  statement n =
      block n
      ∣ declaration n
      ∣ assignment n
      ∣ counted_behind n
      ∣ counted_before n
      ∣ deeper n (λ m. body.chosen text limit m)
      ∣ deeper n (λ m. body.nested text limit level.For (suc m))
      ∣ call n
      ∣ act (λ t. tree.Empty) (one the.Semicolon)

-- the bytes of the tokens in scope
abbrev pub scope_names : List ℕ → List Token → List (List ℕ)
scope_names text e = map (text_of text) e

-- whether a statement does not assign to a name of these
abbrev pub spares : List (List ℕ) → Statement → Bool
spares loops (tree.Assign line (tree.path at name tree.NoPart) change) = not (list_any (λ u. bytes_eq u name) loops)
spares loops s = true

-- ---- methods

-- return = "return" ( "0" | "(" "0" ")" ) ";"
abbrev pub return_line : Of Token
return_line =
    act (λ v. v.0) (one the.Return ⨾ one the.Zero ⨾ one the.Semicolon)
    ∣ act (λ v. v.0) (one the.Return ⨾ one the.OpenParen ⨾ one the.Zero ⨾ one the.CloseParen ⨾ one the.Semicolon)

-- method = "void" NAME "(" ")" block | "int" NAME "(" ")" "{" { statement } return "}", with n levels
-- left in the braces
abbrev pub method : List ℕ → ℕ → ℕ → Of Method
method text limit n =
    act (λ v. method_of text limit v.1.0 (statements_of v.1.1.1.1.1.0))
    (one the.Void ⨾ token names ⨾ one the.OpenParen ⨾ one the.CloseParen
    ⨾ one the.OpenBrace ⨾ repetition limit (body.statement text limit n) ⨾ one the.CloseBrace)
    ∣ act (λ v. method_of text limit v.1.0 (statements_of v.1.1.1.1.1.0))
    (one the.Int ⨾ token names ⨾ one the.OpenParen ⨾ one the.CloseParen
    ⨾ one the.OpenBrace ⨾ repetition limit
    (body.statement text limit n) ⨾ method_parts.return_line ⨾ one the.CloseBrace)

-- ---- the promise

-- The parts of the grammar that is read have the texts of these productions, and the same trees. Of a
-- statement those are left out that assign to the name of a loop round it.
pub record AreProductions (text : List ℕ) (limit n : ℕ) : Type 0 where
  pub parts : Same (read.step text limit n) (part text limit n)
  pub places : Same (read.place text limit n) (place text limit n)
  pub operands : Same (read.operand text limit n) (operand text limit n)
  pub chains : (l : ℕ) → Same (read.binary (suc l) (read.operand text limit n)) (chain text limit l n)
  pub choices : Same (read_choices text limit n) (choices text limit n)
  pub expressions : Same (read.expression text limit n) (expression text limit n)
  pub loop_steps : Same (body.loop_step text) (loop_step text)
  pub headers : Same (body.header text) (header text)
  pub chosen : Same (body.chosen text limit n) (choosing text limit n)
  pub loops : Same (body.nested text limit level.For (suc n)) (looping text limit n)
  pub statements : (e ts : List Token) (x : Statement) (rest : List Token)
      → StartsWith number_of class_of e (body.statement text limit n) ts x rest
      ↔ (StartsWith number_of class_of e (statement text limit n) ts x rest × (spares (scope_names text e) x ≡ true))
  -- the statement of a branch: a block, or one that is no block
  pub branches : Same (body.branch text limit n) (body.block text limit n ∣ body.unblocked text limit n)
  pub no_blocks : Same (body.statement text limit n)
      (body.nested text limit level.Block n ∣ body.unblocked text limit n)
  pub returns : Same method_parts.return_line return_line
  pub methods : Same (method_parts.method text limit n) (method text limit n)

abbrev pub BodiesHaveProductions : Type 0
BodiesHaveProductions = (text : List ℕ) (limit n : ℕ) → AreProductions text (suc limit) n
