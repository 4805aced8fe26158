-- The grammar of statements and sums. The text gives the bytes of names, a limit bounds each list, and
-- n says how deep the rest may nest.
use Rattle.std.specs.Prelude.{ℕ, zero, suc, false, List, [], ◌∷◌, ◌++◌, Option, Some, None}
use Rattle.trick_grammar.specs.Gives.{is_in_scope, text_of}
use Rattle.trick_grammar.specs.Grammar.{Outline, Grammar, Link, onward, last, outline, token, refuse, repetition, nearest, rule, hint, scope, after, again, alone, act, one, any_number, ◌⨾◌, ◌∣◌}
use Rattle.trick_grammar.specs.Separated.{more_items, separated_body}
use Rattle.trick_grammar.specs.declared.refusal.Refusal.TheVariants.{Expected, TooDeep, BadHeader, BadLoop}
use Rattle.trick_grammar_example.specs.Trees.{Expression, name, whole, chain, linked, expressions_of, Statement, block, set, increment, call, list, loop, when, choose, choose_or, Statements, statements_of}
use Rattle.trick_grammar_example.specs.Words.{Token}
use Rattle.trick_grammar_example.specs.declared.word.Word.{Word}
use Rattle.trick_grammar_example.specs.declared.word.Word.TheVariants.{If, Else, Enum, For, Name, Whole, OpenBrace, CloseBrace, OpenParen, CloseParen, Semicolon, Comma, Assign, Increment, Less, Plus, Minus, Times}

-- a grammar of values of a type
abbrev pub Of : Type 0 → Type 1
Of A = Grammar Word Token A

-- ---- operators, by levels of precedence from the tightest

abbrev pub marks_of : ℕ → List Word
marks_of zero = Times ∷ []
marks_of (suc zero) = Plus ∷ Minus ∷ []
marks_of (suc (suc l)) = []

-- how many levels there are
abbrev pub levels : ℕ
levels = 2

-- an operand alone, or a chain
abbrev pub chain_of : Expression → List Expression → Expression
chain_of e [] = e
chain_of e (x ∷ xs) = chain e (expressions_of (x ∷ xs))

-- what a sum begins with
abbrev pub operand_first : List Word
operand_first = Name ∷ Whole ∷ OpenParen ∷ []

-- what would go on after the operators of the levels below l
abbrev pub more_at : ℕ → List Word
more_at zero = []
more_at (suc l) = marks_of l ++ more_at l

-- mark operand
abbrev pub link_at : ℕ → Of Expression → Of Expression
link_at l operand = act (λ v. linked v.0.class v.1) (token (marks_of l) ⨾ operand)

-- level = next { mark next }, any number of times, where level 0 is the operand
abbrev pub binary : ℕ → Of Expression → Of Expression
binary zero operand = operand
binary (suc l) operand =
    rule (outline operand_first (more_at (suc l)) [])
    (act (λ v. chain_of v.0 v.1) (binary l operand ⨾ any_number (link_at l (binary l operand))))

-- "(" sum ")" is a rule without a text where nothing may nest
abbrev pub inner_outline : Outline Word
inner_outline = record { nullable = false; inhabited = false; first = OpenParen ∷ []; more = []; barred = [] }

-- operand = NAME | WHOLE | "(" sum ")"
unfoldable pub operand_body : Of Expression → Of Expression
operand_body inner = act name (one Name) ∣ act whole (one Whole) ∣ inner

abbrev pub operand_with : Of Expression → Of Expression
operand_with inner = rule (outline operand_first [] []) (operand_body inner)

-- inner = "(" sum ")", n deep
unfoldable pub inner_body : ℕ → Of Expression
inner_body zero = refuse TooDeep (OpenParen ∷ [])
inner_body (suc n) =
    act (λ v. v.1.0)
    (one OpenParen ⨾ binary levels (operand_with (rule inner_outline (inner_body n))) ⨾ one CloseParen)

abbrev pub inner : ℕ → Of Expression
inner n = rule inner_outline (inner_body n)

abbrev pub operand : ℕ → Of Expression
operand n = operand_with (inner n)

-- sum: all levels
abbrev pub sum : ℕ → Of Expression
sum n = binary levels (operand n)

-- ---- simple statements

-- what a simple statement does to its name
pub data Deed : Type 0 where
  sets : Expression → Deed
  increments : Deed
  calls : Deed

abbrev pub done : Token → Deed → Statement
done t (sets e) = set t e
done t increments = increment t
done t calls = call t

-- "(" ")" ";"
unfoldable pub called_body : Of Deed
called_body = act (λ v. calls) (one OpenParen ⨾ one CloseParen ⨾ one Semicolon)

abbrev pub called : Of Deed
called = rule (outline (OpenParen ∷ []) [] []) called_body

-- called | ( "=" sum | "++" ) ";"
unfoldable pub free_body : ℕ → Of Deed
free_body n =
    called
    ∣ act (λ v. v.0) ((act (λ v. sets v.1) (one Assign ⨾ sum n) ∣ act (λ v. increments) (one Increment))
    ⨾ one Semicolon)

abbrev pub free : ℕ → Of Deed
free n = rule (outline (OpenParen ∷ Assign ∷ Increment ∷ []) [] []) (free_body n)

-- what may stand after the name of a loop round it: that name may be called, and is not assigned
unfoldable pub bound_body : Of Deed
bound_body = called ∣ refuse BadLoop (Assign ∷ Increment ∷ [])

abbrev pub bound : Of Deed
bound = rule (outline (OpenParen ∷ Assign ∷ Increment ∷ []) [] []) bound_body

-- simple = NAME ( bound | free ), by whether it is the name of a loop round it
unfoldable pub simple_body : List ℕ → ℕ → Of Statement
simple_body text n =
    act (λ v. done v.0 v.1) (after Expected (Name ∷ []) (is_in_scope text) (alone bound) (alone (free n)))

abbrev pub simple : List ℕ → ℕ → Of Statement
simple text n = rule (outline (Name ∷ []) [] []) (simple_body text n)

-- ---- lists

-- an item of a list, and what may stand after one, with n items at most
abbrev pub item : Of Token
item = one Name

abbrev pub items_behind : ℕ → Of (List Token)
items_behind n = more_items Comma (Name ∷ []) [] item n

-- items = NAME { "," NAME } [ "," ], the limit at most
abbrev pub items : ℕ → Of (List Token)
items limit = rule (outline (Name ∷ []) (Comma ∷ Name ∷ []) []) (separated_body Comma (Name ∷ []) [] item limit)

-- list = "enum" NAME "{" items "}" ";"
unfoldable pub list_body : ℕ → Of Statement
list_body limit =
    act (λ v. list v.1.0 v.1.1.1.0)
    (one Enum ⨾ one Name ⨾ one OpenBrace ⨾ items limit ⨾ one CloseBrace ⨾ one Semicolon)

abbrev pub list_statement : ℕ → Of Statement
list_statement limit = rule (outline (Enum ∷ []) [] []) (list_body limit)

-- ---- loops. Each token of a header that is not expected is refused for a bad header.

-- the rest of a header: "=" WHOLE ";" v "<" WHOLE ";" v "++" ")"; its two numbers
unfoldable pub header_body : List ℕ → Of (Token × Token)
header_body text =
    act (λ v. (v.1.0, v.1.1.1.1.1.0))
    (one Assign ⨾ one Whole ⨾ one Semicolon ⨾ again (text_of text) (Name ∷ []) ⨾ one Less ⨾ one Whole ⨾ one Semicolon
    ⨾ again (text_of text) (Name ∷ []) ⨾ one Increment ⨾ one CloseParen)

abbrev pub plain_header : List ℕ → Of (Token × Token)
plain_header text = rule (outline (Assign ∷ []) [] []) (header_body text)

abbrev pub header : List ℕ → Of (Token × Token)
header text = hint BadHeader (plain_header text)

-- header statement
abbrev pub turns_with : List ℕ → Of Statement → Of ((Token × Token) × Statement)
turns_with text statement = header text ⨾ statement

-- v header statement, with v in scope
abbrev pub scoped_with : List ℕ → Of Statement → Of (Token × ((Token × Token) × Statement))
scoped_with text statement = scope BadHeader (Name ∷ []) (turns_with text statement)

-- loop = "for" "(" v header statement
unfoldable pub loop_body : List ℕ → Of Statement → Of Statement
loop_body text statement =
    act (λ v. loop v.1.1.0 v.1.1.1.0.0 v.1.1.1.0.1 v.1.1.1.1)
    (one For ⨾ hint BadHeader (one OpenParen) ⨾ scoped_with text statement)

abbrev pub loop_with : List ℕ → Of Statement → Of Statement
loop_with text statement = rule (outline (For ∷ []) [] (Else ∷ [])) (loop_body text statement)

-- ---- statements

-- what a statement begins with
abbrev pub statement_first : List Word
statement_first = If ∷ OpenBrace ∷ For ∷ Enum ∷ Name ∷ []

abbrev pub chosen : Statement → List Statement × Option Statement → Statement
chosen s (ss, None) = choose s (statements_of ss)
chosen s (ss, Some o) = choose_or s (statements_of ss) o

module _ (text : List ℕ) (limit : ℕ) where
  -- block = "{" { statement } "}"
  unfoldable pub block_body : Of Statement → Of Statements
  block_body statement = act (λ v. statements_of v.1.0) (one OpenBrace ⨾ repetition limit statement ⨾ one CloseBrace)

  abbrev pub block_with : Of Statement → Of Statements
  block_with statement = rule (outline (OpenBrace ∷ []) [] (Else ∷ [])) (block_body statement)

  -- when = "if" "(" sum ")" statement
  unfoldable pub when_body : ℕ → Of Statement → Of Statement
  when_body n statement =
      act (λ v. when v.1.1.0 v.1.1.1.1)
      (one If ⨾ one OpenParen ⨾ alone (sum n) ⨾ one CloseParen ⨾ statement)

  abbrev pub when_with : ℕ → Of Statement → Of Statement
  when_with n statement = rule (outline (If ∷ []) [] (Else ∷ [])) (when_body n statement)

  -- link = "else" ( when | other ), where other is no "if"
  unfoldable pub link_body : ℕ → Of Statement → Of Statement → Of (Link Statement Statement)
  link_body n statement other = act (λ v. v.1) (one Else ⨾ (act onward (when_with n statement) ∣ act last other))

  abbrev pub link_with : ℕ → Of Statement → Of Statement → Of (Link Statement Statement)
  link_with n statement other = rule (outline (Else ∷ []) [] (Else ∷ [])) (link_body n statement other)

  -- choice = when { "else" when } [ "else" other ], each "else" with the nearest "if"
  unfoldable pub choice_body : ℕ → Of Statement → Of Statement → Of Statement
  choice_body n statement other =
      act (λ v. chosen v.0 v.1) (when_with n statement ⨾ nearest (link_with n statement other))

  abbrev pub choice_with : ℕ → Of Statement → Of Statement → Of Statement
  choice_with n statement other = rule (outline (If ∷ []) [] (Else ∷ [])) (choice_body n statement other)

  -- other = block | loop | list | simple: a statement that is no "if", n deep
  unfoldable pub other_body : ℕ → Of Statement → Of Statement
  other_body n statement =
      act block (block_with statement) ∣ loop_with text statement ∣ alone (list_statement limit) ∣ simple text n

  abbrev pub other_with : ℕ → Of Statement → Of Statement
  other_with n statement = rule (outline (OpenBrace ∷ For ∷ Enum ∷ Name ∷ []) [] (Else ∷ [])) (other_body n statement)

  -- statement = choice | other, n deep
  unfoldable pub statement_body : ℕ → Of Statement
  statement_body zero =
      refuse TooDeep (OpenBrace ∷ If ∷ For ∷ []) ∣ alone (list_statement limit) ∣ simple text zero
  statement_body (suc n) =
      let statement = rule (outline statement_first [] (Else ∷ [])) (statement_body n) in
      choice_with n statement (other_with n statement) ∣ other_with n statement

  abbrev pub statement : ℕ → Of Statement
  statement n = rule (outline statement_first [] (Else ∷ [])) (statement_body n)

  abbrev pub link : ℕ → Of (Link Statement Statement)
  link n = link_with n (statement n) (other_with n (statement n))

  -- program = { statement }
  abbrev pub program : ℕ → Of (List Statement)
  program n = repetition limit (statement n)
