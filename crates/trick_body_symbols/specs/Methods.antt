-- The grammar of methods, and of conditions, which are expressions alone.
use Rattle.std.specs.Prelude.{ℕ, List, [], ◌∷◌}
use Rattle.trick_body_symbols.specs.Expressions.{Of, names, name_of, expression}
use Rattle.trick_body_symbols.specs.Statements.{statements_of, statement}
use Rattle.trick_body_symbols.specs.Symbols.{Token}
use Rattle.trick_body_symbols.specs.declared.symbol.Symbol.TheVariants as the
use Rattle.trick_grammar.specs.Grammar.{outline, token, repetition, rule, act, one, ◌⨾◌, ◌∣◌}
use Rattle.trick_lang.specs.SyntaxTree.{Expression, Statements, Method}

-- return_line = "return" ( "0" | "(" "0" ")" ) ";"
unfoldable pub return_body : Of Token
return_body = act (λ v. v.0) (one the.Return
    ⨾ (one the.Zero ∣ act (λ v. v.1.0) (one the.OpenParen ⨾ one the.Zero ⨾ one the.CloseParen)) ⨾ one the.Semicolon)

abbrev pub return_line : Of Token
return_line = rule (outline (the.Return ∷ []) [] []) return_body

-- return "}": what ends an "int" method
abbrev pub last_line : Of (Token × Token)
last_line = return_line ⨾ one the.CloseBrace

module _ (text : List ℕ) (limit : ℕ) where
  -- ")" block, which is after "void" NAME "(", with n levels left in the braces
  unfoldable pub void_inside_body : ℕ → Of Statements
  void_inside_body n = act (λ v. statements_of v.1.1.0) (one the.CloseParen ⨾ one the.OpenBrace
      ⨾ repetition limit (statement text limit n) ⨾ one the.CloseBrace)

  abbrev pub void_inside : ℕ → Of Statements
  void_inside n = rule (outline (the.CloseParen ∷ []) [] (the.Else ∷ [])) (void_inside_body n)

  -- ")" "{" { stmt } return "}", which is after "int" NAME "(", with n levels left in the braces
  unfoldable pub int_inside_body : ℕ → Of Statements
  int_inside_body n = act (λ v. statements_of v.1.1.0) (one the.CloseParen ⨾ one the.OpenBrace
      ⨾ repetition limit (statement text limit n) ⨾ last_line)

  abbrev pub int_inside : ℕ → Of Statements
  int_inside n = rule (outline (the.CloseParen ∷ []) [] (the.Else ∷ [])) (int_inside_body n)

  -- "(" ")" block, which is after "void" NAME
  unfoldable pub void_body : ℕ → Of Statements
  void_body n = act (λ v. v.1) (one the.OpenParen ⨾ void_inside n)

  abbrev pub void_rest : ℕ → Of Statements
  void_rest n = rule (outline (the.OpenParen ∷ []) [] (the.Else ∷ [])) (void_body n)

  -- "(" ")" "{" { stmt } return "}", which is after "int" NAME
  unfoldable pub int_body : ℕ → Of Statements
  int_body n = act (λ v. v.1) (one the.OpenParen ⨾ int_inside n)

  abbrev pub int_rest : ℕ → Of Statements
  int_rest n = rule (outline (the.OpenParen ∷ []) [] (the.Else ∷ [])) (int_body n)

  abbrev pub method_of : Token → Statements → Method
  method_of t body = record { name = name_of text t; body = body }

  -- "void" NAME "(" ")" block
  abbrev pub void_method : ℕ → Of Method
  void_method n = act (λ v. method_of v.1.0 v.1.1) (one the.Void ⨾ token names ⨾ void_rest n)

  -- "int" NAME "(" ")" "{" { stmt } return "}"
  abbrev pub int_method : ℕ → Of Method
  int_method n = act (λ v. method_of v.1.0 v.1.1) (one the.Int ⨾ token names ⨾ int_rest n)

  -- method = "void" NAME "(" ")" block | "int" NAME "(" ")" "{" { stmt } return "}"
  unfoldable pub method_body : ℕ → Of Method
  method_body n = void_method n ∣ int_method n

  abbrev pub method : ℕ → Of Method
  method n = rule (outline (the.Void ∷ the.Int ∷ []) [] (the.Else ∷ [])) (method_body n)

  -- condition = expression
  abbrev pub condition : ℕ → Of Expression
  condition n = expression text limit n
