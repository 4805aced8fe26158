-- Trees of statements and sums, without the memory that holds them.
use Rattle.std.specs.Prelude.{List, [], ◌∷◌}
use Rattle.trick_grammar.specs.Grammar.{Link, onward, last}
use Rattle.trick_grammar_example.specs.declared.tree.Expr.{Expr, fold-Expr}
use Rattle.trick_grammar_example.specs.declared.tree.Expr.TheOpen.{Expr-F}
use Rattle.trick_grammar_example.specs.declared.tree.Stmt.{Stmt, fold-Stmt}
use Rattle.trick_grammar_example.specs.declared.tree.Stmt.TheOpen.{Stmt-F}
use Rattle.trick_grammar_example.specs.declared.tree.Link as Branch
use Rattle.trick_grammar_example.specs.declared.tree.Link.TheVariants.{Onward, Last}
use Rattle.trick_grammar_example.specs.Words.{Token}
use Rattle.trick_grammar_example.specs.declared.word.Word.{Word}

mutual
  pub data Expression : Type 0 where
    name : Token → Expression
    whole : Token → Expression
    -- a first operand, and operators with theirs
    chain : Expression → Expressions → Expression
    linked : Word → Expression → Expression

  pub data Expressions : Type 0 where
    no_more : Expressions
    and : Expression → Expressions → Expressions

abbrev pub expressions_of : List Expression → Expressions
expressions_of [] = no_more
expressions_of (e ∷ es) = and e (expressions_of es)

mutual
  pub data Statement : Type 0 where
    block : Statements → Statement
    set : Token → Expression → Statement
    increment : Token → Statement
    call : Token → Statement
    list : Token → List Token → Statement
    -- a name, the number that it begins with, the number below which it stays, and what is done
    loop : Token → Token → Token → Statement → Statement
    when : Expression → Statement → Statement
    choose : Statement → Statements → Statement
    choose_or : Statement → Statements → Statement → Statement

  pub data Statements : Type 0 where
    none : Statements
    more : Statement → Statements → Statements

abbrev pub statements_of : List Statement → Statements
statements_of [] = none
statements_of (s ∷ ss) = more s (statements_of ss)

abbrev pub expression_step : Expr-F Expression → Expression
expression_step (Expr-F.Name t) = name t
expression_step (Expr-F.Whole t) = whole t
expression_step (Expr-F.Chain e v) = chain e.value (expressions_of v.items)
expression_step (Expr-F.Linked operator e) = linked operator e.value

abbrev pub expression_of : Expr → Expression
expression_of = fold-Expr Expression expression_step

abbrev pub statement_step : Stmt-F Statement → Statement
statement_step (Stmt-F.Block v) = block (statements_of v.items)
statement_step (Stmt-F.Set t e) = set t (expression_of e)
statement_step (Stmt-F.Increment t) = increment t
statement_step (Stmt-F.Call t) = call t
statement_step (Stmt-F.List t v) = list t v.items
statement_step (Stmt-F.Loop t from to s) = loop t from to s.value
statement_step (Stmt-F.When e s) = when (expression_of e) s.value
statement_step (Stmt-F.Choose s v) = choose s.value (statements_of v.items)
statement_step (Stmt-F.ChooseOr s v o) = choose_or s.value (statements_of v.items) o.value

abbrev pub statement_of : Stmt → Statement
statement_of = fold-Stmt Statement statement_step

abbrev pub link_of : Branch.Link → Link Statement Statement
link_of (Onward s) = onward (statement_of s)
link_of (Last s) = last (statement_of s)
