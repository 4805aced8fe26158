-- The trees that values of the readers hold.
use Rattle.std.specs.Prelude.{map}
use Rattle.trick_body_statements.specs.declared.simple.AfterName.{AfterName}
use Rattle.trick_body_statements.specs.declared.simple.AfterName.TheVariants.{Declares, Calls, Changes}
use Rattle.trick_body_statements.specs.declared.statements.Else.{Else}
use Rattle.trick_body_statements.specs.declared.statements.Else.TheVariants.{Onward, Last}
use Rattle.trick_body_symbols.specs.Expressions.{Step, member, index}
use Rattle.trick_body_symbols.specs.Statements as grammar
use Rattle.trick_grammar.specs.Grammar.{Link as Linked, onward, last}
use Rattle.trick_lang.specs.Syntax.{expression_of, first_value_of, change_of, statement_of}
use Rattle.trick_lang.specs.SyntaxTree.{Expression, Statement}
use Rattle.trick_lang.specs.declared.operator.Operator.{Operator}
use Rattle.trick_lang.specs.declared.syntax.expression.Link.{Link}
use Rattle.trick_lang.specs.declared.syntax.expression.Part.{Part, Member, Index}
use Rattle.trick_lang.specs.declared.syntax.statement.Branch.{Branch}

-- a part of a place
abbrev pub step_of : Part → Step
step_of (Member line name) = member line name
step_of (Index e) = index (expression_of e)

-- an operator and its operand
abbrev pub link_of : Link → Operator × Expression
link_of l = (l.operator, expression_of l.operand)

-- what stands after the NAME that a statement begins with
abbrev pub after_name_of : AfterName → grammar.AfterName
after_name_of (Declares name value) = grammar.declares name (first_value_of value)
after_name_of Calls = grammar.calls
after_name_of (Changes parts change) = grammar.changes (map step_of parts.items) (change_of change)

-- a branch of an `if`
abbrev pub branch_of : Branch → grammar.Branch
branch_of b = (b.line, expression_of b.test, statement_of b.body)

-- what stands after an `else`
abbrev pub else_of : Else → Linked grammar.Branch Statement
else_of (Onward b) = onward (branch_of b)
else_of (Last s) = last (statement_of s)
