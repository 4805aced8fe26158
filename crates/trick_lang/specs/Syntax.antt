-- The tree of the text that a value of the code holds.
use Rattle.std.specs.Prelude.{List, [], ◌∷◌, Option, Some, None, Box}
use Rattle.std.specs.declared.alloc.Global.{Global}
use Rattle.trick_lang.specs.SyntaxTree
use Rattle.trick_lang.specs.SyntaxTree.{Expression, Links, NoLink, Choices, Last, Parts, NoPart, Statement, Statements, NoStatement, Then, Branches, NoElse, Else, Test, HasMembers, HasMethod, ClassOf}
use Rattle.trick_lang.specs.declared.syntax.definition.ClassPart.{ClassPart}
use Rattle.trick_lang.specs.declared.syntax.definition.ClassPart.TheVariants.{Public, Members as MembersPart, Method as MethodPart, Constructor}
use Rattle.trick_lang.specs.declared.syntax.definition.Declarator.{Declarator}
use Rattle.trick_lang.specs.declared.syntax.definition.Definition.{Definition}
use Rattle.trick_lang.specs.declared.syntax.definition.Definition.TheVariants.{Include, Enum, Struct, Class, Object}
use Rattle.trick_lang.specs.declared.syntax.definition.EnumItem.{EnumItem}
use Rattle.trick_lang.specs.declared.syntax.definition.JobLine.{JobLine}
use Rattle.trick_lang.specs.declared.syntax.definition.Members.{Members}
use Rattle.trick_lang.specs.declared.syntax.definition.Method.{Method}
use Rattle.trick_lang.specs.declared.syntax.expression.Choice.{Choice}
use Rattle.trick_lang.specs.declared.syntax.expression.Expr.{Expr, Whole, Truth, Named', Prefixed', Chain', Choose', Row_of-Link, end_of-Link, more_of-Link, Row_of-Choice, end_of-Choice, more_of-Choice, Row_of-Part, end_of-Part, more_of-Part}
use Rattle.trick_lang.specs.declared.syntax.expression.Link.{Link}
use Rattle.trick_lang.specs.declared.syntax.expression.Part.{Part, Member, Index}
use Rattle.trick_lang.specs.declared.syntax.expression.Path.{Path}
use Rattle.trick_lang.specs.declared.syntax.statement.Branch.{Branch}
use Rattle.trick_lang.specs.declared.syntax.statement.Change.{Change}
use Rattle.trick_lang.specs.declared.syntax.statement.Change.TheVariants.{Set, Update, Increase, Decrease}
use Rattle.trick_lang.specs.declared.syntax.statement.Stmt.{Stmt, Empty, Block', Declare, Assign, If', For', Call, Row_of-Stmt, end_of-Stmt, more_of-Stmt, Row_of-Branch, end_of-Branch, more_of-Branch, Held-Stmt-If-1, None', Some'}
use Rattle.trick_lang.specs.declared.syntax.statement.TypeName.{TypeName}
use Rattle.trick_lang.specs.declared.syntax.statement.TypeName.TheVariants.{Basic, Custom}

-- ---- expressions and places

abbrev mutual
  pub expression_of : Expr → Expression
  expression_of (Whole line number) = SyntaxTree.Whole line number
  expression_of (Truth line value) = SyntaxTree.Truth line value
  expression_of (Named' line name shape parts) = SyntaxTree.Named (SyntaxTree.path line name (parts_of parts))
  expression_of (Prefixed' o p e) = SyntaxTree.Prefixed o (expression_of e)
  expression_of (Chain' p e shape links) = SyntaxTree.Chain (expression_of e) (links_of links)
  expression_of (Choose' shape choices p e) = SyntaxTree.Choose (choices_of choices (expression_of e))

  pub links_of : {m : _} → Row_of-Link m → Links
  links_of end_of-Link = NoLink
  links_of (more_of-Link o e rest) = SyntaxTree.Link o (expression_of e) (links_of rest)

  pub choices_of : {m : _} → Row_of-Choice m → Expression → Choices
  choices_of end_of-Choice last = Last last
  choices_of (more_of-Choice test e rest) last =
      SyntaxTree.Choice (expression_of test) (expression_of e) (choices_of rest last)

  pub parts_of : {m : _} → Row_of-Part m → Parts
  parts_of end_of-Part = NoPart
  parts_of (more_of-Part (Member line name) rest) = SyntaxTree.Member line name (parts_of rest)
  parts_of (more_of-Part (Index e) rest) = SyntaxTree.Index (expression_of e) (parts_of rest)

abbrev pub links_of_list : List Link → Links
links_of_list [] = NoLink
links_of_list (l ∷ ls) = SyntaxTree.Link l.operator (expression_of l.operand) (links_of_list ls)

abbrev pub choices_of_list : List Choice → Expression → Choices
choices_of_list [] last = Last last
choices_of_list (c ∷ cs) last =
    SyntaxTree.Choice (expression_of c.test) (expression_of c.value) (choices_of_list cs last)

abbrev pub parts_of_list : List Part → Parts
parts_of_list [] = NoPart
parts_of_list (Member line name ∷ ps) = SyntaxTree.Member line name (parts_of_list ps)
parts_of_list (Index e ∷ ps) = SyntaxTree.Index (expression_of e) (parts_of_list ps)

abbrev pub path_of : Path → SyntaxTree.Path
path_of p = SyntaxTree.path p.line p.name (parts_of_list p.parts.items)

-- ---- statements

abbrev pub written_of : TypeName → SyntaxTree.TypeName
written_of (Basic scalar) = SyntaxTree.Basic scalar
written_of (Custom line name) = SyntaxTree.Custom line name

abbrev pub first_value_of : Option Expr → Option Expression
first_value_of None = None
first_value_of (Some e) = Some (expression_of e)

abbrev pub change_of : Change → SyntaxTree.Change
change_of (Set e) = SyntaxTree.Set (expression_of e)
change_of (Update o e) = SyntaxTree.Update o (expression_of e)
change_of Increase = SyntaxTree.Increase
change_of Decrease = SyntaxTree.Decrease

abbrev mutual
  pub statement_of : Stmt → Statement
  statement_of Empty = SyntaxTree.Empty
  statement_of (Block' shape all) = SyntaxTree.Block (statements_of all)
  statement_of (Declare line written name value) =
      SyntaxTree.Declare line (written_of written) name (first_value_of value)
  statement_of (Assign line path change) = SyntaxTree.Assign line (path_of path) (change_of change)
  statement_of (If' shape branches otherwise) = SyntaxTree.If (branches_of branches (else_of otherwise))
  statement_of (For' name from bound p body) = SyntaxTree.For name from bound (statement_of body)
  statement_of (Call line name) = SyntaxTree.Call line name

  pub statements_of : {m : _} → Row_of-Stmt m → Statements
  statements_of end_of-Stmt = NoStatement
  statements_of (more_of-Stmt b rest) = Then (statement_of b) (statements_of rest)

  pub branches_of : {m : _} → Row_of-Branch m → Branches → Branches
  branches_of end_of-Branch last = last
  branches_of (more_of-Branch line test b rest) last =
      Test line (expression_of test) (statement_of b) (branches_of rest last)

  -- what stands after the last `else`
  pub else_of : Held-Stmt-If-1 → Branches
  else_of None' = NoElse
  else_of (Some' p b) = Else (statement_of b)

abbrev pub statements_of_list : List Stmt → Statements
statements_of_list [] = NoStatement
statements_of_list (b ∷ bs) = Then (statement_of b) (statements_of_list bs)

abbrev pub branches_of_list : List Branch → Branches → Branches
branches_of_list [] last = last
branches_of_list (b ∷ bs) last = Test b.line (expression_of b.test) (statement_of b.body) (branches_of_list bs last)

abbrev pub else_of_option : Option (Box Stmt Global) → Branches
else_of_option None = NoElse
else_of_option (Some b) = Else (statement_of b.value)

-- ---- S_define

abbrev pub method_of : Method → SyntaxTree.Method
method_of m = record { name = m.name; body = statements_of_list m.body }

abbrev pub items_of : List EnumItem → List SyntaxTree.EnumItem
items_of [] = []
items_of (i ∷ is) = record { line = i.line; name = i.name; value = i.value } ∷ items_of is

abbrev pub declarators_of : List Declarator → List SyntaxTree.Declarator
declarators_of [] = []
declarators_of (d ∷ ds) = record { name = d.name; lengths = d.lengths } ∷ declarators_of ds

abbrev pub members_of : Members → SyntaxTree.Members
members_of m = record { written = written_of m.written; declarators = declarators_of m.declarators }

abbrev pub all_members_of : List Members → List SyntaxTree.Members
all_members_of [] = []
all_members_of (m ∷ ms) = members_of m ∷ all_members_of ms

abbrev pub jobs_of : List JobLine → List SyntaxTree.JobLine
jobs_of [] = []
jobs_of (j ∷ js) = record {
  class = j.class;
  thread = j.thread;
  phase = j.phase;
  start = j.start;
  cycle = j.cycle;
  stop = j.stop;
  line = j.line;
  method = j.method;
} ∷ jobs_of js

abbrev pub class_part_of : ClassPart → SyntaxTree.Part
class_part_of Public = SyntaxTree.Public
class_part_of (MembersPart m) = HasMembers (members_of m)
class_part_of (MethodPart m) = HasMethod (method_of m)
class_part_of (Constructor line name jobs) = SyntaxTree.Constructor line name (jobs_of jobs)

abbrev pub class_parts_of : List ClassPart → List SyntaxTree.Part
class_parts_of [] = []
class_parts_of (p ∷ ps) = class_part_of p ∷ class_parts_of ps

abbrev pub definition_of : Definition → SyntaxTree.Definition
definition_of Include = SyntaxTree.Include
definition_of (Enum name items) = SyntaxTree.Enum name (items_of items)
definition_of (Struct name members) = SyntaxTree.Struct name (all_members_of members)
definition_of (Class name parts) = ClassOf name (class_parts_of parts)
definition_of (Object line class name) = SyntaxTree.Object line class name

abbrev pub definitions_of : List Definition → SyntaxTree.SDefine
definitions_of [] = []
definitions_of (d ∷ ds) = definition_of d ∷ definitions_of ds
