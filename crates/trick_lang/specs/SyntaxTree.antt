-- What an S_define says: its trees, with names as they are written and nothing of the memory that
-- holds a tree. Parentheses, white space and comments leave no trace. A `line` is that of the token
-- that a later refusal or fault is about. What the grammar repeats without nesting is a flat list:
-- operands with operators of one precedence between them, the parts of a `?:` chain, the branches
-- of an `else if` chain.
use Rattle.std.specs.Prelude.{ℕ, ℤ, Bool, List, Option}
use Rattle.trick_lang.specs.declared.bound.Bound.{Bound}
use Rattle.trick_lang.specs.declared.class.Class.{Class}
use Rattle.trick_lang.specs.declared.operator.Arithmetic.{Arithmetic}
use Rattle.trick_lang.specs.declared.operator.Operator.{Operator}
use Rattle.trick_lang.specs.declared.operator.Prefix.{Prefix}
use Rattle.trick_lang.specs.declared.scalar.Scalar.{Scalar}

-- a name, byte by byte
abbrev pub Name : Type 0
Name = List ℕ

-- ---- expressions and places

mutual
  pub data Expression : Type 0 where
    -- a whole literal: its line, and the number as it is written, at most 2^63
    Whole : ℕ → ℕ → Expression
    -- `true` or `false`: its line, and which
    Truth : ℕ → Bool → Expression
    Named : Path → Expression
    Prefixed : Prefix → Expression → Expression
    -- a first operand, then operators of one precedence, each with its operand; `a - b - c` is a
    -- with the links `- b` and `- c`
    Chain : Expression → Links → Expression
    -- `a ? b : c ? d : e` is the choice a b, then c d, and at last e
    Choose : Choices → Expression

  pub data Links : Type 0 where
    NoLink : Links
    Link : Operator → Expression → Links → Links

  pub data Choices : Type 0 where
    -- the last part
    Last : Expression → Choices
    -- a test, the value where it holds, and the parts after the colon
    Choice : Expression → Expression → Choices → Choices

  pub data Path : Type 0 where
    -- the line of the first name, the name, and what follows it
    path : ℕ → Name → Parts → Path

  pub data Parts : Type 0 where
    NoPart : Parts
    -- `.name`: the line of the name, and the name
    Member : ℕ → Name → Parts → Parts
    -- `[expression]`
    Index : Expression → Parts → Parts

-- ---- statements

-- a written type
pub data TypeName : Type 0 where
  -- a scalar by its keywords; `unsigned` is UInt
  Basic : Scalar → TypeName
  -- the name of an enum, a struct or a class, and the line of the name
  Custom : ℕ → Name → TypeName

-- what an assignment does to its place
pub data Change : Type 0 where
  -- `= e`
  Set : Expression → Change
  -- `+= e` and its like
  Update : Arithmetic → Expression → Change
  -- `++`, before or after the place
  Increase : Change
  -- `--`, before or after the place
  Decrease : Change

-- A statement's line is that of its first token.
mutual
  pub data Statement : Type 0 where
    -- `;`
    Empty : Statement
    Block : Statements → Statement
    -- `type name;` or `type name = e;`, with its line
    Declare : ℕ → TypeName → Name → Option Expression → Statement
    -- a change of a place, with the statement's line: the place's, or that of a `++` before it
    Assign : ℕ → Path → Change → Statement
    -- `if (a) .. else if (b) .. else ..`; the first branch is a test
    If : Branches → Statement
    -- `for (int v = A; v < B; v++) ..`: v, A (at most 2^63), the bound and the statement
    For : Name → ℕ → Bound → Statement → Statement
    -- `name();`, with its line
    Call : ℕ → Name → Statement

  pub data Branches : Type 0 where
    -- no `else`
    NoElse : Branches
    -- the statement after the last `else`
    Else : Statement → Branches
    -- the line of an `if`, its test, its statement, and what stands after its `else`
    Test : ℕ → Expression → Statement → Branches → Branches

  pub data Statements : Type 0 where
    NoStatement : Statements
    Then : Statement → Statements → Statements

-- ---- S_define

-- `void name() { .. }` or `int name() { .. return 0; }`: the statements in the braces
pub record Method : Type 0 where
  pub name : Name
  pub body : Statements

-- an item of an enum, with the line of its name and its written value
pub record EnumItem : Type 0 where
  pub line : ℕ
  pub name : Name
  pub value : Option ℤ

-- a name and no, one or two lengths of an array, each at least 1
pub record Declarator : Type 0 where
  pub name : Name
  pub lengths : List ℕ

-- `type a, b[3];`
pub record Members : Type 0 where
  pub written : TypeName
  pub declarators : List Declarator

-- A line of a constructor: `C<n> P<n> (cycle, start, stop, "class") method();` and shorter forms.
-- Thread 0 and phase 60000 stand where none is written. The times are in tics: a scheduled job has
-- start 0 and stop 10^15 where none is written, and a job of another class has 0 for all three.
-- `line` is that of the method's name.
pub record JobLine : Type 0 where
  pub class : Class
  pub thread : ℕ
  pub phase : ℕ
  pub start : ℕ
  pub cycle : ℕ
  pub stop : ℕ
  pub line : ℕ
  pub method : Name

-- a part of a class
pub data Part : Type 0 where
  -- `public:`
  Public : Part
  HasMembers : Members → Part
  HasMethod : Method → Part
  -- the line of its name, the name, and its jobs
  Constructor : ℕ → Name → List JobLine → Part

-- a definition of the file
pub data Definition : Type 0 where
  Include : Definition
  Enum : Name → List EnumItem → Definition
  Struct : Name → List Members → Definition
  ClassOf : Name → List Part → Definition
  -- `Type name;`: the line of the type's name, the type's name, and the object's
  Object : ℕ → Name → Name → Definition

-- the file: its definitions in order
abbrev pub SDefine : Type 0
SDefine = List Definition
