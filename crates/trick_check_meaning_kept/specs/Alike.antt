-- Names and the cells and slots that they become: what the tables of names and those of cells have in
-- common, and states that say the same by names and by numbers.
use Rattle.std.specs.List.{slice_index_or}
use Rattle.std.specs.Prelude.{◌≡◌, ℕ, suc, ◌+◌, ℤ, ◌≤◌, Bool, true, nat_le, nat_lt, List, [], ◌∷◌, length, Option, Some, None, is_some, Result, Ok, Err}
use Rattle.trick_check_blocks.specs.declared.start.Local.{Local as InSlot}
use Rattle.trick_check_blocks.specs.declared.scope.ClassScope.{ClassScope}
use Rattle.trick_check_cells.specs.Cells.{cells_at, place_cells}
use Rattle.trick_check_cells.specs.Tables.{has_elements}
use Rattle.trick_check_cells.specs.Unfolding.{Unfolds}
use Rattle.trick_lang.specs.Blocks.{block_at}
use Rattle.trick_lang.specs.Effect.{scalars_of}
use Rattle.trick_lang.specs.Locals.{bound_number}
use Rattle.trick_lang.specs.Names.{are_apart, of_one_name}
use Rattle.trick_lang.specs.Run.{Setting as InCells, State as Resolved, local_of, run_all}
use Rattle.trick_lang.specs.SyntaxTree as text
use Rattle.trick_lang.specs.SyntaxTree.{Name}
use Rattle.trick_lang.specs.Tree.{Code, Empty, Declare, SetLocal, Assign, If, For, Run}
use Rattle.trick_lang.specs.Value.{Sight}
use Rattle.trick_lang.specs.declared.fault.StatementFault.{StatementFault}
use Rattle.trick_lang.specs.declared.variable.Variable.{Variable}
use Rattle.trick_check_names.specs.Laid.{fields_at}
use Rattle.trick_check_names.specs.declared.layout.Dims.{Dims}
use Rattle.trick_check_names.specs.declared.layout.Dims.TheVariants as dims
use Rattle.trick_check_names.specs.declared.layout.Extent.{Extent}
use Rattle.trick_check_names.specs.declared.layout.Field.{Field}
use Rattle.trick_check_names.specs.declared.layout.Layout.{Layout}
use Rattle.trick_check_names.specs.declared.layout.Site.{Site}
use Rattle.trick_check_names.specs.declared.layout.Site.TheVariants as site
use Rattle.trick_check_meaning.specs.Meaning.{Local as ByName, Setting, State, Stored, number_at}
use Rattle.trick_check_names.specs.Names.{Names, meaning_of}
use Rattle.trick_check_names.specs.Places.{members_at}
use Rattle.trick_check_names.specs.declared.tables.Base.TheVariants.{Single, Group}
use Rattle.trick_check_names.specs.declared.tables.Global.{Global}
use Rattle.trick_check_names.specs.declared.tables.Global.TheVariants as the
use Rattle.trick_check_names.specs.declared.tables.Lengths.{Lengths}
use Rattle.trick_check_names.specs.declared.tables.Lengths.TheVariants as lengths
use Rattle.trick_check_names.specs.declared.tables.Local.{Local as Declared}
use Rattle.trick_check_names.specs.declared.tables.Member.{Member}
use Rattle.trick_check_names.specs.declared.tables.Member.TheVariants.{Variable as Holds, Method}
use Rattle.trick_check_names.specs.declared.tables.Shape.{Shape}
use Rattle.trick_check_names.specs.declared.tables.Tables.{Tables}
use Rattle.trick_check_bodies.specs.Named.{AreNamed, IsNamed}

-- ---- tables

-- as many indexes, over arrays of the same lengths
abbrev pub AreSameLengths : Lengths → Dims → Type 0
AreSameLengths lengths.Plain dims.Plain = Unit {0}
AreSameLengths lengths.Plain (dims.One d) = ⊥
AreSameLengths lengths.Plain (dims.Two d e) = ⊥
AreSameLengths (lengths.One n) dims.Plain = ⊥
AreSameLengths (lengths.One n) (dims.One d) = d.length ≡ n
AreSameLengths (lengths.One n) (dims.Two d e) = ⊥
AreSameLengths (lengths.Two m n) dims.Plain = ⊥
AreSameLengths (lengths.Two m n) (dims.One d) = ⊥
AreSameLengths (lengths.Two m n) (dims.Two d e) = (d.length ≡ m) × (e.length ≡ n)

-- a variable is the same by names and by cells
abbrev pub IsSame : Shape → Extent → Type 0
IsSame shape extent = AreSameLengths shape.lengths extent.dims × (extent.base ≡ shape.base)

abbrev pub HasExtent : Shape → Option Field → Type 0
HasExtent shape None = ⊥
HasExtent shape (Some f) = IsSame shape f.extent

-- how many cells a variable has, where `done` are those of each struct and class
abbrev pub many : List (List Variable) → Shape → ℕ
many done shape = length (place_cells done shape.lengths shape.base)

-- a member that has cells is a variable there, and what is no variable is none there
abbrev pub IsSameMember : List (List Variable) → Option Member → Option Field → Type 0
IsSameMember done (Some (Holds shape)) field = 1 ≤ many done shape → HasExtent shape field
IsSameMember done (Some (Method number)) None = Unit {0}
IsSameMember done (Some (Method number)) (Some f) = ⊥
IsSameMember done None None = Unit {0}
IsSameMember done None (Some f) = ⊥

-- items and objects are the same, and no other name of the file is a place
abbrev pub IsSameGlobal : Option Global → Option Site → Type 0
IsSameGlobal (Some (the.Item value)) (Some (site.Item other)) = other ≡ value
IsSameGlobal (Some (the.Item value)) (Some (site.Object first class)) = ⊥
IsSameGlobal (Some (the.Item value)) None = ⊥
IsSameGlobal (Some (the.Object (Group k))) (Some (site.Object first class)) = class ≡ k
IsSameGlobal (Some (the.Object (Group k))) (Some (site.Item value)) = ⊥
IsSameGlobal (Some (the.Object (Group k))) None = ⊥
IsSameGlobal (Some (the.Object (Single scalar))) site = ⊥
IsSameGlobal (Some the.Enum) None = Unit {0}
IsSameGlobal (Some the.Enum) (Some s) = ⊥
IsSameGlobal (Some (the.Struct k)) None = Unit {0}
IsSameGlobal (Some (the.Struct k)) (Some s) = ⊥
IsSameGlobal (Some (the.Class k)) None = Unit {0}
IsSameGlobal (Some (the.Class k)) (Some s) = ⊥
IsSameGlobal None None = Unit {0}
IsSameGlobal None (Some s) = ⊥

-- no array is without elements
abbrev pub HaveElements : Tables → Type 0
HaveElements tables = (k : ℕ) (name : Name) (shape : Shape)
    → meaning_of name (members_at tables.groups k) ≡ Some (Holds shape) → has_elements shape.lengths ≡ true

-- what a file declares, by names and by cells; a struct or class of more than 65,536 cells is in no object
pub record AreSameTables (tables : Tables) (layout : Layout) (done : List (List Variable)) : Type 0 where
  pub members : (k : ℕ) (name : Name) → length (cells_at done k) ≤ 65536
      → IsSameMember done (meaning_of name (members_at tables.groups k)) (meaning_of name (fields_at layout.groups k))
  pub globals : (name : Name) → IsSameGlobal (meaning_of name tables.names) (meaning_of name layout.sites)
  pub unfolds : Unfolds tables.groups done
  pub elements : HaveElements tables
  pub small : (name : Name) (k : ℕ) → meaning_of name tables.names ≡ Some (the.Object (Group k))
      → length (cells_at done k) ≤ 65536

-- ---- local variables and states

-- a local variable is known with the same type and number, or it is not known
abbrev pub IsSameLocal : (ℕ → ℤ) → Option InSlot → Option Declared → Option ByName → Type 0
IsSameLocal number (Some a) (Some b) (Some c) =
    (number a.slot ≡ c.number) × (a.scalar ≡ c.scalar) × (a.is_loop ≡ b.is_loop)
IsSameLocal number (Some a) (Some b) None = ⊥
IsSameLocal number (Some a) None c = ⊥
IsSameLocal number None (Some b) c = ⊥
IsSameLocal number None None (Some c) = ⊥
IsSameLocal number None None None = Unit {0}

-- what an expression sees is the same by cells and slots and by names: the object is there, each cell has
-- the number of its full name, and each local variable has its own
pub record SeeTheSame (w : ClassScope) (slots : Names InSlot) (declared : Names Declared) (memory : List Variable)
    (sight : Sight) (x : Setting) (s : State) : Type 0 where
  pub class : x.scope.own ≡ w.class
  pub object : meaning_of x.object w.layout.sites ≡ Some (site.Object sight.base w.class)
  pub known : meaning_of x.object x.scope.tables.names ≡ Some (the.Object (Group w.class))
  pub cells : (cell : ℕ) (full : Name) → IsNamed memory cell full → sight.cell cell ≡ number_at full x s
  pub locals : (name : Name)
      → IsSameLocal sight.local (meaning_of name slots) (meaning_of name declared) (meaning_of name s.locals)

-- a local variable that is known, in its slot
pub record IsRow (slot : ℕ) (number : ℕ → ℤ) (a : Name × InSlot) (b : Name × Declared)
    (c : Name × ByName) : Type 0 where
  pub declared_as : b.0 ≡ a.0
  pub named_as : c.0 ≡ a.0
  pub slot_is : a.1.slot ≡ slot
  pub scalar_is : a.1.scalar ≡ c.1.scalar
  pub loop_is : a.1.is_loop ≡ b.1.is_loop
  pub number_is : number slot ≡ c.1.number

-- the same local variables are known, in the same order, in slots that follow one another
abbrev pub AreRows : ℕ → (ℕ → ℤ) → Names InSlot → Names Declared → Names ByName → Type 0
AreRows slot number [] [] [] = Unit {0}
AreRows slot number [] [] (c ∷ cs) = ⊥
AreRows slot number [] (b ∷ bs) cs = ⊥
AreRows slot number (a ∷ rest) [] cs = ⊥
AreRows slot number (a ∷ rest) (b ∷ bs) [] = ⊥
AreRows slot number (a ∷ rest) (b ∷ bs) (c ∷ cs) = IsRow slot number a b c × AreRows (suc slot) number rest bs cs

-- two states say the same: each cell has what was stored under its full name, and each local variable has its
-- number in its slot; there are so many slots, and the method has those below `top`
pub record AreAlike (w : ClassScope) (size top : ℕ) (slots : Names InSlot) (declared : Names Declared)
    (memory : List Variable) (by_number : Resolved) (by_name : State) : Type 0 where
  pub cells : length by_number.stored ≡ length memory
  pub stored : (cell : ℕ) (full : Name) → IsNamed memory cell full
      → slice_index_or by_number.stored cell None ≡ meaning_of full by_name.stored
  pub room : size ≤ length by_number.locals
  pub fits : w.slots + length slots ≤ top
  pub rows : AreRows w.slots (local_of by_number) slots declared by_name.locals

-- slots from a number on keep their numbers
abbrev pub KeepsFrom : ℕ → Resolved → Resolved → Type 0
KeepsFrom top before after = (slot : ℕ) → top ≤ slot → local_of after slot ≡ local_of before slot

-- both runs end alike, or at the same fault
abbrev pub EndAlike : ClassScope → ℕ → ℕ → Names InSlot → Names Declared → List Variable → Resolved → Result Resolved StatementFault
    → Result State StatementFault → Type 0
EndAlike w size top slots declared memory before (Ok a) (Ok b) =
    AreAlike w size top slots declared memory a b × KeepsFrom top before a
EndAlike w size top slots declared memory before (Ok a) (Err d) = ⊥
EndAlike w size top slots declared memory before (Err c) (Ok b) = ⊥
EndAlike w size top slots declared memory before (Err c) (Err d) = c ≡ d

-- a method that is called by one with slots from `from` on leaves those as they are
abbrev pub CallAlike : ClassScope → ℕ → ℕ → List Variable → Resolved
    → Result Resolved StatementFault → Result Stored StatementFault → Type 0
CallAlike w size top memory before (Ok a) (Ok stored) =
    AreAlike w size top [] [] memory a (record { stored = stored; locals = [] }) × KeepsFrom w.slots before a
CallAlike w size top memory before (Ok a) (Err d) = ⊥
CallAlike w size top memory before (Err c) (Ok stored) = ⊥
CallAlike w size top memory before (Err c) (Err d) = c ≡ d

-- ---- where bodies run

-- no two cells have one name, the object and its class are there, cells have the types and numbers of their full
-- names, and what is called does the same
pub record AreInOnePlace (w : ClassScope) (done : List (List Variable)) (memory : List Variable) (size top : ℕ) (x : InCells)
    (y : Setting) : Type 0 where
  pub room : top ≤ size
  pub named : AreNamed w.layout done memory
  pub same : AreSameTables y.scope.tables w.layout done
  pub apart : are_apart of_one_name memory ≡ true
  pub class : y.scope.own ≡ w.class
  pub object : meaning_of y.object w.layout.sites ≡ Some (site.Object x.base w.class)
  pub known : meaning_of y.object y.scope.tables.names ≡ Some (the.Object (Group w.class))
  pub scalars : x.scalars ≡ scalars_of memory
  pub numbers : (cell : ℕ) (full : Name) → IsNamed memory cell full → x.memory cell ≡ y.memory full
  pub calls : (name : Name) (block : ℕ) (a : Resolved) (stored : Stored) → meaning_of name w.methods ≡ Some block
      → AreAlike w size top [] [] memory a (record { stored = stored; locals = [] })
      → CallAlike w size top memory a (x.blocks block a) (y.calls name stored)

-- ---- blocks

-- these are the blocks from that number on
abbrev pub HasBlocks : List (List Code) → ℕ → List (List Code) → Type 0
HasBlocks all n [] = Unit {0}
HasBlocks all n (b ∷ bs) = (block_at all n ≡ b) × HasBlocks all (suc n) bs

-- a block runs its statements
abbrev pub RunBlocks : List (List Code) → InCells → Type 0
RunBlocks all x = (block : ℕ) (s : Resolved) → x.blocks block s ≡ run_all (block_at all block) x s

-- new local variables have slots below that number
abbrev pub is_code_below : ℕ → Code → Bool
is_code_below top Empty = true
is_code_below top (Declare line slot scalar e) = nat_lt slot top
is_code_below top (SetLocal line slot scalar change) = true
is_code_below top (Assign line place change) = true
is_code_below top (If branches) = true
is_code_below top (For slot from bound block) = nat_lt slot top
is_code_below top (Run block) = true

abbrev pub AreBelow : ℕ → List Code → Type 0
AreBelow top [] = Unit {0}
AreBelow top (c ∷ cs) = (is_code_below top c ≡ true) × AreBelow top cs

abbrev pub BlocksAreBelow : ℕ → List (List Code) → Type 0
BlocksAreBelow top [] = Unit {0}
BlocksAreBelow top (b ∷ bs) = AreBelow top b × BlocksAreBelow top bs

-- ---- what is asked of the text

-- each loop ends at 1,000,000 at most, as a reader sees to, and each call is of a method that is made
abbrev mutual
  pub CanRun : ClassScope → text.Statement → Type 0
  CanRun w text.Empty = Unit {0}
  CanRun w (text.Block all) = CanRunAll w all
  CanRun w (text.Declare line written name e) = Unit {0}
  CanRun w (text.Assign line p change) = Unit {0}
  CanRun w (text.If branches) = CanBranch w branches
  CanRun w (text.For name from bound body) = (nat_le (bound_number bound) 1000000 ≡ true) × CanRun w body
  CanRun w (text.Call line name) = is_some (meaning_of name w.methods) ≡ true

  pub CanBranch : ClassScope → text.Branches → Type 0
  CanBranch w text.NoElse = Unit {0}
  CanBranch w (text.Else body) = CanRun w body
  CanBranch w (text.Test line test body rest) = CanRun w body × CanBranch w rest

  pub CanRunAll : ClassScope → text.Statements → Type 0
  CanRunAll w text.NoStatement = Unit {0}
  CanRunAll w (text.Then b rest) = CanRun w b × CanRunAll w rest
