-- The cells that a declaration adds, and why it is refused.
use Rattle.std.specs.List.{list_any}
use Rattle.std.specs.Prelude.{◌≡◌, ℕ, zero, suc, ◌+◌, ◌*◌, ◌-◌, ◌^◌, ◌==◌, nat_lt, min, Bool, ◌||◌, List, [], ◌∷◌, ◌++◌, codes, decimal, length, map, Option, Some, None, Result, Ok, Err, if◌then◌else◌, ◌⊎◌}
use Rattle.std.specs.Str.{bytes_eq}
use Rattle.trick_plan_variables.specs.Grammar.{Declares}
use Rattle.trick_plan_variables.specs.declared.declaration.Declaration.{Declaration}
use Rattle.trick_plan_variables.specs.declared.fault.DeclareFault.{DeclareFault}
use Rattle.trick_plan_variables.specs.declared.fault.DeclareFault.TheVariants as fault
use Rattle.trick_lang.specs.declared.object.Object.{Object}
use Rattle.trick_lang.specs.declared.program.Program.{Program}
use Rattle.trick_lang.specs.declared.scalar.Scalar.{Scalar}
use Rattle.trick_lang.specs.declared.variable.Variable.{Variable}
use Rattle.trick_model.specs.declared.plan.Plan.{Plan}

-- ---- the cells

-- an element of an array, by its index
abbrev pub element : List ℕ → ℕ → List ℕ
element name i = name ++ (codes "[" ++ (decimal i ++ codes "]"))

-- the first so many elements of an array
abbrev pub elements : List ℕ → ℕ → List (List ℕ)
elements name zero = []
elements name (suc i) = elements name i ++ element name i ∷ []

-- the elements of the first so many rows, of which each has so many; the last index runs fastest
abbrev pub row_elements : List ℕ → ℕ → ℕ → List (List ℕ)
row_elements name zero columns = []
row_elements name (suc i) columns = row_elements name i columns ++ elements (element name i) columns

-- the full names of a declared variable: its own, or those of its elements
abbrev pub full_names : List ℕ → List ℕ → List (List ℕ)
full_names name [] = name ∷ []
full_names name (n ∷ []) = elements name n
full_names name (n ∷ m ∷ more) = row_elements name n m

-- cells of one type
abbrev pub cells_named : Scalar → List (List ℕ) → List Variable
cells_named scalar names = map (λ name. record { name = name; scalar = scalar }) names

-- the cells of a declaration
abbrev pub cells_of : Declaration → List Variable
cells_of d = cells_named d.scalar (full_names d.name d.lengths)

-- how many cells a variable of these lengths has
abbrev pub count_of : List ℕ → ℕ
count_of [] = 1
count_of (n ∷ []) = n
count_of (n ∷ m ∷ more) = n * m

-- ---- refusals

-- the bytes of a full name before its first `.` or `[`: the name of an object or of a declared variable
abbrev pub first_name : List ℕ → List ℕ
first_name [] = []
first_name (b ∷ bs) = if (b == 46) || (b == 91) then [] else b ∷ first_name bs

-- a cell's full name begins with the name of a variable, which has no `.` and no `[`
abbrev pub begins_with : List ℕ → Variable → Bool
begins_with name cell = bytes_eq (first_name cell.name) (first_name name)

-- A name is taken where an object has it, or a cell's full name begins with it.
abbrev pub is_taken : List ℕ → List Object → List Variable → Bool
is_taken name objects cells =
    list_any (λ (object : Object). bytes_eq object.name name) objects || list_any (begins_with name) cells

-- how many cells there would be; the count stands still at 2^64 - 1
abbrev pub total : List ℕ → List Variable → ℕ
total lengths cells = min (length cells + count_of lengths) (2 ^ 64 - 1)

-- what a declaration adds to a program with these objects and cells, or its first refusal
abbrev pub added : List Object → List Variable → Option Declaration → Result (List Variable) DeclareFault
added objects cells None = Err fault.BadDeclaration
added objects cells (Some d) =
    if is_taken d.name objects cells then Err fault.Taken
    else if nat_lt 65536 (total d.lengths cells) then Err (fault.TooManyCells (total d.lengths cells))
    else Ok (cells_of d)

-- all else of a program is as it was
pub record KeepsRest (old new : Program) : Type 0 where
  pub items : new.items ≡ old.items
  pub sizes : new.sizes ≡ old.sizes
  pub objects : new.objects ≡ old.objects
  pub blocks : new.blocks ≡ old.blocks
  pub methods : new.methods ≡ old.methods
  pub jobs : new.jobs ≡ old.jobs
  pub slots : new.slots ≡ old.slots

-- What a program is told to add is added last. A refusal leaves the cells as they were, and a want of
-- memory may come at any time.
abbrev pub Adds : Result (List Variable) DeclareFault → Result (Unit {0}) DeclareFault → List Variable → List Variable
    → Type 0
Adds expected (Ok done) old new = (more : List Variable) × (expected ≡ Ok more) × (new ≡ old ++ more)
Adds expected (Err refused) old new = ((refused ≡ fault.OutOfMemory) ⊎ (expected ≡ Err refused)) × (new ≡ old)

-- all else of a plan is as it was
pub record KeepsPlan (old new : Plan) : Type 0 where
  pub program : KeepsRest old.program new.program
  pub frame : new.frame ≡ old.frame
  pub limit : new.limit ≡ old.limit
  pub frozen : new.frozen ≡ old.frozen
  pub threads : new.threads ≡ old.threads
  pub queues : new.queues ≡ old.queues
  pub depends : new.depends ≡ old.depends
  pub groups : new.groups ≡ old.groups
  pub events : new.events ≡ old.events
  pub reads : new.reads ≡ old.reads
  pub assigns : new.assigns ≡ old.assigns
  pub jobs : new.jobs ≡ old.jobs
  pub events_on : new.events_on ≡ old.events_on
  pub groups_on : new.groups_on ≡ old.groups_on

-- What a text declares is added, or refused. A want of memory may come at any time.
abbrev pub DeclaresIn : List ℕ → Result (Unit {0}) DeclareFault → Program → Program → Type 0
DeclaresIn text (Err fault.OutOfMemory) old new = new.cells ≡ old.cells
DeclaresIn text result old new =
    (declared : Option Declaration) × Declares text declared
    × Adds (added old.objects old.cells declared) result old.cells new.cells
