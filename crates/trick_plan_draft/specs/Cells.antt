-- The cells by their full names, and the names that are taken.
use Rattle.std.specs.Prelude.{◌≡◌, ℕ, suc, Bool, true, ◌||◌, List, [], ◌∷◌, ◌++◌, length, map, is_some}
use Rattle.trick_plan_variables.specs.Cells.{first_name}
use Rattle.trick_plan_draft.specs.declared.cells.KnownCells.{KnownCells}
use Rattle.trick_lang.specs.SyntaxTree.{Name}
use Rattle.trick_lang.specs.declared.cells.Cell.{Cell}
use Rattle.trick_lang.specs.declared.object.Object.{Object}
use Rattle.trick_lang.specs.declared.variable.Variable.{Variable}
use Rattle.trick_check_names.specs.Names.{Names, meaning_of, with_name}

-- no cell and no object is known
abbrev pub no_cells : KnownCells
no_cells = record { names = []; scalars = []; firsts = []; objects = [] }

-- One cell more. Its number counts those before it.
abbrev pub with_cell : Variable → KnownCells → KnownCells
with_cell cell known = record known {
  names = with_name cell.name (record { 0 = length known.scalars }) known.names;
  scalars = known.scalars ++ cell.scalar ∷ [];
  firsts = with_name (first_name cell.name) true known.firsts;
}

abbrev pub with_cells : List Variable → KnownCells → KnownCells
with_cells [] known = known
with_cells (cell ∷ cells) known = with_cells cells (with_cell cell known)

abbrev pub with_object : Object → KnownCells → KnownCells
with_object object known = record known { objects = with_name object.name true known.objects }

abbrev pub with_objects : List Object → KnownCells → KnownCells
with_objects [] known = known
with_objects (object ∷ objects) known = with_objects objects (with_object object known)

-- what is known of these objects and cells
abbrev pub known_cells : List Object → List Variable → KnownCells
known_cells objects cells = with_cells cells (with_objects objects no_cells)

-- A name is taken where an object has it, or a cell's full name begins with it.
abbrev pub is_taken_in : KnownCells → Name → Bool
is_taken_in known name =
    is_some (meaning_of name known.objects) || is_some (meaning_of (first_name name) known.firsts)

-- the names alone, in order
abbrev pub only_names : {T : Type 0} → Names T → List Name
only_names names = map (λ (known : Name × _). known.0) names

-- cells with these full names, numbered from k on
abbrev pub numbered : ℕ → List Name → Names Cell
numbered k [] = []
numbered k (name ∷ names) = (name, record { 0 = k }) ∷ numbered (suc k) names

-- The number of a cell is the place of its name.
abbrev pub AreNumbered : KnownCells → Type 0
AreNumbered known = known.names ≡ numbered 0 (only_names known.names)
