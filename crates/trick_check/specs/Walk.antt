-- What is made of the classes of a file, one after another: blocks, methods, and their numbers; and
-- the jobs.

use Rattle.std.specs.Prelude.{ℕ, zero, suc, ◌==◌, ◌≤◌, Bool, true, false, ◌||◌, List, [], ◌∷◌, ◌++◌, length}
use Rattle.trick_check_blocks.specs.Methods.{progress}
use Rattle.trick_check_blocks.specs.declared.scope.ClassScope.{ClassScope}
use Rattle.trick_check_bodies.specs.Classes.{Made, with_class}
use Rattle.trick_check_cells.specs.Cells.{all_groups}
use Rattle.trick_check_cells.specs.Counts.{counts}
use Rattle.trick_check_cells.specs.Tables.{layout_of, object_rows}
use Rattle.trick_check.specs.Parts.{order_at, parts_at}
use Rattle.trick_check_bodies.specs.Jobs.{jobs_from}
use Rattle.trick_lang.specs.SyntaxTree as tree
use Rattle.trick_lang.specs.SyntaxTree.{SDefine}
use Rattle.trick_lang.specs.declared.job.Job.{Job}
use Rattle.trick_lang.specs.declared.object.Object.{Object}
use Rattle.trick_check_names.specs.Laid.{size_at}
use Rattle.trick_check_names.specs.declared.layout.Layout.{Layout}
use Rattle.trick_check_names.specs.Tables.{tables_of}

-- how many cells each struct and class has, by the number of its definition
abbrev pub sizes_of : SDefine → List ℕ
sizes_of ds = counts (all_groups (tables_of ds))

-- where all variables lie
abbrev pub file_layout : SDefine → Layout
file_layout ds = layout_of (sizes_of ds) (tables_of ds)

-- an object of any class fits the memory
abbrev pub SizesFit : Layout → Type 0
SizesFit layout = (class : ℕ) → size_at layout.sizes class ≤ 65536

-- the objects, in order
abbrev pub objects_of : SDefine → List Object
objects_of ds = object_rows (sizes_of ds) 0 (tables_of ds).names

-- the class of that number has an object
abbrev pub has_object : List Object → ℕ → Bool
has_object [] class = false
has_object (o ∷ os) class = (o.class == class) || has_object os class

-- A class is made, by the order of its parts, where it has objects. Of another class, and of what is no
-- class, nothing is made, and it has no methods.
abbrev pub with_class_if : Bool → ℕ → List ℕ → List tree.Part → Made → Made
with_class_if true class order parts m = with_class class order parts m
with_class_if false class order parts m = record m { numbers = m.numbers ++ [] ∷ [] }

-- before the first class
abbrev pub first_world : Layout → ClassScope
first_world layout = record { layout = layout; class = 0; methods = []; slots = 0 }

abbrev pub nothing_made : Layout → Made
nothing_made layout = record { progress = progress (first_world layout) []; methods = []; numbers = [] }

-- what is made of the first so many definitions of a file, where it has these objects
abbrev pub made_of_first : SDefine → List Object → ℕ → Made
made_of_first ds objects zero = nothing_made (file_layout ds)
made_of_first ds objects (suc n) =
    with_class_if (has_object objects n) n (order_at ds n) (parts_at ds n) (made_of_first ds objects n)

-- what is made of the whole file
abbrev pub all_made : SDefine → Made
all_made ds = made_of_first ds (objects_of ds) (length ds)

-- the jobs: for each object in order, the lines of its class' constructor in order
abbrev pub jobs_named : SDefine → List Job
jobs_named ds = jobs_from ds (all_made ds).numbers 0 (objects_of ds)
