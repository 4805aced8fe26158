-- Which program a file names.

use Rattle.std.specs.Prelude.{◌≡◌}
use Rattle.trick_check_blocks.specs.Held.{bodies_of}
use Rattle.trick_check_cells.specs.Cells.{memory_cells}
use Rattle.trick_check_cells.specs.Tables.{item_rows, taken}
use Rattle.trick_check.specs.Refused.{StepsAreRight}
use Rattle.trick_check.specs.Walk.{all_made, jobs_named, objects_of, sizes_of}
use Rattle.trick_lang.specs.SyntaxTree.{SDefine}
use Rattle.trick_lang.specs.declared.program.Program.{Program}
use Rattle.trick_check_names.specs.Tables.{tables_of}

pub record IsNamed (ds : SDefine) (p : Program) : Type 0 where
  -- Each name is given once and stands for what may stand there, no method reaches itself by calls, and
  -- there are not too many cells, jobs or steps.
  pub right : StepsAreRight ds
  -- the full names and types of all cells: objects in order, their members in order, the last index
  -- of an array fastest
  pub cells : p.cells ≡ memory_cells (tables_of ds)
  -- the items of all enums, with their values
  pub items : p.items ≡ item_rows (tables_of ds).names
  -- how many cells an object of each class has
  pub sizes : p.sizes ≡ taken (sizes_of ds)
  -- the objects, each with its class and its first cell
  pub objects : p.objects ≡ objects_of ds
  -- What the methods of the classes that have objects do. In each class they are made in the one order in
  -- which each stands after those that it calls.
  pub blocks : bodies_of p.blocks ≡ (all_made ds).progress.bodies
  pub methods : p.methods ≡ (all_made ds).methods
  pub slots : p.slots ≡ (all_made ds).progress.scope.slots
  -- which methods run when
  pub jobs : p.jobs ≡ jobs_named ds

-- Two programs have the same parts. Of blocks it counts what they do, and not where they lie.
pub record AreSame (p q : Program) : Type 0 where
  pub cells : p.cells ≡ q.cells
  pub items : p.items ≡ q.items
  pub sizes : p.sizes ≡ q.sizes
  pub objects : p.objects ≡ q.objects
  pub blocks : bodies_of p.blocks ≡ bodies_of q.blocks
  pub methods : p.methods ≡ q.methods
  pub slots : p.slots ≡ q.slots
  pub jobs : p.jobs ≡ q.jobs
