-- The parts of a program, before they are joined.

use Rattle.std.specs.Prelude.{◌≡◌, ◌≤◌, IsTrue, length}
use Rattle.trick_check_bodies.specs.Classes.{AreWhole, made}
use Rattle.trick_check_cells.specs.Cells.{memory_cells}
use Rattle.trick_check_cells.specs.Tables.{item_rows}
use Rattle.trick_check.specs.Refused.{StepsAreRight}
use Rattle.trick_check.specs.Walk.{all_made, file_layout, jobs_named, objects_of}
use Rattle.trick_check.specs.declared.draft.ProgramDraft.{ProgramDraft}
use Rattle.trick_lang.specs.Names.{are_apart, are_plain_cells, are_plain_names, are_short_names, of_one_instance, of_one_name, of_one_number}
use Rattle.trick_lang.specs.SyntaxTree.{SDefine}
use Rattle.trick_lang.specs.Valid.{are_short, have_right_instances, have_right_threads, have_right_times, jobs_stand, objects_stand}
use Rattle.trick_lang.specs.declared.program.Program.{Program}
use Rattle.trick_check_names.specs.Tables.{tables_of}

-- these are the parts of what the file names
pub record IsDraft (ds : SDefine) (d : ProgramDraft) : Type 0 where
  pub right : StepsAreRight ds
  pub cells : d.cells ≡ memory_cells (tables_of ds)
  pub items : d.items ≡ item_rows (tables_of ds).names
  pub objects : d.objects ≡ objects_of ds
  pub bodies : made d.bodies ≡ all_made ds
  pub layout : d.bodies.scope.layout ≡ file_layout ds
  pub jobs : d.jobs ≡ jobs_named ds

-- what the parts of each file keep
pub record IsWhole (d : ProgramDraft) : Type 0 where
  pub bodies : AreWhole (made d.bodies)
  pub cells : d.bodies.scope.layout.cells ≡ length d.cells
  pub cell_limit : length d.cells ≤ 65536
  pub object_cells : IsTrue (objects_stand (length d.cells) d.bodies.scope.layout.sizes d.objects)
  pub job_numbers : IsTrue (are_apart of_one_number d.jobs)
  pub job_limit : length d.jobs ≤ 512
  pub short : IsTrue (are_short d.bodies.blocks.items d.bodies.methods d.jobs)

-- what they keep by the facts that the reader of a file knows
pub record IsProper (d : ProgramDraft) : Type 0 where
  pub cell_names : IsTrue (are_apart of_one_name d.cells)
  pub short_names : IsTrue (are_short_names d.objects d.bodies.methods d.items)
  pub plain_cells : IsTrue (are_plain_cells d.cells)
  pub plain_names : IsTrue (are_plain_names d.objects d.bodies.methods)
  pub job_parts : IsTrue (jobs_stand d.objects d.bodies.methods d.jobs)
  pub job_names : IsTrue (are_apart (of_one_instance d.objects d.bodies.methods) d.jobs)
  pub right_instances : IsTrue (have_right_instances d.jobs)
  pub right_times : IsTrue (have_right_times d.jobs)
  pub right_threads : IsTrue (have_right_threads d.jobs)

-- the program has these parts
pub record IsJoined (d : ProgramDraft) (p : Program) : Type 0 where
  pub cells : p.cells ≡ d.cells
  pub items : p.items ≡ d.items
  pub sizes : p.sizes ≡ d.bodies.scope.layout.sizes
  pub objects : p.objects ≡ d.objects
  pub blocks : p.blocks ≡ d.bodies.blocks.items
  pub methods : p.methods ≡ d.bodies.methods
  pub jobs : p.jobs ≡ d.jobs
  pub slots : p.slots ≡ d.bodies.scope.slots
