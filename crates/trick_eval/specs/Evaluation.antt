-- What a body sees of a program, its job's object and a memory.
use Rattle.std.specs.List.{slice_index_or}
use Rattle.std.specs.Prelude.{◌≡◌, ℕ, ℤ, pos, List, length, None, unwrap_or, Result, Ok, Err}
use Rattle.trick_lang.specs.Effect.{ran, scalars_of}
use Rattle.trick_lang.specs.Run.{State, Setting, local_of}
use Rattle.trick_lang.specs.Value.{Sight}
use Rattle.trick_lang.specs.declared.fault.StatementFault.{StatementFault}
use Rattle.trick_lang.specs.declared.program.Program.{Program}

-- what an expression sees, from the first cell of the job's object, the memory, and how far the body
-- has come
abbrev pub seen : ℕ → List ℤ → State → Sight
seen base memory s = record {
  base = base;
  cell = λ c. unwrap_or (slice_index_or s.stored c None) (slice_index_or memory c (pos 0));
  local = local_of s;
}

-- where statements run
abbrev pub setting_of : Program → ℕ → List ℤ → Setting
setting_of p base memory = record {
  scalars = scalars_of p.cells;
  base = base;
  memory = λ c. slice_index_or memory c (pos 0);
  blocks = λ k. ran p base k memory;
}

-- the run ended in this state, or stopped so
abbrev pub Ran : {U : Type 0} → Result U StatementFault → State → Result State StatementFault → Type 0
Ran (Ok u) s r = r ≡ Ok s
Ran (Err stop) s r = r ≡ Err stop

-- two states have as many cells and slots
abbrev pub SameShape : State → State → Type 0
SameShape s t = (length t.stored ≡ length s.stored) × (length t.locals ≡ length s.locals)
