-- How the turns of a run, and a run, end.
use Rattle.std.specs.Prelude.{◌≡◌, ℤ, List, [], None, Some, Ok, Err, Result}
use Rattle.trick_exec_turn.specs.Worlds.{world_of}
use Rattle.trick_exec.specs.declared.ended.Ended.{Ended as EndedValue}
use Rattle.trick_exec.specs.declared.ended.Ended.TheVariants as ended
use Rattle.trick_phase_jobs.specs.Belongs.{IsMemoryOf}
use Rattle.trick_lang.specs.declared.program.Program.{Program}
use Rattle.trick_lang.specs.declared.scalar.Scalar.{Scalar}
use Rattle.trick_model.specs.Files.{end_writes}
use Rattle.trick_model.specs.Plan.{Plan}
use Rattle.trick_model.specs.Run.{shut}
use Rattle.trick_model.specs.State.{State, World}
use Rattle.trick_model.specs.declared.entry.Entry.{Entry}
use Rattle.trick_outside.specs.Does.{Does}
use Rattle.trick_outside.specs.declared.shelf.Shelf.{Ghosts as ShelfGhosts}
use Rattle.trick_outside.specs.declared.stop.Stop.{Stop}
use Rattle.trick_exec_meaning.specs.Hosts.{Hosts, Place}
use Rattle.trick_exec_meaning.specs.Over.{AreOver, AreShort, AreStopped}
use Rattle.trick_exec_meaning.specs.Ran.{Missed, Ran, Stopped, last_world}
use Rattle.trick_exec_tic.specs.Steps.{steps_of}
use Rattle.trick_exec_sources.specs.Turns.{EndsAt}
use Rattle.trick_exec_sources.specs.declared.turns.Turns.{Ghosts as TurnsGhosts}

-- The turns of a run from a state: they are those of some lists until it is over; or the journal that is
-- told ends before; or they stopped.
abbrev pub AreTurns : {S U M Q D : Type 0} → Hosts S U M Q → (D → List ℤ) → Plan → State → Place S U Q → Place S U Q
    → Result (EndedValue D) Stop → Type 0
AreTurns h numbers p s old new (Ok (ended.Done world)) =
    (lists : List (List Entry)) × AreOver h p s old new (world_of numbers world) lists
AreTurns h numbers p s old new (Ok (ended.Length kept given)) =
    (lists : List (List Entry)) × (w : World) × AreShort h p s old new w kept given lists
AreTurns {D = D} h numbers p s old new (Err e) =
    (lists : List (List Entry)) × AreStopped {T = EndedValue D} h p s lists old new (Err e)

-- A run from a state: at Done it is that of the lists that its source gave, with the publications that were
-- chosen, and the world is the last one; at Length it missed the end of the journal that its source tells;
-- else it stopped.
abbrev pub IsRun : {S U M Q D : Type 0} → Hosts S U M Q → (D → List ℤ) → Plan → State → Place S U Q → Place S U Q
    → Result (EndedValue D) Stop → Type 0
IsRun h numbers p s old new (Ok (ended.Done world)) =
    (lists : List (List Entry)) × Ran h p s lists old new × (world_of numbers world ≡ last_world p s lists)
IsRun h numbers p s old new (Ok (ended.Length kept given)) =
    (lists : List (List Entry)) × Missed h p s lists old new kept given
IsRun {D = D} h numbers p s old new (Err e) =
    (lists : List (List Entry)) × Stopped {T = EndedValue D} h p s lists old new (Err e)

-- The memory of the world in which a run is over has the cells of a program.
abbrev pub HasMemory : {D : Type 0} → Program → (D → List ℤ) → (D → List Scalar) → EndedValue D → Type 0
HasMemory program numbers scalars (ended.Done world) = IsMemoryOf program (numbers world.state.memory)
    (scalars world.state.memory)
HasMemory program numbers scalars (ended.Length kept given) = Unit {0}

-- What the end of a run comes to that is over in a world: its last files are written and the world is shut,
-- or stopped among them; or nothing is written, where its source has two numbers.
abbrev pub Closes : {S U M D : Type 0} → ShelfGhosts S → TurnsGhosts U M → (D → List ℤ) → Plan → World → S → S → U → U
    → Result (EndedValue D) Stop → Type 0
Closes shelf turns numbers p w old new before now (Ok (ended.Done world)) =
    Does {T = Unit {0}} shelf old new (Ok tt) (steps_of (end_writes p (shut p w.state)))
    × turns.went before [] [] now × EndsAt w.state.turn (turns.journal before) None
    × (world_of numbers world ≡ record w { state = shut p w.state })
Closes shelf turns numbers p w old new before now (Ok (ended.Length kept given)) =
    (new ≡ old) × turns.went before [] [] now × EndsAt w.state.turn (turns.journal before) (Some (kept, given))
Closes shelf turns numbers p w old new before now (Err e) =
    Does {T = Unit {0}} shelf old new (Err e) (steps_of (end_writes p (shut p w.state))) × turns.went before [] [] now
