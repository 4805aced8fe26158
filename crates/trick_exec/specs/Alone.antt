-- A run without clients.
use Rattle.std.specs.FinMap.{get}
use Rattle.std.specs.Prelude.{◌≡◌, ℕ, IsTrue, List, Some, Result, IsOk}
use Rattle.trick_base.specs.Files.{Files}
use Rattle.trick_model.specs.Files.{file, run_writes, start_writes}
use Rattle.trick_model.specs.Plan.{Plan}
use Rattle.trick_model.specs.Run.{AreSerial, IsOwnJournal, goes_on, opened}
use Rattle.trick_model.specs.Session.{Message}
use Rattle.trick_model.specs.State.{State}
use Rattle.trick_model.specs.declared.entry.Entry.{Entry}
use Rattle.trick_outside.specs.Does.{Does}
use Rattle.trick_outside.specs.declared.shelf.Shelf.{Ghosts}
use Rattle.trick_outside.specs.declared.stop.Stop.{Stop}
use Rattle.trick_exec_meaning.specs.Stops.{StopsAt}
use Rattle.trick_exec_tic.specs.Steps.{steps_of}

-- A run from a state did these turns, under the entries of a run without clients. Where it stopped, it
-- did a part of what it writes, the last turn of the list included.
pub record RunsAlone {S T : Type 0} (shelf : Ghosts S) (p : Plan) (s : State) (lists : List (List Entry))
    (old new : S) (result : Result T Stop) : Type 0 where
  pub goes : IsTrue (goes_on p (opened s) lists)
  pub published : AreSerial p (opened s) lists
  pub does : Does shelf old new result (steps_of (run_writes p s lists))
  -- its last files were begun only where it is over
  pub stops : (IsOk result → ⊥)
      → (said : List Message) × StopsAt p s (start_writes p s.turn) lists does.calls said
  -- else the lists are its own journal, and each file is that of the run, where the shelf tells
  pub own : IsOk result → IsOwnJournal p s lists
  pub files : IsOk result → (before : Files) → shelf.holds old ≡ Some before
      → (now : Files) × (shelf.holds new ≡ Some now)
      × ((name : List ℕ) → get now name ≡ file name p s lists (get before name))
