-- A run on one thread, without clients, and what it says at its end.
use Rattle.std.specs.Prelude.{◌≡◌, List, Result, IfOk}
use Rattle.trick_exec.specs.Alone.{RunsAlone}
use Rattle.trick_model.specs.Plan.{Plan}
use Rattle.trick_model.specs.Run.{final}
use Rattle.trick_model.specs.State.{State}
use Rattle.trick_model.specs.declared.entry.Entry.{Entry}
use Rattle.trick_outside.specs.declared.shelf.Shelf.{Ghosts}
use Rattle.trick_outside.specs.declared.stop.Stop.{Stop}
use Rattle.trick_exec_alone.specs.Sum.{wrapped_sum}
use Rattle.trick_exec_alone.specs.declared.summary.Summary.{Summary}

-- what is said of the last state of a run: its turn, its next tic, how many faults it counts, and the
-- sum of its cells
abbrev pub summary_of : State → Summary
summary_of s = record { turns = s.turn; tic = s.tic; faults = s.faults.count; sum = wrapped_sum s.memory }

-- A run from a state, under the entries of a run without clients: what it did to the shelf, and, where
-- it came to its end, what it says of the last state.
pub record RunsSerially {S : Type 0} (shelf : Ghosts S) (p : Plan) (s : State) (old new : S)
    (result : Result Summary Stop) : Type 0 where
  pub lists : List (List Entry)
  pub runs : RunsAlone shelf p s lists old new result
  pub ended : IfOk result (λ ended. ended ≡ summary_of (final p s lists))
