-- What the top call answers: as the call that waits for nobody, or by a row of `run`.
use Rattle.std.specs.Prelude.{◌≡◌, ℕ, List}
use Rattle.trick_outside.specs.declared.sink.Sink as sink
use Rattle.trick_serve.specs.Serving.{Moment, Outside}
use Rattle.trick_top_alone.specs.Answered.{HasAnswered}
use Rattle.trick_top_alone.specs.Printed.{Prints}
use Rattle.trick_top_alone.specs.Verdict.{Verdict}
use Rattle.trick_top_alone.specs.Words.{AsksNoRun, without_run}
use Rattle.trick_top.specs.Rows.{ServesWords}

-- One row of the table of statuses of `run`: how it went with the shelf, the door and the spawner, and what was
-- printed, in all pieces that the sink was given.
pub record AnswersRun {F D I O S K : Type 0} (o : Outside F D I O S) (failures : D → ℕ) (sink : sink.Ghosts K)
    (words : List (List ℕ)) (old new : Moment F D S) (before now : K) (status : ℕ) : Type 0 where
  pub verdict : Verdict
  pub serves : ServesWords o failures words old new verdict
  pub prints : Prints sink before now verdict status

-- Words that ask to run nothing are answered as by the call that waits for nobody, and the door and the spawner are
-- handed back as they are; words that ask to run something, or were not read, by a row of `run`.
pub data Answers {F D I O S K : Type 0} (o : Outside F D I O S) (failures : D → ℕ) (sink : sink.Ghosts K)
    (words : List (List ℕ)) (old new : Moment F D S) (before now : K) (status : ℕ) : Type 0 where
  alone : AsksNoRun words → HasAnswered o.shelf sink old.shelf new.shelf before now (without_run words) status
      → new.door ≡ old.door → new.spawner ≡ old.spawner → Answers o failures sink words old new before now status
  by_row : AnswersRun o failures sink words old new before now status
      → Answers o failures sink words old new before now status
