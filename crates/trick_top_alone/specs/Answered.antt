-- One row of the table of statuses: what the words ask for, how it went on the shelf with each call
-- and its answer, and what was printed, in all pieces that the sink was given.
use Rattle.std.specs.Prelude.{ℕ}
use Rattle.trick_outside.specs.declared.shelf.Shelf as shelf
use Rattle.trick_outside.specs.declared.sink.Sink as sink
use Rattle.trick_top_alone.specs.Outcome.{HasGone}
use Rattle.trick_top_alone.specs.Printed.{Prints}
use Rattle.trick_top_alone.specs.Verdict.{Verdict}
use Rattle.trick_top_alone.specs.Words.{IsWanted, Wanted, Words}

pub record HasAnswered {S O : Type 0} (shelf : shelf.Ghosts S) (sink : sink.Ghosts O) (old new : S) (before now : O)
    (words : Words) (status : ℕ) : Type 0 where
  pub wanted : Wanted
  pub asked : IsWanted words wanted
  pub verdict : Verdict
  pub gone : HasGone shelf old new wanted verdict
  pub prints : Prints sink before now verdict status
