-- How a verdict was printed, and the status that the program ends with.
use Rattle.std.specs.Prelude.{◌≡◌, ℕ, true}
use Rattle.trick_outside.specs.Puts.{Puts}
use Rattle.trick_outside.specs.declared.print.Printed.TheVariants as answer
use Rattle.trick_outside.specs.declared.sink.Sink.{Ghosts}
use Rattle.trick_top_alone.specs.Verdict.{Verdict, OutOfMemory, is_made, line_of, status_of}

-- From old to new the sink was given one line, piece after piece, and nothing else.
pub data Prints {O : Type 0} (sink : Ghosts O) (old new : O) : Verdict → ℕ → Type 0 where
  -- the line was taken
  printed : {verdict : Verdict} → Puts sink old new answer.Done (line_of verdict)
      → Prints sink old new verdict (status_of verdict)
  -- the sink failed, which decides over all else
  not_printed : {verdict : Verdict} → Puts sink old new answer.Failed (line_of verdict) → Prints sink old new verdict 8
  -- the sink had no memory
  cut_off : {verdict : Verdict} → Puts sink old new answer.OutOfMemory (line_of verdict) → Prints sink old new verdict 6
  -- there was no memory for the line, so that of want of memory was printed
  no_line : {verdict : Verdict} {status : ℕ} → is_made verdict ≡ true → Prints sink old new OutOfMemory status
      → Prints sink old new verdict status
