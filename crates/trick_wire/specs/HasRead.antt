-- What a reader has read of its link, and put into its inbox.
use Rattle.std.specs.Prelude.{◌≡◌, ℕ, ◌≤◌, List, Option, Some}
use Rattle.trick_command.specs.Fed.{Fed}
use Rattle.trick_outside.specs.Causes.{Rose}
use Rattle.trick_outside.specs.Links.{Gave}
use Rattle.trick_wire.specs.Puts.{HasPut, IsFed}
use Rattle.trick_wire.specs.declared.heard.Heard.{Heard}
use Rattle.trick_wire.specs.declared.heard.ReadStop.{ReadStop}

-- A reader has read some bytes of a link that had `old` left and had failed `before` times, and has put
-- what its feed does not hold of them.
pub record IsReading (old new : Option (List ℕ)) (before now : ℕ) (feed : Fed) (puts : List Heard) : Type 0 where
  pub read : List ℕ
  pub gave : Gave old new read
  pub later : before ≤ now
  pub fed : IsFed feed read puts

-- It has stopped: at the end only where no byte is left, and at a fault only where the link's count rose.
pub record HasRead (old new : Option (List ℕ)) (before now : ℕ) (stop : ReadStop) (puts : List Heard) : Type 0 where
  pub read : List ℕ
  pub gave : Gave old new read
  pub later : before ≤ now
  pub put : HasPut ((all : List ℕ) → old ≡ Some all → all ≡ read) (Rose before now) read stop puts
