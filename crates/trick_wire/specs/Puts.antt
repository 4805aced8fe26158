-- What a reader puts into its inbox.
use Rattle.std.specs.Prelude.{◌≡◌, ℕ, List, [], ◌∷◌, ◌++◌, None}
use Rattle.trick_command.specs.Fed.{Fed, fed, held_behind, nothing_fed}
use Rattle.trick_model.specs.Commands.{lines}
use Rattle.trick_wire.specs.declared.heard.Heard.{Heard}
use Rattle.trick_wire.specs.declared.heard.Heard.TheVariants as heard
use Rattle.trick_wire.specs.declared.heard.ReadStop.{ReadStop}
use Rattle.trick_wire.specs.declared.heard.ReadStop.TheVariants as stop

-- lines, as they are put
abbrev pub said : List (List ℕ) → List Heard
said [] = []
said (line ∷ lines) = heard.Line line ∷ said lines

-- what is put after the last line
abbrev pub last_of : ReadStop → List Heard
last_of stop.End = heard.End ∷ []
last_of stop.LongLine = heard.LongLine ∷ []
last_of stop.LinkFault = heard.LinkFault ∷ []
last_of stop.OutOfMemory = heard.OutOfMemory ∷ []
last_of stop.Closed = []

-- Somewhere 4,097 of these bytes come without a line feed.
abbrev pub IsTooLong : List ℕ → Type 0
IsTooLong bytes = held_behind [] bytes ≡ None

-- why a reader of these bytes may stop
abbrev pub IsWhy : Type 0 → Type 0 → List ℕ → ReadStop → Type 0
IsWhy AtEnd Failed read stop.End = AtEnd
IsWhy AtEnd Failed read stop.LongLine = IsTooLong read
IsWhy AtEnd Failed read stop.LinkFault = Failed
IsWhy AtEnd Failed read stop.OutOfMemory = Unit {0}
IsWhy AtEnd Failed read stop.Closed = Unit {0}

-- which of their lines it may leave out
abbrev pub IsLeftOut : List (List ℕ) → ReadStop → Type 0
IsLeftOut rest stop.End = rest ≡ []
IsLeftOut rest stop.LongLine = rest ≡ []
IsLeftOut rest stop.LinkFault = rest ≡ []
IsLeftOut rest stop.OutOfMemory = Unit {0}
IsLeftOut rest stop.Closed = Unit {0}

-- Of the bytes that were read these lines were put, and the others still wait in the feed.
pub record IsFed (feed : Fed) (read : List ℕ) (puts : List Heard) : Type 0 where
  pub some : List (List ℕ)
  pub feeds : fed nothing_fed read ≡ record { waiting = some ++ feed.waiting; held = feed.held }
  pub are : puts ≡ said some

-- A reader of these bytes has put this, and has then stopped.
pub record HasPut (AtEnd Failed : Type 0) (read : List ℕ) (stop : ReadStop) (puts : List Heard) : Type 0 where
  pub some : List (List ℕ)
  pub rest : List (List ℕ)
  pub lines_are : lines read ≡ some ++ rest
  pub are : puts ≡ said some ++ last_of stop
  pub left_out : IsLeftOut rest stop
  pub why : IsWhy AtEnd Failed read stop
