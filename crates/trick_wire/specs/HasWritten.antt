-- What a writer has taken of its outbox, and written to its link.
use Rattle.std.specs.Prelude.{◌≡◌, ℕ, ◌≤◌, List, [], ◌∷◌, ◌++◌, Option, ◌⊎◌}
use Rattle.trick_outside.specs.Causes.{Rose}
use Rattle.trick_outside.specs.Links.{Took}
use Rattle.trick_wire.specs.declared.heard.WriteStop.{WriteStop}
use Rattle.trick_wire.specs.declared.heard.WriteStop.TheVariants as stop

-- messages, one after another
abbrev pub text_of : List (List ℕ) → List ℕ
text_of [] = []
text_of (message ∷ messages) = message ++ text_of messages

-- what of their text may be unwritten where the writer stopped
abbrev pub IsUnwritten : List ℕ → Type 0 → WriteStop → Type 0
IsUnwritten rest Failed stop.Closed = rest ≡ []
IsUnwritten rest Failed stop.LinkFault = Failed
IsUnwritten rest Failed stop.OutOfMemory = Unit {0}

-- A link that had taken `old` and had failed `before` times took the first part of the text of these
-- messages: all of it where the outbox was closed in order, and less only where the link failed or had
-- no memory.
pub record HasWritten (old new : Option (List ℕ)) (before now : ℕ) (stop : WriteStop) (messages : List (List ℕ))
    : Type 0 where
  pub part : List ℕ
  pub rest : List ℕ
  pub text_is : text_of messages ≡ part ++ rest
  pub took : Took old new part
  pub later : before ≤ now
  pub unwritten : IsUnwritten rest (Rose before now) stop

-- what a writer that stopped puts into its queue of causes
abbrev pub cause_of : WriteStop → List WriteStop
cause_of stop.Closed = []
cause_of stop.LinkFault = stop.LinkFault ∷ []
cause_of stop.OutOfMemory = stop.OutOfMemory ∷ []

-- What was taken of a queue of causes is the cause of this stop, or nothing yet.
abbrev pub IsCauseOf : List WriteStop → WriteStop → Type 0
IsCauseOf taken stop = (taken ≡ []) ⊎ (taken ≡ cause_of stop)
