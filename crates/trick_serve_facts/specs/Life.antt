-- The entries of one session: its join, its lines and its leave, and why it left.
use Rattle.std.specs.List.{All, list_any}
use Rattle.std.specs.Prelude.{◌≡◌, ◌≢◌, ◌⊎◌, ℕ, Bool, true, false, List, [], ◌∷◌, ◌++◌, map, Option, Some, None, IsTrue}
use Rattle.trick_model.specs.declared.entry.Cause.{Cause}
use Rattle.trick_model.specs.declared.entry.Cause.TheVariants as cause
use Rattle.trick_model.specs.declared.entry.Entry.{Entry}
use Rattle.trick_model.specs.declared.entry.Entry.TheVariants.{Join, Said}
use Rattle.trick_serve_hearing.specs.Ended.{has_end}
use Rattle.trick_serve_hearing.specs.Life.{is_exit, leave_of, leaves}
use Rattle.trick_serve_hearing.specs.Sides.{Queues, Side, nobody}
use Rattle.trick_wire.specs.declared.heard.Heard.{Heard}
use Rattle.trick_wire.specs.declared.heard.Heard.TheVariants as heard
use Rattle.trick_wire.specs.declared.heard.WriteStop.{WriteStop}
use Rattle.trick_wire.specs.declared.heard.WriteStop.TheVariants as stop

-- ---- what was heard

-- the lines among what was heard, in order
abbrev pub lines_in : List Heard → List (List ℕ)
lines_in [] = []
lines_in (heard.Line line ∷ items) = line ∷ lines_in items
lines_in (heard.End ∷ items) = lines_in items
lines_in (heard.LongLine ∷ items) = lines_in items
lines_in (heard.LinkFault ∷ items) = lines_in items
lines_in (heard.OutOfMemory ∷ items) = lines_in items

-- whether this says that a line is too long
abbrev pub is_long_line : Heard → Bool
is_long_line (heard.Line line) = false
is_long_line heard.End = false
is_long_line heard.LongLine = true
is_long_line heard.LinkFault = false
is_long_line heard.OutOfMemory = false

-- whether this says that the link failed in which the bytes come
abbrev pub is_fault : Heard → Bool
is_fault (heard.Line line) = false
is_fault heard.End = false
is_fault heard.LongLine = false
is_fault heard.LinkFault = true
is_fault heard.OutOfMemory = false

-- whether a writer stopped since its link failed
abbrev pub is_write_fault : WriteStop → Bool
is_write_fault stop.Closed = false
is_write_fault stop.LinkFault = true
is_write_fault stop.OutOfMemory = false

-- ---- its entries

-- The entries of a session are its join, its lines, and its leave where it has left.
abbrev pub life : ℕ → List (List ℕ) → Option Cause → List Entry
life n lines leave = Join n ∷ (map (λ (line : List ℕ). Said n line) lines ++ leave_of n leave)

-- None of these lines asks to leave.
abbrev pub AskNothing : List (List ℕ) → Type 0
AskNothing lines = All (λ (line : List ℕ). is_exit line ≡ false) lines

-- The last of these lines asks to leave, and none before it.
pub record AskAtEnd (lines : List (List ℕ)) : Type 0 where
  pub before : List (List ℕ)
  pub line : List ℕ
  pub are : lines ≡ before ++ line ∷ []
  pub asks : is_exit line ≡ true
  pub others : AskNothing before

-- The leave of a session that asked to leave comes next after the line that asked, and is by Exit; no other is.
abbrev pub AskBy : Option Cause → List (List ℕ) → Type 0
AskBy None lines = AskNothing lines
AskBy (Some cause.Exit) lines = AskAtEnd lines
AskBy (Some cause.HungUp) lines = AskNothing lines
AskBy (Some cause.LinkFault) lines = AskNothing lines
AskBy (Some cause.LongLine) lines = AskNothing lines
AskBy (Some cause.Slow) lines = AskNothing lines
AskBy (Some cause.NoThread) lines = lines ≡ []
AskBy (Some cause.OutOfMemory) lines = AskNothing lines

-- A thread was refused to its client.
pub record WasRefused (s : Side) : Type 0 where
  pub queues : Queues
  pub seated : s.queues ≡ Some queues
  pub refused : queues.refused ≡ true

-- A session leaves by HungUp only where the end of its bytes was heard; by LongLine only where a line was too long; by
-- LinkFault only where its reader or its writer told that its link failed; by Slow only where a message to it was left
-- out; and by NoThread only where a thread was refused to its client.
abbrev pub HasReason : Option Cause → Side → Type 0
HasReason None s = Unit {0}
HasReason (Some cause.Exit) s = Unit {0}
HasReason (Some cause.HungUp) s = IsTrue (has_end s.heard)
HasReason (Some cause.LinkFault) s = IsTrue (list_any is_fault s.heard) ⊎ IsTrue (list_any is_write_fault s.told)
HasReason (Some cause.LongLine) s = IsTrue (list_any is_long_line s.heard)
HasReason (Some cause.Slow) s = s.slow ≡ true
HasReason (Some cause.NoThread) s = WasRefused s
HasReason (Some cause.OutOfMemory) s = Unit {0}

-- A session that was seated has these entries: its lines are those that were heard, in order, each once; where there
-- was no memory to look at the last one, the session left for that, and it is missing.
pub record HasLived (n : ℕ) (s : Side) (entries : List Entry) : Type 0 where
  pub queues : Queues
  pub seated : s.queues ≡ Some queues
  pub lines : List (List ℕ)
  pub missed : List (List ℕ)
  pub leave : Option Cause
  pub entries_are : entries ≡ life n lines leave
  pub heard_are : lines_in s.heard ≡ lines ++ missed
  pub missing : leave ≢ Some cause.OutOfMemory → missed ≡ []
  pub left : s.left ≡ leaves leave
  pub asks : AskBy leave lines
  pub reason : HasReason leave s

-- A session that was not seated has no entry; one that was seated has lived.
abbrev pub HasEntries : ℕ → Side → List Entry → Type 0
HasEntries n s entries = ((s ≡ nobody) × (entries ≡ [])) ⊎ HasLived n s entries
