-- Turns in Freeze that are given no entry, all by one answer.
use Rattle.std.specs.Prelude.{◌≡◌, ℕ, suc, ◌<◌, Bool, true, IsTrue, List, [], Option, Some, None}
use Rattle.trick_model.specs.Run.{has_session_entry, next_of}
use Rattle.trick_model.specs.Session.{Message}
use Rattle.trick_model.specs.State.{State}
use Rattle.trick_model.specs.Turn.{counted, is_frozen}
use Rattle.trick_model.specs.declared.session.Session.{Session}
use Rattle.trick_exec_sources.specs.Turns.{Answer, Sessions, Told, behind, empty_answers, in_next}
use Rattle.trick_exec_sources.specs.declared.turns.Next.{Next}
use Rattle.trick_exec_sources.specs.declared.turns.Next.TheVariants as next

-- An empty list is what a journal that is told has next, at a turn below its end; and a join, a line or a leave is
-- still to come.
abbrev pub TellsNone : State → Option Told → Option Told → Type 0
TellsNone s None now = ⊥
TellsNone s (Some told) now =
    (next_of told.lists ≡ []) × (s.turn < told.end) × IsTrue (has_session_entry told.lists) × (now ≡ Some (behind told))

-- In Freeze a source gave a turn no entry, while one is still to come. It is told by what a source answered, by
-- whether it owes an entry, by its journal, by who decides, and by its sessions.
pub record GivesNone {U : Type 0} (went : U → List Answer → List Message → U → Type 0) (owes : U → Bool)
    (journal : U → Option Told) (decided : U → Bool) (sessions : U → Sessions) (live : List Session) (s : State)
    (old new : U) : Type 0 where
  pub frozen : IsTrue (is_frozen s.mode)
  pub step : went old (empty_answers 1 s live) [] new
  pub owed : owes new ≡ true
  pub told : TellsNone s (journal old) (journal new)
  pub decides : decided new ≡ decided old
  pub there : sessions new ≡ in_next (sessions old)

-- So many turns were given no entry, one after another from a state on, and one at least. `gives` tells what is done
-- in one of them, which raises the count of turns alone.
pub data Gap {U : Type 0} (gives : State → U → U → Type 0) : State → ℕ → U → U → Type 0 where
  last : (s : State) (old new : U) → gives s old new → Gap gives s 1 old new
  more : (s : State) (turns : ℕ) (old mid new : U) → gives s old mid → Gap gives (counted s) turns mid new
      → Gap gives s (suc turns) old new

-- a fact of the number of turns, where the answer is a gap
abbrev pub IfGap : Next → (ℕ → Type 0) → Type 0
IfGap (next.Entries list) fact = Unit {0}
IfGap next.Nothing fact = Unit {0}
IfGap (next.Gap turns) fact = fact turns
IfGap next.NoMore fact = Unit {0}
IfGap (next.Length kept given) fact = Unit {0}
IfGap next.OutOfMemory fact = Unit {0}
