-- What a replay tells, and what it answers.
use mathlib.Core.Path.{subst}
use Rattle.std.specs.Prelude.{◌≡◌, ℕ, ◌+◌, ◌-◌, ◌<◌, false, true, IsTrue, List, [], ◌∷◌, ◌++◌, Option, Some, None}
use Rattle.trick_exec_sources.specs.Due.{sessions_so_far}
use Rattle.trick_exec_sources.specs.declared.journal_turns.JournalTurns.{JournalTurns}
use Rattle.trick_model.specs.Journal.{lists_from}
use Rattle.trick_model.specs.Run.{has_session_entry, next_of}
use Rattle.trick_model.specs.Turn.{is_frozen}
use Rattle.trick_model.specs.declared.entry.Entry.{Entry}
use Rattle.trick_model.specs.declared.mode.Mode.{Mode}
use Rattle.trick_exec_sources.specs.Turns.{Answer, Sessions, Told, behind}

-- the journal that is told: the lists of the turns that are left, and its end
abbrev pub told_of : JournalTurns → Told
told_of turns = record { lists = lists_from turns.at (turns.end - turns.at) turns.due; end = turns.end }

-- the sessions by the lists that were given
abbrev pub sessions_of : JournalTurns → Sessions
sessions_of turns = sessions_so_far turns.over turns.start turns.at turns.whole.value

-- So many turns that were given no entry are passed, and an entry is owed.
pub record IsLater (turns : ℕ) (old new : JournalTurns) : Type 0 where
  pub at : new.at ≡ old.at + turns
  pub due : new.due ≡ old.due
  pub whole : new.whole.value ≡ old.whole.value
  pub start : new.start ≡ old.start
  pub end : new.end ≡ old.end
  pub over : new.over ≡ old.over
  pub owes : new.owes ≡ true

-- what a journal has still to give after an answer
abbrev pub after_answer : Told → Option (List Entry) → Told
after_answer told (Some list) = behind told
after_answer told None = told

-- An answer is what a journal says: its next list, at a turn below its end, or that no line comes any
-- more, in Freeze and where none is left.
abbrev pub IsSaid : Told → ℕ → Mode → Option (List Entry) → Type 0
IsSaid told turn mode (Some list) = (list ≡ next_of told.lists) × (turn < told.end)
IsSaid told turn mode None = IsTrue (is_frozen mode) × (has_session_entry told.lists ≡ false)

-- Answers are what a journal says, one after another.
abbrev pub AreTold : Told → List Answer → Told → Type 0
AreTold told [] now = now ≡ told
AreTold told (answer ∷ answers) now =
    IsSaid told answer.turn answer.mode answer.list × AreTold (after_answer told answer.list) answers now

-- answers one after another
pub told_join : (first second third : Told) (early late : List Answer)
    → AreTold first early second → AreTold second late third → AreTold first (early ++ late) third
told_join first second third [] late one two = subst (λ (told : Told). AreTold told late third) one two
told_join first second third (answer ∷ early) late one two =
    (one.0, told_join (after_answer first answer.list) second third early late one.1 two)
