-- Laws of runs that follow a journal.
use Rattle.std.specs.Prelude.{◌≡◌, ℕ, ◌-◌, ◌≤◌, List, take}
use Rattle.trick_model.specs.Journal.{Noted}
use Rattle.trick_model.specs.Plan.{Plan}
use Rattle.trick_model.specs.Run.{Fits, JournalFits, after_turns, given, lists_of, opened}
use Rattle.trick_model.specs.State.{State}
use Rattle.trick_model.specs.Time.{last_turn}
use Rattle.trick_model.specs.declared.entry.Entry.{Entry}
use Rattle.trick_exec_meaning.specs.Follows.{EndsElsewhere, Follows}
use Rattle.trick_exec_meaning.specs.Goes.{left_of}
use Rattle.trick_exec_sources.specs.Turns.{Told}

-- what a journal of these entries and this end tells a run from a state
abbrev pub told_by : List Noted → ℕ → State → Told
told_by entries end s = record { lists = lists_of entries end s.turn s.mode; end = end }

-- The journal does not fit. It gave these lists, which are its first ones up to the turn that is told.
pub record Misfit (p : Plan) (s : State) (entries : List Noted) (end : ℕ) (lists : List (List Entry))
    (told : ℕ) : Type 0 where
  pub misfit : JournalFits p s entries end → ⊥
  pub number : told ≡ given p s entries end
  pub first : lists ≡ take (told - s.turn) (lists_of entries end s.turn s.mode)

-- A run that follows a journal shows whether the journal fits: it does where a whole run came to the
-- journal's end, and it was given all lists then; it does not where the run ends elsewhere.
pub record JournalsShow : Type 0 where
  pub fits : (p : Plan) (s : State) (entries : List Noted) (end : ℕ) (lists : List (List Entry)) → end ≤ last_turn
      → Follows p (opened s) (told_by entries end s) lists → Fits p s lists
      → (after_turns p (opened s) lists).state.turn ≡ end
      → JournalFits p s entries end × (lists ≡ lists_of entries end s.turn s.mode)
  pub misfits : (p : Plan) (s : State) (entries : List Noted) (end : ℕ) (lists : List (List Entry)) (number : ℕ)
      → end ≤ last_turn → Follows p (opened s) (told_by entries end s) lists
      → EndsElsewhere (told_by entries end s) (after_turns p (opened s) lists).state
      (left_of lists (lists_of entries end s.turn s.mode)) number
      → Misfit p s entries end lists number
