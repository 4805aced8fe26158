-- What a run that goes on from a state of another run writes: the remainder of that run's files.
use Rattle.std.specs.Prelude.{◌≡◌, ℕ, ◌-◌, ◌<◌, ◌≤◌, Bool, false, ◌||◌, All, cond, IsTrue, List, [], ◌∷◌, ◌++◌, codes, map, Option, Some}
use Rattle.trick_base.specs.Content.{same_name}
use Rattle.trick_base.specs.Files.{Write, Create, Append}
use Rattle.trick_model.specs.Files.{file, journal_name, turns_writes}
use Rattle.trick_model.specs.Journal.{Noted, entry_lines, first_lines, last_line, lists_from, live_before, with_joins}
use Rattle.trick_model.specs.Plan.{Plan}
use Rattle.trick_model.specs.PlanOf.{plan_of}
use Rattle.trick_model.specs.Records.{header, log_name}
use Rattle.trick_model.specs.Run.{Fits, after_turns, final, lists_of, opened}
use Rattle.trick_model.specs.State.{State}
use Rattle.trick_model.specs.declared.entry.Entry.{Entry}
use Rattle.trick_model.specs.declared.entry.Entry.TheVariants.{Join}
use Rattle.trick_model.specs.declared.group.Group.{Group}
use Rattle.trick_model.specs.declared.plan.Plan.{Plan as PlanValue}

-- ---- turns of a run under a journal

-- the lists that the turns before one are given by a journal, in a run that starts at `start`
abbrev pub early_lists : List Noted → (start turn : ℕ) → List (List Entry)
early_lists entries start turn = with_joins (live_before start entries []) (lists_from start (turn - start) entries)

-- the lists that the same run is given from that turn on
abbrev pub late_lists : List Noted → (end turn : ℕ) → List (List Entry)
late_lists entries end turn = lists_from turn (end - turn) entries

-- the state before a turn
abbrev pub state_at : Plan → State → List Noted → ℕ → State
state_at p s entries turn = (after_turns p (opened s) (early_lists entries s.turn turn)).state

-- the lists that a run which goes on from that state is given: in front of these the sessions that are there join,
-- but where the run is over
abbrev pub lists_after : Plan → State → List Noted → (end turn : ℕ) → List (List Entry)
lists_after p s entries end turn = lists_of entries end turn (state_at p s entries turn).mode

-- ---- bytes that are added

-- the bytes that these calls append to the file of a name
abbrev pub added : List ℕ → List Write → List ℕ
added name [] = []
added name (Create other ∷ writes) = added name writes
added name (Append other bytes ∷ writes) = cond (same_name name other) bytes [] ++ added name writes

-- One of these calls makes the file of a name anew.
abbrev pub is_made : List ℕ → List Write → Bool
is_made name [] = false
is_made name (Create other ∷ writes) = same_name name other || is_made name writes
is_made name (Append other bytes ∷ writes) = is_made name writes

-- what the turns before one write, and what those from it on write
abbrev pub early_writes : Plan → State → List Noted → ℕ → List Write
early_writes p s entries turn = turns_writes p (opened s) (early_lists entries s.turn turn)

abbrev pub late_writes : Plan → State → List Noted → (end turn : ℕ) → List Write
late_writes p s entries end turn = turns_writes p (opened (state_at p s entries turn)) (late_lists entries end turn)

-- the lines of the sessions that are there, with the number of the turn, if the turn is done
abbrev pub join_lines : List Noted → (end turn number : ℕ) → List ℕ
join_lines entries end turn number = elim (late_lists entries end turn) [
  | [] ↦ []
  | list ∷ lists ↦ entry_lines number (map (λ session. Join session) (live_before turn entries []))
]

-- ---- the remainder

-- The file of a name after the whole run, and after the run that goes on from the turn.
abbrev pub whole_file : Plan → State → List Noted → (end : ℕ) → List ℕ → Option (List ℕ) → Option (List ℕ)
whole_file p s entries end name before = file name p s (lists_of entries end s.turn s.mode) before

abbrev pub resumed_file : Plan → State → List Noted → (end turn : ℕ) → List ℕ → Option (List ℕ) → Option (List ℕ)
resumed_file p s entries end turn name before =
    file name p (state_at p s entries turn) (lists_after p s entries end turn) before

-- A log of the whole run has its header, the rows of the early turns and those of the late ones; after
-- the run that goes on it has its header and the rows of the late turns.
pub record IsLogRest (p : Plan) (s : State) (entries : List Noted) (end turn : ℕ) (group : Group) : Type 0 where
  pub whole : (before : Option (List ℕ)) → whole_file p s entries end (log_name group) before
      ≡ Some (header p group ++ (added (log_name group) (early_writes p s entries turn)
      ++ added (log_name group) (late_writes p s entries end turn)))
  pub resumed : (before : Option (List ℕ)) → resumed_file p s entries end turn (log_name group) before
      ≡ Some (header p group ++ added (log_name group) (late_writes p s entries end turn))

-- The journal of the whole run has its first lines, the entries of the early turns, those of the late
-- ones, and its last line; after the run that goes on it begins at the turn, and the sessions that are
-- there join in front of the entries of the late turns.
pub record IsJournalRest (p : Plan) (s : State) (entries : List Noted) (end turn : ℕ) : Type 0 where
  pub whole : (before : Option (List ℕ)) → whole_file p s entries end journal_name before
      ≡ Some (first_lines s.turn ++ (added journal_name (early_writes p s entries turn)
      ++ (added journal_name (late_writes p s entries end turn)
      ++ last_line (final p s (lists_of entries end s.turn s.mode)).turn)))
  pub resumed : (before : Option (List ℕ)) → resumed_file p s entries end turn journal_name before
      ≡ Some (first_lines (state_at p s entries turn).turn
      ++ (join_lines entries end turn (state_at p s entries turn).turn
      ++ (added journal_name (late_writes p s entries end turn)
      ++ last_line (final p s (lists_of entries end s.turn s.mode)).turn)))

-- The run that goes on from the state before a turn is a whole run, which ends in the same state and
-- writes the remainder of the files.
pub record IsRemainder (p : Plan) (s : State) (entries : List Noted) (end turn : ℕ) : Type 0 where
  pub fits : Fits p (state_at p s entries turn) (lists_after p s entries end turn)
  pub ends : final p (state_at p s entries turn) (lists_after p s entries end turn) ≡ final p s (lists_of entries end s.turn s.mode)
  pub logs : All (IsLogRest p s entries end turn) p.groups
  pub journal : IsJournalRest p s entries end turn
  -- the last two files are the same, and so is each checkpoint that a late turn writes
  pub last : (before later : Option (List ℕ)) → whole_file p s entries end (codes "final.chk") before
      ≡ resumed_file p s entries end turn (codes "final.chk") later
  pub faults : (before later : Option (List ℕ)) → whole_file p s entries end (codes "faults.txt") before
      ≡ resumed_file p s entries end turn (codes "faults.txt") later
  pub checkpoints : (name : List ℕ) (before later : Option (List ℕ)) → same_name name journal_name ≡ false
      → IsTrue (is_made name (late_writes p s entries end turn))
      → whole_file p s entries end name before ≡ resumed_file p s entries end turn name later

-- It is so for each turn after the first one that is not after the journal's end.
abbrev pub RemaindersAreWritten : Type 0
RemaindersAreWritten =
    (plan : PlanValue) (s : State) (entries : List Noted) (end turn : ℕ) → s.turn < turn → turn ≤ end
    → Fits (plan_of plan) s (lists_of entries end s.turn s.mode) → IsRemainder (plan_of plan) s entries end turn
