-- Journals that differ in publications alone, and what their runs have in common.
use Rattle.std.specs.List.{slice_index_or}
use Rattle.std.specs.Prelude.{◌≡◌, ℕ, ℤ, All, List, [], filter, length, Option}
use Rattle.trick_model.specs.Access.{IsReached}
use Rattle.trick_model.specs.Acceptance.{IsAccepted}
use Rattle.trick_model.specs.Files.{file}
use Rattle.trick_model.specs.Journal.{Noted, is_of_session}
use Rattle.trick_model.specs.Plan.{Plan}
use Rattle.trick_model.specs.PlanOf.{plan_of}
use Rattle.trick_model.specs.Records.{log_name}
use Rattle.trick_model.specs.Run.{Fits, JournalFits, final, lists_of}
use Rattle.trick_model.specs.State.{State, number_at}
use Rattle.trick_model.specs.declared.entry.Entry.{Entry}
use Rattle.trick_model.specs.declared.group.Group.{Group}
use Rattle.trick_model.specs.declared.plan.Plan.{Plan as PlanValue}

-- ---- what differs

-- the joins, lines and leaves among the entries of a turn
abbrev pub lines_of : List Entry → List Entry
lines_of entries = filter is_of_session entries

-- Lists of entries differ in publications alone: at each turn they have the same joins, lines and leaves,
-- in the same order. After its last list a journal has no entries.
abbrev pub DifferInPublications : List (List Entry) → List (List Entry) → Type 0
DifferInPublications one other =
    (turn : ℕ) → lines_of (slice_index_or one turn []) ≡ lines_of (slice_index_or other turn [])

-- The same of the entries of two journals, each with its turn.
abbrev pub JournalsDifferInPublications : List Noted → List Noted → Type 0
JournalsDifferInPublications one other =
    filter (λ (e : Noted). is_of_session e.1) one ≡ filter (λ (e : Noted). is_of_session e.1) other

-- ---- what is the same

-- Two memories have as many cells, and the same number in each cell outside the asynchronous reach.
pub record AgreeOutside (p : Plan) (m n : List ℤ) : Type 0 where
  pub many : length m ≡ length n
  pub same : (cell : ℕ) → (IsReached p cell → ⊥) → number_at m cell ≡ number_at n cell

-- a state without what asynchronous work may change: its memory, its taken records and its faults
abbrev pub without_work : State → State
without_work s = record s { memory = []; taken = []; faults = record { count = 0; first = [] } }

-- A log is the same after both runs.
abbrev pub IsOneLog : Plan → State → List (List Entry) → List (List Entry) → Group → Type 0
IsOneLog p s one other group =
    (before : Option (List ℕ)) → file (log_name group) p s one before ≡ file (log_name group) p s other before

-- Two runs of a state have as many turns and write the same logs. They end with memories that agree outside
-- the asynchronous reach, and with states that are the same but for memory, taken records and faults.
pub record EndAlike (p : Plan) (s : State) (one other : List (List Entry)) : Type 0 where
  pub turns : length one ≡ length other
  pub logs : All (IsOneLog p s one other) p.groups
  pub memory : AgreeOutside p (final p s one).memory (final p s other).memory
  pub rest : without_work (final p s one) ≡ without_work (final p s other)

-- ---- the law

-- Whole runs of an accepted plan whose lists differ in publications alone end alike.
abbrev pub PublicationsStayInReach : Type 0
PublicationsStayInReach =
    (plan : PlanValue) (s : State) (one other : List (List Entry)) → ∥ IsAccepted (plan_of plan) ∥₁
    → DifferInPublications one other → Fits (plan_of plan) s one → Fits (plan_of plan) s other
    → EndAlike (plan_of plan) s one other

-- Lists of as many turns that differ from those of a whole run in publications alone are those of a whole
-- run too.
abbrev pub PublicationsKeepFits : Type 0
PublicationsKeepFits =
    (plan : PlanValue) (s : State) (one other : List (List Entry)) → ∥ IsAccepted (plan_of plan) ∥₁
    → DifferInPublications one other → length one ≡ length other → Fits (plan_of plan) s one
    → Fits (plan_of plan) s other

-- A journal that differs in publications alone from one that fits a state, and has its end, fits too, and
-- its run ends alike.
abbrev pub JournalsEndAlike : Type 0
JournalsEndAlike =
    (plan : PlanValue) (s : State) (one other : List Noted) (end : ℕ) → ∥ IsAccepted (plan_of plan) ∥₁
    → JournalsDifferInPublications one other → JournalFits (plan_of plan) s one end
    → JournalFits (plan_of plan) s other end
    × EndAlike (plan_of plan) s (lists_of one end s.turn s.mode) (lists_of other end s.turn s.mode)
