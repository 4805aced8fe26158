-- The headline of a run that came to its end: what it wrote is the one-thread run of the journal that it wrote; from a
-- frame's checkpoint it wrote the remainder; and each client was sent a first part of its session text.
use Rattle.std.specs.FinMap.{get}
use Rattle.std.specs.Prelude.{◌≡◌, ◌<◌, ◌≤◌, ℕ, false, List, Some}
use Rattle.trick_base.specs.Files.{Files}
use Rattle.trick_serve_headline.specs.Clients.{ServesClients}
use Rattle.trick_serve_headline.specs.Continued.{WritesRemainder}
use Rattle.trick_model_sessions.specs.Lines.{AllApplySame}
use Rattle.trick_model.specs.Acceptance.{IsAccepted}
use Rattle.trick_model.specs.Files.{file, journal_name}
use Rattle.trick_model.specs.Journal.{Noted}
use Rattle.trick_model.specs.JournalText.{IsJournal}
use Rattle.trick_model.specs.Plan.{Plan as PlanSeen}
use Rattle.trick_model.specs.PlanOf.{plan_of}
use Rattle.trick_model.specs.Run.{Fits, JournalFits, final, lists_of, opened}
use Rattle.trick_model.specs.State.{State}
use Rattle.trick_model.specs.Time.{last_turn}
use Rattle.trick_model.specs.declared.entry.Entry.{Entry}
use Rattle.trick_model.specs.declared.journal.Journal.{Journal}
use Rattle.trick_model.specs.declared.plan.Plan.{Plan}
use Rattle.trick_outside.specs.declared.shelf.Shelf.{Ghosts}
use Rattle.trick_post_work.specs.Polls.{Poll}
use Rattle.trick_model_remainder.specs.Remainder.{late_lists, state_at}
use Rattle.trick_exec_alone.specs.Replay.{lists_for}
use Rattle.trick_exec_laws.specs.Waiting.{NoneWaitsLonger}
use Rattle.trick_exec_meaning.specs.Answers.{IsSuccession}
use Rattle.trick_exec_meaning.specs.Rounds.{AreChosen}
use Rattle.trick_serve_seats.specs.Taking.{Hosts}

-- ---- what was run

-- From the shelf `old` to `new` a run from a state was served to its end under these lists: the joins, lines and leaves
-- of its clients, which keep the rules of entries, and publications, which were chosen by polls, so that no round waited
-- too long. Where the shelf tells what it holds, each file is that of the run of these lists, and every other is as
-- before.
pub record ServesWhole {F D I O S : Type 0} (shelf : Ghosts F) (h : Hosts D I O S) (p : PlanSeen) (s : State)
    (lists : List (List Entry)) (old new : F) (door now : D) (spawner after : S) : Type 0 where
  pub fits : Fits p s lists
  pub rules : IsSuccession false lists
  pub chosen : (polls : List Poll) × (waits : List ℕ) × AreChosen p (opened s) lists polls waits
  pub bounded : NoneWaitsLonger p (opened s) lists
  pub files : (before : Files) → shelf.holds old ≡ Some before
      → (left : Files) × (shelf.holds new ≡ Some left)
      × ((name : List ℕ) → get left name ≡ file name p s lists (get before name))
  pub clients : ServesClients h p s lists door now spawner after

-- ---- the headline

-- A run goes on from another one: where its first state is that before a turn of the run under a journal, and its lists
-- have the lines and publications that this journal has from that turn on, turn by turn and in their order, and end with
-- it, it wrote the remainder of that run's files.
abbrev pub GoesOnFrom : Plan → State → List (List Entry) → Type 0
GoesOnFrom plan first lists =
    (s : State) (entries : List Noted) (end : ℕ) → s.turn < first.turn → first.turn ≤ end
    → Fits (plan_of plan) s (lists_of entries end s.turn s.mode) → state_at (plan_of plan) s entries first.turn ≡ first
    → AllApplySame lists (late_lists entries end first.turn)
    → WritesRemainder (plan_of plan) s entries end first.turn lists

-- A run of a plan from a state left a journal, which is the one of which `journal.txt` is the text, and which fits. Where
-- the shelf tells what it holds, each file is the one that the run under this journal gives on one thread, and every
-- other file is as before. Where the run goes on from another one, it wrote the remainder. Under this journal each client
-- was served: it was sent a first part of its session text.
pub record Headline {F D I O S : Type 0} (shelf : Ghosts F) (h : Hosts D I O S) (plan : Plan) (s : State) (old new : F)
    (door now : D) (spawner after : S) : Type 0 where
  pub text : List ℕ
  pub journal : Journal
  pub is : IsJournal (plan_of plan) s.turn text journal
  pub fits : JournalFits (plan_of plan) s journal.entries journal.end
  pub files : (before : Files) → shelf.holds old ≡ Some before
      → (left : Files) × (shelf.holds new ≡ Some left) × (get left journal_name ≡ Some text)
      × ((name : List ℕ) → get left name ≡ file name (plan_of plan) s (lists_for journal s) (get before name))
  pub remainder : GoesOnFrom plan s (lists_for journal s)
  pub clients : ServesClients h (plan_of plan) s (lists_for journal s) door now spawner after

-- Each run of an accepted plan that was served to its end keeps it, as long as turns are counted.
abbrev pub RunsKeepHeadline : {F D I O S : Type 0} → Ghosts F → Hosts D I O S → Type 0
RunsKeepHeadline {F} {D} {I} {O} {S} shelf h =
    (plan : Plan) (s : State) (lists : List (List Entry)) (old new : F) (door now : D) (spawner after : S)
    → IsAccepted (plan_of plan) → s.turn ≤ last_turn → (final (plan_of plan) s lists).turn < last_turn
    → ServesWhole shelf h (plan_of plan) s lists old new door now spawner after
    → Headline shelf h plan s old new door now spawner after
