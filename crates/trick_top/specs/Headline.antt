-- The headline as a clause: where a run that words ask for came to its end.
use Rattle.std.specs.Prelude.{◌≡◌, ◌<◌, ℕ, List, []}
use Rattle.trick_serve_headline.specs.Alone.{HasNoAsynchronous}
use Rattle.trick_serve_headline.specs.Headline.{Headline, ServesWhole}
use Rattle.trick_model.specs.PlanOf.{plan_of}
use Rattle.trick_model.specs.Run.{IsOwnJournal, final}
use Rattle.trick_model.specs.State.{State}
use Rattle.trick_model.specs.Time.{last_turn}
use Rattle.trick_model.specs.declared.entry.Entry.{Entry}
use Rattle.trick_model.specs.declared.plan.Plan.{Plan}
use Rattle.trick_outside.specs.Visits.{clients}
use Rattle.trick_outside.specs.declared.sink.Sink as sink
use Rattle.trick_top_texts.specs.Texts.{IsReady}
use Rattle.trick_exec_alone.specs.Serial.{summary_of}
use Rattle.trick_serve.specs.Serving.{Moment, Outside}
use Rattle.trick_top_alone.specs.First.{IsFirst}
use Rattle.trick_top_alone.specs.Outcome.{HasFound}
use Rattle.trick_top_alone.specs.Sources.{AreNamed, Sources, texts_of}
use Rattle.trick_top_alone.specs.Status.{TookLine}
use Rattle.trick_top_alone.specs.Verdict.{Served, ended_status, line_of}
use Rattle.trick_top_alone.specs.Words.{AsksToRun, names_of}
use Rattle.trick_top_words.specs.declared.command.Texts.{Texts}
use Rattle.trick_top.specs.Rows.{has_risen}
use Rattle.trick_exec_sources.specs.Joins.{joins_of}

-- The words ask to run this; its files were found, with these texts, which have this accepted plan; and this is the state
-- from which it is run. The shelf was `mid` then.
pub record Begins {F D I O S : Type 0} (o : Outside F D I O S) (words : List (List ℕ)) (plan : Plan) (first : State)
    (old mid : F) : Type 0 where
  pub about : Texts
  pub asks : AsksToRun words about
  pub given : Sources
  pub named : AreNamed about given
  pub found : HasFound o.shelf old mid (names_of about) (texts_of given)
  pub ready : IsReady given.s_define given.input plan
  pub starts : IsFirst plan given.from first

-- A run that words ask for began, and was served to its end under these lists.
pub record ServesToEnd {F D I O S : Type 0} (o : Outside F D I O S) (words : List (List ℕ)) (plan : Plan)
    (first : State) (lists : List (List Entry)) (old new : Moment F D S) : Type 0 where
  pub mid : F
  pub begins : Begins o words plan first old.shelf mid
  pub served : ServesWhole o.shelf o.clients (plan_of plan) first lists mid new.shelf old.door new.door old.spawner
      new.spawner

-- The status and the line of its end: what holds of its last state, how many sessions joined, and whether the count of
-- its door rose.
pub record TellsServed {F D S K : Type 0} (failures : D → ℕ) (sink : sink.Ghosts K) (plan : Plan) (first : State)
    (lists : List (List Entry)) (old new : Moment F D S) (before now : K) (status : ℕ) : Type 0 where
  pub status_is : status ≡ ended_status ((final (plan_of plan) first lists).faults).count
  pub line : TookLine (sink.holds before) (sink.holds now)
      (line_of (Served (summary_of (final (plan_of plan) first lists)) (joins_of lists)
      (has_risen (failures old.door) (failures new.door))))

-- Status 0 or 4 of `run`: it came to its end, which is told; and, as long as turns are counted, the headline holds. Where
-- the door gave no client, and no thread is asynchronous, it was the run without clients, which is that of `serial`.
pub record KeepsHeadline {F D I O S K : Type 0} (o : Outside F D I O S) (failures : D → ℕ) (sink : sink.Ghosts K)
    (words : List (List ℕ)) (old new : Moment F D S) (before now : K) (status : ℕ) : Type 0 where
  pub plan : Plan
  pub first : State
  pub lists : List (List Entry)
  pub ran : ServesToEnd o words plan first lists old new
  pub tells : TellsServed failures sink plan first lists old new before now status
  pub headline : (final (plan_of plan) first lists).turn < last_turn
      → Headline o.shelf o.clients plan first old.shelf new.shelf old.door new.door old.spawner new.spawner
  pub alone : clients ran.served.clients.visits.asks ≡ [] → HasNoAsynchronous (plan_of plan)
      → IsOwnJournal (plan_of plan) first lists
