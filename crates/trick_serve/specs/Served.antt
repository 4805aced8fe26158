-- What a served run comes to.
use Rattle.std.specs.Prelude.{◌≡◌, ℕ, false, List, ◌++◌, Some, Ok, Err, Result}
use Rattle.trick_base.specs.Files.{Files}
use Rattle.trick_serve_headline.specs.Clients.{WereSent}
use Rattle.trick_serve_headline.specs.Headline.{ServesWhole}
use Rattle.trick_model.specs.Files.{messages_to, run_writes, turns_said}
use Rattle.trick_model.specs.Plan.{Plan}
use Rattle.trick_model.specs.Run.{final, opened}
use Rattle.trick_model.specs.Session.{Message}
use Rattle.trick_model.specs.State.{State}
use Rattle.trick_model.specs.declared.entry.Entry.{Entry}
use Rattle.trick_outside.specs.Does.{Does}
use Rattle.trick_outside.specs.declared.stop.Stop.{Stop}
use Rattle.trick_exec_laws.specs.Left.{Left}
use Rattle.trick_exec_meaning.specs.Answers.{IsSuccession}
use Rattle.trick_exec_alone.specs.Serial.{summary_of}
use Rattle.trick_exec_alone.specs.declared.summary.Summary.{Summary}
use Rattle.trick_serve.specs.Serving.{Moment, Outside}
use Rattle.trick_exec_tic.specs.Steps.{steps_of}
use Rattle.trick_exec_sources.specs.Joins.{joins_of}

-- A run from a state was served to its end under these lists: the joins, lines and leaves are those of its clients, each
-- of which was served, and the publications were chosen by polls. All that the run on one thread writes under these
-- lists was written.
pub record IsWholeServed {F D I O S : Type 0} (o : Outside F D I O S) (p : Plan) (s : State) (lists : List (List Entry))
    (old new : Moment F D S) : Type 0 where
  pub whole : ServesWhole o.shelf o.clients p s lists old.shelf new.shelf old.door new.door old.spawner new.spawner
  pub does : Does {T = Unit {0}} o.shelf old.shelf new.shelf (Ok tt) (steps_of (run_writes p s lists))

-- A run from a state stopped when its clients had given these lists, the last of them with the publications that were
-- chosen by then. A part of what it writes was done, and these messages were handed over. Where the shelf tells, its
-- files are left so; and each client was sent a first part of the messages to it.
pub record IsStoppedServed {F D I O S : Type 0} (o : Outside F D I O S) (p : Plan) (s : State)
    (lists : List (List Entry)) (old new : Moment F D S) (e : Stop) : Type 0 where
  pub rules : IsSuccession false lists
  pub does : Does {T = Summary} o.shelf old.shelf new.shelf (Err e) (steps_of (run_writes p s lists))
  pub sent : List Message
  pub unsent : List Message
  pub handed : turns_said p (opened s) lists ≡ sent ++ unsent
  pub left : (before : Files) → o.shelf.holds old.shelf ≡ Some before
      → (now : Files) × (o.shelf.holds new.shelf ≡ Some now) × Left p s lists sent before now
  pub clients : WereSent o.clients (λ n. messages_to n sent) old.door new.door

-- A served run from a state came to its end, of which this is said, and so many sessions joined; or it stopped.
abbrev pub HasServedRun : {F D I O S : Type 0} → Outside F D I O S → Plan → State → Moment F D S → Moment F D S → ℕ
    → Result Summary Stop → Type 0
HasServedRun o p s old new sessions (Ok ended) =
    (lists : List (List Entry)) × IsWholeServed o p s lists old new × (ended ≡ summary_of (final p s lists))
    × (sessions ≡ joins_of lists)
HasServedRun o p s old new sessions (Err e) = (lists : List (List Entry)) × IsStoppedServed o p s lists old new e
