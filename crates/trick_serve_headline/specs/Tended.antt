-- From what became of the clients of a run to what its door has of them.
use Rattle.std.specs.Prelude.{◌≡◌, false, List, []}
use Rattle.trick_serve_headline.specs.Clients.{ServesClients, WereSent}
use Rattle.trick_model.specs.Files.{messages_to}
use Rattle.trick_model.specs.Plan.{Plan}
use Rattle.trick_model.specs.Run.{after_turns, opened}
use Rattle.trick_model.specs.Session.{Message}
use Rattle.trick_model.specs.State.{State}
use Rattle.trick_model.specs.declared.entry.Entry.{Entry}
use Rattle.trick_exec_meaning.specs.Answers.{IsSuccession}
use Rattle.trick_exec_meaning.specs.Ran.{last_answer}
use Rattle.trick_serve_source.specs.Calls.{View, Went}
use Rattle.trick_serve_clients.specs.Tended.{HasTended}
use Rattle.trick_serve_clients.specs.declared.closing.Closed.{Closed}
use Rattle.trick_serve_seats.specs.Taking.{Hosts}
use Rattle.trick_serve_facts.specs.Serves.{IsServedRun}
use Rattle.trick_exec_sources.specs.Turns.{Answer}

-- The clients of a whole run were served, as its door has them: where its turns were served to the answer that ends it,
-- its lists keep the rules of entries, its clients were tended, and each client whose writer had no memory was told so.
abbrev pub ServesTended : {D I O S : Type 0} → Hosts D I O S → Type 0
ServesTended {D} {I} {O} {S} h =
    (door : D) (spawner : S) (p : Plan) (s : State) (lists : List (List Entry)) (old new : View) (closed : Closed D S)
    (run : IsServedRun p s lists old new)
    → run.last ≡ last_answer (after_turns p (opened s) lists) → IsSuccession false lists
    → HasTended h door spawner new closed → closed.lacked ≡ false
    → ServesClients h p s lists door closed.door spawner closed.spawner

-- The clients of any run, also of one that stopped, were sent a first part of the messages to them that were handed
-- over, where its source of entries had no session at first, and its clients were tended.
abbrev pub SentToClients : {D I O S : Type 0} → Hosts D I O S → Type 0
SentToClients {D} {I} {O} {S} h =
    (door : D) (spawner : S) (old new : View) (answers : List Answer) (said : List Message) (closed : Closed D S)
    → old.seats ≡ [] → Went old new answers said → HasTended h door spawner new closed
    → WereSent h (λ n. messages_to n said) door closed.door
