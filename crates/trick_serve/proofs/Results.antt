-- What a served run comes to, by what its run says and what became of its clients.
use Rattle.std.proofs.Common.{◌≡◌, Bool, true, false, List, [], Ok, Err, length, refl, sym}
use Rattle.std.proofs.lemmas.Bool.{false≢true}
use Rattle.std.specs.Prelude.{◌&&◌, not, Result}
use Rattle.trick_exec.specs.declared.ended.Ended.{Ended as EndedValue}
use Rattle.trick_serve_headline.specs.Tended.{SentToClients, ServesTended}
use Rattle.trick_model.specs.Plan.{Plan}
use Rattle.trick_model.specs.Run.{opened}
use Rattle.trick_model.specs.Session.{Message}
use Rattle.trick_model.specs.State.{State}
use Rattle.trick_model.specs.declared.entry.Entry.{Entry}
use Rattle.trick_outside.proofs.DoesLemmas.{does_fail}
use Rattle.trick_outside.specs.declared.shelf.Shelf.{Ghosts as ShelfGhosts}
use Rattle.trick_outside.specs.declared.stop.Stop.TheVariants.{Memory}
use Rattle.trick_outside.specs.declared.stop.Stop.{Stop}
use Rattle.trick_post_work.specs.declared.posts.Posts.{Ghosts as PostsGhosts}
use Rattle.trick_exec_laws.specs.Stopping.{StopsLeave}
use Rattle.trick_exec_laws.specs.Waiting.{RoundsAreBounded}
use Rattle.trick_exec_meaning.specs.Hosts.{Place, hosts}
use Rattle.trick_exec_meaning.specs.Ran.{Ran, Stopped}
use Rattle.trick_exec_alone.specs.declared.summary.Summary.{Summary}
use Rattle.trick_serve_source.specs.Calls.{View, Went}
use Rattle.trick_serve_clients.specs.Tended.{HasTended}
use Rattle.trick_serve_clients.specs.declared.closing.Closed.{Closed}
use Rattle.trick_serve_seats.specs.Taking.{Hosts as DoorHosts}
use Rattle.trick_serve_facts.specs.Joins.{JoinsAreInOrder}
use Rattle.trick_serve.proofs.Counting.{joins_counted}
use Rattle.trick_serve.proofs.Stopping.{ran_stops}
use Rattle.trick_serve.proofs.Turning.{ran_chosen, ran_right, stopped_right, stopped_went, was_served}
use Rattle.trick_serve.specs.Ending.{concluded}
use Rattle.trick_serve.specs.Ran.{HasRun}
use Rattle.trick_serve.specs.Served.{HasServedRun, IsStoppedServed, IsWholeServed}
use Rattle.trick_serve.specs.Serving.{Outside, moment, outside}
use Rattle.trick_exec_sources.specs.Joins.{joins_of}
use Rattle.trick_exec_sources.specs.Turns.{Answer}
use Rattle.trick_exec_sources.specs.declared.turns.Turns.{Ghosts as TurnsGhosts}

-- there was memory all along
all_whole : (broke lacked : Bool) → (not broke && not lacked) ≡ true → (broke ≡ false) × (lacked ≡ false)
all_whole true lacked is = absurd (false≢true is)
all_whole false true is = absurd (false≢true is)
all_whole false false is = (refl, refl)

module _ {F D I O S : Type 0} (shelf : ShelfGhosts F) (clients : DoorHosts D I O S) where
  abbrev all : Outside F D I O S
  all = outside shelf clients

  -- a run by a source of entries that is seen as its clients
  module _ {U M Q : Type 0} (turns : TurnsGhosts U M) (posts : PostsGhosts Q)
      (stops_law : StopsLeave M (hosts shelf turns posts)) (rounds_law : RoundsAreBounded) (joins_law : JoinsAreInOrder) (served_law : ServesTended clients) (sent_law : SentToClients clients)
      (view : U → View) (steps : (before now : U) (given : List Answer) (said : List Message) → turns.went before given said now → Went (view before) (view now) given said)
      (p : Plan) (s : State) (old new : Place F U Q) (undecided : turns.decided old.turns ≡ false) (none : (view old.turns).seats ≡ [])
      (door : D) (spawner : S) (closed : Closed D S) (tended : HasTended clients door spawner (view new.turns) closed) where
    -- it stopped
    stop_served : (e : Stop) (lists : List (List Entry)) → Stopped {T = EndedValue M} (hosts shelf turns posts) p s lists old new (Err e)
        → IsStoppedServed all p s lists (moment old.shelf door spawner) (moment new.shelf closed.door closed.spawner) e
    stop_served e lists stopped =
        let went = stopped_went view steps undecided p s lists stopped in
        let result : Result Summary Stop = Err e in
        record {
          rules = stopped_right view steps undecided p s lists stopped;
          does = does_fail result e e stopped.does refl refl refl;
          sent = stopped.sent;
          unsent = stopped.unsent;
          handed = stopped.handed;
          left = λ before holds. stops_law p s old new e before lists stopped holds;
          clients = sent_law door spawner (view old.turns) (view new.turns) went.0 stopped.sent closed none went.1 tended;
        }

    -- it came to its end, and there was memory for all clients; as many sessions joined as have seats
    end_served : (lists : List (List Entry)) → Ran (hosts shelf turns posts) p s lists old new → (view new.turns).broke ≡ false
        → closed.lacked ≡ false
        → IsWholeServed all p s lists (moment old.shelf door spawner) (moment new.shelf closed.door closed.spawner)
        × (joins_of lists ≡ length (view new.turns).seats)
    end_served lists ran whole told =
        let right = ran_right view steps undecided p s lists ran in
        let chosen = ran_chosen view steps undecided p s lists ran in
        let run = was_served view steps undecided p s lists ran none whole in (
          record {
            whole = record {
              fits = ran.fits;
              rules = right;
              chosen = chosen;
              bounded = rounds_law p (opened s) lists chosen.0 chosen.1 chosen.2;
              files = ran.files;
              clients = served_law door spawner p s lists (view old.turns) (view new.turns) closed run.0 run.1 right tended told;
            };
            does = ran.does;
          },
          joins_counted lists (length (view new.turns).seats) (joins_law p s lists (view old.turns) (view new.turns) run.0 right),
        )

    pub served_by : (ended : Result Summary Stop) → HasRun M (hosts shelf turns posts) p s old new ended
        → HasServedRun all p s (moment old.shelf door spawner) (moment new.shelf closed.door closed.spawner) (length (view new.turns).seats)
        (concluded ended (not (view new.turns).broke && not closed.lacked))
    served_by (Err e) (lists, stopped) = (lists, stop_served e lists stopped)
    served_by (Ok ended) (lists, ran, last) = by (not (view new.turns).broke && not closed.lacked) refl
      where
        by : (b : Bool) → (not (view new.turns).broke && not closed.lacked) ≡ b
            → (let result : Result Summary Stop = Ok ended in
            HasServedRun all p s (moment old.shelf door spawner) (moment new.shelf closed.door closed.spawner) (length (view new.turns).seats) (concluded result b))
        by true both =
            let parts = all_whole (view new.turns).broke closed.lacked both in
            let end = end_served lists ran parts.0 parts.1 in
            (lists, end.0, last, sym end.1)
        by false both = (lists, stop_served Memory lists (ran_stops {D = M} p s lists undecided ran).0)
