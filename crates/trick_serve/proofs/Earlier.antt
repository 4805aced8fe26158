-- A run was served, also from a spawner on that others had asked before.
use Rattle.std.proofs.Common.{ℕ, ◌≤◌, List, Ok, Err, arith}
use Rattle.std.specs.Prelude.{Result}
use Rattle.trick_serve_headline.specs.Clients.{ServesClients}
use Rattle.trick_model.specs.Plan.{Plan}
use Rattle.trick_model.specs.State.{State}
use Rattle.trick_model.specs.declared.entry.Entry.{Entry}
use Rattle.trick_outside.specs.Causes.{RoseBy}
use Rattle.trick_outside.specs.declared.stop.Stop.{Stop}
use Rattle.trick_exec_alone.specs.declared.summary.Summary.{Summary}
use Rattle.trick_serve_seats.specs.Taking.{Hosts}
use Rattle.trick_serve.specs.Served.{HasServedRun, IsStoppedServed, IsWholeServed}
use Rattle.trick_serve.specs.Serving.{Moment, Outside, moment}

-- the count had risen by as much before it rose once more
rose_before : (first before count now : ℕ) → first ≤ before → RoseBy before count now → RoseBy first count now
rose_before first before count now more rose = omega (arith, more, rose)

-- The clients of a run were served, also from a spawner on that others had asked before.
clients_from : {D I O S : Type 0} {h : Hosts D I O S} {p : Plan} {s : State} {lists : List (List Entry)} {before now : D} {spawner after : S} (first : S)
    → h.refusals first ≤ h.refusals spawner → ServesClients h p s lists before now spawner after → ServesClients h p s lists before now first after
clients_from {h = h} {spawner = spawner} {after = after} first more c = record {
  visits = c.visits;
  joined = c.joined;
  joins = c.joins;
  given = c.given;
  served = c.served;
  late = c.late;
  others = c.others;
  frozen = c.frozen;
  no_thread = rose_before (h.refusals first) (h.refusals spawner) _ (h.refusals after) more c.no_thread;
  first = c.first;
  all = c.all;
  over = c.over;
}

-- it was served to its end
whole_from : {F D I O S : Type 0} {o : Outside F D I O S} {p : Plan} {s : State} {lists : List (List Entry)} {shelf : F} {door : D} {spawner : S} {new : Moment F D S} (first : S)
    → o.clients.refusals first ≤ o.clients.refusals spawner → IsWholeServed o p s lists (moment shelf door spawner) new → IsWholeServed o p s lists (moment shelf door first) new
whole_from first more served = record {
  whole = record {
    fits = served.whole.fits;
    rules = served.whole.rules;
    chosen = served.whole.chosen;
    bounded = served.whole.bounded;
    files = served.whole.files;
    clients = clients_from first more served.whole.clients;
  };
  does = served.does;
}

-- it stopped
stopped_from : {F D I O S : Type 0} {o : Outside F D I O S} {p : Plan} {s : State} {lists : List (List Entry)} {shelf : F} {door : D} {spawner : S} {new : Moment F D S} {e : Stop} (first : S)
    → IsStoppedServed o p s lists (moment shelf door spawner) new e → IsStoppedServed o p s lists (moment shelf door first) new e
stopped_from first served = record {
  rules = served.rules;
  does = served.does;
  sent = served.sent;
  unsent = served.unsent;
  handed = served.handed;
  left = served.left;
  clients = served.clients;
}

pub served_from : {F D I O S : Type 0} (o : Outside F D I O S) (p : Plan) (s : State) (shelf : F) (door : D) (first spawner : S) (new : Moment F D S) (sessions : ℕ) (ended : Result Summary Stop)
    → o.clients.refusals first ≤ o.clients.refusals spawner → HasServedRun o p s (moment shelf door spawner) new sessions ended
    → HasServedRun o p s (moment shelf door first) new sessions ended
served_from o p s shelf door first spawner new sessions (Ok ended) more (lists, served, says, joins) = (lists, whole_from first more served, says, joins)
served_from o p s shelf door first spawner new sessions (Err e) more (lists, served) = (lists, stopped_from first served)
