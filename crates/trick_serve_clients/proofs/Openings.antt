-- How the clients of a run are opened.
use Rattle.std.proofs.Common.{◌≡◌, ◌∙◌, ◌≤◌, false, [], ap, sym, subst}
use Rattle.std.specs.Arc.{arc_value}
use Rattle.trick_outside.specs.Causes.{Rose}
use Rattle.trick_serve_hearing.specs.Rules.{sessions_by}
use Rattle.trick_serve_source.specs.declared.served.Served.{Served}
use Rattle.trick_serve_clients.specs.Opened.{AreUnused, HasBegun, IsOpenHere, IsUnserved, start_with}
use Rattle.trick_serve_clients.specs.declared.opening.ClientsHere.{ClientsHere}
use Rattle.trick_serve_clients.specs.declared.opening.Ways.{Ways}
use Rattle.trick_serve_door.specs.Asking.{IsAsking}
use Rattle.trick_serve_seats.specs.Taking.{Hosts}
use Rattle.trick_serve_seats.specs.declared.arrival.Comes.{Comes}
use Rattle.trick_serve_seats.specs.declared.departure.Departure.{Departure}
use Rattle.trick_serve_door.specs.declared.taking.Accepting.{Accepting}
use Rattle.trick_serve_door.specs.declared.taking.Taken.{Taken}
use Rattle.trick_serve_door.specs.declared.running.RunningAcceptor.{RunningAcceptor}
use Rattle.trick_exec_sources.specs.Turns.{no_sessions}
use Rattle.trick_wire.specs.Ends.{put_by, taken_by}
use Rattle.trick_wire.specs.declared.queue.Putter.{Putter}
use Rattle.trick_wire.specs.declared.queue.Taker.{Taker}

-- it began with a work that is remembered
pub begun_as : {D I O S R H : Type 0} (h : Hosts D I O S) (begun work : Accepting D S R I O) (acceptor : RunningAcceptor H (Taken D S I O)) (work_of : H → Accepting D S R I O) → begun ≡ work
    → HasBegun h work acceptor work_of → HasBegun h begun acceptor work_of
begun_as {D} {I} {O} {S} {R} h begun work acceptor work_of is b = subst (λ (w : Accepting D S R I O). HasBegun h w acceptor work_of) (sym is) b

-- the source of entries, and the queues between it and who brings its clients
pub unserved_by : {I O R : Type 0} (served : Served I O R) (ways : Ways I O) (tells : Putter (Comes I O)) (hears : Taker Departure) → AreUnused ways → tells ≡ ways.tells → hears ≡ ways.hears
    → served.roll.seats.items ≡ [] → sessions_by served.roll.seats.items served.roll.live.items served.reached.items ≡ no_sessions → served.broke ≡ false → served.silent ≡ false
    → served.coming ≡ ways.coming → served.gone ≡ ways.gone → IsUnserved served tells hears
unserved_by {I} {O} {R} served ways tells hears unused same also seats sessions whole silent coming gone = record {
  seats = seats;
  sessions = sessions;
  whole = whole;
  silent = silent;
  way = ap (λ (p : Putter (Comes I O)). arc_value p.shared) same ∙ unused.way ∙ ap (λ (t : Taker (Comes I O)). arc_value t.shared) (sym coming);
  told = ap (λ (p : Putter (Comes I O)). put_by p) same ∙ unused.told;
  back = ap (λ (p : Putter Departure). arc_value p.shared) gone ∙ unused.back ∙ ap (λ (t : Taker Departure). arc_value t.shared) (sym also);
  unheard = ap (λ (t : Taker Departure). taken_by t) also ∙ unused.unheard;
}

-- The acceptor was refused a thread, and the door is asked by the source of entries.
pub opened_here : {D I O S R : Type 0} (h : Hosts D I O S) (clients : ClientsHere D S R I O) (served : Served I O R) (work sent : Accepting D S R I O) → clients.served.served ≡ served
    → clients.begun.value ≡ work → work ≡ record sent { spawner = work.spawner } → h.refusals sent.spawner ≤ h.refusals work.spawner → Rose (h.refusals sent.spawner) (h.refusals work.spawner)
    → IsAsking h (start_with work) clients.served.asking → IsUnserved served sent.coming sent.gone → IsOpenHere h sent.door sent.spawner clients
opened_here {D} {I} {O} {S} {R} h clients served work sent same begun is later rose asking unserved = record {
  unserved =
      subst (λ (w : Accepting D S R I O). IsUnserved clients.served.served w.coming w.gone) (sym (begun ∙ is))
      (subst (λ (s : Served I O R). IsUnserved s sent.coming sent.gone) (sym same) unserved);
  door_is = ap (λ (w : Accepting D S R I O). w.door) (begun ∙ is);
  later = subst (λ (w : Accepting D S R I O). h.refusals sent.spawner ≤ h.refusals w.spawner) (sym begun) later;
  rose = subst (λ (w : Accepting D S R I O). Rose (h.refusals sent.spawner) (h.refusals w.spawner)) (sym begun) rose;
  asking = subst (λ (w : Accepting D S R I O). IsAsking h (start_with w) clients.served.asking) (sym begun) asking;
}
