-- How the clients of a run are opened.
use Rattle.std.specs.Prelude.{◌≡◌, ◌≤◌, false, []}
use Rattle.trick_outside.specs.Causes.{Rose}
use Rattle.trick_serve_hearing.specs.Rules.{sessions_by}
use Rattle.trick_serve_source.specs.declared.served.Served.{Served}
use Rattle.trick_serve_clients.specs.declared.opening.Clients.{Clients}
use Rattle.trick_serve_clients.specs.declared.opening.ClientsHere.{ClientsHere}
use Rattle.trick_serve_clients.specs.declared.opening.Opened.{Opened}
use Rattle.trick_serve_clients.specs.declared.opening.Opened.TheVariants as opened
use Rattle.trick_serve_clients.specs.declared.opening.Ways.{Ways}
use Rattle.trick_serve_seats.specs.Accepted.{HasAccepted}
use Rattle.trick_serve_door.specs.Asking.{IsAsking}
use Rattle.trick_serve_seats.specs.Taking.{Hosts, Start, start_of}
use Rattle.trick_serve_seats.specs.declared.arrival.Comes.{Comes}
use Rattle.trick_serve_seats.specs.declared.departure.Departure.{Departure}
use Rattle.trick_serve_door.specs.declared.taking.Accepting.{Accepting}
use Rattle.trick_serve_door.specs.declared.taking.Taken.{Taken}
use Rattle.trick_serve_door.specs.Running.{MatchRunning}
use Rattle.trick_serve_door.specs.declared.running.RunningAcceptor.{RunningAcceptor}
use Rattle.trick_exec_sources.specs.Turns.{no_sessions}
use Rattle.trick_wire.specs.Ends.{AreEnds, put_by, taken_by}
use Rattle.trick_wire.specs.declared.queue.Putter.{Putter}
use Rattle.trick_wire.specs.declared.queue.Taker.{Taker}

-- Nothing has gone through the queues yet.
pub record AreUnused {I O : Type 0} (ways : Ways I O) : Type 0 where
  pub way : AreEnds ways.tells ways.coming
  pub told : put_by ways.tells ≡ []
  pub taken : taken_by ways.coming ≡ []
  pub back : AreEnds ways.gone ways.hears
  pub untold : put_by ways.gone ≡ []
  pub unheard : taken_by ways.hears ≡ []

-- To this source of entries no client has come yet. They come by the queue that the first end fills, of those that left
-- it tells by the queue that the second end empties, and nothing has gone through these ends.
pub record IsUnserved {I O R : Type 0} (served : Served I O R) (tells : Putter (Comes I O)) (hears : Taker Departure)
    : Type 0 where
  pub seats : served.roll.seats.items ≡ []
  pub sessions : sessions_by served.roll.seats.items served.roll.live.items served.reached.items ≡ no_sessions
  pub whole : served.broke ≡ false
  pub silent : served.silent ≡ false
  pub way : AreEnds tells served.coming
  pub told : put_by tells ≡ []
  pub back : AreEnds served.gone hears
  pub unheard : taken_by hears ≡ []

-- with what an acceptor began
abbrev pub start_with : {D I O S R : Type 0} → Accepting D S R I O → Start D I O S
start_with begun = start_of begun.door begun.spawner begun.coming begun.gone

-- An acceptor began with this work once its spawner had admitted it; and it runs, or is done.
pub record HasBegun {D I O S R H : Type 0} (h : Hosts D I O S) (begun : Accepting D S R I O)
    (acceptor : RunningAcceptor H (Taken D S I O)) (work_of : H → Accepting D S R I O) : Type 0 where
  pub admitted : S
  pub later : h.refusals begun.spawner ≤ h.refusals admitted
  pub running : MatchRunning acceptor (λ thread. work_of thread ≡ record begun { spawner = admitted })
      (λ taken. HasAccepted h (start_of begun.door admitted begun.coming begun.gone) taken.door taken.spawner
      taken.coming taken.gone taken.sessions.items)

-- Clients may come: the source of entries has none yet, and an acceptor began at this door, with this spawner.
pub record IsOpen {D I O S R : Type 0} (h : Hosts D I O S) (door : D) (spawner : S) (clients : Clients D S R I O)
    : Type 0 where
  pub unserved : IsUnserved clients.served clients.begun.value.coming clients.begun.value.gone
  pub door_is : clients.begun.value.door ≡ door
  pub spawner_is : clients.begun.value.spawner ≡ spawner
  pub begun : HasBegun h clients.begun.value clients.acceptor (λ thread. thread.promise.work.value)

-- Clients may come, though the acceptor was refused a thread, which its spawner counts: the source of entries has none
-- yet, and this door is asked by it.
pub record IsOpenHere {D I O S R : Type 0} (h : Hosts D I O S) (door : D) (spawner : S)
    (clients : ClientsHere D S R I O) : Type 0 where
  pub unserved : IsUnserved clients.served.served clients.begun.value.coming clients.begun.value.gone
  pub door_is : clients.begun.value.door ≡ door
  pub later : h.refusals spawner ≤ h.refusals clients.begun.value.spawner
  pub rose : Rose (h.refusals spawner) (h.refusals clients.begun.value.spawner)
  pub asking : IsAsking h (start_with clients.begun.value) clients.served.asking

-- how the clients of a run were opened
abbrev pub IsOpenedBy : {D I O S R : Type 0} → Hosts D I O S → D → S → Opened D S R I O → Type 0
IsOpenedBy h door spawner (opened.Open clients) = IsOpen h door spawner clients
IsOpenedBy h door spawner (opened.Here clients) = IsOpenHere h door spawner clients
IsOpenedBy h door spawner (opened.OutOfMemory same also) = (same ≡ door) × (also ≡ spawner)
