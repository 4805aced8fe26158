-- What an acceptor takes into its thread, and what comes back, may cross threads.
use denote.Param.Send.{IsSend, sendable}
use denote.RattleType.{RattleType}
use Rattle.std.proofs.Crossing.{crosses}
use Rattle.trick_base.proofs.items.Items.TheSendSync as items
use Rattle.trick_serve_seats.proofs.departure.Departure.TheSendSync as departure
use Rattle.trick_serve_seats.proofs.past.Past.TheSendSync as past
use Rattle.trick_serve_seats.specs.contracts.arrival.Arrival as Arrival
use Rattle.trick_serve_seats.specs.contracts.arrival.Comes as Comes
use Rattle.trick_serve_door.specs.contracts.taking.Accepting as Accepting
use Rattle.trick_serve_door.specs.contracts.taking.Taken as Taken
use Rattle.trick_turn.proofs.sleep.Bell.TheSendSync as bell
use Rattle.trick_wire.proofs.heard.Heard.TheSendSync as heard
use Rattle.trick_wire.proofs.heard.WriteStop.TheSendSync as stop
use Rattle.trick_wire.proofs.queue.Putter.TheSendSync as putter
use Rattle.trick_wire.proofs.queue.Taker.TheSendSync as taker

-- A client is told with snapshots of its links, which hold nothing of them.
arrival_field_send : (I O : RattleType) → IsSend (Arrival.the_field I O).row
arrival_field_send I O =
    search (taker.the_field_send, putter.the_field_send, heard.the_send, stop.the_send, items.the_send, crosses, sendable) depth 20

comes_send : (I O : RattleType) → IsSend (Comes.the_row I O)
comes_send I O = search (arrival_field_send, sendable) depth 20

pub accepting_field_send : (D S R I O : RattleType) → IsSend D → IsSend S → IsSend R
    → IsSend (Accepting.the_field D S R I O).row
accepting_field_send D S R I O door spawner rt =
    search (comes_send, departure.the_send, putter.the_field_send, taker.the_field_send, bell.the_send, bell.the_sync, crosses, sendable) depth 20

pub accepting_send : (D S R I O : RattleType) → IsSend D → IsSend S → IsSend R
    → IsSend (Accepting.the_row D S R I O)
accepting_send D S R I O door spawner rt = search (accepting_field_send, sendable) depth 20

pub taken_field_send : (D S I O : RattleType) → IsSend D → IsSend S → IsSend I → IsSend O
    → IsSend (Taken.the_field D S I O).row
taken_field_send D S I O door spawner input output =
    search (comes_send, departure.the_send, putter.the_field_send, taker.the_field_send, past.the_send, crosses, sendable) depth 20

pub taken_send : (D S I O : RattleType) → IsSend D → IsSend S → IsSend I → IsSend O → IsSend (Taken.the_row D S I O)
taken_send D S I O door spawner input output = search (taken_field_send, sendable) depth 20
