-- What a start of an acceptor sends, as a set for `search`.
use denote.Param.Send.{sendable}
use Rattle.std.proofs.Crossing.{crosses}
use Rattle.trick_serve_door.proofs.Crossings.{accepting_field_send, accepting_send, taken_field_send, taken_send}
use Rattle.trick_serve_door.proofs.running.Outcome.TheSendSync as outcome

pub ruleset parts = (accepting_field_send, accepting_send, taken_field_send, taken_send, outcome.the_send, crosses, sendable)
