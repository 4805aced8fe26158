-- What a worker is made of may cross threads, as a set for `search`.
use denote.Param.Send.{sendable}
use Rattle.std.proofs.Crossing.{crosses}
use Rattle.std.proofs.marker.PhantomData.TheSendSync as phantom
use Rattle.trick_eval.proofs.bench.Bench.TheSendSync as bench
use Rattle.trick_hall.proofs.hand.Hand.TheSendSync as hand
use Rattle.trick_model.proofs.Crossings.{shared_send}

pub ruleset parts = (shared_send, hand.the_field_send, bench.the_send, phantom.the_field_send, crosses, sendable)
