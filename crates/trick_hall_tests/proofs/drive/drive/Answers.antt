use denote.Param.Send.{sendable}
use Rattle.std.proofs.Crossing.{crosses}
use Rattle.std.proofs.marker.PhantomData.TheSendSync as phantom
use Rattle.trick_eval.proofs.bench.Bench.TheSendSync as bench
use Rattle.trick_hall.proofs.hand.Hand.TheSendSync as hand
use Rattle.trick_memory.proofs.memory.Memory.TheSendSync as memory
use Rattle.trick_model.proofs.Crossings.{accepted_sync}
use Rattle.trick_hall_tests.proofs.drive.drive.Goals as goal

pub join-requires-send-F : goal.join-requires-send-F
join-requires-send-F g c κs within = search (accepted_sync, memory.the_send, hand.the_field_send, bench.the_send, phantom.the_field_send, crosses, sendable) depth 40
