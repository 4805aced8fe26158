-- What a shift is made of may cross threads, as a set for `search`.
use denote.Param.Send.{sendable}
use Rattle.std.proofs.Crossing.{crosses}
use Rattle.std.proofs.marker.PhantomData.TheSendSync as phantom
use Rattle.trick_post_places.proofs.places.Places.TheSendSync as places
use Rattle.trick_model.proofs.Crossings.{shared_send}
use Rattle.trick_post_trays.proofs.outputs.Parcel.TheSendSync as parcel
use Rattle.trick_post_trays.proofs.worker.Worker.TheSendSync as worker
use Rattle.trick_turn.proofs.lock.TurnLock.TheSendSync as lock
use Rattle.trick_turn.proofs.pass.Pass.TheSendSync as pass

pub ruleset parts = (
  shared_send,
  places.the_send,
  places.the_sync,
  parcel.the_field_send,
  worker.the_field_send,
  lock.the_field_send,
  lock.the_field_sync,
  pass.the_field_send,
  phantom.the_field_send,
  crosses,
  sendable,
)
