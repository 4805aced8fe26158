use Rattle.trick_serve_door.proofs.Parts.{parts}
use Rattle.trick_serve_door.proofs.starting.begin.Goals as goal

pub spawn_with-requires-send-F : goal.spawn_with-requires-send-F
spawn_with-requires-send-F g c κs within = search parts depth 30

pub spawn_with-requires-send-T : goal.spawn_with-requires-send-T
spawn_with-requires-send-T g c κs within = search parts depth 30
