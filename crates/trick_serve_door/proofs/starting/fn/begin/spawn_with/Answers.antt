use denote.Param.Send.{sendable}
use Rattle.trick_serve_door.proofs.starting.fn.begin.spawn_with.Goals as goal

pub go-requires-send-D-In : goal.go-requires-send-D-In
go-requires-send-D-In g c κs within = search sendable depth 20

pub go-requires-send-D-Out : goal.go-requires-send-D-Out
go-requires-send-D-Out g c κs within = search sendable depth 20
