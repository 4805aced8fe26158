use Rattle.trick_crew_clerks.proofs.Parts.{parts}
use Rattle.trick_crew_clerks.proofs.staff.start_shift.Goals as goal

pub start-requires-send-W : goal.start-requires-send-W
start-requires-send-W g c κs within = search parts depth 30

pub start-requires-send-W-Out : goal.start-requires-send-W-Out
start-requires-send-W-Out g c κs within = search parts depth 30
