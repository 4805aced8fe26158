use Rattle.trick_crew_clerks.proofs.Parts.{parts}
use Rattle.trick_crew_clerks.proofs.ending.clerk_of.Goals as goal

pub finish-requires-send-W : goal.finish-requires-send-W
finish-requires-send-W g c κs within = search parts depth 30

pub finish-requires-send-W-Out : goal.finish-requires-send-W-Out
finish-requires-send-W-Out g c κs within = search parts depth 30
