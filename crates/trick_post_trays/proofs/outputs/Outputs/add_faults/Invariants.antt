use Rattle.std.proofs.Common.{◌≡◌, take}
use Rattle.std.specs.Prelude.{map}
use Rattle.trick_model.specs.FaultList.{with_faults}
use Rattle.trick_post_trays.specs.Outputs.{dated}
use Rattle.trick_post_trays.proofs.outputs.Outputs.add_faults.Given as goal

-- the first faults are added
abbrev pub invariant-loop-fault : goal.invariant-loop-fault
invariant-loop-fault l = l.faults ≡ with_faults (map (dated l.tic) (take l.fault-index l.fault-items)) l.fn.faults
