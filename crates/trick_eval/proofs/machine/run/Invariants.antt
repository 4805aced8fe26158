use Rattle.std.proofs.Common.{◌≡◌}
use Rattle.trick_eval.proofs.machine.run.Given as goal
use Rattle.trick_lang.specs.Effect.{ran}
use Rattle.trick_eval.specs.Evaluation.{SameShape}
use Rattle.trick_eval.specs.Machine.{Fits, left, stack_weight}
use Rattle.trick_lang.specs.TreeOf.{codes_of}

-- what the stack still has to do gives what the block gives
abbrev pub invariant-loop-frame : goal.invariant-loop-frame
invariant-loop-frame l = record {
  told : left l.program l.base l.memory l.stack.frames l.working ≡ ran l.program l.base l.block l.memory l.initial.working;
  fits : Fits l.program.blocks l.stack.room l.stack.frames;
  room : l.stack.room ≡ l.initial.stack.room;
  shape : SameShape l.initial.working l.working;
}

abbrev pub decreases-loop-frame : goal.decreases-loop-frame
decreases-loop-frame l = stack_weight (codes_of l.program.blocks) l.stack.frames
