use Rattle.std.proofs.Common.{arith, refl}
use Rattle.trick_eval.proofs.Steps.{begin}
use Rattle.trick_eval.proofs.machine.run.Goals as goal

pub loop-frame-init : goal.loop-frame-init
loop-frame-init c =
    rw (c.enter.ensures, c.requires.empty) (record {
      told = begin c.args.program.now c.args.base c.args.memory.now c.args.block c.args.working.now;
      fits = (omega (arith, c.requires.room), omega arith, tt);
      room = refl;
      shape = (refl, refl);
    })
