use Rattle.std.proofs.Common.{arith, length-drop, ◌++◌, ◌∷◌, [], true, false}
use Rattle.std.proofs.lemmas.List.{take_all}
use Rattle.trick_outside.specs.Pieces.{Took}
use Rattle.trick_outside.proofs.PieceLemmas.{putting_none, putting_more, puts_all, puts_stop}
use Rattle.trick_outside.proofs.print.put.Goals as goal

pub loop-at-init : goal.loop-at-init
loop-at-init g c = ([], putting_none c.args.out.now c.args.bytes.now (g.met.O.Sink.called_none c.args.out.now))

pub loop-at-preserved : goal.loop-at-preserved
loop-at-preserved g c = (
  c.loop-at.invariant.0 ++ Took _ _ ∷ [],
  putting_more _ _ g.met.O.Sink.called_join c.loop-at.invariant.1 (take_all _ _ (omega (arith, length-drop c.loop-at.at c.args.bytes.now))) c.in-Took.ensures.progress.0 c.in-Took.ensures.told c.in-Took.ensures.went,
)

pub returns-in-Failed : goal.returns-in-Failed
returns-in-Failed g c = puts_stop true _ g.met.O.Sink.called_join c.loop-at.invariant.1 (take_all _ _ (omega (arith, length-drop c.loop-at.at c.args.bytes.now))) c.in-Failed.ensures.told c.in-Failed.ensures.went

pub returns-in-OutOfMemory : goal.returns-in-OutOfMemory
returns-in-OutOfMemory g c = puts_stop false _ g.met.O.Sink.called_join c.loop-at.invariant.1 (take_all _ _ (omega (arith, length-drop c.loop-at.at c.args.bytes.now))) c.in-OutOfMemory.ensures.told c.in-OutOfMemory.ensures.went

pub returns : goal.returns
returns g c = puts_all c.loop-at.invariant.1 c.loop-at-test.false
