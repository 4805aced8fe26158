use Rattle.std.proofs.Common.{◌≡◌, ◌+◌, ap, drop, subst, arith}
use Rattle.std.proofs.Math.ListN.{drop_of_length-le}
use Rattle.trick_base.proofs.ListLemmas.{next_item}
use Rattle.trick_check_bodies.proofs.line.calls_in.Goals as goal
use Rattle.trick_check_bodies.specs.Jobs.{calls_in}
use Rattle.trick_lang.specs.Syntax.{jobs_of}

pub loop-line-preserved : goal.loop-line-preserved
loop-line-preserved c =
    let method = c.args.method.now in
    let next = ap (λ xs. calls_in method (jobs_of xs)) (next_item c.args.lines.now c.loop-line.line-index c.line-item.result c.loop-line-test.true c.line-item.is) in
    record {
      told = omega (arith, next, c.calls-count.ensures.is, c.loop-line.invariant.told);
      within = omega (arith, c.calls-count.ensures.at_most, c.loop-line.invariant.within);
    }

pub returns : goal.returns
returns c =
    let rest : calls_in c.args.method.now (jobs_of (drop c.loop-line.line-index c.args.lines.now)) ≡ 0 = ap (λ xs. calls_in c.args.method.now (jobs_of xs)) (drop_of_length-le c.args.lines.now (omega arith)) in
    omega (arith, rest, c.loop-line.invariant.told)
