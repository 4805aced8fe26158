use Rattle.std.proofs.Common.{◌≡◌, ◌+◌, ap, drop, length, sym, ◌∙◌, arith}
use Rattle.std.proofs.Math.ListN.{drop_of_length-le}
use Rattle.trick_base.proofs.ListLemmas.{next_item}
use Rattle.trick_check_bodies.proofs.Rows.{jobs_length}
use Rattle.trick_check_bodies.proofs.line.job_count.Goals as goal
use Rattle.trick_check_bodies.specs.Jobs.{job_count, lines_at}
use Rattle.trick_lang.specs.Syntax.{definitions_of}

pub loop-object-preserved : goal.loop-object-preserved
loop-object-preserved c =
    let ds = definitions_of c.args.definitions.now in
    let os = c.args.objects.now in
    let i = c.loop-object.object-index in
    let o = c.object-item.result in
    let next = ap (job_count ds) (next_item os i o c.loop-object-test.true c.object-item.is) in
    let lines : length c.lines_at-lines.result.now ≡ length (lines_at ds o.class) = sym (jobs_length c.lines_at-lines.result.now) ∙ ap length c.lines_at-lines.ensures in
    record {
      told = omega (arith, next, lines, c.saturating_add-count.ensures, c.loop-object.invariant.told, c.loop-object.invariant.small);
      small = omega (arith, c.saturating_add-count.ensures);
    }

pub returns : goal.returns
returns c =
    let ds = definitions_of c.args.definitions.now in
    let rest : job_count ds (drop c.loop-object.object-index c.args.objects.now) ≡ 0 = ap (job_count ds) (drop_of_length-le c.args.objects.now (omega arith)) in
    omega (arith, rest, c.loop-object.invariant.small, c.loop-object.invariant.told)
