use Rattle.std.proofs.Common.{rules, ◌≡◌, ℕ, ◌+◌, ◌<◌, ap, arith, false, length}
use Rattle.std.specs.List.{slice_index_or}
use Rattle.trick_phase_board.proofs.Passed.{one_more}
use Rattle.trick_phase_board.specs.Search.{is_open}
use Rattle.trick_queue.specs.Line.{no_id}
use Rattle.trick_phase_schedules.specs.Play.{stage_at}
use Rattle.trick_phase_board.proofs.search.pass.Goals as goal

pub loop-job-preserved : goal.loop-job-preserved
loop-job-preserved c =
    let stages = c.args.stages.now in
    let jobs = c.args.jobs.now in
    let passed = c.loop-job.passed in
    let at_place = c.loop-job.invariant.at_place in
    let test = c.loop-job-test.true in
    let less : passed < length jobs = omega (arith, at_place, test) in
    let shut : is_open (stage_at stages (slice_index_or jobs passed no_id).0) ≡ false = search rules in
    record {
      at_place = ap (λ (n : ℕ). n + 1) at_place;
      passed = one_more stages jobs passed no_id c.loop-job.invariant.passed less shut;
    }
