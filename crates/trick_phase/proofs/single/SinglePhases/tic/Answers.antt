use Rattle.std.proofs.Common.{ap, subst, sym, ◌∙◌}
use Rattle.std.specs.List.{slice_index_or}
use Rattle.trick_phase_board.proofs.Counting.{among_at}
use Rattle.trick_eval.specs.Bench.{IsFor}
use Rattle.trick_model.specs.Laws.{is_among}
use Rattle.trick_model.specs.Valid.{ids}
use Rattle.trick_phase.proofs.Follows.{Laws}
use Rattle.trick_phase.proofs.OneByOne.{all_along, at_self, close_not_left, close_serial, job_run}
use Rattle.trick_queue.specs.Line.{no_id}
use Rattle.trick_phase_schedules.proofs.Due.{due_there}
use Rattle.trick_phase_schedules.specs.Schedule.{one_by_one}
use Rattle.trick_phase_schedules.specs.Tics.{tic_of}
use Rattle.trick_phase.proofs.single.SinglePhases.tic.Goals as goal

pub run_job-requires-clause-there : goal.run_job-requires-clause-there
run_job-requires-clause-there g c =
    let due = c.args.due.now in
    let i = c.loop-job.job-index in
    let job = slice_index_or due i no_id in
    due_there (tic_of c.args.accepted.now.plan c.args.on.now c.args.tic) job.0
    (sym (ap (is_among job.0) c.requires.given.right) ∙ among_at due i no_id c.loop-job-test.true)

pub loop-job-preserved : goal.loop-job-preserved
loop-job-preserved g c =
    let plan = c.args.accepted.now.plan in
    let due = c.args.due.now in
    let i = c.loop-job.job-index in
    let job = slice_index_or due i no_id in
    let first = g.M.Cells.numbers c.args.memory in
    let laws : Laws = record { keys = c.key_order_is_one.ensures; settled = c.due_jobs_are_settled.ensures; same = c.frame_law.ensures; within = c.write_law.ensures } in
    record {
      along = job_run laws plan c.args.accepted.now.accepted c.args.on.now c.args.tic first due c.requires.given.right i job
          c.loop-job.self.board c.run_job.new.board c.run_job.result c.loop-job-test.true (at_self due i no_id) c.loop-job.invariant.along
          c.run_job.ensures.runs;
      belongs = c.run_job.ensures.belongs;
      bench = subst (IsFor plan.program) (sym c.run_job.ensures.bench) c.loop-job.invariant.bench;
    }

pub unreachable-requires : goal.unreachable-requires
unreachable-requires g c =
    let plan = c.args.accepted.now.plan in
    let due = c.args.due.now in
    let first = g.M.Cells.numbers c.args.memory in
    let laws : Laws = record { keys = c.key_order_is_one.ensures; settled = c.due_jobs_are_settled.ensures; same = c.frame_law.ensures; within = c.write_law.ensures } in
    let along = all_along laws plan c.args.accepted.now.accepted c.args.on.now c.args.tic first due c.requires.given.right c.loop-job.job-index c.loop-job.self.board
    c.loop-job-test.false c.loop-job.invariant.along in
    close_not_left laws plan c.args.accepted.now.accepted c.args.on.now c.args.tic first due c.requires.given.right c.loop-job.self.board c.in-Left.count
    c.loop-job.invariant.belongs along c.in-Left.ensures.count

pub returns-clause-memory : goal.returns-clause-memory
returns-clause-memory g c =
    let plan = c.args.accepted.now.plan in
    let due = c.args.due.now in
    let first = g.M.Cells.numbers c.args.memory in
    let laws : Laws = record { keys = c.key_order_is_one.ensures; settled = c.due_jobs_are_settled.ensures; same = c.frame_law.ensures; within = c.write_law.ensures } in
    let along = all_along laws plan c.args.accepted.now.accepted c.args.on.now c.args.tic first due c.requires.given.right c.loop-job.job-index c.loop-job.self.board
    c.loop-job-test.false c.loop-job.invariant.along in
    (close_serial laws plan c.args.accepted.now.accepted c.args.on.now c.args.tic first due c.requires.given.right c.loop-job.self.board
    (g.M.Cells.numbers c.in-Memory.memory) c.args.faults.now c.close.new.faults along
    (c.in-Memory.ensures.serial plan c.args.accepted.now.accepted c.loop-job.invariant.belongs first (one_by_one (ids due)))).memory_is

pub returns-clause-faults : goal.returns-clause-faults
returns-clause-faults g c =
    let plan = c.args.accepted.now.plan in
    let due = c.args.due.now in
    let first = g.M.Cells.numbers c.args.memory in
    let laws : Laws = record { keys = c.key_order_is_one.ensures; settled = c.due_jobs_are_settled.ensures; same = c.frame_law.ensures; within = c.write_law.ensures } in
    let along = all_along laws plan c.args.accepted.now.accepted c.args.on.now c.args.tic first due c.requires.given.right c.loop-job.job-index c.loop-job.self.board
    c.loop-job-test.false c.loop-job.invariant.along in
    (close_serial laws plan c.args.accepted.now.accepted c.args.on.now c.args.tic first due c.requires.given.right c.loop-job.self.board
    (g.M.Cells.numbers c.in-Memory.memory) c.args.faults.now c.close.new.faults along
    (c.in-Memory.ensures.serial plan c.args.accepted.now.accepted c.loop-job.invariant.belongs first (one_by_one (ids due)))).faults_are
