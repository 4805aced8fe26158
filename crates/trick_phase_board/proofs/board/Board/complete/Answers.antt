use Rattle.std.proofs.Common.{subst, sym}
use Rattle.trick_phase_board.proofs.Runs.{cleared, fill_filled, fill_job, fill_parts, taken_run, underway}
use Rattle.trick_eval.specs.Bench.{IsFor}
use Rattle.trick_phase_board.proofs.board.Board.complete.Goals as goal

pub eval-requires-clause-bench : goal.eval-requires-clause-bench
eval-requires-clause-bench g c =
    let plan = c.args.plan.now in
    subst (IsFor plan.program)
    (sym (fill_parts c.args.self.now.phase plan c.args.self.now.opened c.args.bench.now c.start.new.bench c.args.job c.requires.open c.start.ensures.filled))
    c.requires.bench

pub eval-requires-clause-filled : goal.eval-requires-clause-filled
eval-requires-clause-filled g c =
    let plan = c.args.plan.now in
    fill_filled plan c.start.new.bench c.args.job
    (fill_job c.args.self.now.phase plan c.args.self.now.opened c.args.bench.now c.start.new.bench c.args.job c.requires.open c.start.ensures.filled)
    c.requires.there

pub settle-requires : goal.settle-requires
settle-requires g c =
    let on_way = underway c.args.plan.now c.args.self.now c.start.new.self c.args.job c.args.bench.now c.start.new.bench c.eval.new.bench
    c.requires.open c.requires.waits c.start.ensures.taken c.start.ensures.filled c.eval.ensures in
    record {
      «open» = on_way.open_;
      belongs = c.start.ensures.belongs;
      job = on_way.job_is;
      evaluated = on_way.evaluated;
      flies = on_way.flies;
      inputs = on_way.inputs;
    }

pub returns-clause-run : goal.returns-clause-run
returns-clause-run g c =
    taken_run c.args.plan.now c.args.self.now c.start.new.self c.settle.new.self c.args.job c.requires.open c.start.ensures.taken c.settle.ensures.committed

pub returns-clause-emptied : goal.returns-clause-emptied
returns-clause-emptied g c =
    cleared c.args.self.now.phase c.args.plan.now c.args.self.now.opened c.args.bench.now c.start.new.bench c.eval.new.bench c.clear.new.self c.args.job
    c.requires.open c.start.ensures.filled c.eval.ensures c.clear.ensures
