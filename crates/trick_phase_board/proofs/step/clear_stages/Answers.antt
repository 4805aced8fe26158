use Rattle.std.proofs.Common.{List, ap, drop, length, subst, sym, ◌+◌, ◌∙◌}
use Rattle.std.proofs.lemmas.List.{drop_all, drop_more, length-set}
use Rattle.trick_phase_board.proofs.Among.{all_cleared, one_cleared}
use Rattle.trick_phase_board.specs.Board.{AreDueAmong}
use Rattle.trick_lang.specs.declared.job.JobId.{JobId}
use Rattle.trick_model.specs.Valid.{ids}
use Rattle.trick_queue.specs.Line.{no_id}
use Rattle.trick_phase_schedules.specs.declared.stage.Stage.TheVariants.{Idle}
use Rattle.std.specs.List.{slice_index_or}
use Rattle.trick_phase_board.proofs.step.clear_stages.Goals as goal

pub loop-job-preserved : goal.loop-job-preserved
loop-job-preserved c =
    let last = c.args.last.now in
    let i = c.loop-job.job-index in
    let job = slice_index_or last i no_id in
    let stages = c.loop-job.stages.items in
    record {
      length_is = ap length c.set_stage.ensures ∙ length-set stages job.0 Idle ∙ c.loop-job.invariant.length_is;
      left = subst (AreDueAmong (ids (drop (i + 1) last))) (sym c.set_stage.ensures)
          (one_cleared job.0 (ids (drop (i + 1) last)) stages
          (subst (λ (jobs : List JobId). AreDueAmong (ids jobs) stages) (drop_more last i no_id c.loop-job-test.true) c.loop-job.invariant.left));
    }

pub returns : goal.returns
returns c =
    all_cleared c.loop-job.stages.items (length c.args.stages.now.items) c.loop-job.invariant.length_is
    (subst (λ (jobs : List JobId). AreDueAmong (ids jobs) c.loop-job.stages.items) (drop_all c.loop-job.job-index c.args.last.now c.loop-job-test.false) c.loop-job.invariant.left)
