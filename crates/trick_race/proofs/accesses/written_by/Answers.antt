use Rattle.std.proofs.Common.{◌≡◌, ◌↔◌, ◌+◌, ◌||◌, List, IsTrue, length, ap, sym, subst, ◌∙◌}
use Rattle.trick_access.specs.declared.cells.Access.{Access}
use Rattle.trick_lang.specs.Access.{is_in}
use Rattle.trick_lang.specs.declared.range.CellRange.{CellRange}
use Rattle.trick_race.proofs.Sets.{writes_more, writes_same}
use Rattle.trick_race.specs.Accesses.{IsWrittenBefore, has}
use Rattle.trick_race.proofs.accesses.written_by.Goals as goal
use Rattle.trick_race.proofs.accesses.written_by.Goals.{then-jobs-job, else-jobs-job}

pub loop-job-preserved : goal.loop-job-preserved
loop-job-preserved c = elim c.if-jobs-job.branch [
  | then-jobs-job w ↦
      let item = w.index-accesses-job.result in
      let ranges : w.as_slice.result.now ≡ item.writes = w.as_slice.ensures
      ∙ ap (λ (a : Access). a.writes) (sym w.index-accesses-job.is) in
      record {
        size = ap length w.set-is ∙ w.add.ensures.length ∙ c.loop-job.invariant.size;
        written = λ cell. writes_more c.args.accesses.now c.args.jobs.now c.loop-job.job cell item
            (has c.loop-job.set cell) (has c.if-jobs-job.set cell)
            (ap (λ s. has s cell) w.set-is ∙ w.add.ensures.added cell
            ∙ ap (λ (rs : List CellRange). is_in rs cell || has c.loop-job.set cell) ranges)
            w.if-jobs-job.true c.loop-job-test.true w.index-accesses-job.is (c.loop-job.invariant.written cell);
      }
  | else-jobs-job w ↦ record {
    size = ap length w.set-is ∙ c.loop-job.invariant.size;
    written = λ cell. subst (λ s. IsTrue (has s cell) ↔ IsWrittenBefore c.args.accesses.now c.args.jobs.now
        (c.loop-job.job + 1) cell) (sym w.set-is)
        (writes_same c.args.accesses.now c.args.jobs.now c.loop-job.job cell
        (has c.loop-job.set cell) w.if-jobs-job.false (c.loop-job.invariant.written cell));
  }
]
