use Rattle.std.proofs.Common.{◌≡◌, ◌<◌, Bool, IsTrue, ◌+◌, ◌&&◌, ◌∙◌, [], List, ap, arith, length, subst, sym, take}
use Rattle.std.proofs.lemmas.List.{take_all}
use Rattle.trick_access.specs.Ranges.{AreCellsOf, are_sorted}
use Rattle.trick_lang.specs.Access.{is_in}
use Rattle.trick_lang.specs.Effect.{writes}
use Rattle.trick_lang.specs.declared.job.JobId.{JobId}
use Rattle.trick_lang.specs.declared.range.CellRange.{CellRange}
use Rattle.trick_model.specs.Valid.{ids}
use Rattle.trick_post_trays.proofs.Finish.{wanted_of}
use Rattle.trick_post_trays.proofs.Writes.{wanted_more, written_join, written_same}
use Rattle.trick_post_trays.proofs.Jobs.{scheduled_there}
use Rattle.trick_post_trays.specs.Calendars.{has_work}
use Rattle.trick_post_trays.specs.Scratch.{IsWritten}
use Rattle.trick_queue.specs.Line.{no_id}
use Rattle.std.specs.List.{slice_index_or}
use Rattle.trick_post_trays.proofs.write.write_jobs.Goals as goal

pub loop-job-preserved : goal.loop-job-preserved
loop-job-preserved g c =
    let plan = c.args.duty.plan.now in
    let jobs = c.args.duty.jobs.now in
    let w = c.args.duty.work in
    let i = c.loop-job.job-index in
    let job = slice_index_or jobs i no_id in
    let inv = c.loop-job.invariant in
    let there : job.0 < length plan.program.jobs = scheduled_there plan jobs c.requires.scheduled i no_id c.loop-job-test.true in
    let are : AreCellsOf (length plan.program.cells) (writes plan.program job) (slice_index_or c.args.writes.now job.0 []) = c.requires.writes job.0 there in
    record {
      numbers = written_join (wanted_of plan (ids (take i jobs)) w) (λ k. has_work plan.program.jobs w job.0 && is_in (writes plan.program job) k)
          (wanted_of plan (ids (take (i + 1) jobs)) w) c.args.from.now.numbers (g.M.Cells.numbers c.args.into.now)
          (g.M.Cells.numbers c.loop-job.into) (g.M.Cells.numbers c.write_wanted.new.into) inv.numbers
          (written_same (λ k. c.has_work-wanted.result && is_in c.ranges_of.result.now k) (λ k. has_work plan.program.jobs w job.0 && is_in (writes plan.program job) k)
          c.args.from.now.numbers (g.M.Cells.numbers c.loop-job.into) (g.M.Cells.numbers c.write_wanted.new.into)
          (λ k. ap (λ (b : Bool). b && is_in c.ranges_of.result.now k) c.has_work-wanted.ensures
          ∙ ap (λ (b : Bool). has_work plan.program.jobs w job.0 && b) (ap (λ (rs : List CellRange). is_in rs k) c.ranges_of.ensures ∙ are.exact k))
          c.write_wanted.ensures.numbers)
          (λ k. wanted_more plan jobs i w k c.loop-job-test.true);
      memory = record {
        as_many = c.write_wanted.ensures.numbers.many ∙ inv.memory.as_many;
        of_types = c.write_wanted.ensures.scalars ∙ inv.memory.of_types;
      };
    }

pub has_work-wanted-requires-clause-scheduled : goal.has_work-wanted-requires-clause-scheduled
has_work-wanted-requires-clause-scheduled g c = c.requires.scheduled c.loop-job.job-index c.loop-job-test.true

pub write_wanted-requires : goal.write_wanted-requires
write_wanted-requires g c =
    let plan = c.args.duty.plan.now in
    let jobs = c.args.duty.jobs.now in
    let job = slice_index_or jobs c.loop-job.job-index no_id in
    let inv = c.loop-job.invariant in
    let there : job.0 < length plan.program.jobs = scheduled_there plan jobs c.requires.scheduled c.loop-job.job-index no_id c.loop-job-test.true in
    let are : AreCellsOf (length plan.program.cells) (writes plan.program job) (slice_index_or c.args.writes.now job.0 []) = c.requires.writes job.0 there in
    record {
      length = c.requires.from.as_many ∙ sym inv.memory.as_many;
      scalars = c.requires.from.of_types ∙ sym inv.memory.of_types;
      sorted = subst (λ (rs : List CellRange). IsTrue (are_sorted 0 (length (g.M.Cells.numbers c.loop-job.into)) rs)) (sym c.ranges_of.ensures)
          (subst (λ n. IsTrue (are_sorted 0 n (slice_index_or c.args.writes.now job.0 []))) (sym inv.memory.as_many) are.sorted);
    }

pub returns-clause-numbers : goal.returns-clause-numbers
returns-clause-numbers g c =
    let jobs = c.args.duty.jobs.now in
    let all : take c.loop-job.job-index jobs ≡ jobs = take_all c.loop-job.job-index jobs (omega arith) in
    subst (λ (l : List JobId). IsWritten (wanted_of c.args.duty.plan.now (ids l) c.args.duty.work) c.args.from.now.numbers
    (g.M.Cells.numbers c.args.into.now) (g.M.Cells.numbers c.loop-job.into)) all c.loop-job.invariant.numbers
