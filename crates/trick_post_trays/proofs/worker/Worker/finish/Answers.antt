use Rattle.std.proofs.Common.{◌∙◌, [], List, length, refl, subst, sym}
use Rattle.trick_lang.specs.declared.cells.Cell.{Cell}
use Rattle.trick_lang.specs.declared.job.JobId.{JobId}
use Rattle.trick_model.specs.Laws.{is_among}
use Rattle.trick_model.specs.Valid.{ids}
use Rattle.trick_post_trays.proofs.Finish.{IsFinished, begins_anew, finishes, laid_memory, wanted_of}
use Rattle.trick_post_trays.proofs.Trays.{AreCells, scope_cells}
use Rattle.trick_post_trays.specs.Scratch.{IsWritten, cell_ids}
use Rattle.trick_post_trays.proofs.worker.Worker.finish.Goals as goal

pub run-requires-clause-memory : goal.run-requires-clause-memory
run-requires-clause-memory g c = laid_memory c.args.plan.now c.args.tray.now c.args.self.now c.lay_out.new.self c.lay_out.ensures

pub clear-requires : goal.clear-requires
clear-requires g c =
    subst (λ (cells : List Cell). AreCells cells (length c.run.new.self.scratch.numbers)) (sym c.as_slice-3.ensures)
    (subst (AreCells c.args.tray.now.scope) (sym c.run.ensures.ran.memory.as_many) (scope_cells c.args.plan.now c.args.tray.now c.requires.tray))

finished_at : (g : _) (c : goal.After-tray-1 g) → IsFinished c.args.plan.now c.args.tray.now c.args.tic (g.M.Cells.numbers c.args.memory.now)
    (g.M.Cells.numbers c.write_jobs.new.into) c.args.faults.now c.run.new.faults
finished_at g c =
    finishes c.args.plan.now c.args.tray.now c.in-Some.work c.args.tic c.args.self.now c.lay_out.new.self c.run.new.self c.args.faults.now c.run.new.faults
    (g.M.Cells.numbers c.args.memory.now) (g.M.Cells.numbers c.write_jobs.new.into) c.requires.accepted c.requires.tray c.in-Some.is c.lay_out.ensures
    c.run.ensures.ran
    (subst (λ (jobs : List JobId). IsWritten (wanted_of c.args.plan.now (ids jobs) c.in-Some.work) c.run.new.self.scratch.numbers
    (g.M.Cells.numbers c.args.memory.now) (g.M.Cells.numbers c.write_jobs.new.into)) (c.as_slice.ensures ∙ c.run.ensures.jobs) c.write_jobs.ensures.numbers)

pub returns-clause-memory : goal.returns-clause-memory
returns-clause-memory g c = (finished_at g c).memory

pub returns-clause-faults : goal.returns-clause-faults
returns-clause-faults g c = (finished_at g c).faults

pub returns-clause-own : goal.returns-clause-own
returns-clause-own g c =
    begins_anew c.args.plan.now c.args.tray.now c.in-Some.work c.args.tic c.args.self.now c.lay_out.new.self c.run.new.self
    (record { bench = c.run.new.self.bench; scratch = c.clear.new.scratch; on = c.run.new.self.on; writes = c.run.new.self.writes })
    c.args.faults.now c.run.new.faults c.write_law.ensures c.requires.tray c.requires.own c.lay_out.ensures c.run.ensures.ran
    (subst (λ (cells : List Cell). IsWritten (λ k. is_among k (cell_ids cells)) [] c.run.new.self.scratch.numbers c.clear.new.scratch.numbers)
    c.as_slice-3.ensures c.clear.ensures.numbers)
    c.clear.ensures.scalars refl refl refl
