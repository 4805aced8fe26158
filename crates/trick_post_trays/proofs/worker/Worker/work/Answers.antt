use Rattle.std.proofs.Common.{◌≡◌, [], List, length, refl, subst, sym}
use Rattle.std.specs.Prelude.{map}
use Rattle.trick_lang.specs.declared.cells.Cell.{Cell}
use Rattle.trick_model.specs.Laws.{is_among}
use Rattle.trick_model.specs.State.{number_at}
use Rattle.trick_model.specs.ValidState.{AreNumbersOf}
use Rattle.trick_post_trays.proofs.Finish.{begins_anew, comes_to, laid_memory}
use Rattle.trick_post_trays.proofs.Trays.{AreCells, scope_cells}
use Rattle.trick_post_trays.specs.Scratch.{IsWritten, cell_ids}
use Rattle.trick_post_trays.proofs.worker.Worker.work.Goals as goal

pub run-requires-clause-memory : goal.run-requires-clause-memory
run-requires-clause-memory c =
    laid_memory c.args.plan.now c.args.parcel.now.tray c.args.self.now c.lay_out.new.self c.lay_out.ensures

pub gather-requires-clause-below : goal.gather-requires-clause-below
gather-requires-clause-below c =
    subst (λ (cells : List Cell). AreCells cells (length c.run.new.self.scratch.numbers)) (sym c.as_slice.ensures)
    (subst (AreCells c.args.parcel.now.tray.scope) (sym c.run.ensures.ran.memory.as_many) (scope_cells c.args.plan.now c.args.parcel.now.tray c.requires.fits.tray))

pub clear-requires-2 : goal.clear-requires-2
clear-requires-2 c =
    subst (λ (cells : List Cell). AreCells cells (length c.run.new.self.scratch.numbers)) (sym c.as_slice-2.ensures)
    (subst (AreCells c.args.parcel.now.tray.scope) (sym c.run.ensures.ran.memory.as_many) (scope_cells c.args.plan.now c.args.parcel.now.tray c.requires.fits.tray))

pub returns-clause-outcome : goal.returns-clause-outcome
returns-clause-outcome c =
    comes_to c.args.plan.now c.args.parcel.now.tray c.in-Some.work c.args.self.now c.lay_out.new.self c.run.new.self c.clear.new.self c.run.new.faults
    (record { cells = c.gather.new.numbers; faults = c.run.new.faults }) c.requires.accepted c.requires.fits.tray c.in-Some.is c.lay_out.ensures c.run.ensures.ran
    c.clear.ensures refl
    (subst (λ (cells : List Cell). c.gather.new.numbers.items ≡ map (number_at c.run.new.self.scratch.numbers) (cell_ids cells)) c.as_slice.ensures c.gather.ensures.numbers)
    (subst (λ (cells : List Cell). AreNumbersOf c.run.new.self.scratch.scalars (cell_ids cells) c.gather.new.numbers.items) c.as_slice.ensures c.gather.ensures.right)

pub returns-clause-own : goal.returns-clause-own
returns-clause-own c =
    begins_anew c.args.plan.now c.args.parcel.now.tray c.in-Some.work 0 c.args.self.now c.lay_out.new.self c.run.new.self
    (record { bench = c.run.new.self.bench; scratch = c.clear-2.new.scratch; on = c.run.new.self.on; writes = c.run.new.self.writes })
    c.clear.new.self c.run.new.faults c.write_law.ensures c.requires.fits.tray c.requires.own c.lay_out.ensures c.run.ensures.ran
    (subst (λ (cells : List Cell). IsWritten (λ k. is_among k (cell_ids cells)) [] c.run.new.self.scratch.numbers c.clear-2.new.scratch.numbers)
    c.as_slice-2.ensures c.clear-2.ensures.numbers)
    c.clear-2.ensures.scalars refl refl refl
