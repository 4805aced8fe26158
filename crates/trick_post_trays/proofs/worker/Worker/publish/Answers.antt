use Rattle.std.proofs.Common.{◌≡◌, ◌∙◌, [], List, ap, length, refl, subst, sym}
use Rattle.std.specs.Prelude.{ℤ}
use Rattle.trick_lang.specs.declared.cells.Cell.{Cell}
use Rattle.trick_lang.specs.declared.job.JobId.{JobId}
use Rattle.trick_model.specs.Beside.{spread}
use Rattle.trick_model.specs.Laws.{is_among}
use Rattle.trick_model.specs.Valid.{ids}
use Rattle.trick_model.specs.ValidState.{AreNumbersOf}
use Rattle.trick_post_trays.proofs.Dated.{kept_of}
use Rattle.trick_post_trays.proofs.Finish.{handed, wanted_of}
use Rattle.trick_post_trays.proofs.Publishing.{clears_again, laid_again, outcome_of, outputs_many, outputs_right, publishes}
use Rattle.trick_post_trays.proofs.Trays.{AreCells, scope_cells, scope_there}
use Rattle.trick_post_trays.specs.Outputs.{outcome}
use Rattle.trick_post_trays.specs.Scratch.{IsWritten, Numbers, cell_ids}
use Rattle.trick_post_trays.proofs.worker.Worker.publish.Goals as goal

pub spread-requires-clause-below : goal.spread-requires-clause-below
spread-requires-clause-below g c =
    subst (λ (cells : List Cell). AreCells cells (length c.args.self.now.scratch.numbers)) (sym c.as_slice.ensures)
    (scope_there c.args.plan.now c.args.parcel.now.tray c.args.self.now c.requires.fits.tray c.requires.own)

pub spread-requires-clause-right : goal.spread-requires-clause-right
spread-requires-clause-right g c =
    subst (λ (ns : List ℤ). AreNumbersOf c.args.self.now.scratch.scalars (cell_ids c.as_slice.result.now) ns) (sym c.deref.ensures.value)
    (subst (λ (cells : List Cell). AreNumbersOf c.args.self.now.scratch.scalars (cell_ids cells) c.args.parcel.now.outputs.cells.items) (sym c.as_slice.ensures)
    (outputs_right c.args.plan.now c.args.parcel.now.tray c.args.self.now (handed c.args.parcel.now.tray.cells.items c.args.parcel.now.tray.on.items c.in-Some.work)
    c.args.parcel.now.outputs c.requires.fits.tray c.requires.own
    (outcome_of c.args.plan.now c.args.parcel.now.tray c.in-Some.work c.args.parcel.now.outputs c.in-Some.is c.requires.outcome)))

pub spread-requires-clause-as_many : goal.spread-requires-clause-as_many
spread-requires-clause-as_many g c =
    ap length c.deref.ensures.value
    ∙ outputs_many c.args.plan.now c.args.parcel.now.tray (handed c.args.parcel.now.tray.cells.items c.args.parcel.now.tray.on.items c.in-Some.work)
    c.args.parcel.now.outputs c.requires.fits.tray
    (outcome_of c.args.plan.now c.args.parcel.now.tray c.in-Some.work c.args.parcel.now.outputs c.in-Some.is c.requires.outcome)
    ∙ sym (ap length c.as_slice.ensures)

pub write_jobs-requires-clause-from : goal.write_jobs-requires-clause-from
write_jobs-requires-clause-from g c =
    let tray = c.args.parcel.now.tray in
    let base = c.args.self.now.scratch.numbers in
    let numbers = c.spread.ensures.numbers ∙ ap (λ (cells : List Cell). spread (cell_ids cells) c.deref.result.now base) c.as_slice.ensures
    ∙ ap (λ (ns : List ℤ). spread (cell_ids tray.scope) ns base) c.deref.ensures.value in
    laid_again c.args.plan.now tray c.args.self.now
    (record { bench = c.args.self.now.bench; scratch = c.spread.new.scratch; on = c.args.self.now.on; writes = c.args.self.now.writes })
    c.args.parcel.now.outputs.cells.items c.requires.own numbers c.spread.ensures.scalars

pub clear-requires : goal.clear-requires
clear-requires g c =
    let tray = c.args.parcel.now.tray in
    let base = c.args.self.now.scratch.numbers in
    let numbers = c.spread.ensures.numbers ∙ ap (λ (cells : List Cell). spread (cell_ids cells) c.deref.result.now base) c.as_slice.ensures
    ∙ ap (λ (ns : List ℤ). spread (cell_ids tray.scope) ns base) c.deref.ensures.value in
    let laid = laid_again c.args.plan.now tray c.args.self.now
    (record { bench = c.args.self.now.bench; scratch = c.spread.new.scratch; on = c.args.self.now.on; writes = c.args.self.now.writes })
    c.args.parcel.now.outputs.cells.items c.requires.own numbers c.spread.ensures.scalars in
    subst (λ (cells : List Cell). AreCells cells (length c.spread.new.scratch.numbers)) (sym c.as_slice-4.ensures)
    (subst (AreCells tray.scope) (sym laid.as_many) (scope_cells c.args.plan.now tray c.requires.fits.tray))

pub add_faults-requires : goal.add_faults-requires
add_faults-requires g c =
    let comes = outcome_of c.args.plan.now c.args.parcel.now.tray c.in-Some.work c.args.parcel.now.outputs c.in-Some.is c.requires.outcome in
    record {
      kept = kept_of (outcome c.args.plan.now c.args.parcel.now.tray.number
          (handed c.args.parcel.now.tray.cells.items c.args.parcel.now.tray.on.items c.in-Some.work)).faults c.args.parcel.now.outputs.faults comes.faults;
    }

pub returns-clause-memory : goal.returns-clause-memory
returns-clause-memory g c =
    let tray = c.args.parcel.now.tray in
    let base = c.args.self.now.scratch.numbers in
    let comes = outcome_of c.args.plan.now tray c.in-Some.work c.args.parcel.now.outputs c.in-Some.is c.requires.outcome in
    let numbers = c.spread.ensures.numbers ∙ ap (λ (cells : List Cell). spread (cell_ids cells) c.deref.result.now base) c.as_slice.ensures
    ∙ ap (λ (ns : List ℤ). spread (cell_ids tray.scope) ns base) c.deref.ensures.value
    ∙ ap (λ (s : Numbers). spread (cell_ids tray.scope) c.args.parcel.now.outputs.cells.items s.numbers) c.requires.own.clear in
    let done = publishes c.args.plan.now tray c.in-Some.work c.args.tic c.args.parcel.now.outputs c.spread.new.scratch.numbers
    (g.M.Cells.numbers c.args.memory.now) (g.M.Cells.numbers c.write_jobs.new.into) c.args.faults.now c.add_faults.new.faults c.requires.accepted c.requires.fits.tray
    c.in-Some.is comes numbers c.requires.memory.as_many
    (subst (λ (jobs : List JobId). IsWritten (wanted_of c.args.plan.now (ids jobs) c.in-Some.work) c.spread.new.scratch.numbers
    (g.M.Cells.numbers c.args.memory.now) (g.M.Cells.numbers c.write_jobs.new.into)) c.as_slice-2.ensures c.write_jobs.ensures.numbers)
    c.add_faults.ensures in
    done.memory

pub returns-clause-faults : goal.returns-clause-faults
returns-clause-faults g c =
    let tray = c.args.parcel.now.tray in
    let base = c.args.self.now.scratch.numbers in
    let comes = outcome_of c.args.plan.now tray c.in-Some.work c.args.parcel.now.outputs c.in-Some.is c.requires.outcome in
    let numbers = c.spread.ensures.numbers ∙ ap (λ (cells : List Cell). spread (cell_ids cells) c.deref.result.now base) c.as_slice.ensures
    ∙ ap (λ (ns : List ℤ). spread (cell_ids tray.scope) ns base) c.deref.ensures.value
    ∙ ap (λ (s : Numbers). spread (cell_ids tray.scope) c.args.parcel.now.outputs.cells.items s.numbers) c.requires.own.clear in
    let done = publishes c.args.plan.now tray c.in-Some.work c.args.tic c.args.parcel.now.outputs c.spread.new.scratch.numbers
    (g.M.Cells.numbers c.args.memory.now) (g.M.Cells.numbers c.write_jobs.new.into) c.args.faults.now c.add_faults.new.faults c.requires.accepted c.requires.fits.tray
    c.in-Some.is comes numbers c.requires.memory.as_many
    (subst (λ (jobs : List JobId). IsWritten (wanted_of c.args.plan.now (ids jobs) c.in-Some.work) c.spread.new.scratch.numbers
    (g.M.Cells.numbers c.args.memory.now) (g.M.Cells.numbers c.write_jobs.new.into)) c.as_slice-2.ensures c.write_jobs.ensures.numbers)
    c.add_faults.ensures in
    done.faults

pub returns-clause-own : goal.returns-clause-own
returns-clause-own g c =
    let tray = c.args.parcel.now.tray in
    let base = c.args.self.now.scratch.numbers in
    let numbers = c.spread.ensures.numbers ∙ ap (λ (cells : List Cell). spread (cell_ids cells) c.deref.result.now base) c.as_slice.ensures
    ∙ ap (λ (ns : List ℤ). spread (cell_ids tray.scope) ns base) c.deref.ensures.value in
    clears_again c.args.plan.now tray c.args.self.now
    (record { bench = c.args.self.now.bench; scratch = c.spread.new.scratch; on = c.args.self.now.on; writes = c.args.self.now.writes })
    (record { bench = c.args.self.now.bench; scratch = c.clear.new.scratch; on = c.args.self.now.on; writes = c.args.self.now.writes })
    c.args.parcel.now.outputs.cells.items c.requires.own numbers c.spread.ensures.scalars
    (subst (λ (cells : List Cell). IsWritten (λ k. is_among k (cell_ids cells)) [] c.spread.new.scratch.numbers c.clear.new.scratch.numbers)
    c.as_slice-4.ensures c.clear.ensures.numbers)
    c.clear.ensures.scalars refl refl refl
