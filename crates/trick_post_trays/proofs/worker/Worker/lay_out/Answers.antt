use Rattle.std.proofs.Common.{List, length, subst, sym}
use Rattle.trick_lang.specs.declared.cells.Cell.{Cell}
use Rattle.trick_lang.specs.declared.job.JobId.{JobId}
use Rattle.trick_post_trays.proofs.Jobs.{members_there}
use Rattle.trick_post_trays.proofs.Trays.{AreCells, held_numbers, scope_there}
use Rattle.trick_post_trays.specs.Trays.{AreThere}
use Rattle.trick_post_trays.proofs.worker.Worker.lay_out.Goals as goal

pub spread-requires-clause-below : goal.spread-requires-clause-below
spread-requires-clause-below c =
    subst (λ (cells : List Cell). AreCells cells (length c.args.self.now.scratch.numbers)) (sym c.as_slice.ensures)
    (scope_there c.args.plan.now c.args.tray.now c.args.self.now c.requires.tray c.requires.own)

pub spread-requires-clause-right : goal.spread-requires-clause-right
spread-requires-clause-right c =
    held_numbers c.args.plan.now c.args.tray.now c.args.self.now c.as_slice.result.now c.deref.result.now c.requires.tray c.requires.own c.requires.work
    c.as_slice.ensures c.deref.ensures.value

pub set_flags-requires-clause-there : goal.set_flags-requires-clause-there
set_flags-requires-clause-there c =
    subst (λ (jobs : List JobId). AreThere jobs (length c.args.self.now.on.on)) (sym c.as_slice-2.ensures)
    (subst (AreThere c.args.tray.now.members) (sym c.requires.own.flags)
    (members_there c.args.plan.now c.args.tray.now.number c.args.tray.now.members c.requires.tray.members))
