use Rattle.std.proofs.Common.{◌++◌, ap, sym, ◌∙◌}
use Rattle.trick_access.proofs.Ends.{noted_both}
use Rattle.trick_access.proofs.reach.note.note_reads.Goals as goal
use Rattle.trick_lang.specs.Access.{change_reads, index_reads, target_reads}
use Rattle.trick_access.specs.Reached.{noted}
use Rattle.trick_lang.specs.TreeOf.{change_of, code_of, spot_of}

pub returns-in-Assign : goal.returns-in-Assign
returns-in-Assign c =
    let base = c.args.base in
    let old = c.args.ends.now in
    let indexes = index_reads (spot_of c.in-Assign.place) base in
    let target = target_reads (spot_of c.in-Assign.place) (change_of c.in-Assign.change) base in
    let value = change_reads (change_of c.in-Assign.change) base in
    rw (ap code_of c.in-Assign.is)
    (c.note_change-in-Assign.ensures ∙ ap (noted value) (c.note_target.ensures ∙ ap (noted target) c.note_indexes.ensures)
    ∙ sym (noted_both indexes (target ++ value) old ∙ noted_both target value (noted indexes old)))
