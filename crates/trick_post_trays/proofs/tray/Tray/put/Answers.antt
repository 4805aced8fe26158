use Rattle.std.proofs.Common.{rules, ◌≡◌, ◌∙◌, ap, length}
use Rattle.trick_post_trays.proofs.Trays.{taken_cells, taken_flags}
use Rattle.trick_post_trays.proofs.tray.Tray.put.Goals as goal

pub copy_from_slice-requires : goal.copy_from_slice-requires
copy_from_slice-requires c =
    let fits = taken_cells c.args.plan.now c.args.self.now c.args.taken.now c.args.work c.requires.own c.requires.right in
    let same : length c.as_slice.result.now ≡ length c.args.self.now.cells.items = ap length c.as_slice.ensures ∙ fits in
    search (rules, same)

pub copy_from_slice-requires-2 : goal.copy_from_slice-requires-2
copy_from_slice-requires-2 c =
    let fits = taken_flags c.args.plan.now c.args.self.now c.args.taken.now c.args.work c.requires.own c.requires.right in
    let same : length c.as_slice-2.result.now ≡ length c.args.self.now.on.items = ap length c.as_slice-2.ensures ∙ fits in
    search (rules, same)
