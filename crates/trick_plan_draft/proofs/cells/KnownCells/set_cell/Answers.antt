use Rattle.std.proofs.Common.{◌∙◌, ℤ, Some, ap, sym}
use Rattle.std.proofs.lemmas.Int.{to_z-of_z}
use Rattle.std.specs.Int.{w128}
use Rattle.trick_plan_draft.proofs.Known.{cell_place, none_set}
use Rattle.trick_plan_draft.proofs.cells.KnownCells.set_cell.Goals as goal
use Rattle.trick_model.specs.Names.{set_in_range}

pub returns-in-Some : goal.returns-in-Some
returns-in-Some c =
    let known = c.args.self.now in
    let cell = c.in-Some.cell in
    c.set_number.ensures
    ∙ (ap (λ (n : ℤ). set_in_range known.scalars n (Some cell.0)) (to_z-of_z w128 c.args.number c.ranges.number)
    ∙ cell_place known c.args.name.now c.args.number cell c.requires (sym c.in-Some.ensures))

pub returns-in-None : goal.returns-in-None
returns-in-None c = none_set c.args.self.now c.args.name.now c.args.number c.requires (sym c.in-None.ensures)
