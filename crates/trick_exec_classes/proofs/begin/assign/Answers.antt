use Rattle.std.proofs.Common.{rules, ◌≡◌, ◌∙◌, ◌+◌, ℤ, pos, List, ap, drop, get_or, length, length-set, of_z, to_z, w64}
use Rattle.std.specs.Prelude.{slice_set}
use Rattle.trick_lang.specs.declared.cells.Cell.{Cell}
use Rattle.trick_model.specs.Run.{assigned}
use Rattle.trick_exec_classes.proofs.CellLists.{assigned_next}
use Rattle.trick_exec_classes.proofs.begin.assign.Goals as goal

pub loop-cell-preserved : goal.loop-cell-preserved
loop-cell-preserved g c =
    let none : Cell × ℤ = (record { 0 = 0 }, pos 0) in
    let i = c.loop-cell.cell-index in
    let assigns = c.as_slice-cell-items.result.now in
    let numbers = g.M.Cells.numbers c.loop-cell.memory in
    let assign : Cell × ℤ = get_or assigns i none in
    let same : to_z w64 (of_z w64 assign.1) ≡ assign.1 = search rules in
    record {
      left = ap (λ (m : List ℤ). assigned (drop (i + 1) assigns) m) c.set.ensures.numbers
          ∙ ap (λ (n : ℤ). assigned (drop (i + 1) assigns) (slice_set numbers (assign.0).0 n)) same
          ∙ assigned_next i assigns none numbers (assigned c.args.plan.now.assigns (g.M.Cells.numbers c.args.memory.now)) c.loop-cell-test.true
          c.loop-cell.invariant.left;
      memory = record {
        as_many = ap length c.set.ensures.numbers ∙ length-set numbers _ _ ∙ c.loop-cell.invariant.memory.as_many;
        of_types = c.set.ensures.scalars ∙ c.loop-cell.invariant.memory.of_types;
      };
    }
