use Rattle.std.proofs.Common.{◌≡◌, ◌++◌, ◌∷◌, [], ap, rules, ◌∙◌, w64, to_z, of_z}
use Rattle.std.specs.Prelude.{pos, ℤ}
use Rattle.trick_chkpt_lines.proofs.cells.read_cells.Goals as goal
use Rattle.trick_chkpt_lines.specs.CheckpointLines.{cells_of}
use Rattle.trick_chkpt_lines.specs.Ranges.{full_name, range_at}
use Rattle.trick_codes.proofs.Each.{lines_go_on}
use Rattle.trick_codes.specs.Named.{integer_line}
use Rattle.trick_lang.specs.declared.cells.Cell.{Cell}

pub loop-cell-preserved : goal.loop-cell-preserved
unfolding cells_of
loop-cell-preserved c =
    let n = c.in_ok-number.number in
    let same : to_z w64 (of_z w64 n) ≡ n = search rules in
    lines_go_on (pos 0) (λ (cell : Cell). integer_line (c.args.front.now ++ full_name c.args.plan.now cell) (range_at c.args.plan.now cell))
    c.args.cells.now c.loop-cell.cell-index _ c.loop-cell.found c.push.new.self c.in_ok-number.number c.loop-cell.here.now
    c.in_ok-number.after.now _ c.loop-cell-test.true c.in_ok-number.ensures (c.in_ok-push.ensures.ok ∙ ap (λ (k : ℤ). c.loop-cell.found ++ k ∷ []) same)
    c.loop-cell.invariant
