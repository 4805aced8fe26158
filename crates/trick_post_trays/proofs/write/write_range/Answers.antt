use Rattle.std.proofs.Common.{ℕ, arith}
use Rattle.trick_eval.specs.Bench.{covers}
use Rattle.trick_post_trays.proofs.Writes.{below_all, covers_below, written_same}
use Rattle.trick_post_trays.proofs.write.write_range.Goals as goal

pub returns-clause-numbers : goal.returns-clause-numbers
returns-clause-numbers g c =
    written_same (covers_below c.args.range c.loop-cell.cell) (covers c.args.range) c.args.from.now.numbers
    (g.M.Cells.numbers c.args.into.now) (g.M.Cells.numbers c.loop-cell.into)
    (λ (cell : ℕ). below_all c.args.range c.loop-cell.cell cell (omega arith))
    c.loop-cell.invariant.numbers
