use Rattle.std.proofs.Common.{◌≡◌, ◌+◌, ◌||◌, ap, ◌∙◌, arith}
use Rattle.trick_race.specs.Accesses.{has}
use Rattle.trick_race.proofs.Merging.{up_to}
use Rattle.trick_race.proofs.cell_set.mark.Goals as goal

pub returns-clause-marked : goal.returns-clause-marked
returns-clause-marked c cell =
    let end : c.loop-cell.cell ≡ (c.args.range.last).0 + 1 = omega arith in
    c.loop-cell.invariant.marked cell ∙ ap (λ b. b || has c.args.marks.now.items cell)
    (up_to (c.args.range.first).0 (c.args.range.last).0 c.loop-cell.cell cell end)
