use Rattle.std.proofs.Common.{◌≡◌, ◌+◌, ◌-◌, suc, ◌||◌, false, ap, sym, ◌∙◌, arith}
use Rattle.trick_race.specs.Accesses.{has, has_from}
use Rattle.trick_race.proofs.cell_set.CellSet.has_some.Goals as goal

pub loop-cell-preserved : goal.loop-cell-preserved
loop-cell-preserved c =
    let set = c.args.self.now in
    let cell = c.loop-cell.cell in
    let n = c.args.last + 1 - (cell + 1) in
    let more : c.args.last + 1 - cell ≡ suc n = omega arith in
    let out : has set cell ≡ false = sym c.has.ensures ∙ c.if-has.false in
    sym (ap (λ b. b || has_from set (cell + 1) n) out) ∙ sym (ap (λ m. has_from set cell m) more)
    ∙ c.loop-cell.invariant
