use Rattle.std.proofs.Common.{◌+◌, ◌∙◌, drop, refl, sym, subst}
use Rattle.std.proofs.lemmas.List.{drop_all, drop_more}
use Rattle.std.specs.List.{slice_index_or}
use Rattle.trick_eval.proofs.Overwrite.{IsOver, over_begin, over_end, over_next}
use Rattle.trick_eval.proofs.store.overwrite.Goals as goal
use Rattle.trick_lang.specs.Wrap.{IsInRange}

pub loop-cell-init : goal.loop-cell-init
loop-cell-init g c = record {
  over = over_begin c.args.working.now.stored (g.M.Cells.numbers c.args.into.now) c.cells-cell-items.result.now c.cells-cell-items.ensures;
  scalars = refl;
}

pub put-requires : goal.put-requires
put-requires g c = record { range = λ k n is. subst (λ scalars. IsInRange scalars k n) (sym c.loop-cell.invariant.scalars) (c.requires.range k n is) }

pub loop-cell-preserved : goal.loop-cell-preserved
loop-cell-preserved g c =
    let stored = c.args.working.now.stored in
    let old = g.M.Cells.numbers c.args.into.now in
    let cells = c.cells-cell-items.result.now in
    let i = c.loop-cell.cell-index in
    record {
      over =
          subst (λ ns. IsOver stored old ns (drop (i + 1) cells)) (sym c.put.ensures.numbers)
          (over_next stored old (g.M.Cells.numbers c.loop-cell.into) (drop (i + 1) cells) (slice_index_or cells i 0) c.requires.length
          (subst (λ rest. IsOver stored old (g.M.Cells.numbers c.loop-cell.into) rest) (drop_more cells i 0 c.loop-cell-test.true) c.loop-cell.invariant.over));
      scalars = c.put.ensures.scalars ∙ c.loop-cell.invariant.scalars;
    }

pub returns-clause-numbers : goal.returns-clause-numbers
returns-clause-numbers g c =
    over_end c.args.working.now.stored (g.M.Cells.numbers c.args.into.now) (g.M.Cells.numbers c.loop-cell.into)
    (subst (λ rest. IsOver c.args.working.now.stored (g.M.Cells.numbers c.args.into.now) (g.M.Cells.numbers c.loop-cell.into) rest) (drop_all c.loop-cell.cell-index c.cells-cell-items.result.now c.loop-cell-test.false) c.loop-cell.invariant.over)
