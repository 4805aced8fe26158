use Rattle.std.proofs.Common.{◌≡◌, ◌∷◌, ◌+◌, ◌∙◌, drop, false, length, sym, subst, IsTrue}
use Rattle.std.proofs.lemmas.List.{drop_more}
use Rattle.std.specs.List.{slice_index_or}
use Rattle.trick_eval.proofs.Ranges.{head_below, head_rises, not_behind, tail_sorted}
use Rattle.trick_eval.proofs.store.copy.Goals as goal
use Rattle.trick_access.specs.Ranges.{are_sorted}
use Rattle.trick_lang.specs.Access.{is_in}
use Rattle.trick_lang.specs.declared.range.CellRange.{CellRange}

abbrev none : CellRange
none = record { first = record { 0 = 0 }; last = record { 0 = 0 } }

pub copy_range-requires : goal.copy_range-requires
copy_range-requires g c =
    let rs = c.args.ranges.now in
    let i = c.loop-range.range-index in
    let cells = length (g.M.Cells.numbers c.args.from.now) in
    let r = slice_index_or rs i none in
    let sorted : IsTrue (are_sorted c.loop-range.invariant.sorted.0 cells (r ∷ drop (i + 1) rs)) = subst (λ q. IsTrue (are_sorted c.loop-range.invariant.sorted.0 cells q)) (drop_more rs i none c.loop-range-test.true) c.loop-range.invariant.sorted.1 in
    record {
      length = c.loop-range.invariant.length ∙ c.requires.length;
      rises = head_rises c.loop-range.invariant.sorted.0 cells r (drop (i + 1) rs) sorted;
      below = head_below c.loop-range.invariant.sorted.0 cells r (drop (i + 1) rs) sorted;
    }

pub loop-range-preserved : goal.loop-range-preserved
loop-range-preserved g c =
    let rs = c.args.ranges.now in
    let i = c.loop-range.range-index in
    let cells = length (g.M.Cells.numbers c.args.from.now) in
    let r = slice_index_or rs i none in
    let split = drop_more rs i none c.loop-range-test.true in
    let sorted : IsTrue (are_sorted c.loop-range.invariant.sorted.0 cells (r ∷ drop (i + 1) rs)) = subst (λ q. IsTrue (are_sorted c.loop-range.invariant.sorted.0 cells q)) split c.loop-range.invariant.sorted.1 in
    record {
      copied = λ k within left. not_behind r (drop (i + 1) rs) k left
          (λ e. c.copy_range.ensures.copied k e)
          (λ e out. c.copy_range.ensures.kept k e ∙ c.loop-range.invariant.copied k within (subst (λ q. is_in q k ≡ false) (sym split) out));
      sorted = ((r.last).0 + 2, tail_sorted c.loop-range.invariant.sorted.0 cells r (drop (i + 1) rs) sorted);
      length = c.copy_range.ensures.length ∙ c.loop-range.invariant.length;
    }
