use Rattle.std.proofs.Common.{◌≡◌, ◌∷◌, ◌+◌, arith, drop, false, length, sym, subst, IsTrue}
use Rattle.std.proofs.lemmas.List.{drop_more}
use Rattle.std.specs.List.{slice_index_or}
use Rattle.trick_eval.proofs.Ranges.{behind, covers_from, covers_to, head_below, head_rises, in_here, not_behind, tail_sorted}
use Rattle.trick_eval.proofs.store.difference.Goals as goal
use Rattle.trick_access.specs.Ranges.{are_sorted}
use Rattle.trick_lang.specs.Access.{is_in}
use Rattle.trick_lang.specs.declared.range.CellRange.{CellRange}

abbrev none : CellRange
none = record { first = record { 0 = 0 }; last = record { 0 = 0 } }

pub difference_in-requires : goal.difference_in-requires
difference_in-requires g c =
    let rs = c.args.ranges.now in
    let i = c.loop-range.range-index in
    let cells = length (g.M.Cells.numbers c.args.from.now) in
    let r = slice_index_or rs i none in
    let sorted : IsTrue (are_sorted c.loop-range.invariant.sorted.0 cells (r ∷ drop (i + 1) rs)) = subst (λ q. IsTrue (are_sorted c.loop-range.invariant.sorted.0 cells q)) (drop_more rs i none c.loop-range-test.true) c.loop-range.invariant.sorted.1 in
    record {
      length = c.requires.length;
      rises = head_rises c.loop-range.invariant.sorted.0 cells r (drop (i + 1) rs) sorted;
      below = head_below c.loop-range.invariant.sorted.0 cells r (drop (i + 1) rs) sorted;
    }

pub returns-in-Some : goal.returns-in-Some
returns-in-Some g c =
    let rs = c.args.ranges.now in
    let i = c.loop-range.range-index in
    let cells = length (g.M.Cells.numbers c.args.from.now) in
    let r = slice_index_or rs i none in
    let split = drop_more rs i none c.loop-range-test.true in
    let sorted : IsTrue (are_sorted c.loop-range.invariant.sorted.0 cells (r ∷ drop (i + 1) rs)) = subst (λ q. IsTrue (are_sorted c.loop-range.invariant.sorted.0 cells q)) split c.loop-range.invariant.sorted.1 in
    let found = c.in-Some.ensures in
    record {
      there = in_here rs i (drop (i + 1) rs) r _ split found.from found.to;
      first = λ k less within.
          not_behind r (drop (i + 1) rs) k
          (behind (drop (i + 1) rs) ((r.last).0 + 2) cells k (tail_sorted c.loop-range.invariant.sorted.0 cells r (drop (i + 1) rs) sorted) (omega (arith, found.to)))
          (λ e. found.first k (covers_from r k e) less)
          (λ e out. c.loop-range.invariant.same k within (subst (λ q. is_in q k ≡ false) (sym split) out));
      left = found.left;
      right = found.right;
      apart = found.apart;
    }

pub loop-range-preserved : goal.loop-range-preserved
loop-range-preserved g c =
    let rs = c.args.ranges.now in
    let i = c.loop-range.range-index in
    let cells = length (g.M.Cells.numbers c.args.from.now) in
    let r = slice_index_or rs i none in
    let split = drop_more rs i none c.loop-range-test.true in
    let sorted : IsTrue (are_sorted c.loop-range.invariant.sorted.0 cells (r ∷ drop (i + 1) rs)) = subst (λ q. IsTrue (are_sorted c.loop-range.invariant.sorted.0 cells q)) split c.loop-range.invariant.sorted.1 in
    record {
      same = λ k within left. not_behind r (drop (i + 1) rs) k left
          (λ e. let to = covers_to r k e in c.in_default.ensures k (covers_from r k e) (omega arith))
          (λ e out. c.loop-range.invariant.same k within (subst (λ q. is_in q k ≡ false) (sym split) out));
      sorted = ((r.last).0 + 2, tail_sorted c.loop-range.invariant.sorted.0 cells r (drop (i + 1) rs) sorted);
    }
