use Rattle.std.proofs.Common.{◌∷◌, ◌+◌, ◌<◌, ◌∙◌, drop, length, sym, subst, ap, take, IsTrue, List}
use Rattle.std.proofs.lemmas.List.{drop_more, take_more}
use Rattle.std.specs.List.{slice_index_or}
use Rattle.trick_access.specs.Ranges.{are_sorted}
use Rattle.trick_eval.proofs.Ranges.{head_below, head_rises, tail_sorted}
use Rattle.trick_eval.specs.Bench.{covers}
use Rattle.trick_lang.specs.Access.{is_in}
use Rattle.trick_lang.specs.declared.range.CellRange.{CellRange}
use Rattle.trick_post_trays.proofs.Writes.{in_more, written_join}
use Rattle.trick_post_trays.proofs.write.write_ranges.Goals as goal

abbrev none : CellRange
none = record { first = record { 0 = 0 }; last = record { 0 = 0 } }

pub write_range-requires : goal.write_range-requires
write_range-requires g c =
    let rs = c.args.ranges.now in
    let i = c.loop-range.range-index in
    let cells = length (g.M.Cells.numbers c.args.into.now) in
    let r = slice_index_or rs i none in
    let inv = c.loop-range.invariant in
    let sorted : IsTrue (are_sorted inv.sorted.0 cells (r ∷ drop (i + 1) rs)) =
    subst (λ q. IsTrue (are_sorted inv.sorted.0 cells q)) (drop_more rs i none c.loop-range-test.true) inv.sorted.1 in
    record {
      length = c.requires.length ∙ sym inv.numbers.many;
      scalars = c.requires.scalars ∙ sym inv.scalars;
      rises = head_rises inv.sorted.0 cells r (drop (i + 1) rs) sorted;
      below = subst (λ n. (r.last).0 < n) (sym inv.numbers.many) (head_below inv.sorted.0 cells r (drop (i + 1) rs) sorted);
    }

pub loop-range-preserved : goal.loop-range-preserved
loop-range-preserved g c =
    let rs = c.args.ranges.now in
    let i = c.loop-range.range-index in
    let cells = length (g.M.Cells.numbers c.args.into.now) in
    let r = slice_index_or rs i none in
    let inv = c.loop-range.invariant in
    let sorted : IsTrue (are_sorted inv.sorted.0 cells (r ∷ drop (i + 1) rs)) =
    subst (λ q. IsTrue (are_sorted inv.sorted.0 cells q)) (drop_more rs i none c.loop-range-test.true) inv.sorted.1 in
    record {
      numbers = written_join (is_in (take i rs)) (covers r) (is_in (take (i + 1) rs)) c.args.from.now.numbers (g.M.Cells.numbers c.args.into.now)
          (g.M.Cells.numbers c.loop-range.into) (g.M.Cells.numbers c.write_range.new.into) inv.numbers c.write_range.ensures.numbers
          (λ k. in_more (take i rs) r k ∙ ap (λ (q : List CellRange). is_in q k) (sym (take_more rs i none c.loop-range-test.true)));
      scalars = c.write_range.ensures.scalars ∙ inv.scalars;
      sorted = ((r.last).0 + 2, tail_sorted inv.sorted.0 cells r (drop (i + 1) rs) sorted);
    }
