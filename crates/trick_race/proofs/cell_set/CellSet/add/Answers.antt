use Rattle.std.proofs.Common.{◌≡◌, ◌∷◌, [], ◌||◌, Bool, true, false, take, get_or, length, ap, sym, refl, ◌∙◌, arith}
use Rattle.trick_lang.specs.Access.{is_in}
use Rattle.trick_lang.specs.declared.range.CellRange.{CellRange}
use Rattle.trick_race.specs.Accesses.{has}
use Rattle.trick_race.proofs.Merging.{stands, in_more}
use Rattle.trick_race.proofs.cell_set.CellSet.add.Goals as goal

none : CellRange
none = record { first = record { 0 = 0 }; last = record { 0 = 0 } }

pub add_range-requires : goal.add_range-requires
unfolding none
add_range-requires c =
    let here = stands 0 (length c.args.self.now) c.args.ranges.now c.loop-range.range-index none c.requires
    c.loop-range-test.true in
    let ends = here.ends in
    let size : length c.loop-range.self ≡ length c.args.self.now = c.loop-range.invariant.size in
    record { long = here.long; there = omega (arith, ends, size) }

or_swap : (a b d : Bool) → a || (b || d) ≡ (b || a) || d
or_swap true true d = refl
or_swap true false d = refl
or_swap false true d = refl
or_swap false false d = refl

pub loop-range-preserved : goal.loop-range-preserved
unfolding none
loop-range-preserved c =
    let ranges = c.args.ranges.now in
    let i = c.loop-range.range-index in
    record {
      size = c.add_range.ensures.length ∙ c.loop-range.invariant.size;
      marked = λ cell.
          let here = is_in (get_or ranges i none ∷ []) cell in
          c.add_range.ensures.added cell
          ∙ ap (λ b. here || b) (c.loop-range.invariant.marked cell)
          ∙ or_swap here (is_in (take i ranges) cell) (has c.args.self.now cell)
          ∙ ap (λ b. b || has c.args.self.now cell) (sym (in_more ranges i none cell c.loop-range-test.true));
    }
