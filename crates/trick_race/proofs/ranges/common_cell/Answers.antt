use Rattle.std.proofs.Common.{◌∷◌, sym, subst}
use Rattle.trick_race.proofs.Merging.{AreMerged, merge_left, merge_right}
use Rattle.trick_race.proofs.ranges.common_cell.Goals as goal

pub loop-x-preserved-then-x-y : goal.loop-x-preserved-then-x-y
loop-x-preserved-then-x-y c =
    let cells = c.args.cells in let xs = c.args.xs.now in let ys = c.args.ys.now in
    let x = c.in-Some.x.now in let left = c.in-Some.others.now in
    let y = c.in-Some-split_first.y.now in let right = c.in-Some-split_first.rest.now in
    let begun = subst (λ q. AreMerged cells xs ys q c.loop-x.right.now) c.in-Some.ensures.cases.0 c.loop-x.invariant in
    let both = subst (λ q. AreMerged cells xs ys (x ∷ left) q) c.in-Some-split_first.ensures.cases.0 begun in
    subst (λ q. AreMerged cells xs ys left q) (sym c.in-Some-split_first.ensures.cases.0)
    (merge_left cells xs ys x left y right both c.if-x-y.true)

pub loop-x-preserved : goal.loop-x-preserved
loop-x-preserved c =
    let cells = c.args.cells in let xs = c.args.xs.now in let ys = c.args.ys.now in
    let x = c.in-Some.x.now in let left = c.in-Some.others.now in
    let y = c.in-Some-split_first.y.now in let right = c.in-Some-split_first.rest.now in
    let begun = subst (λ q. AreMerged cells xs ys q c.loop-x.right.now) c.in-Some.ensures.cases.0 c.loop-x.invariant in
    let both = subst (λ q. AreMerged cells xs ys (x ∷ left) q) c.in-Some-split_first.ensures.cases.0 begun in
    subst (λ q. AreMerged cells xs ys q right) (sym c.in-Some.ensures.cases.0)
    (merge_right cells xs ys x left y right both c.if-y-x.true)
