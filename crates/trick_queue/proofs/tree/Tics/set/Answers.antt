use Rattle.std.proofs.Common.{◌≡◌, ◌+◌, ◌/◌, length, set, subst, sym}
use Rattle.trick_queue.proofs.Trees.{leaf_changed, leaf_shaped}
use Rattle.trick_queue.specs.Tree.{AreRightBut, IsShaped}
use Rattle.trick_queue.proofs.tree.Tics.set.Goals as goal

pub mend-requires-clause-shaped : goal.mend-requires-clause-shaped
mend-requires-clause-shaped c =
    let lows : c.deref_mut.result.now ≡ c.self.inside.lows.items = cc in
    let tics : c.deref.result.now ≡ set c.self.inside.tics.items c.args.place c.args.tic = cc in
    subst (λ l. IsShaped l c.deref.result.now) (sym lows)
    (subst (λ t. IsShaped c.self.inside.lows.items t) (sym tics) (leaf_shaped c.self.inside.lows.items c.self.inside.tics.items c.args.place c.args.tic c.self.invariant.shaped))

pub mend-requires-clause-right : goal.mend-requires-clause-right
mend-requires-clause-right c =
    let lows : c.deref_mut.result.now ≡ c.self.inside.lows.items = cc in
    let tics : c.deref.result.now ≡ set c.self.inside.tics.items c.args.place c.args.tic = cc in
    subst (λ l. AreRightBut l c.deref.result.now ((length l + c.args.place) / 2)) (sym lows)
    (subst (λ t. AreRightBut c.self.inside.lows.items t ((length c.self.inside.lows.items + c.args.place) / 2)) (sym tics) (leaf_changed c.self.inside.lows.items c.self.inside.tics.items c.args.place c.args.tic c.self.invariant.right))
