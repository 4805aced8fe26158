use Rattle.std.proofs.Common.{◌≡◌, ◌∷◌, [], set, true, false, sym, subst, slice_index_or, List, ℕ, rules}
use Rattle.trick_check_order.proofs.Queue.{adds_new}
use Rattle.trick_check_order.proofs.reach.add.Goals as goal
use Rattle.trick_check_order.specs.Reached.{Adds}

pub returns-in_ok-push : goal.returns-in_ok-push
returns-in_ok-push c =
    let seen = c.args.seen.now.items in
    let queue = c.args.queue.now.items in
    let unseen : slice_index_or seen c.args.callee false ≡ false = search rules in
    subst (λ (q : List ℕ). Adds (c.args.callee ∷ []) seen queue (set seen c.args.callee true) q) (sym c.in_ok-push.ensures.items)
    (adds_new c.args.callee seen queue c.requires.below c.requires.seen unseen)
