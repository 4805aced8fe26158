use Rattle.std.proofs.Common.{◌≡◌, ◌<◌, ◌≤◌, List, ℕ, true, false, get_or, length, subst, sym, ◌∙◌, ap, arith}
use Rattle.std.proofs.lemmas.List.{get_or_read}
use Rattle.trick_check_order.proofs.Has.{has_at}
use Rattle.trick_check_order.proofs.Queue.{reached_start, reached_next, reached_end, reaches_below}
use Rattle.trick_check_order.proofs.reach.reaches_itself.Goals as goal
use Rattle.trick_check_order.specs.Calls.{AreCallees, callees, has}
use Rattle.trick_check_order.specs.Reached.{Adds, Reached}

-- what is in the queue is a method
there : (g : List (List ℕ)) (method head : ℕ) (seen : _) (queue : List ℕ) → AreCallees g → Reached g method seen queue head → head < length queue → get_or queue head 0 < length g
there g method head seen queue are r h = let x = r.reached (get_or queue head 0) (has_at queue head h) in reaches_below g are x.0 method (get_or queue head 0) x.1

pub add_all-requires-clause-below : goal.add_all-requires-clause-below
add_all-requires-clause-below c k h =
    let low = c.requires.callees c.args.method k (subst (λ (xs : List ℕ). has xs k ≡ true) c.callees.ensures h) in
    omega (arith, low, c.in_ok-seen.ensures.len, c.in_ok-seen.seen.ok.0)

pub loop-head-init : goal.loop-head-init
loop-head-init c =
    let g = c.args.calls.now in
    let size : length c.in_ok-seen.seen.items ≡ length g = omega (arith, c.in_ok-seen.ensures.len, c.in_ok-seen.seen.ok.0) in
    reached_start g c.args.method _ _ _ size (subst (λ (q : List ℕ). Adds (callees g c.args.method) c.in_ok-seen.seen.items q c.add_all.new.seen.items c.add_all.new.queue.items) c.new-queue.ensures.items
    (subst (λ (cs : List ℕ). Adds cs c.in_ok-seen.seen.items c.new-queue.result.items c.add_all.new.seen.items c.add_all.new.queue.items) c.callees.ensures c.in_ok-add_all.ensures))

pub callees-requires-in-loop-head : goal.callees-requires-in-loop-head
callees-requires-in-loop-head c =
    let q = c.loop-head.queue.items in
    let here : c.loop-head.head < length q = omega (arith, c.loop-head.queue.ok.0) in
    let next : c.index-next.result.now ≡ get_or q c.loop-head.head 0 = get_or_read q _ _ here c.index-next.ensures 0 in
    record { here = omega (arith, next, there c.args.calls.now c.args.method c.loop-head.head _ q c.requires.callees c.loop-head.invariant here) }

pub add_all-requires-in-loop-head-clause-below : goal.add_all-requires-in-loop-head-clause-below
add_all-requires-in-loop-head-clause-below c k h =
    let low = c.requires.callees c.index-next.result.now k (subst (λ (xs : List ℕ). has xs k ≡ true) c.callees-in-loop-head.ensures h) in
    omega (arith, low, c.loop-head.invariant.size)

pub loop-head-preserved : goal.loop-head-preserved
loop-head-preserved c =
    let g = c.args.calls.now in
    let q = c.loop-head.queue.items in
    let here : c.loop-head.head < length q = omega (arith, c.loop-head.queue.ok.0) in
    let next : c.index-next.result.now ≡ get_or q c.loop-head.head 0 = get_or_read q _ _ here c.index-next.ensures 0 in
    let is = c.callees-in-loop-head.ensures ∙ ap (callees g) next in
    reached_next g c.args.method c.loop-head.head _ _ _ _ c.loop-head.invariant here
    (subst (λ (cs : List ℕ). Adds cs c.loop-head.seen.items q c.add_all-in-loop-head.new.seen.items c.add_all-in-loop-head.new.queue.items) is c.in_ok-add_all-2.ensures)

pub index-requires : goal.index-requires
index-requires c = omega (arith, c.loop-head.invariant.size, c.requires.here, c.loop-head.seen.ok.0)

pub returns-clause-yes : goal.returns-clause-yes
returns-clause-yes c told =
    let here : c.args.method < length c.loop-head.seen.items = omega (arith, c.loop-head.invariant.size, c.requires.here) in
    let is : c.index.result.now ≡ get_or c.loop-head.seen.items c.args.method false = get_or_read c.loop-head.seen.items _ _ here c.index.ensures false in
    c.loop-head.invariant.reached c.args.method (sym (c.loop-head.invariant.seen_is c.args.method) ∙ (sym is ∙ told))

pub returns-clause-no : goal.returns-clause-no
returns-clause-no c told itself =
    let g = c.args.calls.now in
    let here : c.args.method < length c.loop-head.seen.items = omega (arith, c.loop-head.invariant.size, c.requires.here) in
    let is : c.index.result.now ≡ get_or c.loop-head.seen.items c.args.method false = get_or_read c.loop-head.seen.items _ _ here c.index.ensures false in
    let past : length c.loop-head.queue.items ≤ c.loop-head.head = omega (arith, c.loop-head.queue.ok.0) in
    let end = reached_end g c.args.method c.loop-head.head _ _ c.loop-head.invariant past itself.0 itself.1 in
    let at = c.loop-head.invariant.seen_is c.args.method in
    absurd (cc (told, is, at, end))
