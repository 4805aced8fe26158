use Rattle.std.proofs.Common.{◌≡◌, ℕ, List, ◌<◌, length, get_or, ap, ◌∙◌, arith}
use Rattle.std.proofs.lemmas.List.{get_or_read}
use Rattle.trick_check_order.proofs.search.next_callee.Goals as goal
use Rattle.trick_check_order.specs.Calls.{callees}

pub callees-callees-requires : goal.callees-callees-requires
callees-callees-requires c = record { here = c.requires.keeps.stack_below c.args.method c.requires.open }

pub index-next-requires : goal.index-next-requires
index-next-requires c = omega (arith, c.requires.keeps.stack_below c.args.method c.requires.open, c.requires.keeps.next_size, c.args.search.now.next.ok.0)

pub returns-then-next-callees-clause-more : goal.returns-then-next-callees-clause-more
returns-then-next-callees-clause-more c =
    let s = c.args.search.now in
    let low : c.args.method < length s.next.items = omega (arith, c.requires.keeps.stack_below c.args.method c.requires.open, c.requires.keeps.next_size) in
    let next : c.index-next.result.now ≡ get_or s.next.items c.args.method 0 = get_or_read s.next.items _ _ low c.index-next.ensures 0 in
    omega (arith, next, ap length c.callees-callees.ensures, c.if-next-callees.true)

pub returns-then-next-callees-clause-next : goal.returns-then-next-callees-clause-next
returns-then-next-callees-clause-next c =
    let s = c.args.search.now in
    let low : c.args.method < length s.next.items = omega (arith, c.requires.keeps.stack_below c.args.method c.requires.open, c.requires.keeps.next_size) in
    let next : c.index-next.result.now ≡ get_or s.next.items c.args.method 0 = get_or_read s.next.items _ _ low c.index-next.ensures 0 in
    ap (λ (xs : List ℕ). get_or xs c.index-next.result.now 0) c.callees-callees.ensures ∙ ap (λ (i : ℕ). get_or (callees c.args.calls.now c.args.method) i 0) next

pub returns-else-next-callees-clause-none : goal.returns-else-next-callees-clause-none
returns-else-next-callees-clause-none c =
    let s = c.args.search.now in
    let low : c.args.method < length s.next.items = omega (arith, c.requires.keeps.stack_below c.args.method c.requires.open, c.requires.keeps.next_size) in
    let next : c.index-next.result.now ≡ get_or s.next.items c.args.method 0 = get_or_read s.next.items _ _ low c.index-next.ensures 0 in
    omega (arith, next, ap length c.callees-callees.ensures, c.if-next-callees.false)
