use Rattle.std.proofs.Common.{◌≡◌, ℕ, ◌+◌, ◌<◌, length, get_or, set, sym, subst, arith}
use Rattle.std.proofs.lemmas.List.{get_or_read}
use Rattle.trick_check_order.proofs.Steps.{advanced}
use Rattle.trick_check_order.proofs.search.advance.Goals as goal
use Rattle.trick_check_order.specs.Searching.{Searching, left, left_in}

pub returns-clause-keeps : goal.returns-clause-keeps
returns-clause-keeps c =
    let g = c.args.calls.now in
    let s = c.args.search.now in
    let low : c.args.method < length s.next.items = omega (arith, c.requires.keeps.stack_below c.args.method c.requires.open, c.requires.keeps.next_size) in
    let is : c.index-next.result.now ≡ get_or s.next.items c.args.method 0 = get_or_read s.next.items _ _ low c.index-next.ensures 0 in
    let keeps = (advanced g _ _ s.next.items _ _ s.root c.args.method c.requires.keeps c.requires.open c.requires.more c.requires.callee).0 in
    subst (λ (i : ℕ). Searching g s.done.items s.stacked.items (set s.next.items c.args.method (i + 1)) s.order.items s.stack.items s.root) (sym is) keeps

pub returns-clause-falls : goal.returns-clause-falls
returns-clause-falls c =
    let g = c.args.calls.now in
    let s = c.args.search.now in
    let low : c.args.method < length s.next.items = omega (arith, c.requires.keeps.stack_below c.args.method c.requires.open, c.requires.keeps.next_size) in
    let is : c.index-next.result.now ≡ get_or s.next.items c.args.method 0 = get_or_read s.next.items _ _ low c.index-next.ensures 0 in
    let falls = (advanced g _ _ s.next.items _ _ s.root c.args.method c.requires.keeps c.requires.open c.requires.more c.requires.callee).1 in
    subst (λ (i : ℕ). left_in g s.done.items s.stacked.items (set s.next.items c.args.method (i + 1)) s.root < left g s) (sym is) falls
