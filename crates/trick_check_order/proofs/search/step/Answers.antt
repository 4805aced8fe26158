use Rattle.std.proofs.Common.{◌≡◌, ℕ, ◌<◌, ◌∷◌, ◌++◌, [], List, true, length, get_or, subst, sym, ◌∙◌}
use Rattle.trick_check_order.proofs.Has.{has_at}
use Rattle.trick_check_order.proofs.Steps.{last_has, linked_push, linked_reaches}
use Rattle.trick_check_order.proofs.search.step.Goals as goal
use Rattle.trick_check_order.specs.Calls.{EndsWith, callees, has, is_linked}

-- the next callee is one of those that the method calls
called : (g : List (List ℕ)) (m callee i : ℕ) → i < length (callees g m) → callee ≡ get_or (callees g m) i 0 → has (callees g m) callee ≡ true
called g m callee i more next = subst (λ k. has (callees g m) k ≡ true) (sym next) (has_at (callees g m) i more)

open_last : (stack : List ℕ) (m : ℕ) → EndsWith stack m → has stack m ≡ true
open_last stack m e = last_has stack e.0 m e.1

pub next_callee-requires-clause-open : goal.next_callee-requires-clause-open
next_callee-requires-clause-open c = open_last _ _ c.last-method.ensures

pub is_done-requires-clause-here : goal.is_done-requires-clause-here
is_done-requires-clause-here c =
    c.requires.callees c.last-method.result c.in-Some.callee (called c.args.calls.now _ _ _ c.in-Some.ensures.more c.in-Some.ensures.next)

pub advance-requires-clause-open : goal.advance-requires-clause-open
advance-requires-clause-open c = open_last _ _ c.last-method.ensures

pub is_stacked-requires-clause-here : goal.is_stacked-requires-clause-here
is_stacked-requires-clause-here c =
    c.requires.callees c.last-method.result c.in-Some.callee (called c.args.calls.now _ _ _ c.in-Some.ensures.more c.in-Some.ensures.next)

-- a callee on the stack reaches the last method there, and so itself
pub returns-then-is_stacked-clause-met : goal.returns-then-is_stacked-clause-met
returns-then-is_stacked-clause-met c = λ told.
    let g = c.args.calls.now in
    let stack = c.args.search.now.stack.items in
    let m = c.last-method.result in
    let callee = c.in-Some.callee in
    let e : EndsWith stack m = c.last-method.ensures in
    let call = called g m callee _ c.in-Some.ensures.more c.in-Some.ensures.next in
    let stacked : has stack callee ≡ true = sym c.is_stacked.ensures ∙ c.if-is_stacked.true in
    let linked = subst (λ (xs : List ℕ). is_linked g xs ≡ true) e.1 c.requires.keeps.linked in
    (callee, c.requires.callees m callee call, linked_reaches g e.0 m callee callee linked call (subst (λ (xs : List ℕ). has xs callee ≡ true) e.1 stacked))

pub begin-requires-clause-here : goal.begin-requires-clause-here
begin-requires-clause-here c =
    c.requires.callees c.last-method.result c.in-Some.callee (called c.args.calls.now _ _ _ c.in-Some.ensures.more c.in-Some.ensures.next)

pub begin-requires-clause-linked : goal.begin-requires-clause-linked
begin-requires-clause-linked c =
    let g = c.args.calls.now in
    let m = c.last-method.result in
    let callee = c.in-Some.callee in
    let e : EndsWith c.args.search.now.stack.items m = c.last-method.ensures in
    let call = called g m callee _ c.in-Some.ensures.more c.in-Some.ensures.next in
    let linked = subst (λ (xs : List ℕ). is_linked g xs ≡ true) e.1 c.requires.keeps.linked in
    subst (λ (xs : List ℕ). is_linked g (xs ++ callee ∷ []) ≡ true) (sym e.1) (linked_push g e.0 m callee linked call)
