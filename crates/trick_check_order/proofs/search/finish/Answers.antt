use Rattle.std.proofs.Common.{◌≡◌, ℕ, ◌∷◌, ◌++◌, [], List, true, false, set, sym, subst, arith, rules}
use Rattle.trick_check_order.proofs.Steps.{finished, last_has}
use Rattle.trick_check_order.proofs.search.finish.Goals as goal
use Rattle.trick_check_order.specs.Searching.{Searching}

pub index_mut-requires : goal.index_mut-requires
index_mut-requires c =
    let s = c.args.search.now in
    let is : s.stack.items ≡ c.pop.new.self.items ++ c.in-Some.method ∷ [] = search rules in
    omega (arith, c.requires.keeps.stack_below c.in-Some.method (last_has _ _ _ is), c.requires.keeps.done_size, s.done.ok.0)

pub index_mut-requires-in-Some : goal.index_mut-requires-in-Some
index_mut-requires-in-Some c =
    let s = c.args.search.now in
    let is : s.stack.items ≡ c.pop.new.self.items ++ c.in-Some.method ∷ [] = search rules in
    omega (arith, c.requires.keeps.stack_below c.in-Some.method (last_has _ _ _ is), c.requires.keeps.stacked_size, s.stacked.ok.0)

pub returns-in_ok-push-clause-keeps : goal.returns-in_ok-push-clause-keeps
returns-in_ok-push-clause-keeps c =
    let g = c.args.calls.now in
    let s = c.args.search.now in
    let front = c.pop.new.self.items in
    let m = c.in-Some.method in
    let is : s.stack.items ≡ front ++ m ∷ [] = search rules in
    let keeps = (finished g s.done.items s.stacked.items s.next.items s.order.items s.stack.items front s.root m c.requires.keeps is (c.requires.passed m (front, is))).0 in
    subst (λ (q : List ℕ). Searching g (set s.done.items m true) (set s.stacked.items m false) s.next.items q front s.root) (sym c.in_ok-push.ensures.items) keeps

pub returns-in_ok-push-clause-falls : goal.returns-in_ok-push-clause-falls
returns-in_ok-push-clause-falls c =
    let g = c.args.calls.now in
    let s = c.args.search.now in
    let front = c.pop.new.self.items in
    let m = c.in-Some.method in
    let is : s.stack.items ≡ front ++ m ∷ [] = search rules in
    (finished g s.done.items s.stacked.items s.next.items s.order.items s.stack.items front s.root m c.requires.keeps is (c.requires.passed m (front, is))).1
