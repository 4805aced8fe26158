use Rattle.std.proofs.Common.{◌≡◌, ◌<◌, ℕ, Option, Some, length, subst}
use Rattle.std.specs.Option.{MatchOption}
use Rattle.trick_check_order.proofs.search.order.Goals as goal
use Rattle.trick_check_order.specs.Calls.{IsFirst, ReachesItself}

pub returns-in-Ok-Some-first_recursive-clause-recursive : goal.returns-in-Ok-Some-first_recursive-clause-recursive
returns-in-Ok-Some-first_recursive-clause-recursive c = λ k e.
    let g = c.args.calls.now in
    let method = c.in-Ok-Some-first_recursive.method in
    let same : method ≡ k = cc in
    let met : c.in-Ok-Some-first_recursive.field-0 ≡ Some method = cc in
    let first : IsFirst g method = subst (λ (o : Option ℕ). MatchOption o ((a : ℕ) → a < length g → ReachesItself g a → ⊥) (λ a. IsFirst g a)) met c.in-Ok-Some-first_recursive.ensures in
    subst (IsFirst g) same first
