use Rattle.std.proofs.Common.{◌≡◌, arith, rules, sym, subst, List, [], Option, None, ℤ, replicate}
use Rattle.std.specs.Prelude.{vec_capacity}
use Rattle.trick_eval.proofs.SparseLists.{listed_new}
use Rattle.trick_eval.specs.Sparse.{IsListed}
use Rattle.trick_eval.proofs.sparse.Sparse.new.Goals as goal

pub invariant_of-result : goal.invariant_of-result
invariant_of-result c =
    let none : c.in_ok-numbers.numbers.items ≡ replicate c.args.length None = search rules in
    rw c.in_ok-places.ensures.items
    (subst (λ (q : List (Option ℤ)). IsListed [] q (vec_capacity c.in_ok-places.places)) (sym none)
    (listed_new c.args.length (vec_capacity c.in_ok-places.places) (omega (arith, c.in_ok-places.ensures.capacity)) (omega (arith, c.requires))))
