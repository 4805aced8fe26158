use Rattle.std.proofs.Common.{◌≡◌, arith, None, Some}
use Rattle.std.specs.List.{slice_index_or}
use Rattle.std.specs.Prelude.{vec_capacity}
use Rattle.trick_eval.proofs.SparseLists.{listed_same, listed_more, count_below}
use Rattle.trick_eval.proofs.sparse.Sparse.set.Goals as goal

pub invariant_of-self : goal.invariant_of-self
invariant_of-self c =
    let is : slice_index_or c.self.inside.numbers.items c.args.place None ≡ Some c.in-Some._old = cc in
    rw c.put.ensures (listed_same c.self.inside.places.items c.self.inside.numbers.items (vec_capacity c.self.inside.places) c.args.place c.in-Some._old _ c.self.invariant is)

pub push_reserved-requires : goal.push_reserved-requires
push_reserved-requires c =
    let xs = c.self.inside.numbers.items in
    let is : slice_index_or xs c.args.place None ≡ None = cc in
    let few = count_below xs c.args.place (omega arith) is in
    omega (arith, few, c.self.invariant.counted, c.self.invariant.roomy)

pub invariant_of-self-in-None : goal.invariant_of-self-in-None
invariant_of-self-in-None c =
    let is : slice_index_or c.self.inside.numbers.items c.args.place None ≡ None = cc in
    rw (c.put-in-None.ensures, c.push_reserved.ensures.items, c.push_reserved.ensures.capacity) (listed_more c.self.inside.places.items c.self.inside.numbers.items (vec_capacity c.self.inside.places) c.args.place _ c.self.invariant (omega arith) is)
