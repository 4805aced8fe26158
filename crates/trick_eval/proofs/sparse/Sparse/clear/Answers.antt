use Rattle.std.proofs.Common.{◌≡◌, ◌<◌, ◌≤◌, ◌∙◌, ap, arith, sym, length, None, replicate}
use Rattle.std.proofs.lemmas.List.{length-set}
use Rattle.std.specs.Prelude.{vec_capacity}
use Rattle.trick_eval.proofs.SparseLists.{among_less, listed_none}
use Rattle.trick_eval.proofs.sparse.Sparse.clear.Goals as goal

pub loop-i-preserved : goal.loop-i-preserved
loop-i-preserved c =
    let xs = c.loop-i.self-inside.numbers.items in
    let ps = c.loop-i.self-inside.places.items in
    let here : c.loop-i.i < length ps = omega (arith, c.len-i-end.ensures, ap (λ v. length v.items) c.loop-i.invariant.places) in
    rw c.put.ensures (record {
      among = among_less ps xs c.loop-i.i c.index-place.result.now here (sym c.index-place.ensures) c.loop-i.invariant.among;
      places = c.loop-i.invariant.places;
      length = length-set xs c.index-place.result.now None ∙ c.loop-i.invariant.length;
    })

pub invariant_of-self : goal.invariant_of-self
invariant_of-self c =
    let xs = c.loop-i.self-inside.numbers.items in
    let ps = c.loop-i.self-inside.places.items in
    let far : length ps ≤ c.loop-i.i = omega (arith, c.len-i-end.ensures, ap (λ v. length v.items) c.loop-i.invariant.places) in
    let room : vec_capacity c.loop-i.self-inside.places ≡ vec_capacity c.self.inside.places = ap vec_capacity c.loop-i.invariant.places in
    rw (c.clear.ensures.items, c.clear.ensures.capacity)
    (listed_none ps xs c.loop-i.i (vec_capacity c.loop-i.self-inside.places) far (omega (arith, c.self.invariant.roomy, c.loop-i.invariant.length, room)) (omega (arith, c.self.invariant.small, c.loop-i.invariant.length)) c.loop-i.invariant.among).1

pub returns : goal.returns
returns c =
    let xs = c.loop-i.self-inside.numbers.items in
    let ps = c.loop-i.self-inside.places.items in
    let far : length ps ≤ c.loop-i.i = omega (arith, c.len-i-end.ensures, ap (λ v. length v.items) c.loop-i.invariant.places) in
    let room : vec_capacity c.loop-i.self-inside.places ≡ vec_capacity c.self.inside.places = ap vec_capacity c.loop-i.invariant.places in
    let long : length c.self.inside.numbers.items ≡ length c.args.self.now = cc in
    (listed_none ps xs c.loop-i.i (vec_capacity c.loop-i.self-inside.places) far (omega (arith, c.self.invariant.roomy, c.loop-i.invariant.length, room)) (omega (arith, c.self.invariant.small, c.loop-i.invariant.length)) c.loop-i.invariant.among).0
    ∙ ap (λ n. replicate n None) (c.loop-i.invariant.length ∙ long)
