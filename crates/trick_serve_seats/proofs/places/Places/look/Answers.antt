use Rattle.std.proofs.Common.{◌≡◌, [], ◌∷◌, ◌++◌, ap, arith, rules, subst, sym, true}
use Rattle.trick_serve_seats.proofs.Departing.{left_told, over_told}
use Rattle.trick_serve_seats.proofs.places.Places.look.Goals as goal
use Rattle.trick_serve_seats.specs.Departures.{is_over, left_of}
use Rattle.trick_wire.specs.Ends.{taken_by}

pub returns-in-Some-clause-left : goal.returns-in-Some-clause-left
returns-in-Some-clause-left g c =
    let took : taken_by c.pop.new.self ≡ taken_by c.args.self.now.gone ++ c.in-Some.told ∷ [] = search rules in
    let many = ap left_of took in
    let more = left_told (taken_by c.args.self.now.gone) c.in-Some.told in
    omega (arith, many, more, c.freed-self.ensures.most)

pub invariant_of-self-in-Some : goal.invariant_of-self-in-Some
invariant_of-self-in-Some g c = record {
  told = λ yes.
      let took : taken_by c.pop.new.self ≡ taken_by c.args.self.now.gone ++ c.in-Some.told ∷ [] = search rules in
      subst (λ items. is_over items ≡ true) (sym took) (over_told (taken_by c.args.self.now.gone) c.in-Some.told c.args.self.now.over c.args.self.now.told (c.ends-self.ensures yes));
}
