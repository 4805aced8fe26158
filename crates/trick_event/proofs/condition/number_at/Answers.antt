use Rattle.std.proofs.Common.{rules, ◌≡◌, ◌∙◌, ◌+◌, ◌<◌, ◌^◌, ℤ, pos, IsTrue, Ok, ap, arith, get_or, length, subst, sym, FitsSigned, w64}
use Rattle.std.proofs.lemmas.Int.{to_z-of_z}
use Rattle.trick_event.proofs.Places.{IsCellOf, plain_place}
use Rattle.trick_event.proofs.condition.number_at.Goals as goal
use Rattle.trick_event.specs.Condition.{sight_of}
use Rattle.trick_lang.proofs.TreeLists.{spot_is}
use Rattle.trick_lang.specs.Tree.{Cell, Spot, spot}
use Rattle.trick_lang.specs.TreeOf.{spot_of, steps_of_list}
use Rattle.trick_lang.specs.Value.{value}
use Rattle.trick_lang.specs.declared.tree.Place.{Place, out-Place}
use Rattle.trick_model.specs.Condition.{is_plain_place}

pub overflow_add-place : goal.overflow_add-place
overflow_add-place g c =
    let q = out-Place c.args.place.now in
    let numbers = g.M.Cells.numbers c.args.memory.now in
    let plain = subst (λ (s : Spot). IsTrue (is_plain_place (length numbers) s)) (spot_is c.args.place.now) c.requires in
    let is = plain_place (length numbers) numbers q.own q.first q.span q.offset q.literals (steps_of_list q.indexes.items) plain in
    let inside : q.offset < q.span = is.inside in
    let fits : q.first + q.offset < 2 ^ 32 = omega (arith, is.there, c.len-cells.ensures.numbers, c.len-cells.type_inv) in
    search (rules, fits)

pub get-requires : goal.get-requires
get-requires g c =
    let q = out-Place c.args.place.now in
    let numbers = g.M.Cells.numbers c.args.memory.now in
    let plain = subst (λ (s : Spot). IsTrue (is_plain_place (length numbers) s)) (spot_is c.args.place.now) c.requires in
    let is = plain_place (length numbers) numbers q.own q.first q.span q.offset q.literals (steps_of_list q.indexes.items) plain in
    omega (arith, is.inside, is.there)

pub returns : goal.returns
returns g c =
    let q = out-Place c.args.place.now in
    let numbers = g.M.Cells.numbers c.args.memory.now in
    let plain = subst (λ (s : Spot). IsTrue (is_plain_place (length numbers) s)) (spot_is c.args.place.now) c.requires in
    let is = plain_place (length numbers) numbers q.own q.first q.span q.offset q.literals (steps_of_list q.indexes.items) plain in
    let f : FitsSigned w64 c.get.result = search rules in
    let whole : value (Cell (spot_of c.args.place.now)) (sight_of numbers) ≡ Ok (get_or numbers (q.first + q.offset) (pos 0)) =
    ap (λ (s : Spot). value (Cell s) (sight_of numbers)) (spot_is c.args.place.now) ∙ is.number in
    simp to_z-of_z (whole ∙ ap (λ (n : ℤ). Ok n) (sym c.get.ensures.number))
