use Rattle.std.proofs.Common.{◌≡◌, ◌+◌, ◌-◌, ap, ap₂, sym, ◌∙◌, arith}
use Rattle.trick_lang.proofs.TreeLists.{spot_is}
use Rattle.trick_access.proofs.reach.ends.Ends.note.Goals as goal
use Rattle.trick_lang.specs.Access.{range_of}
use Rattle.trick_access.specs.Reached.{noted_one}
use Rattle.trick_lang.specs.Value.{origin}
use Rattle.trick_lang.specs.declared.tree.Place.{out-Place}

pub returns : goal.returns
returns c =
    let p = c.args.place.now in
    let first : c.origin_of.result + (out-Place p).first ≡ origin (out-Place p).own c.args.base + (out-Place p).first = omega (arith, c.origin_of.ensures.is) in
    let last : c.origin_of.result + (out-Place p).first + c.less_one.result + 1 - 1 ≡ origin (out-Place p).own c.args.base + (out-Place p).first + ((out-Place p).span - 1) = omega (arith, c.origin_of.ensures.is, c.less_one.ensures.is) in
    c.note_cells.ensures
    ∙ ap₂ (λ a b. noted_one c.args.self.now (record { first = record { 0 = a }; last = record { 0 = b } })) first last
    ∙ sym (ap (λ s. noted_one c.args.self.now (range_of s c.args.base)) (spot_is p))
