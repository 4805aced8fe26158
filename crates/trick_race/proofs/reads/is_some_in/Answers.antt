use Rattle.std.proofs.Common.{◌+◌, ◌-◌, ◌∷◌, [], ap, sym, ◌∙◌}
use Rattle.trick_lang.proofs.TreeLists.{spot_is}
use Rattle.trick_lang.specs.Access.{range_of}
use Rattle.trick_lang.specs.declared.tree.Place.{out-Place}
use Rattle.trick_race.proofs.Touching.{place_some}
use Rattle.trick_race.specs.Accesses.{has_from, has_some}
use Rattle.trick_race.proofs.reads.is_some_in.Goals as goal

pub returns : goal.returns
returns c =
    let p = c.args.place.now in
    let set = c.args.set.now in
    let first = (out-Place p).first in
    place_some set (out-Place p).own first (out-Place p).span c.has_some.result
    (c.has_some.ensures ∙ ap (λ n. has_from set first (first + n + 1 - first)) c.less_one.ensures.is)
    ∙ sym (ap (λ s. has_some set (range_of s 0 ∷ [])) (spot_is p))
