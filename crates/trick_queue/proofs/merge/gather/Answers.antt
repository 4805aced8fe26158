use Rattle.std.proofs.Common.{rules, ◌≡◌, ◌∙◌, ◌<◌, ◌≤◌, ◌++◌, ap, arith, length, slice_index_or, sym, take, vec_capacity}
use Rattle.trick_queue.proofs.Merged.{gathered_fits, gathered_more}
use Rattle.trick_queue.proofs.merge.gather.Goals as goal
use Rattle.trick_queue.specs.Merged.{gathered}

pub append-requires : goal.append-requires
append-requires c =
    let groups = c.args.groups.now in
    let of = c.args.of.now in
    let k = c.loop-group.group-index in
    let less : k < length of = c.loop-group-test.true in
    let there : slice_index_or of k 0 < length groups = c.requires.there k 0 less in
    let fits = gathered_fits groups of k 0 c.index-groups-group.result less there (sym c.index-groups-group.is) in
    let len : length c.loop-group.places.items ≡ length (gathered groups (take k of)) = ap length c.loop-group.invariant.items in
    let more : length c.deref.result.now ≡ length c.index-groups-group.result.places.items = search rules in
    let room : length (gathered groups of) ≤ vec_capacity c.args.places.now = c.requires.room in
    omega (arith, fits, len, more, room, c.loop-group.invariant.capacity)

pub loop-group-preserved : goal.loop-group-preserved
loop-group-preserved c =
    let groups = c.args.groups.now in
    let of = c.args.of.now in
    let k = c.loop-group.group-index in
    let less : k < length of = c.loop-group-test.true in
    let there : slice_index_or of k 0 < length groups = c.requires.there k 0 less in
    let more : c.deref.result.now ≡ c.index-groups-group.result.places.items = search rules in
    record {
      items = c.append.ensures.items
          ∙ ap (λ l. l ++ c.deref.result.now) c.loop-group.invariant.items
          ∙ ap (λ l. gathered groups (take k of) ++ l) more
          ∙ sym (gathered_more groups of k 0 c.index-groups-group.result less there (sym c.index-groups-group.is));
      capacity = c.append.ensures.capacity ∙ c.loop-group.invariant.capacity;
    }
