use Rattle.std.proofs.Common.{◌∙◌, ◌≤◌, ◌++◌, ℤ, ap, arith, drop, length, take, ◌-◌}
use Rattle.std.proofs.lemmas.Int.{to_z-of_z}
use Rattle.std.specs.Int.{w64}
use Rattle.trick_memory.proofs.Packs.{laid_from, room_from}
use Rattle.trick_memory.proofs.packing.pack_at.Goals as goal
use Rattle.trick_memory.specs.Packed.{packed, width}

pub pack-requires-clause-room : goal.pack-requires-clause-room
pack-requires-clause-room c = room_from c.args.bytes.now c.args.start (width c.args.scalar) c.requires.room

pub returns : goal.returns
returns c =
    let bytes = c.args.bytes.now in
    let start = c.args.start in
    let scalar = c.args.scalar in
    let there : start ≤ length bytes = omega (arith, c.requires.room) in
    let behind = drop (width scalar) (take (length bytes - start) (drop start bytes)) in
    laid_from bytes c.pack.new.bytes (packed scalar c.args.number) start (width scalar) there
    (c.pack.ensures ∙ ap (λ (m : ℤ). packed scalar m ++ behind) (to_z-of_z w64 c.args.number c.ranges.number))
