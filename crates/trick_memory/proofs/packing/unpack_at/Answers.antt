use Rattle.std.proofs.Common.{rules, ◌∙◌, FitsSigned, ap}
use Rattle.std.proofs.lemmas.Int.{to_z-of_z}
use Rattle.std.proofs.lemmas.List.{take_rest}
use Rattle.std.specs.Int.{w64}
use Rattle.trick_memory.proofs.Packs.{room_from}
use Rattle.trick_memory.proofs.packing.unpack_at.Goals as goal
use Rattle.trick_memory.specs.Packed.{unpacked, width}

pub unpack-requires : goal.unpack-requires
unpack-requires c = room_from c.args.bytes.now c.args.start (width c.args.scalar) c.requires

pub returns : goal.returns
returns c =
    let fits : FitsSigned w64 c.unpack.result = search rules in
    to_z-of_z w64 c.unpack.result fits ∙ (c.unpack.ensures ∙ ap (unpacked c.args.scalar) (take_rest c.args.bytes.now c.args.start))
