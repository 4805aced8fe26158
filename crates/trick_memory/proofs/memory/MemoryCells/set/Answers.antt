use Rattle.std.proofs.Common.{◌∙◌, List, ap, arith, of_z, slice_set, subst, sym, to_z, ℕ}
use Rattle.std.proofs.lemmas.Int.{to_z-of_z}
use Rattle.std.specs.Int.{w64}
use Rattle.trick_lang.specs.Wrap.{IsInRange}
use Rattle.trick_memory.proofs.Held.{cell_there, offset_count, room_read, stored_bytes_are, stored_held, stored_told}
use Rattle.trick_memory.proofs.memory.MemoryCells.set.Goals as goal
use Rattle.trick_memory.specs.Packed.{numbers_of}
use Rattle.trick_memory.specs.Stored.{IsHeld, Stored}

pub index-requires : goal.index-requires
index-requires c =
    let m = c.self.inside in
    let there = cell_there m.names m.scalars.items m.bytes.items c.args.self.now c.args.cell.0 c.self.view_is c.requires.cell in
    omega (arith, there, offset_count m.names m.scalars.items m.offsets.items m.bytes.items c.self.invariant, m.offsets.ok.0)

pub pack_at-requires-clause-room : goal.pack_at-requires-clause-room
pack_at-requires-clause-room c =
    let m = c.self.inside in
    let there = cell_there m.names m.scalars.items m.bytes.items c.args.self.now c.args.cell.0 c.self.view_is c.requires.cell in
    let fits =
    room_read m.names m.scalars.items m.offsets.items m.bytes.items c.self.invariant c.args.cell.0 c.index.result.now c.index-2.result.now c.deref_mut.result.now
    there c.deref_mut.ensures.value c.index.ensures c.index-2.ensures in
    omega (arith, fits)

pub invariant_of-self : goal.invariant_of-self
invariant_of-self c =
    let m = c.self.inside in
    let there = cell_there m.names m.scalars.items m.bytes.items c.args.self.now c.args.cell.0 c.self.view_is c.requires.cell in
    let right : IsInRange m.scalars.items c.args.cell.0 c.args.number =
    subst (λ (s : Stored). IsInRange s.scalars c.args.cell.0 c.args.number) (sym c.self.view_is) c.requires.range in
    let are =
    stored_bytes_are m.names m.scalars.items m.offsets.items m.bytes.items c.args.cell.0 c.args.number c.self.invariant there right
    c.index.result.now m.bytes.len c.index-2.result.now c.deref_mut.result.now c.pack_at.new.bytes (to_z w64 (of_z w64 c.args.number))
    c.deref_mut.ensures.value c.index.ensures c.index-2.ensures (to_z-of_z w64 c.args.number c.ranges.number) (omega (arith, m.bytes.ok.0)) c.pack_at.ensures in
    subst (λ (bs : List ℕ). IsHeld m.names m.scalars.items m.offsets.items bs) (sym are)
    (stored_held m.names m.scalars.items m.offsets.items m.bytes.items c.args.cell.0 c.args.number c.self.invariant there right)

pub returns-clause-numbers : goal.returns-clause-numbers
returns-clause-numbers c =
    let m = c.self.inside in
    let there = cell_there m.names m.scalars.items m.bytes.items c.args.self.now c.args.cell.0 c.self.view_is c.requires.cell in
    let right : IsInRange m.scalars.items c.args.cell.0 c.args.number =
    subst (λ (s : Stored). IsInRange s.scalars c.args.cell.0 c.args.number) (sym c.self.view_is) c.requires.range in
    let are =
    stored_bytes_are m.names m.scalars.items m.offsets.items m.bytes.items c.args.cell.0 c.args.number c.self.invariant there right
    c.index.result.now m.bytes.len c.index-2.result.now c.deref_mut.result.now c.pack_at.new.bytes (to_z w64 (of_z w64 c.args.number))
    c.deref_mut.ensures.value c.index.ensures c.index-2.ensures (to_z-of_z w64 c.args.number c.ranges.number) (omega (arith, m.bytes.ok.0)) c.pack_at.ensures in
    ap (numbers_of m.scalars.items) are
    ∙ (stored_told m.names m.scalars.items m.offsets.items m.bytes.items c.args.cell.0 c.args.number c.self.invariant there right
    ∙ ap (λ (s : Stored). slice_set s.numbers c.args.cell.0 c.args.number) c.self.view_is)
