use Rattle.std.proofs.Common.{rules, ◌∙◌, ◌<◌, FitsSigned, ap, arith, pos, of_z, slice_index_or, subst, sym, to_z, ℕ, ℤ}
use Rattle.std.proofs.lemmas.Int.{to_z-of_z}
use Rattle.std.specs.Int.{w64}
use Rattle.trick_lang.specs.Wrap.{IsInRange}
use Rattle.trick_memory.proofs.Held.{cell_there, number_read, offset_count, room_read}
use Rattle.trick_memory.proofs.Packs.{length_numbers}
use Rattle.trick_memory.proofs.memory.MemoryCells.get.Goals as goal
use Rattle.trick_memory.specs.Stored.{Stored}

pub index-requires : goal.index-requires
index-requires c =
    let m = c.self.inside in
    let there = cell_there m.names m.scalars.items m.bytes.items c.args.self.now c.args.cell.0 c.self.view_is c.requires in
    omega (arith, there, offset_count m.names m.scalars.items m.offsets.items m.bytes.items c.self.invariant, m.offsets.ok.0)

pub unpack_at-requires : goal.unpack_at-requires
unpack_at-requires c =
    let m = c.self.inside in
    let there = cell_there m.names m.scalars.items m.bytes.items c.args.self.now c.args.cell.0 c.self.view_is c.requires in
    room_read m.names m.scalars.items m.offsets.items m.bytes.items c.self.invariant c.args.cell.0 c.index.result.now c.index-2.result.now c.deref.result.now
    there c.deref.ensures.value c.index.ensures c.index-2.ensures

pub returns-clause-number : goal.returns-clause-number
returns-clause-number c =
    let m = c.self.inside in
    let there = cell_there m.names m.scalars.items m.bytes.items c.args.self.now c.args.cell.0 c.self.view_is c.requires in
    let fits : FitsSigned w64 c.unpack_at.result = search rules in
    let told =
    number_read m.names m.scalars.items m.offsets.items m.bytes.items c.self.invariant c.args.cell.0 c.index.result.now c.index-2.result.now c.deref.result.now
    there c.deref.ensures.value c.index.ensures c.index-2.ensures c.unpack_at.result c.unpack_at.ensures in
    to_z-of_z w64 c.unpack_at.result fits ∙ (told ∙ ap (λ (s : Stored). slice_index_or s.numbers c.args.cell.0 (pos 0)) c.self.view_is)

pub returns-clause-range : goal.returns-clause-range
returns-clause-range c =
    let m = c.self.inside in
    let there = cell_there m.names m.scalars.items m.bytes.items c.args.self.now c.args.cell.0 c.self.view_is c.requires in
    let fits : FitsSigned w64 c.unpack_at.result = search rules in
    let told =
    number_read m.names m.scalars.items m.offsets.items m.bytes.items c.self.invariant c.args.cell.0 c.index.result.now c.index-2.result.now c.deref.result.now
    there c.deref.ensures.value c.index.ensures c.index-2.ensures c.unpack_at.result c.unpack_at.ensures in
    let right = c.self.invariant.stored.in_range c.args.cell.0 (subst (λ (n : ℕ). c.args.cell.0 < n) (sym (length_numbers m.scalars.items m.bytes.items)) there) in
    subst (λ (s : Stored). IsInRange s.scalars c.args.cell.0 (to_z w64 (of_z w64 c.unpack_at.result))) c.self.view_is
    (subst (λ (n : ℤ). IsInRange m.scalars.items c.args.cell.0 n) (sym (to_z-of_z w64 c.unpack_at.result fits ∙ told)) right)
