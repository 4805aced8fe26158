use Rattle.std.proofs.Common.{◌∙◌, ℤ, pos, slice_set, subst, sym}
use Rattle.std.proofs.lemmas.Int.{to_z-of_z}
use Rattle.std.proofs.lemmas.List.{length-set}
use Rattle.std.specs.Int.{w64}
use Rattle.trick_lang.specs.Wrap.{IsInRange}
use Rattle.trick_model.proofs.Ranges.{set_each}
use Rattle.trick_post_trays.specs.Scratch.{AreStored, Numbers}
use Rattle.trick_post_trays.proofs.scratch.ScratchCells.set.Goals as goal

pub invariant_of-self : goal.invariant_of-self
invariant_of-self c =
    let scalars = c.self.inside.scalars.items in
    let numbers = c.self.inside.numbers.items in
    let was : AreStored scalars numbers = c.self.invariant in
    let right : IsInRange scalars c.args.cell.0 c.args.number =
    subst (λ (s : Numbers). IsInRange s.scalars c.args.cell.0 c.args.number) (sym c.self.view_is) c.requires.range in
    let after : AreStored scalars (slice_set numbers c.args.cell.0 c.args.number) = record {
      numbered = length-set numbers c.args.cell.0 c.args.number ∙ was.numbered;
      few = was.few;
      in_range = set_each (IsInRange scalars) (pos 0) numbers c.args.cell.0 c.args.number right was.in_range;
    } in
    subst (λ (n : ℤ). AreStored scalars (slice_set numbers c.args.cell.0 n))
    (sym (to_z-of_z w64 c.args.number c.ranges.number)) after
