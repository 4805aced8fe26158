use Rattle.std.proofs.Common.{◌∙◌, ℕ, ◌+◌, ◌∷◌, [], List, ap, arith, length, subst, sym}
use Rattle.std.proofs.lemmas.List.{length-append}
use Rattle.std.specs.List.{slice_index_or}
use Rattle.trick_post_trays.proofs.Trays.{tray_more}
use Rattle.trick_post_trays.specs.Outputs.{IsParcelOf}
use Rattle.trick_post_trays.specs.declared.outputs.Parcel.{Parcel}
use Rattle.trick_post_trays.proofs.outputs.Parcel.all.Goals as goal

pub loop-number-preserved : goal.loop-number-preserved
loop-number-preserved c =
    let inv = c.loop-number.invariant in
    let parcels = c.loop-number.parcels.items in
    let parcel = c.in_ok-new.field-0 in
    record {
      made = ap length c.in_ok-push.ensures.items ∙ length-append parcels (parcel ∷ []) ∙ ap (λ (n : ℕ). n + 1) inv.made;
      each = λ n d less. subst (λ (all : List Parcel). IsParcelOf c.args.plan.now n (slice_index_or all n d)) (sym c.in_ok-push.ensures.items)
          (tray_more (IsParcelOf c.args.plan.now) parcels parcel (subst (λ m. IsParcelOf c.args.plan.now m parcel) (sym inv.made) c.in_ok-new.ensures.own)
          (λ k e small. inv.each k e (omega (arith, inv.made))) n d (omega (arith, inv.made)));
    }
