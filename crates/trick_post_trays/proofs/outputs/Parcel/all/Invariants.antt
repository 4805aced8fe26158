use Rattle.std.proofs.Common.{◌≡◌, ℕ, ◌<◌, length}
use Rattle.std.specs.List.{slice_index_or}
use Rattle.trick_post_trays.specs.Outputs.{IsParcelOf}
use Rattle.trick_post_trays.specs.declared.outputs.Parcel.{Parcel}
use Rattle.trick_post_trays.proofs.outputs.Parcel.all.Given as goal

-- the threads so far have their parcels
abbrev pub invariant-loop-number : goal.invariant-loop-number
invariant-loop-number l = record {
  made : length l.parcels.items ≡ l.number;
  each : (n : ℕ) (d : Parcel) → n < l.number → IsParcelOf l.plan n (slice_index_or l.parcels.items n d);
}
