use Rattle.std.proofs.Common.{◌≡◌, ℕ, ◌<◌, None, length}
use Rattle.std.specs.List.{slice_index_or}
use Rattle.trick_post_trays.specs.Trays.{IsTrayOf}
use Rattle.trick_post_trays.specs.declared.tray.Tray.{Tray}
use Rattle.trick_post_trays.proofs.tray.Tray.all.Given as goal

-- the threads so far have their trays
abbrev pub invariant-loop-number : goal.invariant-loop-number
invariant-loop-number l = record {
  made : length l.trays.items ≡ l.number;
  numbers : (k : ℕ) (d : Tray) → k < l.number → (slice_index_or l.trays.items k d).number ≡ k;
  right : (k : ℕ) (d : Tray) → k < l.number → IsTrayOf l.plan (slice_index_or l.trays.items k d);
  empty : (k : ℕ) (d : Tray) → k < l.number → (slice_index_or l.trays.items k d).work ≡ None;
}
