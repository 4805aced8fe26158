-- Trays of which one is changed.
use Rattle.std.proofs.Common.{◌≡◌, ◌∙◌, ℕ, zero, suc, ◌<◌, List, [], ◌∷◌, length, None, refl, ap, arith}
use Rattle.std.proofs.lemmas.Bool.{false≢true}
use Rattle.std.proofs.lemmas.List.{get_or-set_same, length-set}
use Rattle.std.specs.List.{slice_index_or}
use Rattle.std.specs.Option.{option_map}
use Rattle.std.specs.Prelude.{IsSome, slice_set}
use Rattle.trick_post_trays.specs.Posting.{started_at}
use Rattle.trick_post_trays.proofs.Finish.{handed}
use Rattle.trick_post_trays.specs.Trays.{held_in}
use Rattle.trick_post_trays.specs.declared.tray.Tray.{Tray}

started_is : (trays : List Tray) (k : ℕ) (d : Tray) → k < length trays → started_at trays k ≡ held_in (slice_index_or trays k d)
started_is [] k d less = absurd (omega arith)
started_is (tray ∷ trays) zero d less = refl
started_is (tray ∷ trays) (suc k) d less = started_is trays k d (omega arith)

pub set_here : (trays : List Tray) (n : ℕ) (tray : Tray) → n < length trays → started_at (slice_set trays n tray) n ≡ held_in tray
set_here trays n tray less =
    started_is (slice_set trays n tray) n tray (omega (arith, length-set trays n tray)) ∙ ap held_in (get_or-set_same trays n tray tray less)

pub set_other : (trays : List Tray) (n k : ℕ) (tray : Tray) → (k ≡ n → ⊥) → started_at (slice_set trays n tray) k ≡ started_at trays k
set_other [] n k tray ne = refl
set_other (x ∷ trays) zero zero tray ne = absurd (ne refl)
set_other (x ∷ trays) zero (suc k) tray ne = refl
set_other (x ∷ trays) (suc n) zero tray ne = refl
set_other (x ∷ trays) (suc n) (suc k) tray ne = set_other trays n k tray (λ e. ne (ap suc e))

pub none_started : (trays : List Tray) → ((k : ℕ) (d : Tray) → k < length trays → (slice_index_or trays k d).work ≡ None) → (n : ℕ) → started_at trays n ≡ None
none_started [] empty n = refl
none_started (tray ∷ trays) empty zero = ap (option_map (handed tray.cells.items tray.on.items)) (empty zero tray (omega arith))
none_started (tray ∷ trays) empty (suc n) = none_started trays (λ k d less. empty (suc k) d (omega arith)) n

-- a thread with something started has a tray
pub started_there : (trays : List Tray) (n : ℕ) → IsSome (started_at trays n) → n < length trays
started_there [] n some = absurd (false≢true some)
started_there (tray ∷ trays) zero some = omega arith
started_there (tray ∷ trays) (suc n) some = let less : n < length trays = started_there trays n some in omega arith
