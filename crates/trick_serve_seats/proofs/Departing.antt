-- What the caller told, with one thing more.
use Rattle.std.proofs.Common.{◌≡◌, ◌+◌, Bool, true, false, List, [], ◌∷◌, ◌++◌, arith, refl}
use Rattle.trick_serve_seats.specs.Departures.{is_over, left_of}
use Rattle.trick_serve_seats.specs.declared.departure.Departure.{Departure}
use Rattle.trick_serve_seats.specs.declared.departure.Departure.TheVariants.{Run, Session}

pub left_told : (items : List Departure) (told : Departure) → left_of (items ++ told ∷ []) ≡ left_of items + left_of (told ∷ [])
left_told [] told = omega arith
left_told (Session number ∷ items) told = let e = left_told items told in omega arith
left_told (Run ∷ items) told = left_told items told

over_before : (items : List Departure) (told : Departure) → is_over items ≡ true → is_over (items ++ told ∷ []) ≡ true
over_before [] told over = absurd (cc)
over_before (Session number ∷ items) told over = over_before items told over
over_before (Run ∷ items) told over = refl

over_here : (items : List Departure) (told : Departure) → is_over (told ∷ []) ≡ true → is_over (items ++ told ∷ []) ≡ true
over_here [] told over = over
over_here (Session number ∷ items) told over = over_here items told over
over_here (Run ∷ items) told over = refl

-- it was over before, or it is by this
pub over_told : (items : List Departure) (told : Departure) (was : Bool) → (was ≡ true → is_over items ≡ true) → (was ≡ false → is_over (told ∷ []) ≡ true)
    → is_over (items ++ told ∷ []) ≡ true
over_told items told true before here = over_before items told (before refl)
over_told items told false before here = over_here items told (here refl)
