-- What a step on the word tells the seat that made it: of the step, the seat before, the number found, and the seat
-- after.
-- A seat is its view and the slots that it has taken out, each with its value.
use Rattle.std.specs.Prelude.{◌≡◌, ◌≢◌, ℕ, List, ◌∷◌, Option, Some}
use mathlib.Core.List.{IsPrefix}
use Rattle.atomic_table.specs.Table.{Me, Step, rest}
use Rattle.trick_turn.specs.declared.view.View.{View}
use Rattle.trick_turn.specs.Views.{after_claim, after_miss, after_release}
use Rattle.trick_turn.specs.TurnRule.{entries_of}

module _ {B E : Type 0} (stands : B → List E → Type 0) (seat : E → ℕ) where
  -- the history goes on from what the seat has seen, and its entries of this seat are the seat's own
  abbrev pub GoesOn : View E → List E → Type 0
  GoesOn v history = IsPrefix v.seen history × (entries_of seat v.number history ≡ v.own)

  -- the turn was free: the seat has it, and the value, which stands for the history
  abbrev pub HasClaimed : Me (Option B) (View E) → Me (Option B) (View E) → Type 0
  HasClaimed m n = (history : List E) × (value : B) × (n.0 ≡ after_claim m.0 history) × (n.1 ≡ (0, Some value) ∷ m.1)
      × stands value history × GoesOn m.0 history

  -- the turn was held: the seat counts a miss
  abbrev pub HasMissed : Me (Option B) (View E) → ℕ → Me (Option B) (View E) → Type 0
  HasMissed m found n = (n.0 ≡ after_miss m.0 found) × (n.1 ≡ m.1)

  abbrev pub ClaimsOrMisses : Step (Option B) → Me (Option B) (View E) → ℕ → Me (Option B) (View E) → Type 0
  ClaimsOrMisses _ m found n = (found ≡ 0 → HasClaimed m n) × (found ≢ 0 → HasMissed m found n)

module _ {S E : Type 0} where
  -- the value is home again, and the seat does not have the turn
  abbrev pub HasReleased : Option E → Step S → Me S (View E) → ℕ → Me S (View E) → Type 0
  HasReleased e _ m _ n = (n.0 ≡ after_release m.0 e) × (n.1 ≡ rest m.1)

  -- nothing changed, and the rule gives a fact of the seat's own
  abbrev pub HasLooked : Step S → Me S (View E) → ℕ → Me S (View E) → Type 0
  HasLooked _ m _ n = (n ≡ m) × IsPrefix m.0.beside m.0.seen
