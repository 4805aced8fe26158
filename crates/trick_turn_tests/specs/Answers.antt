-- What clauses say of a call of the chief or of a hand: p is its pass before the call, and q after it.
use Rattle.std.specs.Prelude.{◌≡◌, ◌≢◌, ℕ, ◌+◌, List, [], ◌∷◌, ◌++◌, None, IsSome}
use mathlib.Core.List.{IsPrefix}
use Rattle.trick_turn.specs.declared.pass.Pass.{Pass}
use Rattle.trick_turn.specs.Passes.{number_of, seen, own, missed, last_found}
use Rattle.trick_turn_tests.specs.declared.board.Entry.{Entry}
use Rattle.trick_turn_tests.specs.declared.board.Entry.TheVariants.{Store, Close}
use Rattle.trick_turn_tests.specs.declared.hand.Stored.{Stored}
use Rattle.trick_turn_tests.specs.declared.hand.Stored.TheVariants.{Done, Closed, Busy}
use Rattle.trick_turn_tests.specs.Histories.{after, Opening, Leaves}

module _ {B : Type 0} where
  -- the call added this entry to this history
  abbrev pub HasAddedTo : List Entry → Pass B Entry → Pass B Entry → Entry → Type 0
  HasAddedTo log p q e = IsPrefix (seen p) log × (seen q ≡ log ++ e ∷ []) × (own q ≡ own p ++ e ∷ [])

  abbrev pub HasAdded : Pass B Entry → Pass B Entry → Entry → Type 0
  HasAdded p q e = (log : List Entry) × HasAddedTo log p q e

  -- the call closed the board, and these numbers are what the stores since the opening leave of it
  abbrev pub HasClosed : Pass B Entry → Pass B Entry → Opening → List ℕ → Type 0
  HasClosed p q o numbers = (log : List Entry) × HasAddedTo log p q (Close 1) × Leaves log o numbers

  -- the call stored a number, and the history before it leaves the board open
  abbrev pub HasStored : Pass B Entry → Pass B Entry → ℕ → ℕ → Type 0
  HasStored p q cell number = (log : List Entry) × HasAddedTo log p q (Store (number_of p) cell number)
      × IsSome (after None log)

  -- the history that the pass has now seen leaves the board closed
  abbrev pub FoundClosed : Pass B Entry → Pass B Entry → Type 0
  FoundClosed p q = IsPrefix (seen p) (seen q) × (own q ≡ own p) × (after None (seen q) ≡ None)

  -- another pass had the turn
  abbrev pub FoundBusy : Pass B Entry → Pass B Entry → ℕ → Type 0
  FoundBusy p q found = (found ≢ 0) × (seen q ≡ seen p) × (own q ≡ own p) × (missed q ≡ missed p + 1)
      × (last_found q ≡ found)

  -- what a call that waits for nobody answers
  abbrev pub IsAnswered : Pass B Entry → Pass B Entry → ℕ → ℕ → Stored → Type 0
  IsAnswered p q cell number Done = HasStored p q cell number
  IsAnswered p q cell number Closed = FoundClosed p q
  IsAnswered p q cell number (Busy found) = FoundBusy p q found

  -- what a call that waits answers: never busy
  abbrev pub IsAwaited : Pass B Entry → Pass B Entry → ℕ → ℕ → Stored → Type 0
  IsAwaited p q cell number Done = HasStored p q cell number
  IsAwaited p q cell number Closed = FoundClosed p q
  IsAwaited p q cell number (Busy found) = ⊥
