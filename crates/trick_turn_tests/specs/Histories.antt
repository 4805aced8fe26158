-- What a list of entries leaves: the numbers of the memory, while the board is open.
use Rattle.std.specs.Prelude.{◌≡◌, ℕ, Bool, List, [], ◌∷◌, ◌++◌, Option, Some, None, IsSome, unwrap_or, slice_set, ⊤}
use Rattle.std.specs.Option.{option_map}
use Rattle.trick_turn_tests.specs.declared.board.Entry.{Entry}
use Rattle.trick_turn_tests.specs.declared.board.Entry.TheVariants.{Open, Store, Close}

abbrev pub step : Option (List ℕ) → Entry → Option (List ℕ)
step left (Open seat numbers flags tic) = Some numbers
step left (Store seat cell number) = option_map (λ xs. slice_set xs cell number) left
step left (Close seat) = None

abbrev pub after : Option (List ℕ) → List Entry → Option (List ℕ)
after left [] = left
after left (e ∷ es) = after (step left e) es

-- a closed board may be opened, and an open one stored into and closed; the chief, whose pass has the number 1, opens
-- and closes
abbrev pub May : Option (List ℕ) → Entry → Type 0
May left (Open seat numbers flags tic) = (left ≡ None) × (seat ≡ 1)
May left (Store seat cell number) = IsSome left
May left (Close seat) = IsSome left × (seat ≡ 1)

abbrev pub IsLegal : Option (List ℕ) → List Entry → Type 0
IsLegal left [] = ⊤
IsLegal left (e ∷ es) = May left e × IsLegal (step left e) es

-- the board is in the state that these entries leave, one after another, from a closed board on
abbrev pub Stands : Option (List ℕ) → List Entry → Type 0
Stands left log = (left ≡ after None log) × IsLegal None log

-- what the board was opened with
pub record Opening : Type 0 where
  pub numbers : List ℕ
  pub flags : List Bool
  pub tic : ℕ

abbrev pub entry_of : Opening → Entry
entry_of o = Open 1 o.numbers o.flags o.tic

-- the entry of the chief's that opened the board with this memory, which the board now has
abbrev pub opening : {M : Type 0} → (M → List ℕ) → Option M → List Bool → ℕ → Entry
opening numbers board flags tic = Open 1 (unwrap_or (option_map numbers board) []) flags tic

-- the last opening of a list that is not closed
abbrev pub opened_from : Option Opening → List Entry → Option Opening
opened_from o [] = o
opened_from o (Open seat numbers flags tic ∷ es) =
    opened_from (Some record { numbers = numbers; flags = flags; tic = tic }) es
opened_from o (Store seat cell number ∷ es) = opened_from o es
opened_from o (Close seat ∷ es) = opened_from None es

abbrev pub opened_at : List Entry → Option Opening
opened_at log = opened_from None log

abbrev pub AreStores : List Entry → Type 0
AreStores [] = ⊤
AreStores (Open seat numbers flags tic ∷ es) = ⊥
AreStores (Store seat cell number ∷ es) = AreStores es
AreStores (Close seat ∷ es) = ⊥

-- since this opening there were only stores, and they leave these numbers
pub record Leaves (log : List Entry) (o : Opening) (numbers : List ℕ) : Type 0 where
  pub before : List Entry
  pub stores : List Entry
  pub whole : log ≡ before ++ entry_of o ∷ stores
  pub all : AreStores stores
  pub left : after (Some o.numbers) stores ≡ Some numbers
