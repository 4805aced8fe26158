-- What a feed of a client's bytes stands for.
use Rattle.std.specs.Prelude.{◌≡◌, ℕ, ◌==◌, nat_lt, true, false, List, [], ◌∷◌, ◌++◌, length, Option, Some, None}
use Rattle.trick_model.specs.Commands.{lines_behind}

-- A feed has lines that wait, and the bytes that came since the last line feed. It has no such bytes
-- where 4,097 of them came.
pub record Fed : Type 0 where
  pub waiting : List (List ℕ)
  pub held : Option (List ℕ)

-- a feed to which no byte has come
abbrev pub nothing_fed : Fed
nothing_fed = record { waiting = []; held = Some [] }

-- the bytes since the last line feed, with more bytes after these; none where 4,097 come without one
abbrev pub held_behind : List ℕ → List ℕ → Option (List ℕ)
held_behind held [] = Some held
held_behind held (b ∷ bs) = elim (b == 10) [
  | true ↦ held_behind [] bs
  | false ↦ elim (nat_lt (length held) 4096) [ true ↦ held_behind (held ++ b ∷ []) bs | false ↦ None ]
]

-- A feed to which more bytes come: the lines that they end wait after the others. It stays as it is
-- where it takes no more.
abbrev pub fed : Fed → List ℕ → Fed
fed feed bytes = elim feed.held [
  | None ↦ feed
  | Some held ↦ record { waiting = feed.waiting ++ lines_behind held bytes; held = held_behind held bytes }
]

-- The new feed is the old one after some first bytes of a piece.
abbrev pub HasTaken : Fed → List ℕ → Fed → Type 0
HasTaken old piece new = (part : List ℕ) × (rest : List ℕ) × (piece ≡ part ++ rest) × (new ≡ fed old part)
