-- A line grows by one field at a time.
use Rattle.std.proofs.Common.{◌≡◌, ◌+◌, ◌<◌, ◌++◌, ◌∷◌, ℕ, List, ◌∙◌}
use Rattle.std.proofs.Common.{append_assoc, codes, drop, length, map, slice_index_or}
use Rattle.std.proofs.lemmas.List.{drop_more}
use Rattle.trick_top_refusals.specs.Line.{fields}

-- one more field after the bytes so far
one_more : (bytes field : List ℕ) (rest : List (List ℕ))
    → (bytes ++ codes " " ++ field) ++ fields rest ≡ bytes ++ fields (field ∷ rest)
one_more bytes field rest = simp append_assoc

-- the field of the next item of a list
pub next_field : {X : Type 0} (text : X → List ℕ) (xs : List X) (i : ℕ) (d : X) (bytes line : List ℕ)
    → i < length xs → bytes ++ fields (map text (drop i xs)) ≡ line
    → (bytes ++ codes " " ++ text (slice_index_or xs i d)) ++ fields (map text (drop (i + 1) xs)) ≡ line
next_field text xs i d bytes line lt whole =
    one_more bytes (text (slice_index_or xs i d)) (map text (drop (i + 1) xs)) ∙ rw (drop_more xs i d lt) at whole
