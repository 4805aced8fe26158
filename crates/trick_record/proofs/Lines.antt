-- A line grows by one field at a time, and a row begins with a digit.
use Rattle.std.proofs.Common.{◌≡◌, ◌≢◌, ◌+◌, ◌<◌, ◌≤◌, ◌^◌, ◌++◌, ◌∷◌, [], ℕ, ℤ, List, ap, ◌∙◌, append_assoc, arith, codes, decimal, drop, length, map, slice_index_or}
use Rattle.std.proofs.lemmas.Fmt.{decimal_is_IsNumeral}
use Rattle.std.proofs.lemmas.List.{drop_all, drop_more}
use Rattle.std.specs.Fmt.{signed_decimal}
use Rattle.trick_model.specs.Records.{fields}

-- one more field after the bytes so far
one_more : (bytes field : List ℕ) (rest : List (List ℕ))
    → (bytes ++ (codes "," ++ field)) ++ fields rest ≡ bytes ++ fields (field ∷ rest)
one_more bytes field rest = append_assoc bytes (codes "," ++ field) (fields rest)

-- the field of the next item of a list
pub next_field : {X : Type 0} (text : X → List ℕ) (xs : List X) (i : ℕ) (d : X) (bytes line : List ℕ)
    → i < length xs → bytes ++ fields (map text (drop i xs)) ≡ line
    → (bytes ++ (codes "," ++ text (slice_index_or xs i d))) ++ fields (map text (drop (i + 1) xs)) ≡ line
next_field text xs i d bytes line lt whole =
    one_more bytes (text (slice_index_or xs i d)) (map text (drop (i + 1) xs)) ∙ rw (drop_more xs i d lt) at whole

-- the line feed after the last item of a list
pub end_field : {X : Type 0} (text : X → List ℕ) (xs : List X) (i : ℕ) (bytes line : List ℕ)
    → length xs ≤ i → bytes ++ fields (map text (drop i xs)) ≡ line → bytes ++ codes "\n" ≡ line
end_field text xs i bytes line le whole = rw (drop_all i xs le) at whole

-- the number of the next item of a list
pub next_number : {X : Type 0} (number : X → ℤ) (xs : List X) (i : ℕ) (d : X) (bytes line : List ℕ)
    → i < length xs → bytes ++ fields (map signed_decimal (map number (drop i xs))) ≡ line
    → (bytes ++ (codes "," ++ signed_decimal (number (slice_index_or xs i d))))
    ++ fields (map signed_decimal (map number (drop (i + 1) xs))) ≡ line
next_number number xs i d bytes line lt whole =
    one_more bytes (signed_decimal (number (slice_index_or xs i d))) (map signed_decimal (map number (drop (i + 1) xs)))
    ∙ rw (drop_more xs i d lt) at whole

-- the line feed after the last number of a list
pub end_number : {X : Type 0} (number : X → ℤ) (xs : List X) (i : ℕ) (bytes line : List ℕ)
    → length xs ≤ i → bytes ++ fields (map signed_decimal (map number (drop i xs))) ≡ line → bytes ++ codes "\n" ≡ line
end_number number xs i bytes line le whole = rw (drop_all i xs le) at whole

-- a number has a digit
pub has_digit : (n : ℕ) → n < 2 ^ 64 → decimal n ≢ []
has_digit n h none = omega (arith, (decimal_is_IsNumeral n h).0.0, ap length none)
