-- Bytes of numbers, and the numbers that bytes tell.
use Rattle.std.proofs.Common.{◌≡◌, ◌∙◌, ◌+◌, ◌-◌, ◌*◌, ◌%◌, ◌^◌, ◌<◌, ◌≤◌, ◌++◌, ◌∷◌, [], ℕ, zero, suc, ℤ, pos, negsuc, List, length, take, drop, replicate, slice_index_or, slice_set, arith, subst, sym, ap, ap₂, refl, FitsSigned}
use Rattle.std.proofs.lemmas.Int.{ints, to_z-of_z}
use Rattle.std.proofs.lemmas.List.{append-nil, append_assoc, drop-drop, drop_all, drop_at, length-append, length-drop, replicate-append-replicate, take_rest}
use Rattle.std.proofs.lemmas.Nat.{from_le_bytes-to_le_bytes_2, from_le_bytes-to_le_bytes_4, from_le_bytes-to_le_bytes_8}
use Rattle.std.specs.Int.{Width, w8, w16, w32, w64, cast_signed, cast_unsigned, from_le_bytes, to_le_bytes}
use Rattle.trick_lang.proofs.WrapLaw.{wraps_right}
use Rattle.trick_lang.specs.Laws.{IsBetween}
use Rattle.trick_lang.specs.Wrap.{AreInRange, IsOf, scalar_at}
use Rattle.trick_lang.specs.declared.scalar.Scalar.{Scalar}
use Rattle.trick_lang.specs.declared.scalar.Scalar.TheVariants as the
use Rattle.trick_memory.specs.Packed.{bytes_of, numbers_of, offsets_from, packed, room_of, unpacked, width}

-- ---- how much room numbers take

pub width_some : (s : Scalar) → 0 < width s
width_some the.Bool = omega arith
width_some the.Char = omega arith
width_some the.UChar = omega arith
width_some the.Short = omega arith
width_some the.UShort = omega arith
width_some the.Int = omega arith
width_some the.UInt = omega arith
width_some the.Long = omega arith

pub width_few : (s : Scalar) → width s ≤ 8
width_few the.Bool = omega arith
width_few the.Char = omega arith
width_few the.UChar = omega arith
width_few the.Short = omega arith
width_few the.UShort = omega arith
width_few the.Int = omega arith
width_few the.UInt = omega arith
width_few the.Long = omega arith

pub room_few : (ss : List Scalar) → room_of ss ≤ 8 * length ss
room_few [] = omega arith
room_few (s ∷ ss) = omega (arith, width_few s, room_few ss)

pub room_push : (ss : List Scalar) (s : Scalar) → room_of (ss ++ s ∷ []) ≡ room_of ss + width s
room_push [] s = omega arith
room_push (x ∷ ss) s = omega (arith, room_push ss s)

-- the bytes of a cell end where there are bytes
pub room_there : (ss : List Scalar) (c : ℕ) → c < length ss → room_of (take c ss) + width (scalar_at ss c) ≤ room_of ss
room_there [] c there = absurd (omega (arith, there))
room_there (s ∷ ss) zero there = omega arith
room_there (s ∷ ss) (suc c) there = omega (arith, room_there ss c (omega (arith, there)))

-- ---- where they begin

pub length_offsets : (start : ℕ) (ss : List Scalar) → length (offsets_from start ss) ≡ length ss
length_offsets start [] = refl
length_offsets start (s ∷ ss) = ap suc (length_offsets (start + width s) ss)

pub offset_at : (start : ℕ) (ss : List Scalar) (c d : ℕ) → c < length ss
    → slice_index_or (offsets_from start ss) c d ≡ start + room_of (take c ss)
offset_at start [] c d there = absurd (omega (arith, there))
offset_at start (s ∷ ss) zero d there = omega arith
offset_at start (s ∷ ss) (suc c) d there = omega (arith, offset_at (start + width s) ss c d (omega (arith, there)))

pub offsets_push : (start : ℕ) (ss : List Scalar) (s : Scalar)
    → offsets_from start (ss ++ s ∷ []) ≡ offsets_from start ss ++ (start + room_of ss) ∷ []
offsets_push start [] s = ap (λ (at : ℕ). at ∷ []) (omega arith)
offsets_push start (x ∷ ss) s =
    ap (λ (rest : List ℕ). start ∷ rest) (offsets_push (start + width x) ss s
    ∙ ap (λ (at : ℕ). offsets_from (start + width x) ss ++ at ∷ []) (omega arith))

-- ---- one number

-- what a number of a type lies between
between : (s : Scalar) (n : ℤ) → IsOf s n → IsBetween s n
between s n is = (wraps_right.kept s n).0 is

pub fits_8 : (n : ℤ) → IsOf the.Char n → FitsSigned w8 n
fits_8 n is = let b = between the.Char n is in omega (arith, ints, b.0, b.1)

pub fits_16 : (n : ℤ) → IsOf the.Short n → FitsSigned w16 n
fits_16 n is = let b = between the.Short n is in omega (arith, ints, b.0, b.1)

pub fits_32 : (n : ℤ) → IsOf the.Int n → FitsSigned w32 n
fits_32 n is = let b = between the.Int n is in omega (arith, ints, b.0, b.1)

pub fits_64 : (n : ℤ) → IsOf the.Long n → FitsSigned w64 n
fits_64 n is = let b = between the.Long n is in omega (arith, ints, b.0, b.1)

-- what stands for a number of a signed type
small_8 : (n : ℤ) → FitsSigned w8 n → cast_unsigned w8 n < 256
small_8 n fits = omega (arith, ints, fits)

small_16 : (n : ℤ) → FitsSigned w16 n → cast_unsigned w16 n < 2 ^ 16
small_16 n fits = omega (arith, ints, fits)

small_32 : (n : ℤ) → FitsSigned w32 n → cast_unsigned w32 n < 2 ^ 32
small_32 n fits = omega (arith, ints, fits)

small_64 : (n : ℤ) → FitsSigned w64 n → cast_unsigned w64 n < 2 ^ 64
small_64 n fits = omega (arith, ints, fits)

byte_back : (n : ℕ) (rest : List ℕ) → n < 256 → from_le_bytes w8 (to_le_bytes w8 n ++ rest) ≡ n
byte_back n rest small = omega (arith, small)

-- a number that fits is cast to itself
pub cast_kept : (w : Width) (n : ℤ) → FitsSigned w64 n → FitsSigned w n
    → cast_unsigned w (cast_signed w (cast_unsigned w (cast_signed w64 (cast_unsigned w64 n)))) ≡ cast_unsigned w n
cast_kept w n whole fits =
    ap (λ (m : ℤ). cast_unsigned w (cast_signed w (cast_unsigned w m))) (to_z-of_z w64 n whole)
    ∙ ap (cast_unsigned w) (to_z-of_z w n fits)

set_first : (bs : List ℕ) (b : ℕ) → 1 ≤ length bs → slice_set bs 0 b ≡ b ∷ drop 1 bs
set_first [] b there = absurd (omega (arith, there))
set_first (x ∷ bs) b there = refl

-- one byte is laid
pub byte_laid : (bs : List ℕ) (b : ℕ) (n : ℤ) → 1 ≤ length bs → FitsSigned w8 n → b ≡ cast_unsigned w8 n
    → slice_set bs 0 b ≡ packed the.Char n ++ drop 1 bs
byte_laid bs b n there fits is =
    let small = small_8 n fits in
    let same : b ≡ cast_unsigned w8 n % 256 = omega (arith, is, small) in
    set_first bs b there ∙ ap (λ (front : ℕ). front ∷ drop 1 bs) same

-- a number of a type is told by its bytes, whatever follows them
pub unpacked_packed : (s : Scalar) (n : ℤ) (rest : List ℕ) → IsOf s n → unpacked s (packed s n ++ rest) ≡ n
unpacked_packed the.Bool (pos n) rest is = let b = between the.Bool (pos n) is in ap pos (byte_back n rest (omega (arith, ints, b.0, b.1)))
unpacked_packed the.Bool (negsuc n) rest is = let b = between the.Bool (negsuc n) is in absurd (omega (arith, ints, b.0, b.1))
unpacked_packed the.Char n rest is =
    let fits = fits_8 n is in
    ap (cast_signed w8) (byte_back (cast_unsigned w8 n) rest (small_8 n fits)) ∙ to_z-of_z w8 n fits
unpacked_packed the.UChar (pos n) rest is = let b = between the.UChar (pos n) is in ap pos (byte_back n rest (omega (arith, ints, b.0, b.1)))
unpacked_packed the.UChar (negsuc n) rest is = let b = between the.UChar (negsuc n) is in absurd (omega (arith, ints, b.0, b.1))
unpacked_packed the.Short n rest is =
    let fits = fits_16 n is in
    ap (cast_signed w16) (from_le_bytes-to_le_bytes_2 (cast_unsigned w16 n) (small_16 n fits)) ∙ to_z-of_z w16 n fits
unpacked_packed the.UShort (pos n) rest is =
    let b = between the.UShort (pos n) is in ap pos (from_le_bytes-to_le_bytes_2 n (omega (arith, ints, b.0, b.1)))
unpacked_packed the.UShort (negsuc n) rest is = let b = between the.UShort (negsuc n) is in absurd (omega (arith, ints, b.0, b.1))
unpacked_packed the.Int n rest is =
    let fits = fits_32 n is in
    ap (cast_signed w32) (from_le_bytes-to_le_bytes_4 (cast_unsigned w32 n) (small_32 n fits)) ∙ to_z-of_z w32 n fits
unpacked_packed the.UInt (pos n) rest is =
    let b = between the.UInt (pos n) is in ap pos (from_le_bytes-to_le_bytes_4 n (omega (arith, ints, b.0, b.1)))
unpacked_packed the.UInt (negsuc n) rest is = let b = between the.UInt (negsuc n) is in absurd (omega (arith, ints, b.0, b.1))
unpacked_packed the.Long n rest is =
    let fits = fits_64 n is in
    ap (cast_signed w64) (from_le_bytes-to_le_bytes_8 (cast_unsigned w64 n) (small_64 n fits)) ∙ to_z-of_z w64 n fits

pub length_packed : (s : Scalar) (n : ℤ) → length (packed s n) ≡ width s
length_packed the.Bool n = refl
length_packed the.Char n = refl
length_packed the.UChar n = refl
length_packed the.Short n = refl
length_packed the.UShort n = refl
length_packed the.Int n = refl
length_packed the.UInt n = refl
length_packed the.Long n = refl

-- ---- one number among bytes

pub room_from : (bs : List ℕ) (start k : ℕ) → start + k ≤ length bs → k ≤ length (take (length bs - start) (drop start bs))
room_from bs start k fits =
    let count : length (drop start bs) ≡ length bs - start = length-drop start bs in
    subst (λ (rest : List ℕ). k ≤ length rest) (sym (take_rest bs start)) (omega (arith, count, fits))

pub laid_from : (bs ys front : List ℕ) (start k : ℕ) → start ≤ length bs → ys ≡ front ++ drop k (take (length bs - start) (drop start bs))
    → take start bs ++ (ys ++ drop (length bs - start) (drop start bs)) ≡ take start bs ++ (front ++ drop k (drop start bs))
laid_from bs ys front start k there is =
    let count : length (drop start bs) ≡ length bs - start = length-drop start bs in
    let none : drop (length bs - start) (drop start bs) ≡ [] = drop_all (length bs - start) (drop start bs) (omega (arith, count)) in
    let all : ys ≡ front ++ drop k (drop start bs) = is ∙ ap (λ (rest : List ℕ). front ++ drop k rest) (take_rest bs start) in
    ap₂ (λ (a b : List ℕ). take start bs ++ (a ++ b)) all none
    ∙ ap (λ (rest : List ℕ). take start bs ++ rest) (append-nil (front ++ drop k (drop start bs)))

-- ---- all numbers

pub length_bytes : (ss : List Scalar) (ns : List ℤ) → length ns ≡ length ss → length (bytes_of ss ns) ≡ room_of ss
length_bytes [] ns same = refl
length_bytes (s ∷ ss) [] same = absurd (omega (arith, same))
length_bytes (s ∷ ss) (n ∷ ns) same =
    length-append (packed s n) (bytes_of ss ns)
    ∙ ap₂ (λ (a b : ℕ). a + b) (length_packed s n) (length_bytes ss ns (omega (arith, same)))

pub length_numbers : (ss : List Scalar) (bs : List ℕ) → length (numbers_of ss bs) ≡ length ss
length_numbers [] bs = refl
length_numbers (s ∷ ss) bs = ap suc (length_numbers ss (drop (width s) bs))

-- a number stands where the bytes of its cell begin
pub number_there : (ss : List Scalar) (bs : List ℕ) (c : ℕ) → c < length ss
    → slice_index_or (numbers_of ss bs) c (pos 0) ≡ unpacked (scalar_at ss c) (drop (room_of (take c ss)) bs)
number_there [] bs c there = absurd (omega (arith, there))
number_there (s ∷ ss) bs zero there = refl
number_there (s ∷ ss) bs (suc c) there =
    number_there ss (drop (width s) bs) c (omega (arith, there))
    ∙ ap (unpacked (scalar_at ss c)) (drop-drop (room_of (take c ss)) (width s) bs)

behind : (s : Scalar) (n : ℤ) (bs : List ℕ) → drop (width s) (packed s n ++ bs) ≡ bs
behind s n bs = drop_at (packed s n) bs (width s) (length_packed s n)

-- the bytes of numbers tell the numbers
pub numbers_told : (ss : List Scalar) (ns : List ℤ) → length ns ≡ length ss → AreInRange ss ns → numbers_of ss (bytes_of ss ns) ≡ ns
numbers_told [] [] same right = refl
numbers_told [] (n ∷ ns) same right = absurd (omega (arith, same))
numbers_told (s ∷ ss) [] same right = absurd (omega (arith, same))
numbers_told (s ∷ ss) (n ∷ ns) same right =
    ap₂ (λ (m : ℤ) (ms : List ℤ). m ∷ ms) (unpacked_packed s n (bytes_of ss ns) (right 0 (omega arith)))
    (ap (numbers_of ss) (behind s n (bytes_of ss ns))
    ∙ numbers_told ss ns (omega (arith, same)) (λ c fits. right (suc c) (omega (arith, fits))))

-- ---- a store

take_past : (xs ys : List ℕ) (n k : ℕ) → length xs ≡ n → take (n + k) (xs ++ ys) ≡ xs ++ take k ys
take_past [] ys n k is = let same : n + k ≡ k = omega (arith, is) in rw same refl
take_past (x ∷ xs) ys n k is =
    let same : n + k ≡ suc (length xs + k) = omega (arith, is) in
    rw same (ap (λ (rest : List ℕ). x ∷ rest) (take_past xs ys (length xs) k refl))

drop_past : (xs ys : List ℕ) (n k : ℕ) → length xs ≡ n → drop (n + k) (xs ++ ys) ≡ drop k ys
drop_past xs ys n k is = sym (drop-drop k n (xs ++ ys)) ∙ ap (drop k) (drop_at xs ys n is)

-- a number that is laid where the bytes of its cell begin
pub bytes_set : (ss : List Scalar) (ns : List ℤ) (c : ℕ) (x : ℤ) → length ns ≡ length ss → c < length ss
    → take (room_of (take c ss)) (bytes_of ss ns)
    ++ (packed (scalar_at ss c) x ++ drop (width (scalar_at ss c)) (drop (room_of (take c ss)) (bytes_of ss ns)))
    ≡ bytes_of ss (slice_set ns c x)
bytes_set [] ns c x same there = absurd (omega (arith, there))
bytes_set (s ∷ ss) [] c x same there = absurd (omega (arith, same))
bytes_set (s ∷ ss) (n ∷ ns) zero x same there = ap (λ (rest : List ℕ). packed s x ++ rest) (behind s n (bytes_of ss ns))
bytes_set (s ∷ ss) (n ∷ ns) (suc c) x same there =
    let at = room_of (take c ss) in
    let bs = bytes_of ss ns in
    let laid = λ (rest : List ℕ). packed (scalar_at ss c) x ++ drop (width (scalar_at ss c)) rest in
    ap₂ (λ (a b : List ℕ). a ++ laid b) (take_past (packed s n) bs (width s) at (length_packed s n))
    (drop_past (packed s n) bs (width s) at (length_packed s n))
    ∙ (append_assoc (packed s n) (take at bs) (laid (drop at bs))
    ∙ ap (λ (rest : List ℕ). packed s n ++ rest) (bytes_set ss ns c x (omega (arith, same)) (omega (arith, there))))

-- ---- zeros

packed_zero : (s : Scalar) → packed s (pos 0) ≡ replicate (width s) 0
packed_zero the.Bool = refl
packed_zero the.Char = refl
packed_zero the.UChar = refl
packed_zero the.Short = refl
packed_zero the.UShort = refl
packed_zero the.Int = refl
packed_zero the.UInt = refl
packed_zero the.Long = refl

pub zero_bytes : (ss : List Scalar) → bytes_of ss (replicate (length ss) (pos 0)) ≡ replicate (room_of ss) 0
zero_bytes [] = refl
zero_bytes (s ∷ ss) =
    ap₂ (λ (a b : List ℕ). a ++ b) (packed_zero s) (zero_bytes ss)
    ∙ replicate-append-replicate (width s) (room_of ss) 0
