-- Digits, by the test of the code and by the words of std.
use Rattle.std.proofs.Common.{◌≡◌, ◌<◌, ℕ, List, [], ◌∷◌, length, true, false, Bool, ◌&&◌, Result, Err, refl, arith, ◌^◌}
use Rattle.std.specs.Char.{digit_value, is_ascii_digit}
use Rattle.std.specs.List.{list_all}
use Rattle.std.specs.Result.{OkIff}
use Rattle.std.specs.Str.Parse.{AllDigits, ParsesUnsigned, digits_value}
use Rattle.trick_top_words.specs.Command.{IsNumber}
use Rattle.std.proofs.lemmas.Str.Parse.{numerals_by_value, parse_digits, tells_digits}

small : (byte : ℕ) → is_ascii_digit byte ≡ true → digit_value byte < 10
small byte digit = grind arith

pub all_digits : (bytes : List ℕ) → list_all is_ascii_digit bytes ≡ true → AllDigits 10 bytes
all_digits [] all = tt
all_digits (byte ∷ bytes) all = let (first, rest) = both (is_ascii_digit byte) (list_all is_ascii_digit bytes) all in (small byte first, all_digits bytes rest)
  where
    both : (a b : Bool) → (a && b) ≡ true → (a ≡ true) × (b ≡ true)
    both true b h = (refl, h)
    both false b h = cc h

pub parsed : {E : Type 0} (bytes : List ℕ) (result : Result ℕ E) → ParsesUnsigned 32 10 bytes result
    → list_all is_ascii_digit bytes ≡ true → OkIff result ((0 < length bytes) × (digits_value 10 bytes < 2 ^ 32)) (digits_value 10 bytes)
parsed bytes result gives all = parse_digits (numerals_by_value (AllDigits 10) tells_digits) 32 bytes result gives (all_digits bytes all)

pub no_number : {E : Type 0} (bytes : List ℕ) (result : Result ℕ E) (error : E) → result ≡ Err error → ParsesUnsigned 32 10 bytes result
    → (longest most number : ℕ) → most < 2 ^ 32 → IsNumber longest most bytes number → ⊥
no_number {E = E} bytes result error failed gives longest most number narrow is =
    let answer : OkIff result ((0 < length bytes) × (digits_value 10 bytes < 2 ^ 32)) (digits_value 10 bytes) = parsed bytes result gives is.decimal in
    (rw failed at answer) (is.some, omega (is.value, is.limit, narrow, arith))
