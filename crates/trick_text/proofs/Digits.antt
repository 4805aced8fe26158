-- Values of digits.
use Rattle.std.proofs.Common.{◌≡◌, ℕ, ◌+◌, ◌*◌, ◌^◌, ◌<◌, ◌≤◌, Bool, true, false, List, [], ◌∷◌, ◌++◌, length, arith, refl, ap, ◌∙◌}
use Rattle.std.proofs.Math.Nat.{mul-le-mul_left, pow-zero, pow-succ'}
use Rattle.std.proofs.lemmas.Bool.{eqb-true, eqb-false}
use Rattle.std.proofs.lemmas.Str.{digit_value_digit}
use Rattle.std.proofs.lemmas.Str.Parse.{digit_from_value}
use Rattle.std.specs.Char.{digit_value}
use Rattle.std.specs.List.{list_all}
use Rattle.std.specs.Prelude.{◌==◌, ◌&&◌}
use Rattle.std.specs.Str.Parse.{AllDigits, digits_value, digits_value_after}

-- more digits never make less
pub value_grows : (base n : ℕ) (ds : List ℕ) → 1 ≤ base → n ≤ digits_value_after base n ds
value_grows base n [] h = omega arith
value_grows base n (d ∷ ds) h = omega (arith, mul-le-mul_left n h, value_grows base (n * base + digit_value d) ds h)

after_is : (n : ℕ) (ds : List ℕ) → digits_value_after 10 n ds ≡ n * 10 ^ length ds + digits_value 10 ds
after_is n [] = omega (arith, ap (λ x. n * x) (pow-zero 10))
after_is n (d ∷ ds) = omega (arith, after_is (n * 10 + digit_value d) ds, after_is (0 * 10 + digit_value d) ds, ap (λ x. n * x) (pow-succ' 10 (length ds)))

value_after-append : (n : ℕ) (xs ys : List ℕ) → digits_value_after 10 n (xs ++ ys) ≡ digits_value_after 10 (digits_value_after 10 n xs) ys
value_after-append n [] ys = refl
value_after-append n (x ∷ xs) ys = value_after-append (n * 10 + digit_value x) xs ys

-- the digits in front count as many times as ten to the power of those after
pub digits_value-append : (xs ys : List ℕ) → digits_value 10 (xs ++ ys) ≡ digits_value 10 xs * 10 ^ length ys + digits_value 10 ys
digits_value-append xs ys = value_after-append 0 xs ys ∙ after_is (digits_value 10 xs) ys

abbrev pub are_zeros : List ℕ → Bool
are_zeros ds = list_all (λ d. d == 48) ds

pub zeros_are_zero : (ds : List ℕ) → are_zeros ds ≡ true → digits_value 10 ds ≡ 0
zeros_are_zero [] h = refl
zeros_are_zero (d ∷ ds) h = by (d == 48) refl h (zeros_are_zero ds)
  where
    by : (b : Bool) → (d == 48) ≡ b → (b && are_zeros ds) ≡ true → (are_zeros ds ≡ true → digits_value 10 ds ≡ 0) → digits_value_after 10 (0 * 10 + digit_value d) ds ≡ 0
    by true e h rest = let zero_digit : d ≡ 48 = eqb-true d 48 e in rw zero_digit (rest h)
    by false e h rest = absurd (cc)

pub others_are_positive : (ds : List ℕ) → AllDigits 10 ds → are_zeros ds ≡ false → 0 < digits_value 10 ds
others_are_positive [] digits h = absurd (cc)
others_are_positive (d ∷ ds) digits h = by (d == 48) refl h (others_are_positive ds digits.1)
  where
    by : (b : Bool) → (d == 48) ≡ b → (b && are_zeros ds) ≡ false → (are_zeros ds ≡ false → 0 < digits_value 10 ds) → 0 < digits_value_after 10 (0 * 10 + digit_value d) ds
    by true e h rest = let zero_digit : d ≡ 48 = eqb-true d 48 e in rw zero_digit (rest h)
    by false e h rest =
        let value = digit_value_digit d (digit_from_value d digits.0) in
        let other : d ≡ 48 → ⊥ = eqb-false d 48 e in
        let positive : 0 < digit_value d = omega arith in
        omega (arith, value_grows 10 (0 * 10 + digit_value d) ds (omega arith))
