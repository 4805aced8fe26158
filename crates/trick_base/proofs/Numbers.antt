-- Tests whether numbers are one, and what lies below a number.
use Rattle.std.proofs.Common.{◌≡◌, ◌==◌, ℕ, suc, ◌*◌, ◌<◌, ◌≤◌, true, false, refl, arith}
use Rattle.std.proofs.lemmas.Bool.{eq-eqb}
use Rattle.std.proofs.lemmas.Bool.Decides.{nat_tests}
use Rattle.std.proofs.lemmas.Nat.{mul-le}

pub equal_to_itself : (n : ℕ) → (n == n) ≡ true
equal_to_itself n = eq-eqb n n refl

pub other_than_greater : (a b : ℕ) → a < b → (a == b) ≡ false
other_than_greater a b h = grind (arith, nat_tests)

pub other_than_less : (a b : ℕ) → b < a → (a == b) ≡ false
other_than_less a b h = grind (arith, nat_tests)

pub zero_at_most : (n : ℕ) → 0 ≤ n
zero_at_most n = omega arith

pub none_below_zero : (n : ℕ) → n < 0 → ⊥
none_below_zero n h = omega (arith, h)

pub less_before : (a b : ℕ) → suc a < suc b → a < b
less_before a b h = omega (arith, h)

pub at_most_itself : (n : ℕ) → n ≤ n
at_most_itself n = omega arith

-- a factor of a number that is no greater than 65,536 is no greater either
pub factor_small : (n b : ℕ) → 1 ≤ n → n * b ≤ 65536 → b ≤ 65536
factor_small n b some small =
    let low : 1 * b ≤ n * b = mul-le 1 b n b some (omega arith) in
    omega (arith, low, small)
