-- What is answered of a number of seconds, by its amount.
use Rattle.std.proofs.Common.{◌≡◌, ℕ, ◌*◌, ◌^◌, ◌<◌, ◌≤◌, Bool, true, false, Ok, Err, arith, refl, sym, ap, ◌∙◌}
use Rattle.std.proofs.lemmas.Bool.{lt-ltb, le-ltb}
use Rattle.std.proofs.lemmas.Nat.{div-mul-add, mod-mul-add}
use Rattle.std.specs.Prelude.{◌/◌, ◌%◌, ◌==◌, ◌||◌, ◌&&◌, not, nat_lt}
use Rattle.std.proofs.Math.Nat.{mul-le-mul_right}
use Rattle.trick_text.proofs.Amounts.{is_not_above}
use Rattle.trick_text.specs.Amounts.{IsAmount}
use Rattle.trick_text.specs.Seconds.{time_answer}
use Rattle.trick_text.specs.declared.fault.TimeFault.TheVariants.{InexactTime, TimeTooLarge}
use Rattle.trick_text.specs.declared.time.Amount.{Amount}

-- no tics within the limit are above it
pub none_above : (numerator places n : ℕ) → n ≤ 10 ^ 15 → n * 10 ^ places ≡ numerator * 10 ^ 6 → 10 ^ 15 * 10 ^ places < numerator * 10 ^ 6 → ⊥
none_above numerator places n most tics large =
    let le : n * 10 ^ places ≤ 10 ^ 15 * 10 ^ places = mul-le-mul_right (10 ^ places) most in
    omega (arith, tics)

pub answer_large : (line parts unit : ℕ) → 10 ^ 15 * unit < parts → time_answer line parts unit ≡ Err (TimeTooLarge line)
answer_large line parts unit h = rw (lt-ltb (10 ^ 15 * unit) parts h) refl

answer_small : (line parts unit : ℕ) → parts ≤ 10 ^ 15 * unit → (exact : Bool) → (parts % unit == 0) ≡ exact → time_answer line parts unit ≡ (elim exact [ true ↦ Ok (parts / unit) | false ↦ Err (InexactTime line) ])
answer_small line parts unit h true e = rw (le-ltb (10 ^ 15 * unit) parts h, e) refl
answer_small line parts unit h false e = rw (le-ltb (10 ^ 15 * unit) parts h, e) refl

module _ (line numerator places : ℕ) (a : Amount) (is : IsAmount numerator places a) where
  not_large : (nat_lt (10 ^ 15) a.tics || ((a.tics == 10 ^ 15) && not a.is_exact)) ≡ false → numerator * 10 ^ 6 ≤ 10 ^ 15 * 10 ^ places
  not_large h = let no = is_not_above numerator places a is h in omega (arith, no)

  no_rest : (numerator * 10 ^ 6 % 10 ^ places == 0) ≡ a.is_exact
  no_rest = ap (λ r. r == 0) (ap (λ x. x % 10 ^ places) is.total ∙ mod-mul-add a.tics (10 ^ places) is.rest is.small) ∙ sym is.exact

  tics_are : numerator * 10 ^ 6 / 10 ^ places ≡ a.tics
  tics_are = ap (λ x. x / 10 ^ places) is.total ∙ div-mul-add a.tics (10 ^ places) is.rest is.small

  pub answer_exact : (nat_lt (10 ^ 15) a.tics || ((a.tics == 10 ^ 15) && not a.is_exact)) ≡ false → a.is_exact ≡ true → Ok a.tics ≡ time_answer line (numerator * 10 ^ 6) (10 ^ places)
  answer_exact h exact = ap (λ n. Ok n) (sym tics_are) ∙ sym (answer_small line (numerator * 10 ^ 6) (10 ^ places) (not_large h) true (no_rest ∙ exact))

  pub answer_inexact : (nat_lt (10 ^ 15) a.tics || ((a.tics == 10 ^ 15) && not a.is_exact)) ≡ false → a.is_exact ≡ false → Err (InexactTime line) ≡ time_answer line (numerator * 10 ^ 6) (10 ^ places)
  answer_inexact h inexact = sym (answer_small line (numerator * 10 ^ 6) (10 ^ places) (not_large h) false (no_rest ∙ inexact))
