-- Products of numbers that stand still.
use Rattle.std.proofs.Common.{◌≡◌, ℕ, zero, suc, ◌*◌, ◌-◌, ◌^◌, ◌<◌, ◌≤◌, inl, inr, ap, sym, ◌∙◌, arith}
use Rattle.std.proofs.lemmas.Bool.{cases_lt}
use Rattle.std.proofs.lemmas.Nat.{mul-le}
use Rattle.trick_base.specs.Capped.{capped}

cap_small : (a : ℕ) → a < 2 ^ 64 → capped a ≡ a
cap_small a h = omega arith

cap_large : (a : ℕ) → 2 ^ 64 - 1 ≤ a → capped a ≡ 2 ^ 64 - 1
cap_large a h = omega arith

pub cap_mul : (n a : ℕ) → capped (n * capped a) ≡ capped (n * a)
cap_mul zero a = omega arith
cap_mul (suc n) a = elim (cases_lt a (2 ^ 64)) [
  | inl h ↦ ap (λ k. capped (suc n * k)) (cap_small a h)
  | inr h ↦
      let m = 2 ^ 64 - 1 in
      let whole : suc n * capped a ≡ suc n * m = ap (λ k. suc n * k) (cap_large a (omega arith)) in
      let low : 1 * m ≤ suc n * m = mul-le 1 m (suc n) m (omega arith) (omega arith) in
      let high : 1 * m ≤ suc n * a = mul-le 1 m (suc n) a (omega arith) (omega arith) in
      let left : capped (suc n * m) ≡ m = cap_large (suc n * m) (omega (arith, low)) in
      let right : capped (suc n * a) ≡ m = cap_large (suc n * a) (omega (arith, high)) in
      ap capped whole ∙ (left ∙ sym right)
]
