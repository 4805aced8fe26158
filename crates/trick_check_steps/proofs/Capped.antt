-- Sums and products that stand still.
use Rattle.std.proofs.Common.{◌≡◌, ℕ, zero, suc, ◌+◌, ◌*◌, ◌-◌, ◌^◌, ◌<◌, ◌≤◌, max, inl, inr, ap, sym, ◌∙◌, arith}
use Rattle.std.proofs.lemmas.Bool.{cases_lt}
use Rattle.std.proofs.lemmas.Nat.{mul-le}
use Rattle.trick_base.proofs.Capped.{cap_mul}
use Rattle.trick_base.specs.Capped.{capped}

pub cap_twice : (a : ℕ) → capped (capped a) ≡ capped a
cap_twice a = omega arith

-- products of numbers that are the same up to the cap
pub mul_same : (n a b : ℕ) → capped a ≡ capped b → capped (n * a) ≡ capped (n * b)
mul_same n a b h = sym (cap_mul n a) ∙ (ap (λ k. capped (n * k)) h ∙ cap_mul n b)

-- ---- the largest branch

cap_max : (a b : ℕ) → capped (max a b) ≡ max (capped a) (capped b)
cap_max a b = omega arith

cap_left : (a b : ℕ) → capped (capped a + b) ≡ capped (a + b)
cap_left a b = omega arith

max_three : (a b d : ℕ) → max (max a b) d ≡ max a (max b d)
max_three a b d = omega arith

spread : (u b rest : ℕ) → u + max b rest ≡ max (u + b) (u + rest)
spread u b rest = omega arith

-- one branch more, after its condition
pub branch_next : (tests most t b rest tests' most' : ℕ) → tests' ≡ capped (tests + (1 + t)) → most' ≡ max most (capped (tests' + b)) → capped (max most' (tests' + rest)) ≡ capped (max most (tests + (1 + t + max b rest)))
branch_next tests most t b rest tests' most' e f =
    let u = tests + (1 + t) in
    let s : capped (capped (tests' + b)) ≡ capped (u + b) = ap (λ k. capped (capped (k + b))) e ∙ (cap_twice (capped u + b) ∙ cap_left u b) in
    let r : capped (tests' + rest) ≡ capped (u + rest) = ap (λ k. capped (k + rest)) e ∙ cap_left u rest in
    let apart : tests + (1 + t + max b rest) ≡ u + max b rest = omega arith in
    let whole : tests + (1 + t + max b rest) ≡ max (u + b) (u + rest) = apart ∙ spread u b rest in
    ap (λ m. capped (max m (tests' + rest))) f
    ∙ (cap_max (max most (capped (tests' + b))) (tests' + rest)
    ∙ (ap (λ m. max m (capped (tests' + rest))) (cap_max most (capped (tests' + b)))
    ∙ (ap (λ m. max (max (capped most) m) (capped (tests' + rest))) s
    ∙ (ap (λ m. max (max (capped most) (capped (u + b))) m) r
    ∙ (max_three (capped most) (capped (u + b)) (capped (u + rest))
    ∙ sym (ap (λ m. capped (max most m)) whole ∙ (cap_max most (max (u + b) (u + rest)) ∙ ap (λ m. max (capped most) m) (cap_max (u + b) (u + rest)))))))))
