-- The keys of jobs.
use Rattle.std.proofs.Common.{rules, ◌≡◌, ◌∙◌, ℕ, zero, suc, ◌+◌, ◌*◌, ◌^◌, ◌≤◌, ◌<◌, ◌==◌, ◌&&◌, ◌||◌, not, Bool, true, false, nat_lt, List, [], ◌∷◌, length, refl, sym, ap, ap₂, arith}
use Rattle.std.proofs.lemmas.Bool.{and_parts, eq-eqb, lt-ltb, ltb-true}
use Rattle.std.specs.List.{list_all}
use Rattle.trick_base.proofs.Numbers.{other_than_less}
use Rattle.trick_lang.specs.Names.{are_apart, of_one_number}
use Rattle.trick_lang.specs.declared.job.Job.{Job}
use Rattle.trick_model.specs.Order.{is_below, key, rank}
use Rattle.trick_model.specs.Plan.{job_at}
use Rattle.trick_plan_settings.specs.Keys.{HasSmallKey, key_number}

-- ---- one number for each key

lt_false : (a b : ℕ) → b ≤ a → nat_lt a b ≡ false
lt_false a b h = search rules

down : (a b : ℕ) → nat_lt a b ≡ false → b ≤ a
down a b e = search rules

-- Of two sums the first parts decide, where they differ, and then the rest.
level : (a x m n u v : ℕ) → (a < x → m + u < n + v) → (x < a → n + v ≤ m + u) → (a ≡ x → m ≡ n) → (nat_lt a x || ((a == x) && nat_lt u v)) ≡ nat_lt (m + u) (n + v)
level a x m n u v less more equal = by (nat_lt a x) refl (nat_lt x a) refl
  where
    by : (s : Bool) → nat_lt a x ≡ s → (t : Bool) → nat_lt x a ≡ t → (nat_lt a x || ((a == x) && nat_lt u v)) ≡ nat_lt (m + u) (n + v)
    by true e t f = let h = less (ltb-true a x e) in rw (e, lt-ltb (m + u) (n + v) h)
    by false e true f =
        let g = ltb-true x a f in
        let h = more g in
        rw (e, other_than_less a x g, lt_false (m + u) (n + v) h)
    by false e false f =
        let i = down a x e in
        let j = down x a f in
        let one : a ≡ x = omega (arith, i, j) in
        rw (e, eq-eqb a x one) (rest (nat_lt u v) refl (equal one))
      where
        rest : (w : Bool) → nat_lt u v ≡ w → m ≡ n → nat_lt u v ≡ nat_lt (m + u) (n + v)
        rest true g is = let h = ltb-true u v g in rw (g, lt-ltb (m + u) (n + v) (omega (arith, h, is)))
        rest false g is = let h = down u v g in rw (g, lt_false (m + u) (n + v) (omega (arith, h, is)))

last : (b c : Bool) → (b || (c && false)) ≡ b
last true c = refl
last false true = refl
last false false = refl

no_rank : (r s : ℕ) (x : Bool) → r ≡ s → (nat_lt r s || ((r == s) && x)) ≡ x
no_rank r s x h = rw (lt_false r s (omega (arith, h)), eq-eqb r s h) refl

object_below : (o t n m : ℕ) → n < 4294967296 → m < 4294967296
    → (nat_lt o t || ((o == t) && (nat_lt n m || ((n == m) && false)))) ≡ nat_lt (o * 4294967296 + n) (t * 4294967296 + m)
object_below o t n m p q =
    ap (λ (b : Bool). nat_lt o t || ((o == t) && b)) (last (nat_lt n m) (n == m))
    ∙ level o t (o * 4294967296) (t * 4294967296) n m (λ h. omega (arith, h, p, q)) (λ h. omega (arith, h, p, q)) (λ h. omega (arith, h))

phase_below : (p q u v : ℕ) → u < 18446744073709551616 → v < 18446744073709551616
    → (nat_lt p q || ((p == q) && nat_lt u v)) ≡ nat_lt (p * 18446744073709551616 + u) (q * 18446744073709551616 + v)
phase_below p q u v s t = level p q (p * 18446744073709551616) (q * 18446744073709551616) u v (λ h. omega (arith, h, s, t)) (λ h. omega (arith, h, s, t)) (λ h. omega (arith, h))

fits : (o n : ℕ) → o < 4294967296 → n < 4294967296 → o * 4294967296 + n < 18446744073709551616
fits o n p q = omega (arith, p, q)

small : (n : ℕ) → n < 2 ^ 32 → n < 4294967296
small n h = h

whole : (p o n : ℕ) → p * 18446744073709551616 + (o * 4294967296 + n) ≡ p * 18446744073709551616 + o * 4294967296 + n
whole p o n = omega arith

-- Of two jobs of one rank the smaller number has the smaller key.
pub below_is : (a b : Job) → rank a.class ≡ rank b.class → HasSmallKey a → HasSmallKey b → is_below (key a) (key b) ≡ nat_lt (key_number a) (key_number b)
below_is a b r s t =
    let rest : Bool = nat_lt a.object b.object || ((a.object == b.object) && (nat_lt a.number b.number || ((a.number == b.number) && false))) in
    no_rank (rank a.class) (rank b.class) (nat_lt a.phase b.phase || ((a.phase == b.phase) && rest)) r
    ∙ (ap (λ (x : Bool). nat_lt a.phase b.phase || ((a.phase == b.phase) && x)) (object_below a.object b.object a.number b.number (small a.number s.number) (small b.number t.number))
    ∙ (phase_below a.phase b.phase (a.object * 4294967296 + a.number) (b.object * 4294967296 + b.number)
    (fits a.object a.number (small a.object s.object) (small a.number s.number)) (fits b.object b.number (small b.object t.object) (small b.number t.number))
    ∙ ap₂ (λ (m n : ℕ). nat_lt m n) (whole a.phase a.object a.number) (whole b.phase b.object b.number)))

-- ---- one job for each key

not_less : (p q u v : ℕ) → u < 18446744073709551616 → v < 18446744073709551616 → p * 18446744073709551616 + u ≡ q * 18446744073709551616 + v → p < q → ⊥
not_less p q u v s t e h = omega (arith, s, t, e, h)

not_below : (p q u v : ℕ) → u < 4294967296 → v < 4294967296 → p * 4294967296 + u ≡ q * 4294967296 + v → p < q → ⊥
not_below p q u v s t e h = omega (arith, s, t, e, h)

neither : (p q : ℕ) → (p < q → ⊥) → (q < p → ⊥) → p ≡ q
neither p q less more = by (nat_lt p q) refl (nat_lt q p) refl
  where
    by : (s : Bool) → nat_lt p q ≡ s → (t : Bool) → nat_lt q p ≡ t → p ≡ q
    by true e t f = absurd (less (ltb-true p q e))
    by false e true f = absurd (more (ltb-true q p f))
    by false e false f = omega (arith, down p q e, down q p f)

-- the parts of equal numbers
pub same_parts : (a b : Job) → HasSmallKey a → HasSmallKey b → key_number a ≡ key_number b → (a.object ≡ b.object) × (a.number ≡ b.number)
same_parts a b s t e =
    let u : ℕ = a.object * 4294967296 + a.number in
    let v : ℕ = b.object * 4294967296 + b.number in
    let p = fits a.object a.number (small a.object s.object) (small a.number s.number) in
    let q = fits b.object b.number (small b.object t.object) (small b.number t.number) in
    let sums : a.phase * 18446744073709551616 + u ≡ b.phase * 18446744073709551616 + v = whole a.phase a.object a.number ∙ (e ∙ sym (whole b.phase b.object b.number)) in
    let phase : a.phase ≡ b.phase = neither a.phase b.phase (not_less a.phase b.phase u v p q sums) (not_less b.phase a.phase v u q p (sym sums)) in
    let rest : a.object * 4294967296 + a.number ≡ b.object * 4294967296 + b.number = omega (arith, sums, phase) in
    let object : a.object ≡ b.object = neither a.object b.object
    (not_below a.object b.object a.number b.number (small a.number s.number) (small b.number t.number) rest)
    (not_below b.object a.object b.number a.number (small b.number t.number) (small a.number s.number) (sym rest)) in
    (object, omega (arith, rest, object))

all_at : (p : Job → Bool) (xs : List Job) → list_all p xs ≡ true → (k : ℕ) → k < length xs → p (job_at xs k) ≡ true
all_at p [] h k lt = absurd (omega (arith, lt))
all_at p (x ∷ xs) h zero lt = (and_parts (p x) (list_all p xs) h).0
all_at p (x ∷ xs) h (suc k) lt = all_at p xs (and_parts (p x) (list_all p xs) h).1 k (omega (arith, lt))

never : (b : Bool) → not b ≡ true → b ≡ true → ⊥
never true h g = cc
never false h g = cc

alike : (a b : Job) → a.object ≡ b.object → a.number ≡ b.number → of_one_number a b ≡ true
alike a b p q = rw (eq-eqb a.object b.object p, eq-eqb a.number b.number q) refl

-- No two jobs of a program have one object and one number.
pub one_place : (jobs : List Job) → are_apart of_one_number jobs ≡ true → (a b : ℕ) → a < length jobs → b < length jobs
    → (job_at jobs a).object ≡ (job_at jobs b).object → (job_at jobs a).number ≡ (job_at jobs b).number → a ≡ b
one_place [] apart a b p q object number = absurd (omega (arith, p))
one_place (x ∷ xs) apart zero zero p q object number = refl
one_place (x ∷ xs) apart zero (suc b) p q object number =
    let parts = and_parts (list_all (λ y. not (of_one_number x y)) xs) (are_apart of_one_number xs) apart in
    absurd (never (of_one_number x (job_at xs b)) (all_at (λ y. not (of_one_number x y)) xs parts.0 b (omega (arith, q))) (alike x (job_at xs b) object number))
one_place (x ∷ xs) apart (suc a) zero p q object number =
    let parts = and_parts (list_all (λ y. not (of_one_number x y)) xs) (are_apart of_one_number xs) apart in
    absurd (never (of_one_number x (job_at xs a)) (all_at (λ y. not (of_one_number x y)) xs parts.0 a (omega (arith, p))) (alike x (job_at xs a) (sym object) (sym number)))
one_place (x ∷ xs) apart (suc a) (suc b) p q object number =
    let parts = and_parts (list_all (λ y. not (of_one_number x y)) xs) (are_apart of_one_number xs) apart in
    ap suc (one_place xs parts.1 a b (omega (arith, p)) (omega (arith, q)) object number)
