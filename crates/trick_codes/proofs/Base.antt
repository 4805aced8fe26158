-- Small facts that the other files share.
use Rattle.std.proofs.Common.{◌≡◌, ◌⊎◌, ℕ, Bool, true, false, cond, List, [], ◌∷◌, ◌++◌, Result, Ok, Err, inl, inr, refl, sym, ap, ◌∙◌}
use Rattle.trick_codes.specs.Code.{Told}
use Rattle.trick_codes.specs.declared.miss.Miss.TheVariants.{Ends, Differs}

pub when_on : {A : Type 0} (b : Bool) (x y z : A) → b ≡ true → x ≡ z → cond b x y ≡ z
when_on b x y z e h = rw e h

pub when_off : {A : Type 0} (b : Bool) (x y z : A) → b ≡ false → y ≡ z → cond b x y ≡ z
when_off b x y z e h = rw e h

-- what was read, with any kind of error
abbrev pub good : {A E : Type 0} → A → List ℕ → Result (A × List ℕ) E
good x us = Ok (x, us)

pub good_is : {A E : Type 0} (x y : A) (us vs : List ℕ) → good {A = A} {E = E} x us ≡ good y vs → (x ≡ y) × (us ≡ vs)
good_is {A} x y us vs h =
    let pair : ◌≡◌ {A = A × List ℕ} (x, us) (y, vs) = cc in (ap (λ (p : A × List ℕ). p.0) pair, ap (λ (p : A × List ℕ). p.1) pair)

pub good_bad : {A E : Type 0} (x : A) (us : List ℕ) (b : E) → good x us ≡ Err b → ⊥
good_bad x us b h = cc

-- two beginnings of one text: one begins the other
pub apart : (xs us ys vs : List ℕ) → xs ++ us ≡ ys ++ vs → ((m : List ℕ) × (xs ≡ ys ++ m) × (vs ≡ m ++ us)) ⊎ ((m : List ℕ) × (ys ≡ xs ++ m) × (us ≡ m ++ vs))
apart xs us [] vs e = inl (xs, refl, sym e)
apart [] us (c ∷ ys) vs e = inr (c ∷ ys, refl, e)
apart (a ∷ xs) us (c ∷ ys) vs e =
    let head : a ≡ c = cc in
    let tail : xs ++ us ≡ ys ++ vs = cc in
    elim (apart xs us ys vs tail) [
      | inl p ↦ inl (p.0, ap (λ (u : ℕ). u ∷ xs) head ∙ ap (λ (w : List ℕ). c ∷ w) p.1, p.2)
      | inr p ↦ inr (p.0, ap (λ (u : ℕ). u ∷ ys) (sym head) ∙ ap (λ (w : List ℕ). a ∷ w) p.1, p.2)
    ]

-- what a reader tells, where the texts and the values that have one are given apart
abbrev pub TellsOf : {A : Type 0} → (A → List ℕ) → (A → Type 0) → List ℕ → Told A → Type 0
TellsOf sp F ts (Ok p) = (ts ≡ sp p.0 ++ p.1) × F p.0
TellsOf {A} sp F ts (Err Ends) = (x : A) × (more : List ℕ) × F x × (sp x ≡ ts ++ more)
TellsOf {A} sp F ts (Err Differs) = ((x : A) × (more : List ℕ) × F x × (sp x ≡ ts ++ more)) → ⊥

pub cons_is : {A : Type 0} (a b : A) (xs ys : List A) → a ∷ xs ≡ b ∷ ys → (a ≡ b) × (xs ≡ ys)
cons_is a b xs ys e = (cc, cc)
