-- Ranks that calls do not raise.
use Rattle.std.proofs.Common.{◌≡◌, ℕ, zero, suc, ◌<◌, ◌≤◌, true, List, [], ◌∷◌, length, get_or, inl, inr, subst, arith}
use Rattle.std.proofs.lemmas.Bool.{and_parts, eqb-true, ltb-true, or_cases}
use Rattle.trick_check_order.specs.Calls.{Reaches, ReachesItself, callees, has}
use Rattle.trick_check_order.specs.Ranked.{FallsBefore, NeverRises, are_lower}

-- those of a list whose ranks are below a limit
lower_has :
    (ranks : List ℕ) (limit : ℕ) (cs : List ℕ) (c : ℕ) → are_lower ranks limit cs ≡ true → has cs c ≡ true
    → get_or ranks c 0 < limit
lower_has ranks limit [] c all h = absurd (cc h)
lower_has ranks limit (x ∷ cs) c all h =
    let now = ltb-true _ limit (and_parts _ _ all).0 in
    elim (or_cases _ (has cs c) h) [
      | inl p ↦ subst (λ y. get_or ranks y 0 < limit) (eqb-true x c p) now
      | inr p ↦ lower_has ranks limit cs c (and_parts _ _ all).1 p
    ]

-- what calls is there
caller_there : (g : List (List ℕ)) (a b : ℕ) → has (callees g a) b ≡ true → a < length g
caller_there [] a b h = absurd (cc h)
caller_there (c ∷ cs) zero b h = omega arith
caller_there (c ∷ cs) (suc a) b h = let low = caller_there cs a b h in omega (arith, low)

-- no way leads to a higher rank
not_higher :
    (g : List (List ℕ)) (ranks : List ℕ) → NeverRises g ranks → (n a b : ℕ) → Reaches g n a b
    → get_or ranks b 0 ≤ get_or ranks a 0
not_higher g ranks never zero a b r =
    let low = lower_has ranks _ (callees g a) b (never a (caller_there g a b r)) r in
    omega (arith, low)
not_higher g ranks never (suc n) a b r =
    let low = lower_has ranks _ (callees g a) r.0 (never a (caller_there g a r.0 r.1)) r.1 in
    let rest = not_higher g ranks never n r.0 b r.2 in
    omega (arith, low, rest)

-- a method that calls only lower ones does not reach itself
pub none_before :
    (g : List (List ℕ)) (ranks : List ℕ) (first : ℕ) → NeverRises g ranks → FallsBefore g ranks first → (b : ℕ)
    → b < first → ReachesItself g b → ⊥
none_before g ranks first never falls b low itself = around itself.0 itself.1 where
  around : (n : ℕ) → Reaches g n b b → ⊥
  around zero r = let one = lower_has ranks _ (callees g b) b (falls b low) r in absurd (omega (arith, one))
  around (suc n) r =
      let one = lower_has ranks _ (callees g b) r.0 (falls b low) r.1 in
      let rest = not_higher g ranks never n r.0 b r.2 in
      absurd (omega (arith, one, rest))
