-- Where cycles end.
use Rattle.std.proofs.Common.{◌≡◌, ◌∙◌, ℕ, suc, ◌+◌, ◌-◌, ◌%◌, ◌<◌, ◌≤◌, ◌==◌, Bool, true, false, ap, arith, refl, sym, nat_lt}
use Rattle.std.proofs.Math.Nat.{mod-eq_of_lt, mod_self, suc-mod}
use Rattle.std.proofs.lemmas.Bool.{eqb-true}
use Rattle.std.proofs.lemmas.Nat.{mod_below}
use Rattle.trick_exec_posts.specs.Flight.{end_of}

-- the end of a cycle, by the rest of a tic
pick : ℕ → ℕ → ℕ → ℕ
pick cycle tic rest = elim (rest == 0) [ true ↦ tic | false ↦ tic + (cycle - rest) ]

otherwise : (b : Bool) (x y : ℕ) → b ≡ false → (let c : ℕ = elim b [ true ↦ x | false ↦ y ] in c ≡ y)
otherwise true x y e = cc e
otherwise false x y e = refl

pick_some : (cycle tic rest : ℕ) → (rest == 0) ≡ false → pick cycle tic rest ≡ tic + (cycle - rest)
unfolding pick
pick_some cycle tic rest some = otherwise (rest == 0) tic (tic + (cycle - rest)) some

suc_some : (n : ℕ) → (suc n == 0) ≡ false
suc_some n = by (suc n == 0) refl
  where
    by : (b : Bool) → (suc n == 0) ≡ b → (suc n == 0) ≡ false
    by true e = let none : suc n ≡ 0 = eqb-true (suc n) 0 e in absurd (omega (arith, none))
    by false e = e

next_rest : (cycle tic : ℕ) → (tic + 1) % cycle ≡ suc (tic % cycle) % cycle
next_rest cycle tic =
    let one : tic + 1 ≡ suc tic = omega arith in
    ap (λ (n : ℕ). n % cycle) one ∙ suc-mod tic cycle

-- After a tic at which a cycle does not end, it ends where it would have.
pub next_end : (cycle tic : ℕ) → 1 ≤ cycle → ((tic % cycle) == 0) ≡ false → end_of cycle tic ≡ end_of cycle (tic + 1)
unfolding pick
next_end cycle tic some goes = by_less (nat_lt (suc rest) cycle) refl
  where
    rest : ℕ
    rest = tic % cycle

    below : rest < cycle
    below = mod_below tic cycle some

    now : end_of cycle tic ≡ tic + (cycle - rest)
    now = pick_some cycle tic rest goes

    by_less : (b : Bool) → nat_lt (suc rest) cycle ≡ b → end_of cycle tic ≡ end_of cycle (tic + 1)
    by_less true e =
        let less : suc rest < cycle = grind (arith, e) in
        let then_ : (tic + 1) % cycle ≡ suc rest = next_rest cycle tic ∙ mod-eq_of_lt less in
        let same : tic + (cycle - rest) ≡ tic + 1 + (cycle - suc rest) = omega arith in
        now ∙ same ∙ sym (ap (pick cycle (tic + 1)) then_ ∙ pick_some cycle (tic + 1) (suc rest) (suc_some rest))
    by_less false e =
        let last : suc rest ≡ cycle = grind (arith, e, below) in
        let then_ : (tic + 1) % cycle ≡ 0 =
        next_rest cycle tic ∙ ap (λ (n : ℕ). n % cycle) last ∙ mod_self cycle in
        let same : tic + (cycle - rest) ≡ tic + 1 = omega arith in
        now ∙ same ∙ sym (ap (pick cycle (tic + 1)) then_)

-- where a cycle ends at a tic
pub end_here : (cycle tic : ℕ) → tic % cycle ≡ 0 → end_of cycle tic ≡ tic
unfolding pick
end_here cycle tic ends = ap (pick cycle tic) ends
