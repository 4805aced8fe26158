-- Reading on, as loops in code do.
use Rattle.std.proofs.Common.{◌≡◌, ◌≢◌, ◌⊎◌, inl, inr, ℕ, zero, suc, ◌+◌, ◌-◌, ◌<◌, Bool, true, false, cond, List, [], ◌∷◌, ◌++◌, length, get_or, take, drop, Option, Some, None, Ok, Err, refl, sym, ap, ◌∙◌, append_assoc, arith}
use Rattle.std.proofs.lemmas.Bool.{cases_Bool, eq-eqb, eqb-true}
use Rattle.std.proofs.lemmas.List.{append-nil, at_drop_more, take_more}
use Rattle.std.specs.Prelude.{nat_eq}
use Rattle.trick_codes.proofs.Base.{when_on, when_off}
use Rattle.trick_codes.specs.Code.{Told, ◌>>=◌, literal_at, free_at}
use Rattle.trick_codes.specs.declared.miss.Miss.TheVariants.{Differs}

-- the bytes that are told, with some before them
abbrev pub with_front : List ℕ → Told (List ℕ) → Told (List ℕ)
with_front found told = told >>= λ x. Ok (found ++ x.0, x.1)

nat_differs : (a b : ℕ) → a ≢ b → nat_eq a b ≡ false
nat_differs a b ne = go (cases_Bool (nat_eq a b))
  where
    go : (nat_eq a b ≡ true) ⊎ (nat_eq a b ≡ false) → nat_eq a b ≡ false
    go (inl e) = absurd (ne (eqb-true a b e))
    go (inr e) = e

regroup : (found : List ℕ) (t : ℕ) (q : Told (List ℕ)) → with_front found (q >>= λ x. Ok (t ∷ x.0, x.1)) ≡ with_front (found ++ t ∷ []) q
regroup found t (Ok p) = ap (λ (us : List ℕ). Ok (us, p.1)) (sym (append_assoc found (t ∷ []) p.0))
regroup found t (Err m) = refl

module _ (end : ℕ) (found : List ℕ) (t : ℕ) (ts : List ℕ) where
  one_more : (m : ℕ) → 0 < m → t ≢ end → with_front found (free_at m end (t ∷ ts)) ≡ with_front (found ++ t ∷ []) (free_at (m - 1) end ts)
  one_more zero some ne = absurd (omega arith)
  one_more (suc m) some ne =
      let e : suc m - 1 ≡ m = omega arith in
      ap (with_front found) (when_off (nat_eq t end) _ _ _ (nat_differs t end ne) refl)
      ∙ regroup found t (free_at m end ts) ∙ ap (λ k. with_front (found ++ t ∷ []) (free_at k end ts)) (sym e)

  one_too_many : t ≢ end → with_front found (free_at 0 end (t ∷ ts)) ≡ Err Differs
  one_too_many ne = ap (with_front found) (when_off (nat_eq t end) _ _ _ (nat_differs t end ne) refl)

  at_end : (m : ℕ) → t ≡ end → with_front found (free_at m end (t ∷ ts)) ≡ Ok (found, ts)
  at_end zero e = ap (with_front found) (when_on (nat_eq t end) _ _ _ (eq-eqb t end e) refl) ∙ ap (λ (us : List ℕ). Ok (us, ts)) (append-nil found)
  at_end (suc m) e = ap (with_front found) (when_on (nat_eq t end) _ _ _ (eq-eqb t end e) refl) ∙ ap (λ (us : List ℕ). Ok (us, ts)) (append-nil found)

-- what is still told after n free bytes
abbrev pub free_after : (most end : ℕ) → List ℕ → ℕ → Told (List ℕ)
free_after most end rest n = with_front (take n rest) (free_at (most - n) end (drop n rest))

module _ (most end : ℕ) (rest : List ℕ) (n : ℕ) (inside : n < length rest) where
  there : free_after most end rest n ≡ with_front (take n rest) (free_at (most - n) end (get_or rest n 0 ∷ drop (n + 1) rest))
  there = at_drop_more (λ us. with_front (take n rest) (free_at (most - n) end us)) rest n 0 inside

  pub free_going : n < most → get_or rest n 0 ≢ end → free_after most end rest (n + 1) ≡ free_after most end rest n
  free_going few ne =
      let less : most - n - 1 ≡ most - (n + 1) = omega arith in
      sym (there ∙ one_more end (take n rest) (get_or rest n 0) (drop (n + 1) rest) (most - n) (omega arith) ne
      ∙ ap (λ k. with_front (take n rest ++ get_or rest n 0 ∷ []) (free_at k end (drop (n + 1) rest))) less
      ∙ ap (λ us. with_front us (free_at (most - (n + 1)) end (drop (n + 1) rest))) (sym (take_more rest n 0 inside)))

  pub free_over : n ≡ most → get_or rest n 0 ≢ end → free_after most end rest n ≡ Err Differs
  free_over full ne =
      let none : most - n ≡ 0 = omega arith in
      there ∙ ap (λ k. with_front (take n rest) (free_at k end (get_or rest n 0 ∷ drop (n + 1) rest))) none
      ∙ one_too_many end (take n rest) (get_or rest n 0) (drop (n + 1) rest) ne

  pub free_found : get_or rest n 0 ≡ end → free_after most end rest n ≡ Ok (take n rest, drop (n + 1) rest)
  free_found e = there ∙ at_end end (take n rest) (get_or rest n 0) (drop (n + 1) rest) (most - n) e

pub free_start : (most end : ℕ) (rest : List ℕ) → free_after most end rest 0 ≡ free_at most end rest
free_start most end rest = let e : most - 0 ≡ most = omega arith in ap (λ k. with_front [] (free_at k end rest)) e ∙ go (free_at most end rest)
  where
    go : (q : Told (List ℕ)) → with_front [] q ≡ q
    go (Ok p) = refl
    go (Err m) = refl

-- a place that is counted from k on
abbrev pub moved_by : ℕ → Option ℕ → Option ℕ
moved_by k None = None
moved_by k (Some i) = Some (k + i)

-- bytes one piece after the other
pub literal_pieces : (bs cs ts : List ℕ) → literal_at (bs ++ cs) ts ≡ (literal_at bs ts >>= λ x. literal_at cs x.1)
literal_pieces [] cs ts = refl
literal_pieces (b ∷ bs) cs [] = refl
literal_pieces (b ∷ bs) cs (t ∷ ts) = go (nat_eq t b) (literal_pieces bs cs ts)
  where
    go : (k : Bool) → literal_at (bs ++ cs) ts ≡ (literal_at bs ts >>= λ x. literal_at cs x.1) → cond k (literal_at (bs ++ cs) ts) (Err Differs) ≡ (cond k (literal_at bs ts) (Err Differs) >>= λ x. literal_at cs x.1)
    go true e = e
    go false e = refl
