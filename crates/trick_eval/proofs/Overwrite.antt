-- A memory that is overwritten cell by cell.
use Rattle.std.proofs.Common.{◌≡◌, ◌≢◌, ℕ, zero, suc, ◌<◌, ℤ, pos, Bool, true, false, ◌==◌, ◌||◌, List, [], ◌∷◌, length, slice_set, Option, Some, None, unwrap_or, refl, ap, sym, subst, ◌∙◌, arith, get_or-set_other, get_or-set_same}
use Rattle.std.proofs.lemmas.Bool.Decides.{nat_tests}
use Rattle.std.proofs.lemmas.List.{ext_get_or, length-set}
use Rattle.std.specs.List.{slice_index_or}
use Rattle.trick_eval.specs.Bench.{with_number}
use Rattle.trick_lang.proofs.Overwrites.{overwritten_length}
use Rattle.trick_lang.specs.Effect.{overwritten}
use Rattle.trick_eval.specs.Sparse.{has, AreAmong}

-- a cell that is not among the rest has what was stored there; where nothing was stored it has the
-- old number
pub record IsOver (stored : List (Option ℤ)) (old ns : List ℤ) (rest : List ℕ) : Type 0 where
  pub done : (c : ℕ) (n : ℤ) → slice_index_or stored c None ≡ Some n → has rest c ≡ false → slice_index_or ns c (pos 0) ≡ n
  pub kept : (c : ℕ) → slice_index_or stored c None ≡ None → slice_index_or ns c (pos 0) ≡ slice_index_or old c (pos 0)
  pub same : length ns ≡ length old

pub over_begin : (stored : List (Option ℤ)) (old : List ℤ) (places : List ℕ) → AreAmong places stored → IsOver stored old old places
over_begin stored old places among = record {
  done = λ c n is out. let within : has places c ≡ true = among c n is in cc;
  kept = λ c is. refl;
  same = refl;
}

here : (stored : List (Option ℤ)) (c : ℕ) (n : ℤ) → slice_index_or stored c None ≡ Some n → c < length stored
here [] c n h = cc
here (x ∷ xs) zero n h = omega arith
here (x ∷ xs) (suc c) n h = omega (arith, here xs c n h)

skip : (cell c : ℕ) (rest : List ℕ) → (cell == c) ≡ false → has rest c ≡ false → has (cell ∷ rest) c ≡ false
skip cell c rest e h = both (cell == c) (has rest c) e h
  where
    both : (a b : Bool) → a ≡ false → b ≡ false → (a || b) ≡ false
    both true b e h = e
    both false b e h = h

by_place : {Q : Type 0} (cell c : ℕ) → (cell ≡ c → Q) → (c ≢ cell → (cell == c) ≡ false → Q) → Q
by_place {Q = Q} cell c f g = go (cell == c) refl
  where
    go : (b : Bool) → (cell == c) ≡ b → Q
    go true e = f (grind (arith, nat_tests))
    go false e = g (grind (arith, nat_tests)) e

next_none : (stored : List (Option ℤ)) (old ns : List ℤ) (rest : List ℕ) (cell : ℕ) → slice_index_or stored cell None ≡ None → IsOver stored old ns (cell ∷ rest) → IsOver stored old ns rest
next_none stored old ns rest cell at over = record {
  done = λ c n is out. by_place cell c
      (λ same. let clash : slice_index_or stored cell None ≡ Some n = ap (λ q. slice_index_or stored q None) same ∙ is in cc)
      (λ apart e. over.done c n is (skip cell c rest e out));
  kept = over.kept;
  same = over.same;
}

next_some : (stored : List (Option ℤ)) (old ns : List ℤ) (rest : List ℕ) (cell : ℕ) (m : ℤ) → cell < length ns → slice_index_or stored cell None ≡ Some m → IsOver stored old ns (cell ∷ rest) → IsOver stored old (slice_set ns cell m) rest
next_some stored old ns rest cell m lt at over = record {
  done = λ c n is out. by_place cell c
      (λ same.
      let both : ◌≡◌ {A = Option ℤ} (Some m) (Some n) = sym at ∙ ap (λ q. slice_index_or stored q None) same ∙ is in
      let value : m ≡ n = cc in
      subst (λ q. slice_index_or (slice_set ns cell m) q (pos 0) ≡ n) same (get_or-set_same ns cell m (pos 0) lt ∙ value))
      (λ apart e. get_or-set_other ns cell c m (pos 0) apart ∙ over.done c n is (skip cell c rest e out));
  kept = λ c is. by_place cell c
      (λ same. let clash : slice_index_or stored cell None ≡ None = ap (λ q. slice_index_or stored q None) same ∙ is in cc)
      (λ apart e. get_or-set_other ns cell c m (pos 0) apart ∙ over.kept c is);
  same = length-set ns cell m ∙ over.same;
}

pub over_next : (stored : List (Option ℤ)) (old ns : List ℤ) (rest : List ℕ) (cell : ℕ) → length stored ≡ length old → IsOver stored old ns (cell ∷ rest) → IsOver stored old (with_number (slice_index_or stored cell None) cell ns) rest
over_next stored old ns rest cell long over = go (slice_index_or stored cell None) refl
  where
    go : (v : Option ℤ) → slice_index_or stored cell None ≡ v → IsOver stored old (with_number v cell ns) rest
    go None at = next_none stored old ns rest cell at over
    go (Some m) at = next_some stored old ns rest cell m (omega (arith, here stored cell m at, over.same)) at over

at_over : (stored : List (Option ℤ)) (old : List ℤ) (c : ℕ) → c < length old → slice_index_or (overwritten stored old) c (pos 0) ≡ unwrap_or (slice_index_or stored c None) (slice_index_or old c (pos 0))
at_over stored [] c h = absurd (omega arith)
at_over [] (n ∷ ns) c h = refl
at_over (v ∷ stored) (n ∷ ns) zero h = refl
at_over (v ∷ stored) (n ∷ ns) (suc c) h = at_over stored ns c (omega arith)

pub over_end : (stored : List (Option ℤ)) (old ns : List ℤ) → IsOver stored old ns [] → ns ≡ overwritten stored old
over_end stored old ns over =
    ext_get_or (pos 0) ns (overwritten stored old) (over.same ∙ sym (overwritten_length stored old))
    (λ c h. each c (slice_index_or stored c None) refl ∙ sym (at_over stored old c (omega (arith, over.same))))
  where
    each : (c : ℕ) (v : Option ℤ) → slice_index_or stored c None ≡ v → slice_index_or ns c (pos 0) ≡ unwrap_or (slice_index_or stored c None) (slice_index_or old c (pos 0))
    each c None is = over.kept c is ∙ sym (ap (λ q. unwrap_or q (slice_index_or old c (pos 0))) is)
    each c (Some n) is = over.done c n is refl ∙ sym (ap (λ q. unwrap_or q (slice_index_or old c (pos 0))) is)
