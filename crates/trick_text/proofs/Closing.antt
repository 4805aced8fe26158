-- The search for `*/`, one byte on.
use Rattle.std.proofs.Common.{◌≡◌, ℕ, ◌+◌, false, List, ◌∷◌, Option, Some, None, arith, refl, sym, ap, ◌∙◌}
use Rattle.std.specs.Prelude.{codes, option_map}
use Rattle.trick_text.specs.Pieces.{begins, before_close}

-- the same, n bytes on
abbrev pub further : ℕ → Option ℕ → Option ℕ
further n o = option_map (λ k. n + k) o

further_one : (n : ℕ) (o : Option ℕ) → further n (option_map (λ k. 1 + k) o) ≡ further (n + 1) o
further_one n None = refl
further_one n (Some k) = ap (λ j. Some j) (omega arith)

not_yet : (b : ℕ) (bs : List ℕ) → begins (codes "*/") (b ∷ bs) ≡ false → before_close (b ∷ bs) ≡ option_map (λ k. 1 + k) (before_close bs)
not_yet b bs h = rw h refl

pub close_step : (n b : ℕ) (bs : List ℕ) → begins (codes "*/") (b ∷ bs) ≡ false → further (n + 1) (before_close bs) ≡ further n (before_close (b ∷ bs))
close_step n b bs h = sym (ap (further n) (not_yet b bs h) ∙ further_one n (before_close bs))
