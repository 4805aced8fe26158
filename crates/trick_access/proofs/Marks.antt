-- The cells of marked blocks below one are those of marked blocks below another, where none between is marked.
use Rattle.std.proofs.Common.{◌≡◌, ℕ, zero, suc, ◌≤◌, ◌==◌, Bool, true, false, ◌&&◌, ◌||◌, List, refl, ap, sym, ◌∙◌, arith}
use Rattle.std.proofs.lemmas.Bool.Decides.{nat_tests}
use Rattle.trick_access.specs.Reached.{AreUnmarked, marked_in}
use Rattle.trick_lang.specs.Access.{is_in}
use Rattle.trick_lang.specs.declared.range.CellRange.{CellRange}

pub passed_in : (n m : ℕ) (marks : List Bool) (f : ℕ → List CellRange) (c : ℕ) → m ≤ n → AreUnmarked marks m n → marked_in n marks f c ≡ marked_in m marks f c
passed_in zero m marks f c less told =
    let none : zero ≡ m = omega arith in
    ap (λ q. marked_in q marks f c) none
passed_in (suc n) m marks f c less told = by_place (λ below. passed_in n m marks f c below (λ k from inside. told k from (omega arith))) (m == suc n) refl
  where
    by_place : (m ≤ n → marked_in n marks f c ≡ marked_in m marks f c) → (b : Bool) → (m == suc n) ≡ b → marked_in (suc n) marks f c ≡ marked_in m marks f c
    by_place deeper true e =
        let at : m ≡ suc n = grind (arith, nat_tests) in
        ap (λ q. marked_in q marks f c) (sym at)
    by_place deeper false e =
        let below : m ≤ n = grind (arith, nat_tests) in
        ap (λ q. (q && is_in (f n) c) || marked_in n marks f c) (told n below (omega arith)) ∙ deeper below
