-- Words that are written out are prefix-free by a test.
use Rattle.std.proofs.Common.{◌≡◌, ℕ, zero, suc, ◌<◌, Bool, true, false, not, ◌||◌, List, [], ◌∷◌, ◌++◌, length, get_or, refl, ap, ◌∙◌, arith}
use Rattle.std.proofs.lemmas.Bool.{and_parts}
use Rattle.trick_codes.proofs.Fields.{behind_front}
use Rattle.trick_codes.specs.Code.{behind, is_there, are_apart, is_apart_from, all_apart, ArePrefixFree}

apart_first : (v w more : List ℕ) → are_apart v w ≡ true → w ≡ v ++ more → ⊥
apart_first v w more h e =
    let f : is_there (behind v w) ≡ true = ap (λ us. is_there (behind v us)) e ∙ ap is_there (behind_front v more) in
    let on : are_apart v w ≡ false = ap (λ b. not (b || is_there (behind w v))) f in
    absurd cc

apart_second : (v w more : List ℕ) → are_apart v w ≡ true → v ≡ w ++ more → ⊥
apart_second v w more h e = go (is_there (behind v w)) h
  where
    go : (b : Bool) → not (b || is_there (behind w v)) ≡ true → ⊥
    go true h = absurd cc
    go false h =
        let f : is_there (behind w v) ≡ true = ap (λ us. is_there (behind w us)) e ∙ ap is_there (behind_front w more) in
        absurd cc

apart_at : (w : List ℕ) (ws : List (List ℕ)) (i : ℕ) → i < length ws → is_apart_from w ws ≡ true → are_apart w (get_or ws i []) ≡ true
apart_at w [] i lt h = absurd (omega arith)
apart_at w (v ∷ ws) zero lt h = (and_parts _ _ h).0
apart_at w (v ∷ ws) (suc i) lt h = apart_at w ws i (omega arith) (and_parts _ _ h).1

pub prefix_free : (ws : List (List ℕ)) → all_apart ws ≡ true → ArePrefixFree ws
prefix_free [] h i j lt le more e = absurd (omega arith)
prefix_free (w ∷ ws) h zero zero lt le more e = refl
prefix_free (w ∷ ws) h zero (suc j) lt le more e = absurd (apart_first w (get_or ws j []) more (apart_at w ws j (omega arith) (and_parts _ _ h).0) e)
prefix_free (w ∷ ws) h (suc i) zero lt le more e = absurd (apart_second w (get_or ws i []) more (apart_at w ws i (omega arith) (and_parts _ _ h).0) e)
prefix_free (w ∷ ws) h (suc i) (suc j) lt le more e = ap suc (prefix_free ws (and_parts _ _ h).1 i j (omega arith) (omega arith) more e)
