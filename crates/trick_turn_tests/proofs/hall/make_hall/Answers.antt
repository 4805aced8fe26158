use Rattle.std.proofs.Common.{◌≡◌, ◌∙◌, sym, ap, subst, lit<, List, [], ◌∷◌, ◌++◌, length, Some, Option, option_to_list, slice_get, arith, refl, length-append}
use Rattle.trick_turn_tests.proofs.hall.make_hall.Goals as goal

third : {A : Type 0} (ys : List A) (x : A) → length (ys ++ x ∷ []) ≡ 3 → slice_get (ys ++ x ∷ []) 2 ≡ Some x
third [] x h = absurd (omega arith)
third (a ∷ []) x h = absurd (omega arith)
third (a ∷ b ∷ []) x h = refl
third (a ∷ b ∷ d ∷ ys) x h = absurd (omega (arith, length-append ys (x ∷ [])))

-- the last of three
last_of : {A : Type 0} (xs ys : List A) (r : Option A) (x : A) → xs ≡ ys ++ option_to_list r → r ≡ Some x → length xs ≡ 3 → slice_get xs 2 ≡ Some x
last_of {A} xs ys r x e is long = let f : xs ≡ ys ++ x ∷ [] = e ∙ ap (λ (o : Option A). ys ++ option_to_list o) is in
    subst (λ (l : List A). length l ≡ 3 → slice_get l 2 ≡ Some x) (sym f) (third ys x) long

pub new-requires-5 : goal.new-requires-5
new-requires-5 g c = let t = c.in_ok-lock.ensures.others 2 c.unwrap-third.result (lit< tt) (last_of _ _ _ _ c.pop.ensures.items c.unwrap-third.ensures c.in_ok-lock.ensures.count) in
    (t.0 ∙ ap (λ l. l.table.shared.table_id) (sym c.in_ok-lock-2.ensures.ok), t.1)
