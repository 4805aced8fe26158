-- The passes of a lock without the first.
use Rattle.std.proofs.Common.{◌≡◌, ℕ, ◌+◌, ◌<◌, List, [], ◌∷◌, ◌++◌, ◌∙◌, Some, length, map, slice_get, arith, subst, sym}
use Rattle.std.proofs.lemmas.List.{map-append}
use Rattle.std.proofs.lemmas.List.Edits.{get_or-remove_above, length-remove}
use Rattle.std.proofs.lemmas.List.Elements.{All-push}
use Rattle.std.proofs.lemmas.Option.{slice_get-get_or, slice_get_read}
use Rattle.std.specs.List.{remove, slice_index_or}
use Rattle.std.specs.Prelude.{All}
use Rattle.trick_turn.specs.Passes.{AreDealt, IsDealt, IsPassOf, Rests}
use Rattle.trick_turn.specs.declared.lock.TurnLock.{TurnLock}
use Rattle.trick_turn.specs.declared.pass.Pass.{Pass}

-- the first of them
pub first_dealt : {B E : Type 0} (lock : TurnLock B E) (seats : ℕ) (passes : List (Pass B E)) (pass : Pass B E) → 0 < seats → AreDealt lock seats passes → pass ≡ slice_index_or passes 0 pass
    → IsDealt lock 1 seats pass
first_dealt lock seats passes pass some dealt is = dealt.first pass (slice_get_read passes seats 0 pass (sym dealt.count) some is)

-- the first and the others are all
pub first_and_others : {A : Type 0} (xs : List A) (x : A) → 0 < length xs → x ≡ slice_index_or xs 0 x → xs ≡ x ∷ remove xs 0
first_and_others [] x some is = absurd (omega arith)
first_and_others (y ∷ xs) x some is = λ i. sym is i ∷ xs

pub others_rest : {B E : Type 0} (lock : TurnLock B E) (seats : ℕ) (passes : List (Pass B E)) → 0 < seats → AreDealt lock seats passes → All (λ p. IsPassOf lock p × Rests p) (remove passes 0)
others_rest {B} {E} lock seats passes some dealt = λ k d less.
    let many : 0 < length passes = subst (λ (n : ℕ). 0 < n) (sym dealt.count) some in
    let fewer = length-remove passes 0 many in
    let pass = slice_index_or passes (k + 1) d in
    let got : slice_get passes (k + 1) ≡ Some pass = slice_get-get_or passes (k + 1) d (omega (arith, fewer, less)) in
    let other = dealt.others (k + 1) pass (omega arith) got in
    subst (λ (p : Pass B E). IsPassOf lock p × Rests p) (sym (get_or-remove_above passes 0 d k (omega arith) many)) (other.0, other.1)

-- one more hand, with the next pass and the same lock
pub hands_more : {H P L : Type 0} (pass_of : H → P) (lock_of : H → L) (lock : L) (hands : List H) (hand : H) (passes : List P) (pass : P) → map pass_of hands ≡ passes → All (λ h. lock_of h ≡ lock) hands
    → pass_of hand ≡ pass → lock_of hand ≡ lock → (map pass_of (hands ++ hand ∷ []) ≡ passes ++ pass ∷ []) × All (λ h. lock_of h ≡ lock) (hands ++ hand ∷ [])
hands_more pass_of lock_of lock hands hand passes pass same all is own =
    (map-append pass_of hands (hand ∷ []) ∙ (λ i. same i ++ is i ∷ []), All-push (λ h. lock_of h ≡ lock) hands hand all own)
