-- Numbers that rise.
use Rattle.std.proofs.Common.{◌≡◌, ◌∙◌, ℕ, ◌<◌, List, [], ◌∷◌, ◌++◌, Bool, true, false, not, nat_lt, ap, arith, refl}
use Rattle.std.proofs.Math.Bool.{or-true}
use Rattle.std.proofs.lemmas.Bool.{and_from}
use Rattle.std.proofs.lemmas.Bool.Decides.{nat_tests}
use Rattle.std.specs.List.{list_any}
use Rattle.std.specs.Prelude.{◌==◌, ◌||◌, cond, filter}
use Rattle.trick_base.proofs.Numbers.{equal_to_itself}
use Rattle.trick_exec_turn.specs.Known.{Below}
use Rattle.trick_exec_entries.proofs.PlaceLemmas.{rises_head, rises_tail}
use Rattle.trick_model.specs.Valid.{rises}

-- all of these numbers are above one
abbrev pub Above : ℕ → List ℕ → Type 0
Above n [] = Unit {0}
Above n (m ∷ ms) = (n < m) × Above n ms

above_weaker : (n m : ℕ) (ms : List ℕ) → n < m → Above m ms → Above n ms
above_weaker n m [] less all = tt
above_weaker n m (k ∷ ms) less all = (omega (arith, all.0), above_weaker n m ms less all.1)

pub rises_above : (n : ℕ) (ns : List ℕ) → rises (n ∷ ns) ≡ true → Above n ns
rises_above n [] r = tt
rises_above n (m ∷ ms) r = (rises_head n m ms r, above_weaker n m ms (rises_head n m ms r) (rises_above m ms (rises_tail n (m ∷ ms) r)))

less : (n m : ℕ) → n < m → nat_lt n m ≡ true
less n m l = grind (arith, nat_tests)

pub rises_cons : (n : ℕ) (ns : List ℕ) → Above n ns → rises ns ≡ true → rises (n ∷ ns) ≡ true
rises_cons n [] above r = refl
rises_cons n (m ∷ ms) above r = and_from (nat_lt n m) (rises (m ∷ ms)) (less n m above.0) r

above_push : (n k : ℕ) (ns : List ℕ) → n < k → Above n ns → Above n (ns ++ k ∷ [])
above_push n k [] l above = (l, tt)
above_push n k (m ∷ ms) l above = (above.0, above_push n k ms l above.1)

pub rises_push : (h n : ℕ) (ns : List ℕ) → rises ns ≡ true → Below h ns → h < n → rises (ns ++ n ∷ []) ≡ true
rises_push h n [] r below l = refl
rises_push h n (m ∷ ms) r below l =
    rises_cons m (ms ++ n ∷ []) (above_push m n ms (omega (arith, below.0)) (rises_above m ms r)) (rises_push h n ms (rises_tail m ms r) below.1 l)

pub below_push : (h n : ℕ) (ns : List ℕ) → Below h ns → h < n → Below n (ns ++ n ∷ [])
below_push h n [] below l = (omega arith, tt)
below_push h n (m ∷ ms) below l = (omega (arith, below.0), below_push h n ms below.1 l)

same_not : (n m : ℕ) → n < m → (m == n) ≡ false
same_not n m l = grind (arith, nat_tests)

-- a number that all are above is none of them
pub filter_above : (n : ℕ) (ns : List ℕ) → Above n ns → filter (λ other. not (other == n)) ns ≡ ns
filter_above n [] above = refl
filter_above n (m ∷ ms) above =
    ap (λ (b : Bool). cond (not b) (m ∷ filter (λ other. not (other == n)) ms) (filter (λ other. not (other == n)) ms)) (same_not n m above.0)
    ∙ ap (λ (l : List ℕ). m ∷ l) (filter_above n ms above.1)

or_some : (a b c : Bool) → (a || b) ≡ true → (b ≡ true → c ≡ true) → (a || c) ≡ true
or_some true b c e more = refl
or_some false b c e more = more e

-- what is among the first is among all
pub any_more : (f : ℕ → Bool) (ns ms : List ℕ) → list_any f ns ≡ true → list_any f (ns ++ ms) ≡ true
any_more f [] ms e = cc e
any_more f (n ∷ ns) ms e = or_some (f n) (list_any f ns) (list_any f (ns ++ ms)) e (any_more f ns ms)

pub any_first : (n : ℕ) (ns : List ℕ) → list_any (λ m. m == n) (n ∷ ns) ≡ true
any_first n ns = ap (λ (b : Bool). b || list_any (λ m. m == n) ns) (equal_to_itself n)

pub any_later : (f : ℕ → Bool) (n : ℕ) (ns : List ℕ) → list_any f ns ≡ true → list_any f (n ∷ ns) ≡ true
any_later f n ns e = ap (λ (b : Bool). f n || b) e ∙ or-true (f n)
