-- The rounds in which methods stand, by the number of the round of each.
use Rattle.std.proofs.Common.{◌≡◌, ◌≢◌, ℕ, zero, suc, ◌+◌, ◌<◌, ◌≤◌, ◌==◌, Bool, true, false, cond, nat_lt, not, List, [], ◌∷◌, ◌++◌, ◌⊎◌, All, add-one, drop, filter, get_or, length, max, replicate, set, take, inl, inr, eq-eqb, refl, ap, sym, ◌∙◌, subst, arith}
use Rattle.std.proofs.Math.ListN.{length-append, length-set}
use Rattle.std.proofs.Math.Nat.{le-max_left, le-max_right, max-eq_left, max-eq_right, max-le, max-zero}
use Rattle.std.proofs.lemmas.Bool.{and_from, and_parts, cases_eq, cases_lt, eqb-true, false_from_ne_true, ltb-false, ltb-true, ne_eqb, not-true, or_cases, or_left, or_right}
use Rattle.std.proofs.lemmas.List.Elements.{filter-append}
use Rattle.std.proofs.lemmas.List.{append-nil, at_drop_all, at_drop_more, drop_more, get_or_read, length-take-le, get_or-set_other, get_or-set_same, take-append-drop, take_all, take_more}
use Rattle.std.specs.List.{range_with_len}
use Rattle.std.specs.Ordering.{is_lt, nat_cmp, ord_max}
use Rattle.std.specs.declared.cmp.Ordering.TheVariants.{Less, Equal, Greater}
use Rattle.trick_check_order.proofs.Apart.{distinct_short, stand_distinct}
use Rattle.trick_check_order.proofs.Has.{all_has, all_in_has, has_at, has_kept, has_split}
use Rattle.trick_check_order.proofs.Placed.{filter_has, filter_same, has_all_in, has_either, has_filter, has_later, has_range, range_has, rounds_below, rounds_stand, stand_split}
use Rattle.trick_check_order.proofs.Steps.{closed_push, true_false}
use Rattle.trick_check_order.specs.Calls.{AreCallees, IsOrderOf, all_in, callees, first_rounds, has, is_next, order_of, stand_after}
use Rattle.trick_check_order.specs.Rounds.{AreRounds, AreRoundsOf, in_round, round_behind}

abbrev get_at : List (List ℕ) → ℕ → List ℕ
get_at xs k = get_or xs k []

-- ---- the first round after those of some methods

pub behind_each : (rounds ms : List ℕ) (m : ℕ) → has ms m ≡ true → get_or rounds m 0 < round_behind rounds ms
behind_each rounds [] m h = absurd (cc h)
behind_each rounds (x ∷ ms) m h =
    let left = le-max_left (suc (get_or rounds x 0)) (round_behind rounds ms) in
    let right = le-max_right (suc (get_or rounds x 0)) (round_behind rounds ms) in
    elim (or_cases (x == m) _ h) [ inl p ↦ (let e = ap (λ j. get_or rounds j 0) (eqb-true x m p) in omega (arith, left, e)) | inr p ↦ omega (arith, right, behind_each rounds ms m p) ]

pub behind_least : (rounds ms : List ℕ) (d : ℕ) → ((m : ℕ) → has ms m ≡ true → get_or rounds m 0 < d) → round_behind rounds ms ≤ d
behind_least rounds [] d f = omega arith
behind_least rounds (x ∷ ms) d f = max-le (omega (arith, f x (or_left _ _ (eq-eqb x x refl)))) (behind_least rounds ms d (λ m h. f m (or_right _ _ h)))

behind_same : (rounds : List ℕ) (m r : ℕ) (ms : List ℕ) → ((c : ℕ) → has ms c ≡ true → c ≢ m) → round_behind (set rounds m r) ms ≡ round_behind rounds ms
behind_same rounds m r [] f = refl
behind_same rounds m r (x ∷ ms) f =
    ap (λ d. max (suc d) (round_behind (set rounds m r) ms)) (get_or-set_other rounds m x r 0 (f x (or_left _ _ (eq-eqb x x refl))))
    ∙ ap (max (suc (get_or rounds x 0))) (behind_same rounds m r ms (λ c h. f c (or_right _ _ h)))

-- `max` of the code
pub larger_is : (a b : ℕ) → ord_max nat_cmp a b ≡ max a b
larger_is a b = by (nat_lt b a) refl (b == a) where
  by : (t : Bool) → nat_lt b a ≡ t → (e : Bool) → cond (is_lt (cond t Less (cond e Equal Greater))) a b ≡ max a b
  by true h e = let low = ltb-true b a h in sym (max-eq_left (omega (arith, low)))
  by false h true = let low = ltb-false b a h in sym (max-eq_right (omega (arith, low)))
  by false h false = let low = ltb-false b a h in sym (max-eq_right (omega (arith, low)))

-- the next one of the methods
pub behind_more : (rounds ms : List ℕ) (i round next : ℕ) → i < length ms → max round (round_behind rounds (drop i ms)) ≡ round_behind rounds ms → next ≡ ord_max nat_cmp round (get_or rounds (get_or ms i 0) 0 + 1) → max next (round_behind rounds (drop (i + 1) ms)) ≡ round_behind rounds ms
behind_more rounds ms i round next low so_far is =
    let one : next ≡ max round (suc (get_or rounds (get_or ms i 0) 0)) = is ∙ (larger_is round _ ∙ ap (max round) (add-one (get_or rounds (get_or ms i 0) 0))) in
    let first : round_behind rounds (drop i ms) ≡ max (suc (get_or rounds (get_or ms i 0) 0)) (round_behind rounds (drop (i + 1) ms)) = at_drop_more (round_behind rounds) ms i 0 low in
    omega (arith, one, first, so_far)

pub behind_all : (rounds ms : List ℕ) (i round : ℕ) → length ms ≤ i → max round (round_behind rounds (drop i ms)) ≡ round_behind rounds ms → round ≡ round_behind rounds ms
behind_all rounds ms i round past so_far =
    let none : round_behind rounds (drop i ms) ≡ 0 = at_drop_all (round_behind rounds) ms i past in
    sym (max-zero round) ∙ (ap (max round) (sym none) ∙ so_far)

-- ---- one method of an order after another

pub none_placed : (g : List (List ℕ)) (rounds : List ℕ) → length rounds ≡ length g → AreRoundsOf g [] rounds
none_placed g rounds many = record {
  many = many;
  behind = λ k h. absurd (cc h);
  low = λ k h. absurd (cc h);
  closed = λ k c h call. absurd (cc h);
}

one_more : (g : List (List ℕ)) (front rounds : List ℕ) (m : ℕ) → AreRoundsOf g front rounds → m < length g → has front m ≡ false → all_in (callees g m) front ≡ true → AreRoundsOf g (front ++ m ∷ []) (set rounds m (round_behind rounds (callees g m)))
one_more g front rounds m r low fresh all = record {
  many = length-set rounds m round ∙ r.many;
  behind = λ k h. elim (has_split front m k h) [ inl p ↦ kept k p | inr p ↦ subst (λ j. get_or (set rounds m round) j 0 ≡ round_behind (set rounds m round) (callees g j)) p here ];
  low = λ k h. elim (has_split front m k h) [ inl p ↦ omega (arith, more, r.low k p, ap (λ n. n) (get_or-set_other rounds m k round 0 (away k p))) | inr p ↦ omega (arith, more, ap (λ j. get_or (set rounds m round) j 0) p, placed, behind_least rounds (callees g m) (length front) (λ c h. r.low c (all_in_has (callees g m) front c all h))) ];
  closed = closed_push g front m r.closed all;
} where
  round : ℕ
  round = round_behind rounds (callees g m)

  more : length (front ++ m ∷ []) ≡ length front + 1
  more = length-append front (m ∷ [])

  away : (k : ℕ) → has front k ≡ true → k ≢ m
  away k h e = true_false (has front m) (subst (λ j. has front j ≡ true) e h) fresh

  placed : get_or (set rounds m round) m 0 ≡ round
  placed = get_or-set_same rounds m round 0 (omega (arith, low, r.many))

  kept : (k : ℕ) → has front k ≡ true → get_or (set rounds m round) k 0 ≡ round_behind (set rounds m round) (callees g k)
  kept k h = get_or-set_other rounds m k round 0 (away k h) ∙ (r.behind k h ∙ sym (behind_same rounds m round (callees g k) (λ c call. away c (r.closed k c h call))))

  here : get_or (set rounds m round) m 0 ≡ round_behind (set rounds m round) (callees g m)
  here = placed ∙ sym (behind_same rounds m round (callees g m) (λ c call. away c (all_in_has (callees g m) front c all call)))

-- what is known of the next method of an order
pub next_stands : (g : List (List ℕ)) (order : List ℕ) (i m : ℕ) → IsOrderOf g order → i < length order → m ≡ get_or order i 0 → (m < length g) × (has (take i order) m ≡ false) × (all_in (callees g m) (take i order) ≡ true)
next_stands g order i m o low is =
    let s = stand_split g [] (take i order) (get_or order i 0 ∷ drop (i + 1) order) (subst (λ q. stand_after g [] q ≡ true) (sym (take-append-drop i order) ∙ ap (λ q. take i order ++ q) (drop_more order i 0 low)) o.0) in
    let first = and_parts _ _ (and_parts _ _ s).0 in (
      subst (λ j. j < length g) (sym is) (o.2 _ (has_at order i low)),
      subst (λ j. has (take i order) j ≡ false) (sym is) (not-true _ first.0),
      subst (λ j. all_in (callees g j) (take i order) ≡ true) (sym is) first.1,
    )

pub next_placed : (g : List (List ℕ)) (order rounds : List ℕ) (i m : ℕ) → IsOrderOf g order → i < length order → m ≡ get_or order i 0 → AreRoundsOf g (take i order) rounds → AreRoundsOf g (take (i + 1) order) (set rounds m (round_behind rounds (callees g m)))
next_placed g order rounds i m o low is r =
    let s = next_stands g order i m o low is in
    subst (λ q. AreRoundsOf g q (set rounds m (round_behind rounds (callees g m)))) (sym (take_more order i 0 low ∙ ap (λ j. take i order ++ j ∷ []) (sym is))) (one_more g (take i order) rounds m r s.0 s.1 s.2)

pub order_short : (g : List (List ℕ)) (order : List ℕ) → IsOrderOf g order → length order ≤ length g
order_short g order o = distinct_short order (length g) (stand_distinct g [] order o.0) o.2

pub all_placed : (g : List (List ℕ)) (order rounds : List ℕ) (i : ℕ) → IsOrderOf g order → length order ≤ i → AreRoundsOf g (take i order) rounds → AreRounds g rounds
all_placed g order rounds i o past r =
    let s = subst (λ q. AreRoundsOf g q rounds) (take_all i order past) r in record {
      many = s.many;
      behind = λ k low. s.behind k (o.1 k low);
      low = λ k low. omega (arith, s.low k (o.1 k low), order_short g order o);
    }

-- ---- what the code reads

pub callees_there : (g : List (List ℕ)) (rounds cs now : List ℕ) (m : ℕ) → AreCallees g → length rounds ≡ length g → now ≡ rounds → cs ≡ callees g m → All (λ k. k < length now) cs
callees_there g rounds cs now m are many same is = all_has (λ k. k < length now) cs (λ k h. omega (arith, are m k (subst (λ q. has q k ≡ true) is h), many, ap length same))

pub callees_low : (g : List (List ℕ)) (order rounds cs now : List ℕ) (i m : ℕ) → IsOrderOf g order → i < length order → m ≡ get_or order i 0 → AreRoundsOf g (take i order) rounds → now ≡ rounds → cs ≡ callees g m → All (λ k. get_or now k 0 < length now) cs
callees_low g order rounds cs now i m o low is r same are =
    let s = next_stands g order i m o low is in
    let front : length (take i order) ≡ i = length-take-le i order (omega arith) in
    all_has (λ k. get_or now k 0 < length now) cs
    (λ k h.
    let at = r.low k (all_in_has (callees g m) (take i order) k s.2 (subst (λ q. has q k ≡ true) are h)) in
    omega (arith, at, front, order_short g order o, r.many, ap length same, ap (λ q. get_or q k 0) same))

pub empty_at : (n k : ℕ) → get_at (replicate n []) k ≡ []
empty_at zero k = refl
empty_at (suc n) zero = refl
empty_at (suc n) (suc k) = empty_at n k

range_push : (n a b : ℕ) → b ≡ a + n → range_with_len a (suc n) ≡ range_with_len a n ++ b ∷ []
range_push zero a b e = let same : a ≡ b = omega (arith, e) in ap (λ x. x ∷ []) same
range_push (suc n) a b e = ap (λ xs. a ∷ xs) (range_push n (a + 1) b (omega (arith, e)))

more_round : (rounds : List ℕ) (i k : ℕ) → in_round rounds (i + 1) k ≡ in_round rounds i k ++ cond (get_or rounds i 0 == k) (i ∷ []) []
more_round rounds i k =
    ap (λ n. in_round rounds n k) (add-one i)
    ∙ (ap (filter (λ m. get_or rounds m 0 == k)) (range_push i 0 i (omega arith)) ∙ filter-append (λ m. get_or rounds m 0 == k) (range_with_len 0 i) (i ∷ []))

-- one method more is in its round
pub put_one : (rounds : List ℕ) (found after : List (List ℕ)) (i : ℕ) → length found ≡ length rounds → i < length rounds → All (λ r. r < length rounds) rounds → ((k : ℕ) → get_or found k [] ≡ in_round rounds i k) → after ≡ set found (get_or rounds i 0) (get_or found (get_or rounds i 0) [] ++ i ∷ []) → (k : ℕ) → get_or after k [] ≡ in_round rounds (i + 1) k
put_one rounds found after i many low all told is k = ap (λ q. get_or q k []) is ∙ (by (cases_eq k (get_or rounds i 0)) ∙ sym (more_round rounds i k)) where
  r : ℕ
  r = get_or rounds i 0

  new : List ℕ
  new = get_or found r [] ++ i ∷ []

  by : (k ≡ r) ⊎ (k ≢ r) → get_or (set found r new) k [] ≡ in_round rounds i k ++ cond (r == k) (i ∷ []) []
  by (inl e) =
      ap (get_at (set found r new)) e
      ∙ (get_or-set_same found r new [] (omega (arith, all i 0 low, many))
      ∙ (ap (λ q. q ++ i ∷ []) (ap (get_at found) (sym e) ∙ told k) ∙ ap (λ b. in_round rounds i k ++ cond b (i ∷ []) []) (sym (eq-eqb r k (sym e)))))
  by (inr e) =
      get_or-set_other found r k new [] e
      ∙ (told k ∙ (sym (append-nil (in_round rounds i k)) ∙ ap (λ b. in_round rounds i k ++ cond b (i ∷ []) []) (sym (ne_eqb r k (λ s. e (sym s))))))

-- ---- which methods the first rounds have

pub placed_low : (g : List (List ℕ)) (rounds : List ℕ) → AreRounds g rounds → (n k : ℕ) → has (first_rounds g n) k ≡ true → get_or rounds k 0 < n
placed_low g rounds r zero k h = absurd (cc h)
placed_low g rounds r (suc n) k h = elim (has_either (first_rounds g n) _ k h) [ inl p ↦ omega (arith, placed_low g rounds r n k p) | inr p ↦ next (λ c q. placed_low g rounds r n c q) p ] where
  next : ((c : ℕ) → has (first_rounds g n) c ≡ true → get_or rounds c 0 < n) → has (filter (is_next g (first_rounds g n)) (range_with_len 0 (length g))) k ≡ true → get_or rounds k 0 < suc n
  next f p =
      let q = filter_has (is_next g (first_rounds g n)) (range_with_len 0 (length g)) k p in
      let low : k < length g = omega (arith, (range_has (length g) 0 k q.0).1) in
      let all = (and_parts (not (has (first_rounds g n) k)) (all_in (callees g k) (first_rounds g n)) q.1).1 in
      omega (arith, r.behind k low, behind_least rounds (callees g k) n (λ c call. f c (all_in_has (callees g k) (first_rounds g n) c all call)))

follows : (g : List (List ℕ)) (rounds : List ℕ) → AreCallees g → AreRounds g rounds → (n k : ℕ) → ((c : ℕ) → c < length g → get_or rounds c 0 < n → has (first_rounds g n) c ≡ true) → k < length g → get_or rounds k 0 ≡ n → is_next g (first_rounds g n) k ≡ true
follows g rounds are r n k f low e =
    and_from _ _ (ap not (false_from_ne_true _ (λ (h : has (first_rounds g n) k ≡ true). omega (arith, placed_low g rounds r n k h, e)))) (has_all_in (callees g k) (first_rounds g n) (λ c call. f c (are k c call) (omega (arith, behind_each rounds (callees g k) c call, r.behind k low, e))))

pub low_placed : (g : List (List ℕ)) (rounds : List ℕ) → AreCallees g → AreRounds g rounds → (n k : ℕ) → k < length g → get_or rounds k 0 < n → has (first_rounds g n) k ≡ true
low_placed g rounds are r zero k low h = absurd (omega arith)
low_placed g rounds are r (suc n) k low h = elim (cases_lt (get_or rounds k 0) n) [ inl p ↦ has_kept (first_rounds g n) _ k (low_placed g rounds are r n k low p) | inr p ↦ has_later (first_rounds g n) _ k (has_filter (is_next g (first_rounds g n)) (range_with_len 0 (length g)) k (has_range (length g) 0 k (omega arith) (omega arith)) (follows g rounds are r n k (λ c l d. low_placed g rounds are r n c l d) low (omega (arith, p, h)))) ]

same_test : (x y : Bool) → (x ≡ true → y ≡ true) → (y ≡ true → x ≡ true) → x ≡ y
same_test true y f b = sym (f refl)
same_test false true f b = b refl
same_test false false f b = refl

-- the methods of the next round are those of its number
pub next_round : (g : List (List ℕ)) (rounds : List ℕ) → AreCallees g → AreRounds g rounds → (n : ℕ) → first_rounds g n ++ in_round rounds (length g) n ≡ first_rounds g (n + 1)
next_round g rounds are r n = ap (λ q. first_rounds g n ++ q) (sym (filter_same _ _ (range_with_len 0 (length g)) (λ k h. same k (omega (arith, (range_has (length g) 0 k h).1))))) ∙ ap (first_rounds g) (sym (add-one n)) where
  there : (k : ℕ) → k < length g → is_next g (first_rounds g n) k ≡ true → get_or rounds k 0 ≡ n
  there k low t =
      let parts = and_parts (not (has (first_rounds g n) k)) (all_in (callees g k) (first_rounds g n)) t in
      let out = not-true (has (first_rounds g n) k) parts.0 in
      let high = r.behind k low in
      let least = behind_least rounds (callees g k) n (λ c call. placed_low g rounds r n c (all_in_has (callees g k) (first_rounds g n) c parts.1 call)) in
      elim (cases_lt (get_or rounds k 0) n) [ inl p ↦ true_false (has (first_rounds g n) k) (low_placed g rounds are r n k low p) out | inr p ↦ omega (arith, p, high, least) ]

  same : (k : ℕ) → k < length g → is_next g (first_rounds g n) k ≡ (get_or rounds k 0 == n)
  same k low = same_test _ _ (λ t. eq-eqb _ _ (there k low t)) (λ t. follows g rounds are r n k (λ c l d. low_placed g rounds are r n c l d) low (eqb-true _ _ t))

-- the methods of one round more
pub next_found : (g : List (List ℕ)) (rounds rs : List ℕ) (lists : List (List ℕ)) (i : ℕ) (found after now item : List ℕ) → AreCallees g → AreRounds g rounds → rs ≡ rounds → ((k : ℕ) → get_or lists k [] ≡ in_round rs (length rs) k) → i < length lists → item ≡ get_or lists i item → now ≡ item → found ≡ first_rounds g i → after ≡ found ++ now → after ≡ first_rounds g (i + 1)
next_found g rounds rs lists i found after now item are r same told low is now_is found_is after_is =
    let one : now ≡ in_round rounds (length g) i =
    now_is ∙ (get_or_read lists i item low is [] ∙ (told i ∙ (ap (λ q. in_round q (length q) i) same ∙ ap (λ n. in_round rounds n i) r.many))) in
    after_is ∙ (ap (λ q. q ++ now) found_is ∙ (ap (λ q. first_rounds g i ++ q) one ∙ next_round g rounds are r i))

pub rounds_order : (g : List (List ℕ)) (rounds : List ℕ) → AreCallees g → AreRounds g rounds → IsOrderOf g (order_of g)
rounds_order g rounds are r = (rounds_stand g (length g), λ k low. low_placed g rounds are r (length g) k low (r.low k low), λ k h. rounds_below g (length g) k h)
