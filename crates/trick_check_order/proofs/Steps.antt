-- The steps of a search for an order.
use Rattle.std.proofs.Common.{◌≡◌, ◌≢◌, ℕ, zero, suc, ◌+◌, ◌<◌, ◌≤◌, ◌-◌, Bool, true, false, ◌&&◌, ◌||◌, not, List, [], ◌∷◌, ◌++◌, length, take, get_or, set, replicate, ◌⊎◌, inl, inr, refl, ap, sym, ◌∙◌, subst, arith}
use Rattle.std.proofs.Math.ListN.{length-set, length-replicate}
use Rattle.std.proofs.lemmas.Bool.{and_from, and_parts, cases_eq, cases_lt, false_from_ne_true, not-true, or_cases, or_left, or_right}
use Rattle.std.proofs.lemmas.List.{get_or-set_same, get_or-set_other, append_assoc, take_more}
use Rattle.trick_check_order.proofs.Has.{has_push, has_kept, has_other, has_split, all_in_has, all_in_more, all_in_push}
use Rattle.trick_check_order.specs.Calls.{has, all_in, callees, are_distinct, is_linked, stand_after, Reaches, ReachesItself, IsOrderOf}
use Rattle.trick_check_order.specs.Searching.{Searching, left_in, left_at, left_of, total}

-- ---- totals

total_same : (n : ℕ) (f h : ℕ → ℕ) → ((j : ℕ) → j < n → h j ≡ f j) → total n h ≡ total n f
total_same zero f h same = refl
total_same (suc n) f h same = omega (arith, same n (omega arith), total_same n f h (λ j x. same j (omega arith)))

total_falls : (n : ℕ) (f h : ℕ → ℕ) (k : ℕ) → k < n → ((j : ℕ) → j ≢ k → h j ≡ f j) → h k < f k → total n h < total n f
total_falls zero f h k low same less = absurd (omega arith)
total_falls (suc n) f h k low same less = elim (cases_eq n k) [ inl e ↦ omega (arith, subst (λ j. h j < f j) (sym e) less, total_same n f h (λ j x. same j (λ y. absurd (omega arith)))) | inr e ↦ omega (arith, same n e, total_falls n f h k (omega (arith, e)) same less) ]

-- ---- lists

pub true_false : {A : Type 0} (b : Bool) → b ≡ true → b ≡ false → A
true_false b p q = absurd (cc (p, q))

no_such : (xs : List ℕ) (k c : ℕ) → has xs c ≡ false → has xs k ≡ true → c ≢ k
no_such xs k c out inside e = true_false (has xs k) inside (subst (λ j. has xs j ≡ false) e out)

-- the last of a list whose items are distinct is not in front of it
distinct_front : (xs : List ℕ) (c : ℕ) → are_distinct (xs ++ c ∷ []) ≡ true → (are_distinct xs ≡ true) × (has xs c ≡ false)
distinct_front [] c h = (refl, refl)
distinct_front (x ∷ xs) c h =
    let p = and_parts _ _ h in
    let q = distinct_front xs c p.1 in
    let away : has (xs ++ c ∷ []) x ≡ false = not-true _ p.0 in
    (and_from _ _ (ap not (false_from_ne_true _ (has_back xs c x away))) q.0, other (x ≢ c) (λ e. true_false (has (xs ++ c ∷ []) x) (subst (λ j. has (xs ++ c ∷ []) j ≡ true) (sym e) (has_push xs c)) away) q.1) where
      has_back : (xs : List ℕ) (c x : ℕ) → has (xs ++ c ∷ []) x ≡ false → has xs x ≡ true → ⊥
      has_back xs c x away h = true_false _ (has_kept xs (c ∷ []) x h) away

      other : (T : Type 0) → (x ≡ c → ⊥) → has xs c ≡ false → has (x ∷ xs) c ≡ false
      other T n h = false_from_ne_true _ (λ e. elim (or_cases _ (has xs c) e) [ inl p ↦ n (Rattle.std.proofs.lemmas.Bool.eqb-true x c p) | inr p ↦ true_false (has xs c) p h ])

distinct_push : (xs : List ℕ) (c : ℕ) → are_distinct xs ≡ true → has xs c ≡ false → are_distinct (xs ++ c ∷ []) ≡ true
distinct_push [] c h out = refl
distinct_push (x ∷ xs) c h out =
    let p = and_parts _ _ h in
    and_from _ _ (ap not (has_other xs c x (λ e. true_false _ (or_left _ (has xs c) (Rattle.std.proofs.Common.eq-eqb x c (sym e))) out)) ∙ p.0) (distinct_push xs c p.1 (false_from_ne_true _ (λ e. true_false _ (or_right _ (has xs c) e) out)))

linked_front : (g : List (List ℕ)) (xs : List ℕ) (c : ℕ) → is_linked g (xs ++ c ∷ []) ≡ true → is_linked g xs ≡ true
linked_front g [] c h = refl
linked_front g (a ∷ []) c h = refl
linked_front g (a ∷ b ∷ xs) c h = and_from _ _ (and_parts _ _ h).0 (linked_front g (b ∷ xs) c (and_parts _ _ h).1)

pub linked_push : (g : List (List ℕ)) (xs : List ℕ) (a c : ℕ) → is_linked g (xs ++ a ∷ []) ≡ true → has (callees g a) c ≡ true → is_linked g ((xs ++ a ∷ []) ++ c ∷ []) ≡ true
linked_push g [] a c h k = and_from _ _ k refl
linked_push g (x ∷ []) a c h k = and_from _ _ (and_parts _ _ h).0 (and_from _ _ k refl)
linked_push g (x ∷ y ∷ xs) a c h k = and_from _ _ (and_parts _ _ h).0 (linked_push g (y ∷ xs) a c (and_parts _ _ h).1 k)

-- each method on the stack reaches what the last one calls
pub linked_reaches : (g : List (List ℕ)) (xs : List ℕ) (a c k : ℕ) → is_linked g (xs ++ a ∷ []) ≡ true → has (callees g a) c ≡ true → has (xs ++ a ∷ []) k ≡ true → (n : ℕ) × Reaches g n k c
linked_reaches g [] a c k h call here = elim (has_split [] a k here) [ inl x ↦ absurd (cc x) | inr x ↦ (0, subst (λ j. has (callees g j) c ≡ true) x call) ]
linked_reaches g (x ∷ xs) a c k h call here = elim (or_cases _ (has (xs ++ a ∷ []) k) here) [ inl e ↦ subst (λ j. (n : ℕ) × Reaches g n j c) (Rattle.std.proofs.lemmas.Bool.eqb-true x k e) (from_first g x xs a c h (linked_reaches g xs a c (head_of xs a) (tail_linked g x xs a h) call (head_in xs a))) | inr e ↦ linked_reaches g xs a c k (tail_linked g x xs a h) call e ] where
  head_of : List ℕ → ℕ → ℕ
  head_of [] a = a
  head_of (y ∷ ys) a = y

  head_in : (ys : List ℕ) (a : ℕ) → has (ys ++ a ∷ []) (head_of ys a) ≡ true
  head_in [] a = has_push [] a
  head_in (y ∷ ys) a = or_left _ _ (Rattle.std.proofs.Common.eq-eqb y y refl)

  tail_linked : (g : List (List ℕ)) (x : ℕ) (ys : List ℕ) (a : ℕ) → is_linked g (x ∷ (ys ++ a ∷ [])) ≡ true → is_linked g (ys ++ a ∷ []) ≡ true
  tail_linked g x [] a h = refl
  tail_linked g x (y ∷ ys) a h = (and_parts _ _ h).1

  from_first : (g : List (List ℕ)) (x : ℕ) (ys : List ℕ) (a c : ℕ) → is_linked g (x ∷ (ys ++ a ∷ [])) ≡ true → (n : ℕ) × Reaches g n (head_of ys a) c → (n : ℕ) × Reaches g n x c
  from_first g x [] a c h r = (suc r.0, (a, (and_parts _ _ h).0, r.1))
  from_first g x (y ∷ ys) a c h r = (suc r.0, (y, (and_parts _ _ h).0, r.1))

-- an order, and one method more
stand_push : (g : List (List ℕ)) (seen ms : List ℕ) (m : ℕ) → stand_after g seen ms ≡ true → has (seen ++ ms) m ≡ false → all_in (callees g m) (seen ++ ms) ≡ true → stand_after g seen (ms ++ m ∷ []) ≡ true
stand_push g seen [] m h out all = and_from _ _ (and_from _ _ (ap not (subst (λ xs. has xs m ≡ false) (append_none seen) out)) (subst (λ xs. all_in (callees g m) xs ≡ true) (append_none seen) all)) refl where
  append_none : (xs : List ℕ) → xs ++ [] ≡ xs
  append_none [] = refl
  append_none (x ∷ xs) = ap (λ ys. x ∷ ys) (append_none xs)
stand_push g seen (x ∷ ms) m h out all =
    let e = append_assoc seen (x ∷ []) ms in
    and_from _ _ (and_parts _ _ h).0 (stand_push g (seen ++ x ∷ []) ms m (and_parts _ _ h).1 (subst (λ xs. has xs m ≡ false) (sym e) out) (subst (λ xs. all_in (callees g m) xs ≡ true) (sym e) all))

-- ---- the steps

pub advanced : (g : List (List ℕ)) (done stacked : List Bool) (next order stack : List ℕ) (root m : ℕ) → Searching g done stacked next order stack root → has stack m ≡ true → get_or next m 0 < length (callees g m) → has order (get_or (callees g m) (get_or next m 0) 0) ≡ true → Searching g done stacked (set next m (get_or next m 0 + 1)) order stack root × (left_in g done stacked (set next m (get_or next m 0 + 1)) root < left_in g done stacked next root)
advanced g done stacked next order stack root m s here more callee = (
  record {
    done_size = s.done_size;
    stacked_size = s.stacked_size;
    next_size = length-set next m (n + 1) ∙ s.next_size;
    done_is = s.done_is;
    stacked_is = s.stacked_is;
    stack_below = s.stack_below;
    order_below = s.order_below;
    apart = s.apart;
    ready = λ k h. elim (cases_eq k m) [ inl e ↦ subst (λ j. all_in (take (get_or (set next m (n + 1)) j 0) (callees g j)) order ≡ true) (sym e) ready_here | inr e ↦ subst (λ i. all_in (take i (callees g k)) order ≡ true) (sym (get_or-set_other next m k (n + 1) 0 e)) (s.ready k h) ];
    linked = s.linked;
    distinct = s.distinct;
    ordered = s.ordered;
    begun = s.begun;
  },
  falls,
) where
  n : ℕ
  n = get_or next m 0

  low : m < length next
  low = omega (arith, s.stack_below m here, s.next_size)

  ready_here : all_in (take (get_or (set next m (n + 1)) m 0) (callees g m)) order ≡ true
  ready_here = subst (λ i. all_in (take i (callees g m)) order ≡ true) (sym (get_or-set_same next m (n + 1) 0 low)) (subst (λ xs. all_in xs order ≡ true) (sym (take_more (callees g m) n 0 more)) (all_in_push (take n (callees g m)) _ order (s.ready m here) callee))

  left_here : left_at g done stacked (set next m (n + 1)) m < left_at g done stacked next m
  left_here =
      let d : get_or done m false ≡ false = s.done_is m ∙ s.apart m here in
      let o : get_or stacked m false ≡ true = s.stacked_is m ∙ here in
      let a : left_at g done stacked (set next m (n + 1)) m ≡ 1 + (length (callees g m) - (n + 1)) = ap (λ b. left_of b (get_or stacked m false) (get_or (set next m (n + 1)) m 0) (length (callees g m))) d ∙ (ap (λ b. left_of false b (get_or (set next m (n + 1)) m 0) (length (callees g m))) o ∙ ap (λ i. 1 + (length (callees g m) - i)) (get_or-set_same next m (n + 1) 0 low)) in
      let b : left_at g done stacked next m ≡ 1 + (length (callees g m) - n) = ap (λ b. left_of b (get_or stacked m false) n (length (callees g m))) d ∙ ap (λ b. left_of false b n (length (callees g m))) o in
      omega (arith, a, b, more)

  falls : left_in g done stacked (set next m (n + 1)) root < left_in g done stacked next root
  falls = omega (arith, total_falls (length g) (left_at g done stacked next) (left_at g done stacked (set next m (n + 1))) m (s.stack_below m here) (λ j e. ap (λ i. left_of (get_or done j false) (get_or stacked j false) i (length (callees g j))) (get_or-set_other next m j (n + 1) 0 e)) left_here)

falls_at : (g : List (List ℕ)) (done stacked done' stacked' : List Bool) (next next' : List ℕ) (root m : ℕ) → m < length g → ((j : ℕ) → j ≢ m → get_or done' j false ≡ get_or done j false) → ((j : ℕ) → j ≢ m → get_or stacked' j false ≡ get_or stacked j false) → ((j : ℕ) → j ≢ m → get_or next' j 0 ≡ get_or next j 0) → left_at g done' stacked' next' m < left_at g done stacked next m → left_in g done' stacked' next' root < left_in g done stacked next root
falls_at g done stacked done' stacked' next next' root m low d o n less =
    omega (
      arith,
      total_falls (length g) (left_at g done stacked next) (left_at g done' stacked' next') m low (λ j e.
          ap (λ b. left_of b (get_or stacked' j false) (get_or next' j 0) (length (callees g j))) (d j e)
          ∙ (ap (λ b. left_of (get_or done j false) b (get_or next' j 0) (length (callees g j))) (o j e)
          ∙ ap (λ i. left_of (get_or done j false) (get_or stacked j false) i (length (callees g j))) (n j e))) less,
    )

pub begun_one : (g : List (List ℕ)) (done stacked : List Bool) (next order stack : List ℕ) (root m : ℕ) → Searching g done stacked next order stack root → m < length g → has order m ≡ false → has stack m ≡ false → is_linked g (stack ++ m ∷ []) ≡ true → Searching g done (set stacked m true) (set next m 0) order (stack ++ m ∷ []) root × (left_in g done (set stacked m true) (set next m 0) root < left_in g done stacked next root)
begun_one g done stacked next order stack root m s low fresh closed linked = (
  record {
    done_size = s.done_size;
    stacked_size = length-set stacked m true ∙ s.stacked_size;
    next_size = length-set next m 0 ∙ s.next_size;
    done_is = s.done_is;
    stacked_is = λ k. elim (cases_eq k m) [ inl e ↦ subst (λ j. get_or (set stacked m true) j false ≡ has (stack ++ m ∷ []) j) (sym e) (get_or-set_same stacked m true false low_stacked ∙ sym (has_push stack m)) | inr e ↦ get_or-set_other stacked m k true false e ∙ (s.stacked_is k ∙ sym (has_other stack m k (λ x. e (sym x)))) ];
    stack_below = λ k h. elim (has_split stack m k h) [ inl x ↦ s.stack_below k x | inr x ↦ subst (λ j. j < length g) x low ];
    order_below = s.order_below;
    apart = λ k h. elim (has_split stack m k h) [ inl x ↦ s.apart k x | inr x ↦ subst (λ j. has order j ≡ false) x fresh ];
    ready = λ k h. elim (cases_eq k m) [ inl e ↦ subst (λ j. all_in (take (get_or (set next m 0) j 0) (callees g j)) order ≡ true) (sym e) ready_here | inr e ↦ subst (λ i. all_in (take i (callees g k)) order ≡ true) (sym (get_or-set_other next m k 0 0 e)) (s.ready k (was k e (has_split stack m k h))) ];
    linked = linked;
    distinct = distinct_push stack m s.distinct closed;
    ordered = s.ordered;
    begun = λ k h. elim (or_cases _ (has stack k) (s.begun k h)) [ inl x ↦ or_left _ _ x | inr x ↦ or_right _ _ (has_kept stack (m ∷ []) k x) ];
  },
  falls_at g done stacked done (set stacked m true) next (set next m 0) root m low (λ j e. refl) (λ j e. get_or-set_other stacked m j true false e) (λ j e. get_or-set_other next m j 0 0 e) left_here,
) where
  low_stacked : m < length stacked
  low_stacked = omega (arith, s.stacked_size)

  low_next : m < length next
  low_next = omega (arith, s.next_size)

  was : (k : ℕ) → k ≢ m → (has stack k ≡ true) ⊎ (m ≡ k) → has stack k ≡ true
  was k e (inl x) = x
  was k e (inr x) = absurd (e (sym x))

  none : (xs order : List ℕ) → all_in (take 0 xs) order ≡ true
  none [] order = refl
  none (x ∷ xs) order = refl

  ready_here : all_in (take (get_or (set next m 0) m 0) (callees g m)) order ≡ true
  ready_here = subst (λ i. all_in (take i (callees g m)) order ≡ true) (sym (get_or-set_same next m 0 0 low_next)) (none (callees g m) order)

  left_here : left_at g done (set stacked m true) (set next m 0) m < left_at g done stacked next m
  left_here =
      let d : get_or done m false ≡ false = s.done_is m ∙ fresh in
      let o : get_or stacked m false ≡ false = s.stacked_is m ∙ closed in
      let a : left_at g done (set stacked m true) (set next m 0) m ≡ 1 + (length (callees g m) - 0) = ap (λ b. left_of b (get_or (set stacked m true) m false) (get_or (set next m 0) m 0) (length (callees g m))) d ∙ (ap (λ b. left_of false b (get_or (set next m 0) m 0) (length (callees g m))) (get_or-set_same stacked m true false low_stacked) ∙ ap (λ i. 1 + (length (callees g m) - i)) (get_or-set_same next m 0 0 low_next)) in
      let b : left_at g done stacked next m ≡ 2 + length (callees g m) = ap (λ b. left_of b (get_or stacked m false) (get_or next m 0) (length (callees g m))) d ∙ ap (λ b. left_of false b (get_or next m 0) (length (callees g m))) o in
      omega (arith, a, b)

pub finished : (g : List (List ℕ)) (done stacked : List Bool) (next order stack front : List ℕ) (root m : ℕ) → Searching g done stacked next order stack root → stack ≡ front ++ m ∷ [] → length (callees g m) ≤ get_or next m 0 → Searching g (set done m true) (set stacked m false) next (order ++ m ∷ []) front root × (left_in g (set done m true) (set stacked m false) next root < left_in g done stacked next root)
finished g done stacked next order stack front root m s is all = (
  record {
    done_size = length-set done m true ∙ s.done_size;
    stacked_size = length-set stacked m false ∙ s.stacked_size;
    next_size = s.next_size;
    done_is = λ k. elim (cases_eq k m) [ inl e ↦ subst (λ j. get_or (set done m true) j false ≡ has (order ++ m ∷ []) j) (sym e) (get_or-set_same done m true false low_done ∙ sym (has_push order m)) | inr e ↦ get_or-set_other done m k true false e ∙ (s.done_is k ∙ sym (has_other order m k (λ x. e (sym x)))) ];
    stacked_is = λ k. elim (cases_eq k m) [ inl e ↦ subst (λ j. get_or (set stacked m false) j false ≡ has front j) (sym e) (get_or-set_same stacked m false false low_stacked ∙ sym gone) | inr e ↦ get_or-set_other stacked m k false false e ∙ (s.stacked_is k ∙ (ap (λ xs. has xs k) is ∙ has_other front m k (λ x. e (sym x)))) ];
    stack_below = λ k h. s.stack_below k (up k h);
    order_below = λ k h. elim (has_split order m k h) [ inl x ↦ s.order_below k x | inr x ↦ subst (λ j. j < length g) x low ];
    apart = λ k h. has_other order m k (λ x. true_false (has front k) h (subst (λ j. has front j ≡ false) x gone)) ∙ s.apart k (up k h);
    ready = λ k h. all_in_more _ order (order ++ m ∷ []) (λ j x. has_kept order (m ∷ []) j x) (s.ready k (up k h));
    linked = linked_front g front m (subst (λ xs. is_linked g xs ≡ true) is s.linked);
    distinct = (distinct_front front m (subst (λ xs. are_distinct xs ≡ true) is s.distinct)).0;
    ordered = stand_push g [] order m s.ordered (s.apart m here) all_here;
    begun = λ k h. elim (or_cases _ (has stack k) (s.begun k h)) [ inl x ↦ or_left _ _ (has_kept order (m ∷ []) k x) | inr x ↦ moved k (has_split front m k (subst (λ xs. has xs k ≡ true) is x)) ];
  },
  falls_at g done stacked (set done m true) (set stacked m false) next next root m low (λ j e. get_or-set_other done m j true false e) (λ j e. get_or-set_other stacked m j false false e) (λ j e. refl) left_here,
) where
  here : has stack m ≡ true
  here = subst (λ xs. has xs m ≡ true) (sym is) (has_push front m)

  low : m < length g
  low = s.stack_below m here

  low_done : m < length done
  low_done = omega (arith, low, s.done_size)

  low_stacked : m < length stacked
  low_stacked = omega (arith, low, s.stacked_size)

  gone : has front m ≡ false
  gone = (distinct_front front m (subst (λ xs. are_distinct xs ≡ true) is s.distinct)).1

  up : (k : ℕ) → has front k ≡ true → has stack k ≡ true
  up k h = subst (λ xs. has xs k ≡ true) (sym is) (has_kept front (m ∷ []) k h)

  take_all : (n : ℕ) (xs : List ℕ) → length xs ≤ n → take n xs ≡ xs
  take_all zero [] h = refl
  take_all zero (x ∷ xs) h = absurd (omega arith)
  take_all (suc n) [] h = refl
  take_all (suc n) (x ∷ xs) h = ap (λ ys. x ∷ ys) (take_all n xs (omega arith))

  all_here : all_in (callees g m) order ≡ true
  all_here = subst (λ xs. all_in xs order ≡ true) (take_all (get_or next m 0) (callees g m) all) (s.ready m here)

  moved : (k : ℕ) → (has front k ≡ true) ⊎ (m ≡ k) → (has (order ++ m ∷ []) k || has front k) ≡ true
  moved k (inl x) = or_right _ _ x
  moved k (inr x) = or_left _ _ (subst (λ j. has (order ++ m ∷ []) j ≡ true) x (has_push order m))

  left_here : left_at g (set done m true) (set stacked m false) next m < left_at g done stacked next m
  left_here =
      let d : get_or done m false ≡ false = s.done_is m ∙ s.apart m here in
      let o : get_or stacked m false ≡ true = s.stacked_is m ∙ here in
      let a : left_at g (set done m true) (set stacked m false) next m ≡ 0 = ap (λ b. left_of b (get_or (set stacked m false) m false) (get_or next m 0) (length (callees g m))) (get_or-set_same done m true false low_done) in
      let b : left_at g done stacked next m ≡ 1 + (length (callees g m) - get_or next m 0) = ap (λ b. left_of b (get_or stacked m false) (get_or next m 0) (length (callees g m))) d ∙ ap (λ b. left_of false b (get_or next m 0) (length (callees g m))) o in
      omega (arith, a, b)

pub rooted : (g : List (List ℕ)) (done stacked : List Bool) (next order stack : List ℕ) (root : ℕ) → Searching g done stacked next order stack root → root < length g → has order root ≡ true → Searching g done stacked next order stack (root + 1) × (left_in g done stacked next (root + 1) < left_in g done stacked next root)
rooted g done stacked next order stack root s low here = (
  record {
    done_size = s.done_size;
    stacked_size = s.stacked_size;
    next_size = s.next_size;
    done_is = s.done_is;
    stacked_is = s.stacked_is;
    stack_below = s.stack_below;
    order_below = s.order_below;
    apart = s.apart;
    ready = s.ready;
    linked = s.linked;
    distinct = s.distinct;
    ordered = s.ordered;
    begun = λ k h. elim (cases_lt k root) [ inl x ↦ s.begun k x | inr x ↦ or_left _ _ (subst (λ j. has order j ≡ true) (same k h x) here) ];
  },
  omega arith,
) where
  same : (k : ℕ) → k < root + 1 → root ≤ k → root ≡ k
  same k h x = omega arith

-- where nothing is left, all are in the order
pub ended : (g : List (List ℕ)) (done stacked : List Bool) (next order stack : List ℕ) (root : ℕ) → Searching g done stacked next order stack root → stack ≡ [] → length g ≤ root → IsOrderOf g order
ended g done stacked next order stack root s empty past = (s.ordered, λ k h. elim (or_cases (has order k) _ (s.begun k (omega arith))) [ inl x ↦ x | inr x ↦ true_false (has stack k) x (ap (λ xs. has xs k) empty) ], s.order_below)

-- ---- in an order no method reaches itself

-- what these call they have
abbrev pub Closed : List (List ℕ) → List ℕ → Type 0
Closed g seen = (x y : ℕ) → has seen x ≡ true → has (callees g x) y ≡ true → has seen y ≡ true

closed_reach : (g : List (List ℕ)) (seen : List ℕ) → Closed g seen → (n a b : ℕ) → has seen a ≡ true → Reaches g n a b → has seen b ≡ true
closed_reach g seen cl zero a b h r = cl a b h r
closed_reach g seen cl (suc n) a b h r = closed_reach g seen cl n r.0 b (cl a r.0 h r.1) r.2

pub closed_push : (g : List (List ℕ)) (seen : List ℕ) (m : ℕ) → Closed g seen → all_in (callees g m) seen ≡ true → Closed g (seen ++ m ∷ [])
closed_push g seen m cl all x y h call = elim (has_split seen m x h) [ inl p ↦ has_kept seen (m ∷ []) y (cl x y p call) | inr p ↦ has_kept seen (m ∷ []) y (all_in_has (callees g m) seen y all (subst (λ j. has (callees g j) y ≡ true) (sym p) call)) ]

begins_in : (g : List (List ℕ)) (seen : List ℕ) (m : ℕ) → Closed g seen → all_in (callees g m) seen ≡ true → (n : ℕ) → Reaches g n m m → has seen m ≡ true
begins_in g seen m cl all zero r = all_in_has (callees g m) seen m all r
begins_in g seen m cl all (suc n) r = closed_reach g seen cl n r.0 m (all_in_has (callees g m) seen r.0 all r.1) r.2

none_itself : (g : List (List ℕ)) (seen ms : List ℕ) → stand_after g seen ms ≡ true → Closed g seen → (a : ℕ) → has ms a ≡ true → ReachesItself g a → ⊥
none_itself g seen [] h cl a here r = absurd (cc here)
none_itself g seen (m ∷ ms) h cl a here r =
    let p = and_parts _ _ h in
    let q = and_parts _ _ p.0 in
    elim (or_cases _ (has ms a) here) [ inl e ↦ (let same = Rattle.std.proofs.lemmas.Bool.eqb-true m a e in true_false (has seen m) (begins_in g seen m cl q.1 r.0 (subst (λ j. Reaches g r.0 j j) (sym same) r.1)) (not-true _ q.0)) | inr e ↦ none_itself g (seen ++ m ∷ []) ms p.1 (closed_push g seen m cl q.1) a e r ]

calls_below : (g : List (List ℕ)) (k c : ℕ) → has (callees g k) c ≡ true → k < length g
calls_below [] k c h = absurd (cc h)
calls_below (x ∷ g) zero c h = omega arith
calls_below (x ∷ g) (suc k) c h = omega (arith, calls_below g k c h)

pub reaches_from : (g : List (List ℕ)) (n a b : ℕ) → Reaches g n a b → a < length g
reaches_from g zero a b r = calls_below g a b r
reaches_from g (suc n) a b r = calls_below g a r.0 r.1

pub order_is_free : (g : List (List ℕ)) (order : List ℕ) → IsOrderOf g order → (k : ℕ) → ReachesItself g k → ⊥
order_is_free g order o k r = none_itself g [] order o.0 (λ x y h call. absurd (cc h)) k (o.1 k (reaches_from g r.0 k k r.1)) r

-- ---- what the code reads

abbrev last_of : List ℕ → ℕ
last_of [] = 0
last_of (x ∷ []) = x
last_of (x ∷ y ∷ ys) = last_of (y ∷ ys)

last_push : (xs : List ℕ) (m : ℕ) → last_of (xs ++ m ∷ []) ≡ m
last_push [] m = refl
last_push (x ∷ []) m = refl
last_push (x ∷ y ∷ ys) m = last_push (y ∷ ys) m

pub same_last : (xs ys : List ℕ) (m n : ℕ) → xs ++ m ∷ [] ≡ ys ++ n ∷ [] → m ≡ n
same_last xs ys m n e = sym (last_push xs m) ∙ (ap last_of e ∙ last_push ys n)

take_whole : (n : ℕ) (xs : List ℕ) → length xs ≤ n → take n xs ≡ xs
take_whole zero [] h = refl
take_whole zero (x ∷ xs) h = absurd (omega arith)
take_whole (suc n) [] h = refl
take_whole (suc n) (x ∷ xs) h = ap (λ ys. x ∷ ys) (take_whole n xs (omega arith))

pub last_read : (stack : List ℕ) (len m : ℕ) → len ≡ length stack → 0 < length stack → m ≡ get_or stack (len - 1) m → (front : List ℕ) × (stack ≡ front ++ m ∷ [])
last_read stack len m e some is =
    let low : len - 1 < length stack = omega arith in
    (take (len - 1) stack, sym (take_whole (len - 1 + 1) stack (omega arith)) ∙ (take_more stack (len - 1) m low ∙ ap (λ x. take (len - 1) stack ++ x ∷ []) (sym is)))

pub last_has : (stack front : List ℕ) (m : ℕ) → stack ≡ front ++ m ∷ [] → has stack m ≡ true
last_has stack front m e = subst (λ xs. has xs m ≡ true) (sym e) (has_push front m)

flags : (n k : ℕ) → get_or (replicate n false) k false ≡ false
flags zero k = refl
flags (suc n) zero = refl
flags (suc n) (suc k) = flags n k

pub started : (g : List (List ℕ)) (done stacked : List Bool) (next order stack : List ℕ) (n : ℕ) → n ≡ length g → done ≡ replicate n false → stacked ≡ replicate n false → length next ≡ n → order ≡ [] → stack ≡ [] → Searching g done stacked next order stack 0
started g done stacked next order stack n size d s len o t = record {
  done_size = ap length d ∙ (length-replicate n false ∙ size);
  stacked_size = ap length s ∙ (length-replicate n false ∙ size);
  next_size = len ∙ size;
  done_is = λ k. ap (λ xs. get_or xs k false) d ∙ (flags n k ∙ sym (ap (λ xs. has xs k) o));
  stacked_is = λ k. ap (λ xs. get_or xs k false) s ∙ (flags n k ∙ sym (ap (λ xs. has xs k) t));
  stack_below = λ k h. true_false _ h (ap (λ xs. has xs k) t);
  order_below = λ k h. true_false _ h (ap (λ xs. has xs k) o);
  apart = λ k h. true_false _ h (ap (λ xs. has xs k) t);
  ready = λ k h. true_false _ h (ap (λ xs. has xs k) t);
  linked = ap (is_linked g) t;
  distinct = ap are_distinct t;
  ordered = ap (stand_after g []) o;
  begun = λ k h. absurd (omega arith);
}
