-- Places of sessions.
use Rattle.std.proofs.Common.{◌≡◌, ◌≢◌, ◌∙◌, ⊎_elim, ℕ, ◌+◌, ◌-◌, ◌<◌, ◌≤◌, Bool, true, false, cond, eqb, List, [], ◌∷◌, ◌++◌, ap, arith, length, map, refl, slice_index_or, slice_set, subst, sym}
use Rattle.std.proofs.lemmas.Bool.Decides.{eqb_tells}
use Rattle.std.proofs.lemmas.List.{get_or-map, get_or-set_other, get_or-set_same, get_or_append_left, get_or_past, get_or_push, length-map, length_push, map-set, map_push}
use Rattle.std.proofs.lemmas.List.Elements.{All-cons, All-head, All-nil, All-push, All-tail, filter-append}
use Rattle.std.specs.List.{All, filter, list_any}
use Rattle.std.specs.Prelude.{not, ◌&&◌, ◌||◌}
use Rattle.trick_serve_hearing.specs.Rules.{AreSeated, is_live}
use Rattle.trick_serve_hearing.specs.Sides.{Side, nobody, side, side_of}
use Rattle.trick_serve_hearing.specs.declared.seat.Seat.{Seat}

-- ---- the side at a place

pub side_set : (seats : List Seat) (i : ℕ) (seat : Seat) → i < length seats → side (slice_set seats i seat) i ≡ side_of seat
side_set seats i seat there =
    ap (λ (l : List Side). slice_index_or l i nobody) (map-set side_of seats i seat)
    ∙ get_or-set_same (map side_of seats) i (side_of seat) nobody (subst (λ (n : ℕ). i < n) (sym (length-map seats side_of)) there)

pub side_other : (seats : List Seat) (i k : ℕ) (seat : Seat) → k ≢ i → side (slice_set seats i seat) k ≡ side seats k
side_other seats i k seat apart =
    ap (λ (l : List Side). slice_index_or l k nobody) (map-set side_of seats i seat)
    ∙ get_or-set_other (map side_of seats) i k (side_of seat) nobody apart

pub side_at : (seats : List Seat) (i : ℕ) (d : Seat) → i < length seats → side seats i ≡ side_of (slice_index_or seats i d)
side_at seats i d there = get_or-map side_of seats i d nobody there

pub side_past : (seats : List Seat) (k : ℕ) → length seats ≤ k → side seats k ≡ nobody
side_past seats k past = get_or_past (map side_of seats) k nobody (subst (λ (n : ℕ). n ≤ k) (sym (length-map seats side_of)) past)

pub side_push : (seats : List Seat) (seat : Seat) (k : ℕ) → k ≡ length seats → side (seats ++ seat ∷ []) k ≡ side_of seat
side_push seats seat k is =
    ap (λ (l : List Side). slice_index_or l k nobody) (map_push side_of seats seat)
    ∙ get_or_push (map side_of seats) (side_of seat) nobody k (length-map seats side_of ∙ sym is)

pub side_before : (seats : List Seat) (seat : Seat) (k : ℕ) → k < length seats → side (seats ++ seat ∷ []) k ≡ side seats k
side_before seats seat k there =
    ap (λ (l : List Side). slice_index_or l k nobody) (map_push side_of seats seat)
    ∙ get_or_append_left (map side_of seats) (side_of seat ∷ []) nobody k (subst (λ (n : ℕ). k < n) (sym (length-map seats side_of)) there)

pub side_after : (seats : List Seat) (seat : Seat) (k : ℕ) → length seats < k → side (seats ++ seat ∷ []) k ≡ side seats k
side_after seats seat k past =
    side_past (seats ++ seat ∷ []) k (subst (λ (n : ℕ). n ≤ k) (sym (length_push seats seat)) (omega arith)) ∙ sym (side_past seats k (omega arith))

-- ---- filters

pub filter_where : {X : Type 0} (P : X → Type 0) (p q : X → Bool) → ((x : X) → P x → p x ≡ q x) → (xs : List X) → All P xs
    → filter p xs ≡ filter q xs
filter_where P p q same [] all = refl
filter_where P p q same (x ∷ xs) all =
    ap (λ (b : Bool). cond b (x ∷ filter p xs) (filter p xs)) (same x (All-head P x xs all))
    ∙ ap (λ (l : List _). cond (q x) (x ∷ l) l) (filter_where P p q same xs (All-tail P x xs all))

pub filter_both : {X : Type 0} (p q : X → Bool) (xs : List X) → filter p (filter q xs) ≡ filter (λ x. q x && p x) xs
filter_both p q [] = refl
filter_both {X} p q (x ∷ xs) = go (q x) (filter_both p q xs)
  where
    go : (b : Bool) → filter p (filter q xs) ≡ filter (λ y. q y && p y) xs
        → filter p (cond b (x ∷ filter q xs) (filter q xs)) ≡ cond (b && p x) (x ∷ filter (λ y. q y && p y) xs) (filter (λ y. q y && p y) xs)
    go true more = ap (λ (l : List X). cond (p x) (x ∷ l) l) more
    go false more = more

pub filter_all : {X : Type 0} (P : X → Type 0) (p : X → Bool) → ((x : X) → P x → p x ≡ true) → (xs : List X) → All P xs → filter p xs ≡ xs
filter_all P p passes [] all = refl
filter_all P p passes (x ∷ xs) all =
    ap (λ (b : Bool). cond b (x ∷ filter p xs) (filter p xs)) (passes x (All-head P x xs all))
    ∙ ap (λ (l : List _). x ∷ l) (filter_all P p passes xs (All-tail P x xs all))

same_twice : (b : Bool) → (b && b) ≡ b
same_twice true = refl
same_twice false = refl

pub filter_twice : {X : Type 0} (P : X → Type 0) (p : X → Bool) (xs : List X) → All P xs → filter p (filter p xs) ≡ filter p xs
filter_twice P p xs all = filter_both p p xs ∙ filter_where P (λ x. p x && p x) p (λ x in'. same_twice (p x)) xs all

pub among_filter : (n : ℕ) (p : ℕ → Bool) (xs : List ℕ) → p n ≡ true → list_any (λ x. eqb x n) xs ≡ true
    → list_any (λ x. eqb x n) (filter p xs) ≡ true
among_filter n p [] passes there = there
among_filter n p (x ∷ xs) passes there = ⊎_elim
    (λ yes. subst (λ (y : ℕ). list_any (λ x. eqb x n) (cond (p y) (y ∷ filter p xs) (filter p xs)) ≡ true) (sym yes.1)
    (subst (λ (b : Bool). list_any (λ x. eqb x n) (cond b (n ∷ filter p xs) (filter p xs)) ≡ true) (sym passes)
    (ap (λ (b : Bool). b || list_any (λ x. eqb x n) (filter p xs)) (self n))))
    (λ no. keep (p x) (among_filter n p xs passes (sym (ap (λ (b : Bool). b || list_any (λ x. eqb x n) xs) no.0) ∙ there)))
    (eqb_tells x n)
  where
    self : (m : ℕ) → eqb m m ≡ true
    self m = ⊎_elim (λ e. e.0) (λ e. absurd (e.1 refl)) (eqb_tells m m)

    keep : (b : Bool) → list_any (λ x. eqb x n) (filter p xs) ≡ true → list_any (λ x. eqb x n) (cond b (x ∷ filter p xs) (filter p xs)) ≡ true
    keep true more = or_right (eqb x n) more
      where
        or_right : (b : Bool) → {c : Bool} → c ≡ true → (b || c) ≡ true
        or_right true is = refl
        or_right false is = is
    keep false more = more

-- ---- who is live

before : (n : ℕ) → 0 < n → n ≡ (n - 1) + 1
before n h = omega arith

-- Live are the same where at the place of each the same left.
pub live_same : (old new : List Seat) (live : List ℕ) → ((k : ℕ) → (side new k).left ≡ (side old k).left)
    → filter (is_live new) live ≡ filter (is_live old) live
live_same old new [] same = refl
live_same old new (n ∷ live) same =
    ap (λ (b : Bool). cond (not b) (n ∷ filter (is_live new) live) (filter (is_live new) live)) (same (n - 1))
    ∙ ap (λ (l : List ℕ). cond (is_live old n) (n ∷ l) l) (live_same old new live same)

-- One session leaves.
pub live_left : (old new : List Seat) (live : List ℕ) (n i : ℕ) → n ≡ i + 1 → All (λ m. (0 < m) × (m ≤ length old)) live
    → (side new i).left ≡ true → ((k : ℕ) → k ≢ i → (side new k).left ≡ (side old k).left)
    → filter (is_live new) live ≡ filter (λ m. not (eqb m n)) (filter (is_live old) live)
live_left old new live n i is seated left same =
    filter_where (λ m. (0 < m) × (m ≤ length old)) (is_live new) (λ m. is_live old m && not (eqb m n)) one live seated
    ∙ sym (filter_both (λ m. not (eqb m n)) (is_live old) live)
  where
    dead : (b c : Bool) → b ≡ true → not b ≡ (c && not true)
    dead b true h = ap not h
    dead b false h = ap not h

    alive : (b c : Bool) → b ≡ c → not b ≡ (not c && not false)
    alive b true h = ap not h
    alive b false h = ap not h

    one : (m : ℕ) → (0 < m) × (m ≤ length old) → is_live new m ≡ (is_live old m && not (eqb m n))
    one m h = ⊎_elim
        (λ yes. subst (λ (b : Bool). is_live new m ≡ (is_live old m && not b)) (sym yes.0)
        (dead (side new (m - 1)).left (is_live old m) (ap (λ (k : ℕ). (side new k).left) (place m yes.1) ∙ left)))
        (λ no. subst (λ (b : Bool). is_live new m ≡ (is_live old m && not b)) (sym no.0)
        (alive (side new (m - 1)).left (side old (m - 1)).left (same (m - 1) (λ e. no.1 (number m h.0 e)))))
        (eqb_tells m n)
      where
        place : (m : ℕ) → m ≡ n → m - 1 ≡ i
        place m e = omega (arith, e, is)

        number : (m : ℕ) → 0 < m → m - 1 ≡ i → m ≡ n
        number m low e = omega (arith, low, e, is)

-- A client is seated.
pub live_push : (seats : List Seat) (seat : Seat) (live : List ℕ) (n : ℕ) → n ≡ length seats + 1 → AreSeated live seats
    → filter (is_live (seats ++ seat ∷ [])) (live ++ n ∷ []) ≡ filter (is_live seats) live ++ cond (not seat.left) (n ∷ []) []
live_push seats seat live n is seated =
    filter-append (is_live (seats ++ seat ∷ [])) live (n ∷ [])
    ∙ (λ i. filter_where (λ m. (0 < m) × (m ≤ length seats)) (is_live (seats ++ seat ∷ [])) (is_live seats) one live seated i
    ++ cond (not (here i)) (n ∷ []) [])
  where
    one : (m : ℕ) → (0 < m) × (m ≤ length seats) → is_live (seats ++ seat ∷ []) m ≡ is_live seats m
    one m h = let low : 0 < m = h.0 in let high : m ≤ length seats = h.1 in
        ap (λ (s : Side). not s.left) (side_before seats seat (m - 1) (omega arith))

    here : (side (seats ++ seat ∷ []) (n - 1)).left ≡ seat.left
    here = ap (λ (s : Side). s.left) (side_push seats seat (n - 1) (omega (arith, is)))

pub seated_more : (numbers : List ℕ) (old new : List Seat) → length old ≤ length new → AreSeated numbers old → AreSeated numbers new
seated_more numbers old new more seated = λ k d there. let one = seated k d there in (one.0, up _ one.1)
  where
    up : (m : ℕ) → m ≤ length old → m ≤ length new
    up m low = omega (arith, low, more)

pub seated_push : (numbers : List ℕ) (seats : List Seat) (seat : Seat) (n : ℕ) → n ≡ length seats + 1 → AreSeated numbers seats
    → AreSeated (numbers ++ n ∷ []) (seats ++ seat ∷ [])
seated_push numbers seats seat n is seated =
    All-push (λ m. (0 < m) × (m ≤ length (seats ++ seat ∷ []))) numbers n
    (seated_more numbers seats (seats ++ seat ∷ []) (omega (arith, length_push seats seat)) seated)
    (omega (arith, is), omega (arith, is, length_push seats seat))

-- what is true of each that is live is true of those that are kept
pub kept_where : {X : Type 0} (p : X → Bool) (P : X → Type 0) (xs : List X) → All (λ x. p x ≡ true → P x) xs → All P (filter p xs)
kept_where p P [] all = All-nil P
kept_where p P (x ∷ xs) all = go (p x) refl (kept_where p P xs (All-tail (λ y. p y ≡ true → P y) x xs all))
  where
    go : (b : Bool) → p x ≡ b → All P (filter p xs) → All P (cond b (x ∷ filter p xs) (filter p xs))
    go true is more = All-cons P x (filter p xs) (All-head (λ y. p y ≡ true → P y) x xs all is) more
    go false is more = more
