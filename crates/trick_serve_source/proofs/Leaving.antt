-- What is told of the sessions that left, and how many are live.
use Rattle.std.proofs.Common.{◌≡◌, ◌∙◌, ℕ, ◌+◌, ◌≤◌, Bool, true, false, cond, List, [], ◌∷◌, ◌++◌, Ok, Err, Result, ap, arith, length, refl, subst, sym, take}
use Rattle.std.proofs.lemmas.List.{length-append, length_push}
use Rattle.std.proofs.lemmas.List.Elements.{filter-append}
use Rattle.std.specs.List.{filter}
use Rattle.std.specs.Prelude.{OnErr, OnOk, not}
use Rattle.trick_serve_hearing.specs.Rules.{is_live}
use Rattle.trick_serve_hearing.specs.declared.seat.Seat.{Seat}
use Rattle.trick_serve_seats.specs.Departures.{left_of}
use Rattle.trick_serve_seats.specs.declared.departure.Departure.{Departure}
use Rattle.trick_serve_seats.specs.declared.departure.Departure.TheVariants.{Run, Session}

told_more : (items : List Departure) (told : Departure) → left_of (items ++ told ∷ []) ≡ left_of items + left_of (told ∷ [])
told_more [] told = omega arith
told_more (Session number ∷ items) told = let e = told_more items told in omega arith
told_more (Run ∷ items) told = told_more items told

-- One thing more was told.
pub told_one : (items now : List Departure) (told : Departure) → now ≡ items ++ told ∷ [] → left_of now ≡ left_of items + left_of (told ∷ [])
told_one items now told is = ap left_of is ∙ told_more items told

-- how many are kept, where one more is looked at
pub kept_one : (p : ℕ → Bool) (numbers : List ℕ) (n : ℕ) → length (filter p (numbers ++ n ∷ [])) ≡ length (filter p numbers) + cond (p n) 1 0
kept_one p numbers n =
    ap length (filter-append p numbers (n ∷ []))
    ∙ length-append (filter p numbers) (filter p (n ∷ []))
    ∙ ap (λ (m : ℕ). length (filter p numbers) + m) (one (p n))
  where
    one : (b : Bool) → length (cond b (n ∷ []) []) ≡ cond b 1 0
    one true = refl
    one false = refl

-- One session more was looked at, and it was told where it had left.
pub dismissed : (seats : List Seat) (live : List ℕ) (i n : ℕ) (was before now : List Departure) → take (i + 1) live ≡ take i live ++ n ∷ []
    → left_of before + length (filter (is_live seats) (take i live)) ≤ left_of was + length (take i live)
    → left_of now + cond (is_live seats n) 1 0 ≤ left_of before + 1
    → left_of now + length (filter (is_live seats) (take (i + 1) live)) ≤ left_of was + length (take (i + 1) live)
dismissed seats live i n was before now more so step =
    let kept = ap (λ (l : List ℕ). length (filter (is_live seats) l)) more ∙ kept_one (is_live seats) (take i live) n in
    let many = ap length more ∙ length_push (take i live) n in
    omega (arith, kept, many, so, step)

-- A session that left was told, or there was no room.
pub told_or_not : {X E : Type 0} (items now : List Departure) (number : ℕ) (left : Bool) (pushed : Result X E)
    → OnOk pushed (now ≡ items ++ Session number ∷ []) → OnErr pushed (now ≡ items) → left ≡ true
    → left_of now + cond (not left) 1 0 ≤ left_of items + 1
told_or_not items now number left (Ok done) put kept is =
    let told = told_one items now (Session number) put in
    subst (λ (b : Bool). left_of now + cond (not b) 1 0 ≤ left_of items + 1) (sym is) (omega (arith, told))
told_or_not items now number left (Err back) put kept is =
    let told = ap left_of kept in
    subst (λ (b : Bool). left_of now + cond (not b) 1 0 ≤ left_of items + 1) (sym is) (omega (arith, told))
