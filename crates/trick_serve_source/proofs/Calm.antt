-- Sessions that are not to leave as long as nothing comes of them.
use Rattle.std.proofs.Common.{◌≡◌, ◌∙◌, ⊎_elim, ℕ, ◌+◌, ◌-◌, ◌<◌, ◌≤◌, false, List, [], ap, arith, length, slice_index_or, subst, sym}
use Rattle.std.proofs.lemmas.Bool.{cases_lt}
use Rattle.std.proofs.lemmas.List.{ext_get_or, get_or_default}
use Rattle.std.specs.List.{All, filter}
use Rattle.std.specs.Prelude.{not}
use Rattle.trick_serve_hearing.proofs.Placing.{filter_all, side_at}
use Rattle.trick_serve_hearing.specs.Rules.{AreCalm, AreQuick, is_live, sessions_by}
use Rattle.trick_serve_hearing.specs.Sides.{Side, side, side_of}
use Rattle.trick_serve_hearing.specs.declared.seat.Seat.{Seat}
use Rattle.trick_exec_sources.specs.Turns.{in_next}

-- what is asked of a session
abbrev pub IsCalmAt : List Seat → ℕ → Type 0
IsCalmAt seats n = ((side seats (n - 1)).left ≡ false) × ((side seats (n - 1)).slow ≡ false)

-- It is so with the first ones of these sessions, which can be sent messages.
abbrev pub AreCalmTo : List Seat → List ℕ → List ℕ → ℕ → Type 0
AreCalmTo seats known reached count =
    (j : ℕ) → j < count → (slice_index_or reached j 0 ≡ slice_index_or known j 0) × IsCalmAt seats (slice_index_or known j 0)

-- one session, by its seat
pub calm_here : (seats : List Seat) (n : ℕ) (seat : Seat) → n - 1 < length seats → seat ≡ slice_index_or seats (n - 1) seat
    → seat.left ≡ false → seat.slow ≡ false → IsCalmAt seats n
calm_here seats n seat inside is stays quick =
    let same : side seats (n - 1) ≡ side_of seat = side_at seats (n - 1) seat inside ∙ ap side_of (sym is) in
    (ap (λ (s : Side). s.left) same ∙ stays, ap (λ (s : Side). s.slow) same ∙ quick)

-- one session more
pub calm_more : (seats : List Seat) (known reached : List ℕ) (count : ℕ)
    → slice_index_or reached count 0 ≡ slice_index_or known count 0 → IsCalmAt seats (slice_index_or known count 0)
    → AreCalmTo seats known reached count → AreCalmTo seats known reached (count + 1)
calm_more seats known reached count same calm was = λ j within. ⊎_elim
    (λ before. was j before)
    (λ last. subst (λ (m : ℕ). (slice_index_or reached m 0 ≡ slice_index_or known m 0) × IsCalmAt seats (slice_index_or known m 0))
    (here j within last) (same, calm))
    (cases_lt j count)
  where
    here : (j : ℕ) → j < count + 1 → count ≤ j → count ≡ j
    here j within last = omega (arith, within, last)

-- all of them
pub calm_all : (seats : List Seat) (known reached : List ℕ) (count : ℕ) → length reached ≡ length known → length known ≤ count
    → AreCalmTo seats known reached count → AreCalm seats known reached
calm_all seats known reached count many past was = record {
  same = ext_get_or 0 reached known many (λ i within. (was i (shorter i within)).0) ∙ sym stay;
  quick = subst (λ (l : List ℕ). AreQuick seats l) (sym stay) (λ j d here. (each j d here).1);
}
  where
    below : (j : ℕ) → j < length known → j < count
    below j here = omega (arith, here, past)

    shorter : (j : ℕ) → j < length reached → j < count
    shorter j here = omega (arith, here, many, past)

    each : All (IsCalmAt seats) known
    each = λ j d here. subst (IsCalmAt seats) (get_or_default known j 0 d here) (was j (below j here)).1

    stay : filter (is_live seats) known ≡ known
    stay = filter_all (IsCalmAt seats) (is_live seats) (λ n calm. ap not calm.0) known each

-- where there is none
pub calm_none : (seats : List Seat) (known reached : List ℕ) → known ≡ [] → reached ≡ [] → AreCalm seats known reached
calm_none seats known reached none empty =
    let zero = ap length none in
    calm_all seats known reached 0 (ap length empty ∙ sym zero) (omega (arith, zero)) (λ j within. absurd (omega (arith, within)))

-- The next list begins with the same sessions.
pub calm_next : (seats : List Seat) (known reached : List ℕ) → AreCalm seats known reached
    → sessions_by seats known reached ≡ in_next (sessions_by seats known reached)
calm_next seats known reached calm = λ i. record {
  highest = length seats;
  live = filter (is_live seats) known;
  reached = calm.same i;
}
