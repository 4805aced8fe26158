-- Clients to which a thread was refused, by their seats and by their arrivals.
use Rattle.std.proofs.Common.{◌≡◌, ◌∙◌, ℕ, suc, ◌+◌, ◌<◌, ◌≤◌, Bool, true, false, cond, List, [], ◌∷◌, Some, ap, arith, length, subst, sym}
use Rattle.std.proofs.lemmas.List.Sums.{sum_by-cons}
use Rattle.std.proofs.lemmas.Option.{same_Some}
use Rattle.std.specs.List.{slice_get}
use Rattle.trick_serve_headline.proofs.Doors.{none_some}
use Rattle.trick_outside.specs.Causes.{RoseBy}
use Rattle.trick_serve_hearing.specs.Clients.{client_queues}
use Rattle.trick_serve_hearing.specs.Sides.{Queues, queues_of, side}
use Rattle.trick_serve_hearing.specs.declared.seat.Seat.{Seat}
use Rattle.trick_serve_seats.specs.Told.{refused_of}
use Rattle.trick_serve_seats.specs.declared.arrival.Arrival.{Arrival}
use Rattle.trick_serve_facts.specs.NoThreads.{refused_seats}

-- The seat at this place is of the client that arrived there.
pub record IsSeatOf {I O : Type 0} (seats : List Seat) (arrivals : List (Arrival I O)) (k : ℕ) : Type 0 where
  pub arrival : Arrival I O
  pub comes : slice_get arrivals k ≡ Some arrival
  pub queues : (side seats k).queues ≡ Some (client_queues arrival)

one_more : (b : Bool) (few many : ℕ) → few ≤ many → cond b 1 0 + few ≤ elim b [ true ↦ 1 + many | false ↦ many ]
one_more true few many less = omega (arith, less)
one_more false few many less = omega (arith, less)

seat_refused : {I O : Type 0} (seat : Seat) (seats : List Seat) (arrival : Arrival I O) (arrivals : List (Arrival I O)) → IsSeatOf (seat ∷ seats) (arrival ∷ arrivals) 0
    → seat.refused ≡ arrival.refused
seat_refused {I} {O} seat seats arrival arrivals of =
    ap (λ (q : Queues). q.refused) (same_Some (queues_of seat) (client_queues of.arrival) of.queues)
    ∙ ap (λ (a : Arrival I O). a.refused) (sym (same_Some arrival of.arrival of.comes))

-- where the seats are of the first clients, no more of them are refused than of all clients
pub refused_fewer : {I O : Type 0} (seats : List Seat) (arrivals : List (Arrival I O)) → ((k : ℕ) → k < length seats → IsSeatOf seats arrivals k)
    → refused_seats seats ≤ refused_of arrivals
refused_fewer [] arrivals of = omega arith
refused_fewer (seat ∷ seats) [] of = let first = of 0 (omega arith) in absurd (none_some first.arrival first.comes)
refused_fewer (seat ∷ seats) (arrival ∷ arrivals) of =
    let rest = refused_fewer seats arrivals (λ k less. let one = of (suc k) (omega (arith, less)) in record { arrival = one.arrival; comes = one.comes; queues = one.queues }) in
    subst (λ (n : ℕ). n ≤ refused_of (arrival ∷ arrivals)) (sym (sum_by-cons (λ (s : Seat). cond s.refused 1 0) seat seats))
    (subst (λ (b : Bool). cond b 1 0 + refused_seats seats ≤ refused_of (arrival ∷ arrivals)) (sym (seat_refused seat seats arrival arrivals (of 0 (omega arith))))
    (one_more arrival.refused (refused_seats seats) (refused_of arrivals) rest))

-- a count that rose by some rose by fewer
pub rose_less : (before few many now : ℕ) → few ≤ many → RoseBy before many now → RoseBy before few now
rose_less before few many now less rose = omega (arith, less, rose)
