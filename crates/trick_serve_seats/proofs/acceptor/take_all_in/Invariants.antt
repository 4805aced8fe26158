use Rattle.std.proofs.Common.{◌+◌, ◌≤◌, List, vec_capacity, vec_len}
use Rattle.trick_serve_seats.proofs.TakingIn.{IsTakingIn}
use Rattle.trick_serve_seats.proofs.acceptor.take_all_in.Given as goal
use Rattle.trick_serve_seats.specs.Pairs.{AllFit}
use Rattle.trick_serve_seats.specs.Seats.{IsSeated}
use Rattle.trick_serve_seats.specs.declared.arrival.Arrival.{Arrival}

abbrev pub invariant-loop-last : goal.invariant-loop-last
invariant-loop-last g l = record {
  fits : (arrivals : List (Arrival g.row.I.Denot g.row.O.Denot)) → AllFit (IsSeated g.I.LinkIn g.O.LinkOut) arrivals l.initial.seated.items → IsTakingIn g.I.LinkIn g.O.LinkOut arrivals l.seated.items l.past.items;
  room : vec_len l.seated + vec_len l.past ≤ vec_capacity l.past;
}

abbrev pub decreases-loop-last : goal.decreases-loop-last
decreases-loop-last g l = vec_len l.seated
