use Rattle.std.proofs.Common.{rules, ◌≡◌, ◌++◌, ◌∷◌, [], List, ℕ, length, true, ◌+◌, ◌∙◌, ap, arith, subst, sym}
use Rattle.trick_serve_hearing.specs.declared.seat.Seat.{Seat}
use Rattle.trick_serve_hearing.proofs.Gathering.{gathers_joined}
use Rattle.trick_serve_source.proofs.roll.Roll.join.Goals as goal
use Rattle.trick_serve_hearing.specs.Gathering.{Gathers}
use Rattle.std.proofs.lemmas.List.{map_push}
use Rattle.std.specs.Arc.{arc_value}
use Rattle.trick_serve_hearing.specs.Clients.{seat_queues}
use Rattle.trick_serve_hearing.specs.Sides.{queues_of}
use Rattle.trick_wire.specs.Ends.{room_of}

pub returns-clause-gathered : goal.returns-clause-gathered
returns-clause-gathered g c = λ there was known so.
    let number = c.requires.number in
    let n : c.len.result ≡ length c.args.self.now.seats.items = search rules in
    subst (λ (s : List Seat). Gathers there was known s c.push_reserved-2.new.self.items c.list_join.new.list.items true) (sym c.push_reserved.ensures.items)
    (subst (λ (l : List ℕ). Gathers there was known (c.args.self.now.seats.items ++ c.of-seat.result ∷ []) l c.list_join.new.list.items true) (sym c.push_reserved-2.ensures.items)
    (gathers_joined there was known c.args.self.now.seats.items c.args.self.now.live.items c.args.self.now.list.items c.list_join.new.list.items (c.len.result + 1) c.of-seat.result so
    (omega (arith, n)) c.args.self.now.seated (omega (arith, n, number)) c.of-seat.ensures.slow
    (record { no_line = c.of-seat.ensures.no_line; no_message = c.of-seat.ensures.no_message; no_cause = c.of-seat.ensures.no_cause; refused = c.of-seat.ensures.refused ∙ sym c.of-seat.ensures.left }) c.list_join.ensures))

pub returns-clause-queues : goal.returns-clause-queues
returns-clause-queues g c =
    ap seat_queues c.push_reserved.ensures.items
    ∙ map_push queues_of c.args.self.now.seats.items c.of-seat.result
    ∙ (λ i. seat_queues c.args.self.now.seats.items ++ record {
      inbox = arc_value (c.of-seat.ensures.inbox i).shared;
      outbox = arc_value (c.of-seat.ensures.outbox i).shared;
      causes = arc_value (c.of-seat.ensures.causes i).shared;
      room = room_of (c.of-seat.ensures.outbox i);
      refused = c.of-seat.ensures.refused i;
    } ∷ [])
