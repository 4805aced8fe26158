use Rattle.std.proofs.Common.{ap}
use Rattle.trick_serve_seats.proofs.Seating.{read_is_of, wrote_is_of}
use Rattle.trick_serve_seats.proofs.seat.turn_away.Goals as goal

pub returns-clause-past : goal.returns-clause-past
returns-clause-past g c = λ fresh. record {
  writer = wrote_is_of g.O.LinkOut _ c.args.links.1 c.args.queues.empties c.args.queues.tells _ fresh.outbox fresh.causes c.of-output.ensures (ap (λ outbox. outbox.shared) c.write_nothing-writer.ensures.outbox)
      (ap (λ causes. causes.shared) c.write_nothing-writer.ensures.causes) (c.write_nothing-writer.ensures.wrote fresh.no_message) (c.write_nothing-writer.ensures.cause fresh.no_cause);
  reader = read_is_of g.I.LinkIn _ c.args.links.0 c.args.queues.fills _ fresh.inbox c.of-input.ensures (ap (λ inbox. inbox.shared) c.read_nothing-reader.ensures.inbox) (c.read_nothing-reader.ensures.read fresh.no_line);
  no_line = c.args.queues.no_line;
  no_message = c.args.queues.no_message;
  no_cause = c.args.queues.no_cause;
  room = fresh.room.0;
}
