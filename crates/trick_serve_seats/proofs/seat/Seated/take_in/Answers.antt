use Rattle.trick_serve_seats.proofs.seat.Seated.take_in.Goals as goal

pub returns : goal.returns
returns g c = λ arrival seated. record {
  writer = seated.writing.2 _ (c.finish-writer.ensures seated.writing.0 seated.writing.1);
  reader = seated.reading.2 _ (c.finish-reader.ensures seated.reading.0 seated.reading.1);
  no_line = seated.no_line;
  no_message = seated.no_message;
  no_cause = seated.no_cause;
  room = seated.room;
}
