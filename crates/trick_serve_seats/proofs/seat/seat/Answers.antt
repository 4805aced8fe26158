use Rattle.std.proofs.Common.{◌≡◌, ◌∙◌, ap, rules, subst, sym, true}
use Rattle.trick_outside.specs.Works.{Runs}
use Rattle.trick_serve_seats.proofs.Seating.{reader_is_of, writer_is_of}
use Rattle.trick_serve_seats.proofs.seat.seat.Goals as goal
use Rattle.trick_serve_seats.proofs.seat.seat.Goals.{then-writes, else-writes}
use Rattle.trick_serve_seats.specs.Seats.{IsThread, Reads}
use Rattle.trick_wire.specs.declared.works.Reader.{Reader}
use Rattle.trick_wire.specs.declared.works.Writer.{Writer}

pub returns-clause-seated : goal.returns-clause-seated
returns-clause-seated g c =
    let queues = c.args.queues in
    let fresh = c.requires.fresh in
    let reader : Reader g.row.I.Denot g.row.R.Denot = record { rt = c.args.rt.now; alloc = c.args.alloc; link = c.args.links.0; inbox = queues.fills; bell = queues.reader_bell } in
    let writer : Writer g.row.O.Denot g.row.R.Denot = record { rt = c.args.rt.now; link = c.args.links.1; outbox = queues.empties; causes = queues.tells; bell = queues.writer_bell } in
    let runs : Runs (Reads g.I.LinkIn) reader c.if-writes.reading.0 = elim c.if-writes.branch [
      | then-writes w ↦ subst (λ reading. Runs (Reads g.I.LinkIn) reader reading.0) (sym w.reading-is) w.begin_reader.ensures.runs
      | else-writes w ↦ subst (λ reading. Runs (Reads g.I.LinkIn) reader reading.0) (sym w.reading-is) w.unread.ensures
    ] in
    let threads : c.if-writes.reading.1 ≡ true → IsThread c.begin_writer-writing.result.0 × IsThread c.if-writes.reading.0 = elim c.if-writes.branch [
      | then-writes w ↦ λ reads. (c.begin_writer-writing.ensures.started w.if-writes.true, subst (λ reading. IsThread reading.0) (sym w.reading-is) (w.begin_reader.ensures.started (sym (ap (λ reading. reading.1) w.reading-is) ∙ reads)))
      | else-writes w ↦ λ reads. absurd (let no = ap (λ reading. reading.1) w.reading-is in cc)
    ] in record {
      writing = (writer, c.begin_writer-writing.ensures.runs, λ done writes. writer_is_of g.O.LinkOut _ writer done fresh.outbox fresh.no_message fresh.causes fresh.no_cause fresh.room.1 c.of-output.ensures writes);
      reading = (reader, runs, λ done reads. reader_is_of g.I.LinkIn _ reader done fresh.inbox fresh.no_line c.of-input.ensures reads);
      no_line = queues.no_line;
      no_message = queues.no_message;
      no_cause = queues.no_cause;
      room = fresh.room.0;
      started = λ served. threads (search rules);
    }
