-- What the threads of a client hand back, by what they promise.
use Rattle.std.proofs.Common.{◌≡◌, ◌∙◌, ◌<◌, ℕ, List, [], ap, subst, sym}
use Rattle.std.specs.Arc.{arc_value}
use Rattle.trick_outside.specs.declared.link_in.LinkIn.{Ghosts as InGhosts}
use Rattle.trick_outside.specs.declared.link_out.LinkOut.{Ghosts as OutGhosts}
use Rattle.trick_serve_seats.specs.Seats.{IsReaderOf, IsWriterOf, Reads, Writes}
use Rattle.trick_serve_seats.specs.declared.arrival.Arrival.{Arrival}
use Rattle.trick_wire.specs.Ends.{AreEnds, IsSamePutter, IsSameTaker, put_by, room_of, taken_by}
use Rattle.trick_wire.specs.HasRead.{HasRead}
use Rattle.trick_wire.specs.HasWritten.{HasWritten, cause_of}
use Rattle.trick_wire.specs.declared.heard.Heard.{Heard}
use Rattle.trick_wire.specs.declared.heard.WriteStop.{WriteStop}
use Rattle.trick_wire.specs.declared.queue.Putter.{Putter}
use Rattle.trick_wire.specs.declared.queue.Taker.{Taker}
use Rattle.trick_wire.specs.declared.reader.ReaderDone.{ReaderDone}
use Rattle.trick_wire.specs.declared.works.Reader.{Reader}
use Rattle.trick_wire.specs.declared.works.Writer.{Writer}
use Rattle.trick_wire.specs.declared.writer.WriterDone.{WriterDone}

module _ {I O : Type 0} where
  -- by what was read of the link that was given
  pub read_is_of : (link : InGhosts I) (arrival : Arrival I O) (given : I) (inbox : Putter Heard) (done : ReaderDone I) → AreEnds inbox arrival.inbox → arrival.input.value ≡ given → IsSamePutter inbox done.inbox
      → HasRead (link.holds given) (link.holds done.link) (link.failures given) (link.failures done.link) done.stop (put_by done.inbox) → IsReaderOf link arrival done
  read_is_of link arrival given inbox done ends same stays read = record {
    inbox = ap (λ shared. arc_value shared) stays ∙ ends;
    read = subst (λ input. HasRead (link.holds input) (link.holds done.link) (link.failures input) (link.failures done.link) done.stop (put_by done.inbox)) (sym same) read;
  }

  -- and by what was written to it
  pub wrote_is_of : (link : OutGhosts O) (arrival : Arrival I O) (given : O) (outbox : Taker (List ℕ)) (causes : Putter WriteStop) (done : WriterDone O) → AreEnds arrival.outbox outbox → AreEnds causes arrival.causes
      → arrival.output.value ≡ given → IsSameTaker outbox done.outbox → IsSamePutter causes done.causes → HasWritten (link.holds given) (link.holds done.link) (link.failures given) (link.failures done.link) done.stop (taken_by done.outbox)
      → put_by done.causes ≡ cause_of done.stop → IsWriterOf link arrival done
  wrote_is_of link arrival given outbox causes done ends tells same stays still wrote cause = record {
    outbox = ends ∙ ap (λ shared. arc_value shared) (sym stays);
    causes = ap (λ shared. arc_value shared) still ∙ tells;
    wrote = subst (λ output. HasWritten (link.holds output) (link.holds done.link) (link.failures output) (link.failures done.link) done.stop (taken_by done.outbox)) (sym same) wrote;
    cause = cause;
  }

module _ {I O R : Type 0} where
  pub reader_is_of : (link : InGhosts I) (arrival : Arrival I O) (reader : Reader I R) (done : ReaderDone I) → AreEnds reader.inbox arrival.inbox → put_by reader.inbox ≡ [] → arrival.input.value ≡ reader.link
      → Reads link reader done → IsReaderOf link arrival done
  reader_is_of link arrival reader done ends none same reads = read_is_of link arrival reader.link reader.inbox done ends same reads.0 (reads.1 none)

  pub writer_is_of : (link : OutGhosts O) (arrival : Arrival I O) (writer : Writer O R) (done : WriterDone O) → AreEnds arrival.outbox writer.outbox → taken_by writer.outbox ≡ [] → AreEnds writer.causes arrival.causes
      → put_by writer.causes ≡ [] → 0 < room_of writer.causes → arrival.output.value ≡ writer.link → Writes link writer done → IsWriterOf link arrival done
  writer_is_of link arrival writer done outbox none causes no_cause room same writes =
      wrote_is_of link arrival writer.link writer.outbox writer.causes done outbox causes same writes.0 writes.1 (writes.2 none) (writes.3 room no_cause)
