-- What is known of a client's threads, and of what they hand back.
use Rattle.std.specs.Prelude.{◌≡◌, ◌<◌, [], false}
use Rattle.trick_outside.specs.Works.{Runs}
use Rattle.trick_outside.specs.declared.link_in.LinkIn.{Ghosts as InGhosts}
use Rattle.trick_outside.specs.declared.link_out.LinkOut.{Ghosts as OutGhosts}
use Rattle.trick_outside.specs.declared.work.Running.{Running}
use Rattle.trick_outside.specs.declared.work.Running.TheVariants.{Here, There}
use Rattle.trick_serve_seats.specs.declared.arrival.Arrival.{Arrival}
use Rattle.trick_serve_seats.specs.declared.past.Past.{Past}
use Rattle.trick_serve_seats.specs.declared.queues.Queues.{Queues}
use Rattle.trick_serve_seats.specs.declared.seat.Seated.{Seated}
use Rattle.trick_wire.specs.Ends.{AreEnds, IsSamePutter, IsSameTaker, put_by, room_of, taken_by}
use Rattle.trick_wire.specs.HasRead.{HasRead}
use Rattle.trick_wire.specs.HasWritten.{HasWritten, cause_of}
use Rattle.trick_wire.specs.declared.reader.ReaderDone.{ReaderDone}
use Rattle.trick_wire.specs.declared.works.Reader.{Reader}
use Rattle.trick_wire.specs.declared.works.Writer.{Writer}
use Rattle.trick_wire.specs.declared.writer.WriterDone.{WriterDone}

-- The queues of a session, through which nothing has gone yet.
pub record AreFresh (queues : Queues) : Type 0 where
  pub inbox : AreEnds queues.fills queues.inbox
  pub outbox : AreEnds queues.outbox queues.empties
  pub causes : AreEnds queues.tells queues.causes
  pub no_line : put_by queues.fills ≡ []
  pub no_message : taken_by queues.empties ≡ []
  pub no_cause : put_by queues.tells ≡ []
  pub room : (room_of queues.outbox ≡ 1024) × (0 < room_of queues.tells)

-- What a reader promises.
abbrev pub Reads : {I R : Type 0} → InGhosts I → Reader I R → ReaderDone I → Type 0
Reads link work done = IsSamePutter work.inbox done.inbox
    × (put_by work.inbox ≡ [] → HasRead (link.holds work.link) (link.holds done.link) (link.failures work.link)
    (link.failures done.link) done.stop (put_by done.inbox))

-- What a writer promises.
abbrev pub Writes : {O R : Type 0} → OutGhosts O → Writer O R → WriterDone O → Type 0
Writes link work done = IsSameTaker work.outbox done.outbox × IsSamePutter work.causes done.causes
    × (taken_by work.outbox ≡ [] → HasWritten (link.holds work.link) (link.holds done.link) (link.failures work.link)
    (link.failures done.link) done.stop (taken_by done.outbox))
    × (0 < room_of work.causes → put_by work.causes ≡ [] → put_by done.causes ≡ cause_of done.stop)

-- This was handed back by the reader of a client: it filled the client's inbox with lines of its link.
pub record IsReaderOf {I O : Type 0} (link : InGhosts I) (arrival : Arrival I O) (done : ReaderDone I) : Type 0 where
  pub inbox : AreEnds done.inbox arrival.inbox
  pub read : HasRead (link.holds arrival.input.value) (link.holds done.link) (link.failures arrival.input.value)
      (link.failures done.link) done.stop (put_by done.inbox)

-- This was handed back by the writer of a client: it wrote to the client's link what it took of the outbox.
pub record IsWriterOf {I O : Type 0} (link : OutGhosts O) (arrival : Arrival I O) (done : WriterDone O) : Type 0 where
  pub outbox : AreEnds arrival.outbox done.outbox
  pub causes : AreEnds done.causes arrival.causes
  pub wrote : HasWritten (link.holds arrival.output.value) (link.holds done.link) (link.failures arrival.output.value)
      (link.failures done.link) done.stop (taken_by done.outbox)
  pub cause : put_by done.causes ≡ cause_of done.stop

-- Whatever a work comes to that runs or did, it is of this kind.
abbrev pub ComesTo : {W O : Type 0} → (W → O → Type 0) → Running W O → (O → Type 0) → Type 0
ComesTo {W} {O} promises running Is = (work : W) × Runs promises work running × ((out : O) → promises work out → Is out)

-- It was started in a thread of its own.
abbrev pub IsThread : {W O : Type 0} → Running W O → Type 0
IsThread (There child) = Unit {0}
IsThread (Here out) = ⊥

-- The threads are those of this client, nothing has gone through the caller's ends, and its outbox has room for 1,024
-- messages. A client that is not told as refused has both its threads.
pub record IsSeated {I O R : Type 0} (input : InGhosts I) (output : OutGhosts O) (arrival : Arrival I O)
    (seated : Seated I O R) : Type 0 where
  pub writing : ComesTo (Writes output) seated.writing (IsWriterOf output arrival)
  pub reading : ComesTo (Reads input) seated.reading (IsReaderOf input arrival)
  pub no_line : taken_by arrival.inbox ≡ []
  pub no_message : put_by arrival.outbox ≡ []
  pub no_cause : taken_by arrival.causes ≡ []
  pub room : room_of arrival.outbox ≡ 1024
  pub started : arrival.refused ≡ false → IsThread seated.writing × IsThread seated.reading

-- This is what the threads of this client handed back. It came with nothing through its caller's ends, and with room
-- for 1,024 messages in its outbox.
pub record IsPast {I O : Type 0} (input : InGhosts I) (output : OutGhosts O) (arrival : Arrival I O) (past : Past I O)
    : Type 0 where
  pub writer : IsWriterOf output arrival past.writer
  pub reader : IsReaderOf input arrival past.reader
  pub no_line : taken_by arrival.inbox ≡ []
  pub no_message : put_by arrival.outbox ≡ []
  pub no_cause : taken_by arrival.causes ≡ []
  pub room : room_of arrival.outbox ≡ 1024
