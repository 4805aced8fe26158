-- What the links of a client tell, by its arrival and its end.
use Rattle.std.specs.Prelude.{◌≤◌}
use Rattle.trick_outside.specs.Causes.{Rose}
use Rattle.trick_outside.specs.declared.link_in.LinkIn.{Ghosts as InGhosts}
use Rattle.trick_outside.specs.declared.link_out.LinkOut.{Ghosts as OutGhosts}
use Rattle.trick_serve_hearing.specs.Sides.{Side}
use Rattle.trick_serve_seats.specs.Seats.{IsPast}
use Rattle.trick_serve_seats.specs.declared.arrival.Arrival.{Arrival}
use Rattle.trick_serve_door.specs.declared.ending.SessionEnd.{SessionEnd}
use Rattle.trick_serve_seats.specs.declared.past.Past.{Past}
use Rattle.trick_serve_facts.specs.Clients.{LinkTale}
use Rattle.trick_wire.specs.HasHeard.{HasHeard}
use Rattle.trick_wire.specs.HasWritten.{HasWritten, IsCauseOf}

module _ {I O : Type 0} where
  -- what the links tell of a client that arrived with them, and whose session ended with them
  abbrev pub tale_of : InGhosts I → OutGhosts O → Arrival I O → SessionEnd I O → LinkTale
  tale_of input output arrival ended = record {
    told = input.holds arrival.input.value;
    read_before = input.failures arrival.input.value;
    read_now = input.failures ended.input;
    taken_before = output.holds arrival.output.value;
    taken_now = output.holds ended.output;
    write_before = output.failures arrival.output.value;
    write_now = output.failures ended.output;
    wrote = ended.wrote;
  }

  -- What is said of the end of a session whose seat has this side: its threads handed back what they promise, and the
  -- count of its second link has not fallen since.
  pub record IsEndOf (input : InGhosts I) (output : OutGhosts O) (arrival : Arrival I O) (past : Past I O)
      (ended : SessionEnd I O) (s : Side) : Type 0 where
    pub is_past : IsPast input output arrival past
    pub heard : HasHeard (input.holds arrival.input.value)
        (Rose (input.failures arrival.input.value) (input.failures ended.input)) s.heard
    pub sent : HasWritten (output.holds arrival.output.value) (output.holds ended.output) (output.failures arrival.output.value)
        (output.failures ended.output) ended.wrote s.put
    pub cause : IsCauseOf s.told past.writer.stop
    pub later : output.failures past.writer.link ≤ output.failures ended.output
