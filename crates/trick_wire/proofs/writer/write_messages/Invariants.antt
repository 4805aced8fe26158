use Rattle.std.proofs.Common.{◌≡◌, ◌≤◌, []}
use Rattle.trick_outside.specs.Links.{Took}
use Rattle.trick_wire.specs.Ends.{IsSameTaker, taken_by}
use Rattle.trick_wire.specs.HasWritten.{text_of}
use Rattle.trick_wire.proofs.writer.write_messages.Given as goal

abbrev pub invariant-loop : goal.invariant-loop
invariant-loop g l = IsSameTaker l.initial.outbox l.outbox
    × (taken_by l.initial.outbox ≡ [] → Took (g.O.LinkOut.holds l.initial.link) (g.O.LinkOut.holds l.link) (text_of (taken_by l.outbox)) × (g.O.LinkOut.failures l.initial.link ≤ g.O.LinkOut.failures l.link))
