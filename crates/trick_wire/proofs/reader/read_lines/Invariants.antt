use Rattle.std.proofs.Common.{◌≡◌, []}
use Rattle.trick_wire.specs.Ends.{IsSamePutter, put_by}
use Rattle.trick_wire.specs.HasRead.{IsReading}
use Rattle.trick_wire.proofs.reader.read_lines.Given as goal

abbrev pub invariant-loop : goal.invariant-loop
invariant-loop g l = IsSamePutter l.initial.letters.inbox l.letters.inbox
    × (put_by l.initial.letters.inbox ≡ [] → IsReading (g.I.LinkIn.holds l.initial.link) (g.I.LinkIn.holds l.link) (g.I.LinkIn.failures l.initial.link) (g.I.LinkIn.failures l.link) l.feed (put_by l.letters.inbox) × (l.feed.waiting ≡ []))
