use Rattle.std.proofs.Common.{◌≤◌, ◌-◌, length, take}
use Rattle.trick_outside.specs.Links.{Took}
use Rattle.trick_wire.proofs.writer.write_whole.Given as goal

abbrev pub invariant-loop-at : goal.invariant-loop-at
invariant-loop-at g l = (l.at ≤ length l.message) × Took (g.O.LinkOut.holds l.initial.link) (g.O.LinkOut.holds l.link) (take l.at l.message) × (g.O.LinkOut.failures l.initial.link ≤ g.O.LinkOut.failures l.link)

abbrev pub decreases-loop-at : goal.decreases-loop-at
decreases-loop-at g l = length l.message - l.at
