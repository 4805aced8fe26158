use Rattle.std.proofs.Common.{◌≡◌, ◌≤◌, ℕ, List, Option}
use Rattle.trick_outside.specs.Links.{Took}
use Rattle.trick_wire.specs.Ends.{HasBoth, given_to, taken_by}
use Rattle.trick_wire.specs.HasWritten.{text_of}
use Rattle.trick_wire.proofs.join.write_left.Given as goal

abbrev pub invariant-loop : goal.invariant-loop
invariant-loop g l = HasBoth l.outbox × (given_to l.outbox ≡ given_to l.initial.outbox)
    × ((start : Option (List ℕ)) (before : ℕ) → Took start (g.O.LinkOut.holds l.initial.link) (text_of (taken_by l.initial.outbox)) → before ≤ g.O.LinkOut.failures l.initial.link
    → Took start (g.O.LinkOut.holds l.link) (text_of (taken_by l.outbox)) × (before ≤ g.O.LinkOut.failures l.link))
    × (g.O.LinkOut.failures l.initial.link ≤ g.O.LinkOut.failures l.link)
