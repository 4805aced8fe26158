use Rattle.std.proofs.Common.{◌≡◌}
use Rattle.trick_post.proofs.rack.Rack.fetch.Given as goal
use Rattle.trick_turn.specs.Passes.{own, seen}
use mathlib.Core.List.{IsPrefix}

abbrev pub invariant-loop : goal.invariant-loop
invariant-loop g l =
    (goal.iterator-loop g).can_next l.iterator' × (goal.iterator-loop g).is_finite l.iterator'
    × (own l.self.pass ≡ own l.initial.self.pass)
    × (l.self.held ≡ l.initial.self.held)
    × (l.self.lock ≡ l.initial.self.lock)
    × IsPrefix (seen l.initial.self.pass) (seen l.self.pass)
