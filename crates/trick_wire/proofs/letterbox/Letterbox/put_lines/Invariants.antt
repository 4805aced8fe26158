use Rattle.std.proofs.Common.{◌≡◌, ◌++◌, List, ℕ}
use Rattle.trick_wire.specs.Ends.{IsSamePutter, put_by}
use Rattle.trick_wire.specs.Puts.{said}
use Rattle.trick_wire.proofs.letterbox.Letterbox.put_lines.Given as goal

abbrev pub invariant-loop : goal.invariant-loop
invariant-loop g l = (some : List (List ℕ)) × (l.initial.feed.waiting ≡ some ++ l.feed.waiting) × (put_by l.self.inbox ≡ put_by l.initial.self.inbox ++ said some)
    × IsSamePutter l.initial.self.inbox l.self.inbox × (l.feed.held ≡ l.initial.feed.held)
