use Rattle.trick_wire.proofs.Feeding.{pulled_holds}
use Rattle.trick_wire.proofs.line_feed.LineFeed.pull.Goals as goal

pub invariant_of-self : goal.invariant_of-self
invariant_of-self c = pulled_holds c.self.inside.feed c.pull.new.self c.pull.result c.self.invariant c.pull.ensures.line c.pull.ensures.held
