use Rattle.std.proofs.Common.{subst}
use Rattle.trick_command.specs.Fed.{HasTaken}
use Rattle.trick_wire.proofs.Feeding.{push_taken, taken_holds}
use Rattle.trick_wire.proofs.line_feed.LineFeed.push.Goals as goal

pub invariant_of-self : goal.invariant_of-self
invariant_of-self c = taken_holds c.self.inside.feed c.push.new.self c.args.piece.now
    (push_taken c.push.result c.self.inside.feed c.push.new.self c.args.piece.now c.push.ensures.bytes c.push.ensures.memory) c.self.invariant

pub returns-clause-taken : goal.returns-clause-taken
returns-clause-taken c = subst (λ old. HasTaken old c.args.piece.now c.push.new.self) c.self.view_is
    (push_taken c.push.result c.self.inside.feed c.push.new.self c.args.piece.now c.push.ensures.bytes c.push.ensures.memory)
