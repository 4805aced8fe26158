use Rattle.std.proofs.Common.{◌++◌, Bool, None, cond, subst}
use Rattle.trick_post_places.specs.Places.{Stands}
use Rattle.trick_turn.specs.Passes.{seen}
use Rattle.trick_turn.specs.Turns.{pass_of, value_of}
use Rattle.trick_turn.specs.Views.{entries_told}
use Rattle.trick_post.proofs.turns.end_turn.Goals as goal

pub release-requires-clause-stands : goal.release-requires-clause-stands
release-requires-clause-stands g c =
    subst (λ (b : Bool). Stands g.P.Planned.plan (value_of c.args.turn) (seen (pass_of c.args.turn) ++ entries_told (cond b g.T.Adds.tells None)))
    c.if-done.true c.requires.stands

pub release-requires-else-done-clause-stands : goal.release-requires-else-done-clause-stands
release-requires-else-done-clause-stands g c =
    subst (λ (b : Bool). Stands g.P.Planned.plan (value_of c.args.turn) (seen (pass_of c.args.turn) ++ entries_told (cond b g.T.Adds.tells None)))
    c.if-done.false c.requires.stands
