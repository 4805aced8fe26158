use Rattle.std.proofs.Common.{◌++◌, Option, subst, sym}
use Rattle.trick_post_places.specs.Places.{Stands}
use Rattle.trick_post_places.specs.declared.event.Event.{Event}
use Rattle.trick_turn.specs.Passes.{seen}
use Rattle.trick_turn.specs.Turns.{pass_of, value_of}
use Rattle.trick_turn.specs.Views.{entries_told}
use Rattle.trick_post.proofs.turns.end_start.Goals as goal

pub release-requires-clause-stands : goal.release-requires-clause-stands
release-requires-clause-stands g c =
    subst (λ (o : Option Event). Stands g.P.Planned.plan (value_of c.args.turn) (seen (pass_of c.args.turn) ++ entries_told o))
    (sym c.requires.tells) c.requires.stands
