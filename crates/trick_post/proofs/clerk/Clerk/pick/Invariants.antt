use Rattle.std.proofs.Common.{Some}
use Rattle.trick_post_places.specs.declared.event.Event.TheVariants.{Pick}
use Rattle.trick_turn.specs.Passes.{number_of}
use Rattle.trick_post.proofs.clerk.Clerk.pick.Given as goal

abbrev pub ghosts-end_turn : goal.ghosts-end_turn
ghosts-end_turn g a = record { tells = Some (Pick (number_of a.turn.pass.now) a.thread) }
