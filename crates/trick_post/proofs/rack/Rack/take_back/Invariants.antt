use Rattle.std.proofs.Common.{Some}
use Rattle.trick_post_places.specs.declared.event.Event.TheVariants.{Finish}
use Rattle.trick_turn.specs.Passes.{number_of}
use Rattle.trick_post.proofs.rack.Rack.take_back.Given as goal

abbrev pub ghosts-end_turn : goal.ghosts-end_turn
ghosts-end_turn g a = record { tells = Some (Finish (number_of a.turn.pass.now) a.thread) }
