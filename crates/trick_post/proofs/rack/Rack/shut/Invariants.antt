use Rattle.std.proofs.Common.{Some}
use Rattle.trick_post_places.specs.declared.event.Event.TheVariants.{Shut}
use Rattle.trick_turn.specs.Passes.{number_of}
use Rattle.trick_post.proofs.rack.Rack.shut.Given as goal

abbrev pub ghosts-release : goal.ghosts-release
ghosts-release g a = record { tells = Some (Shut (number_of a.self.pass.now)) }
