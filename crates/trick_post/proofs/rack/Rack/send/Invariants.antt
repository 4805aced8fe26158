use Rattle.std.proofs.Common.{Some}
use Rattle.trick_post_places.specs.Histories.{desk_seat}
use Rattle.trick_post_places.specs.declared.event.Event.TheVariants.{Start}
use Rattle.trick_post.proofs.rack.Rack.send.Given as goal

abbrev pub ghosts-end_start : goal.ghosts-end_start
ghosts-end_start g a = record { tells = Some (Start desk_seat a.thread a.taken.now a.work) }
