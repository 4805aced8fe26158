use Rattle.std.proofs.Common.{Some}
use Rattle.trick_turn.specs.Turns.{value_of}
use Rattle.trick_hall_kept.specs.Openings.{open_entry}
use Rattle.trick_hall.proofs.chief.Chief.try_open.Given as goal

abbrev pub ghosts-tell_open : goal.ghosts-tell_open
ghosts-tell_open g a = record { tells = Some (open_entry (value_of a.turn) a.on.now a.tic) }
