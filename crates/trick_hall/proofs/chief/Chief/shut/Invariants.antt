use Rattle.std.proofs.Common.{Some}
use Rattle.trick_hall_kept.specs.declared.entry.Entry.TheVariants.{Shut}
use Rattle.trick_hall.proofs.chief.Chief.shut.Given as goal

abbrev pub ghosts-release : goal.ghosts-release
ghosts-release g a = record { tells = Some (Shut 1) }
