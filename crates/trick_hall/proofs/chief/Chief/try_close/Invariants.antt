use Rattle.trick_hall_kept.specs.Answers.{close_if}
use Rattle.trick_hall.proofs.chief.Chief.try_close.Given as goal

abbrev pub ghosts-tell_close : goal.ghosts-tell_close
ghosts-tell_close g a = record { tells = close_if a.closed }
