use Rattle.std.proofs.Common.{Some}
use Rattle.trick_hall_tests.proofs.tests.gives_the_fold.Given as goal

abbrev pub ghosts-driven : goal.ghosts-driven
ghosts-driven g a = record { plan = Some a.accepted.now.plan }
