use Rattle.std.proofs.Common.{Some}
use Rattle.trick_turn.specs.Turns.{value_of}
use Rattle.trick_turn_tests.specs.Histories.{opening}
use Rattle.trick_turn_tests.proofs.chief.Chief.open.Given as goal

abbrev pub ghosts-tell_open : goal.ghosts-tell_open
ghosts-tell_open g a = record { tells = Some (opening g.M.Cells.numbers (value_of a.turn) a.on.now a.tic) }
