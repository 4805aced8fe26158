use Rattle.std.proofs.Common.{Some}
use Rattle.trick_turn.specs.Passes.{number_of}
use Rattle.trick_turn_tests.specs.declared.board.Entry.TheVariants.{Close}
use Rattle.trick_turn_tests.proofs.chief.Chief.close.Given as goal

abbrev pub ghosts-release : goal.ghosts-release
ghosts-release g a = record { tells = Some (Close (number_of a.self.pass.now)) }
