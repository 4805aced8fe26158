use Rattle.std.proofs.Common.{Some}
use Rattle.trick_turn.specs.Passes.{number_of}
use Rattle.trick_turn_tests.proofs.count.count_turn.Given as goal

abbrev pub ghosts-release : goal.ghosts-release
ghosts-release g a = record { tells = Some (number_of a.self.pass.now) }
