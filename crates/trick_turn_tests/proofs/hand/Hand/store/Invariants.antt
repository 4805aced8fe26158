use Rattle.std.proofs.Common.{Some}
use Rattle.trick_turn_tests.specs.declared.board.Entry.TheVariants.{Store}
use Rattle.trick_turn_tests.proofs.hand.Hand.store.Given as goal

abbrev pub ghosts-tell_store : goal.ghosts-tell_store
ghosts-tell_store g a = record { tells = Some (Store a.seat a.cell a.number) }
