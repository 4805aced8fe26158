use Rattle.std.specs.Option.{option_map}
use Rattle.trick_turn.specs.Passes.{number_of}
use Rattle.trick_hall_kept.specs.declared.entry.Entry.TheVariants.{Commit}
use Rattle.trick_hall.proofs.hand.Hand.try_commit.Given as goal

abbrev pub ghosts-end_commit : goal.ghosts-end_commit
ghosts-end_commit g a = record { tells = option_map (Commit (number_of a.turn.pass.now)) a.job }
