use Rattle.std.specs.Option.{option_map}
use Rattle.trick_turn.specs.Passes.{number_of}
use Rattle.trick_hall_kept.specs.declared.entry.Entry.TheVariants.{Take}
use Rattle.trick_hall.proofs.hand.Hand.try_take.Given as goal

abbrev pub ghosts-end_take : goal.ghosts-end_take
ghosts-end_take g a = record { tells = option_map (Take (number_of a.turn.pass.now)) a.job }
