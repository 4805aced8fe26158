-- What a worker leaves.
use Rattle.std.specs.Prelude.{◌≡◌, true}
use Rattle.trick_crew_team.specs.declared.worker.Worker.{Worker}
use Rattle.trick_hall_kept.specs.Histories.{has_shut}
use Rattle.trick_hall.specs.declared.hand.Hand.{Hand}
use Rattle.trick_model.specs.declared.planned.Planned.{Ghosts}
use Rattle.trick_turn.specs.Passes.{seen}

-- The worker leaves its hand, of the same hall, once it has seen that the hall was shut.
abbrev pub HasWorked : {M P G R : Type 0} {planned : Ghosts P} → Worker M P G R planned → Hand M P → Type 0
HasWorked worker hand = (hand.lock ≡ worker.hand.lock) × (has_shut (seen hand.pass) ≡ true)
