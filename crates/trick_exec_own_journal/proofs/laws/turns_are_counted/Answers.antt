use Rattle.trick_exec_own_journal.proofs.Turns.{final_turn, turn_of_state, turns_below, turns_count}
use Rattle.trick_exec_own_journal.proofs.laws.turns_are_counted.Goals as goal
use Rattle.trick_model.specs.Run.{opened}

pub returns : goal.returns
returns c = record {
  after = λ p s lists most. turns_count p (opened s) lists most;
  last = λ p s lists most. final_turn p s lists most;
  counted = λ p s lists most less. turns_below p s lists most less;
  before = λ p s entries turn first most. turn_of_state p s entries turn first most;
}
