use Rattle.trick_queue.proofs.Late.{late_exact}
use Rattle.trick_queue.proofs.laws.late_test_is_exact.Goals as goal

pub returns : goal.returns
returns c = λ d from tic. late_exact d from tic (c.due_test_is_exact.ensures d)
