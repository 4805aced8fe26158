use Rattle.std.proofs.Common.{subst, ap}
use Rattle.trick_queue.proofs.Answered.{least_found}
use Rattle.trick_queue.proofs.queues.Queues.next.Goals as goal
use Rattle.trick_queue.specs.Calendar.{FindsLeastOf}
use Rattle.trick_queue.specs.Queue.{QueuesView}

pub returns : goal.returns
returns c = λ plan on own.
    least_found plan on c.args.self.now c.least.result (λ d t. (c.due_test_is_exact.ensures d t)) own
    (subst (λ tics. FindsLeastOf tics c.least.result) (ap (λ (v : QueuesView). v.tics) c.self.view_is) c.least.ensures)
