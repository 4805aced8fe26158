use Rattle.trick_hall_tests.proofs.tests.open.Goals as goal

pub open-requires-clause-due : goal.open-requires-clause-due
open-requires-clause-due g c = c.due.ensures c.args.accepted.now.plan c.plan.result.now.jobs 0 c.queues_of-queues.ensures.own c.queues_of-queues.ensures.asked
