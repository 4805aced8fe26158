use Rattle.std.proofs.Common.{rules, ◌≡◌, arith, length}
use Rattle.trick_queue.proofs.group.groups_of.Goals as goal

pub returns-clause-jobs : goal.returns-clause-jobs
returns-clause-jobs c = λ at none less.
    let used = c.loop-place.invariant.jobs at none less in
    let end : c.loop-place.place ≡ length c.args.jobs.now = search rules in
    (used.0, omega (arith, used.1, end), used.2)
