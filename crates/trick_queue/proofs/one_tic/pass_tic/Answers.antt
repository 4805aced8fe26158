use Rattle.std.proofs.Common.{◌≡◌, ◌<◌, ◌≤◌, arith, slice_index_or}
use Rattle.trick_queue.proofs.Passed.{late_none}
use Rattle.trick_queue.proofs.one_tic.pass_tic.Goals as goal
use Rattle.trick_queue.specs.Passed.{late}
use Rattle.trick_queue.specs.Tree.{never}

pub returns-then-tic-entry-clause-steps : goal.returns-then-tic-entry-clause-steps
returns-then-tic-entry-clause-steps g c =
    let less : c.args.tic < c.in-Some.entry.0 = c.if-tic-entry.true in
    let none : late c.args.tic c.loop-entry.calendar ≡ 0 = late_none c.args.tic c.loop-entry.calendar
    (λ at there. let le : c.in-Some.entry.0 ≤ slice_index_or c.loop-entry.calendar at never = c.in-Some.ensures.first.least at there in omega (arith, le, less)) in
    omega (arith, none, c.in-Some.ensures.step, c.loop-entry.invariant.steps)

pub returns-clause-steps : goal.returns-clause-steps
returns-clause-steps g c =
    let none : late c.args.tic c.loop-entry.calendar ≡ 0 = late_none c.args.tic c.loop-entry.calendar
    (λ at there. let le : never ≤ slice_index_or c.loop-entry.calendar at never = c.in_default.ensures.first at there in omega (arith, le, c.requires.tic)) in
    omega (arith, none, c.in_default.ensures.step, c.loop-entry.invariant.steps)
