use Rattle.std.proofs.Common.{rules, ◌≡◌, true}
use Rattle.trick_phase.proofs.Turns.{flown, flown_filled}
use Rattle.trick_phase.specs.Steps.{has_job}
use Rattle.trick_phase.proofs.steps.commit_job.Goals as goal

pub commit-requires-clause-filled : goal.commit-requires-clause-filled
commit-requires-clause-filled g c =
    let has : has_job c.args.bench.now.job c.args.job ≡ true = search rules in
    flown_filled c.args.accepted.now.plan c.args.board.now c.args.job c.args.bench.now
    (flown c.args.accepted.now.plan c.args.board.now c.args.job c.args.bench.now c.requires.held has)

pub commit-requires-clause-evaluated : goal.commit-requires-clause-evaluated
commit-requires-clause-evaluated g c =
    let has : has_job c.args.bench.now.job c.args.job ≡ true = search rules in
    (flown c.args.accepted.now.plan c.args.board.now c.args.job c.args.bench.now c.requires.held has).held.evaluated
