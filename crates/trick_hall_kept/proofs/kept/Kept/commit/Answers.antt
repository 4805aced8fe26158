use Rattle.trick_hall_kept.proofs.Committings.{commits_in, commits_on}
use Rattle.trick_phase.proofs.Follows.{Laws}
use Rattle.trick_hall_kept.proofs.kept.Kept.commit.Goals as goal

pub commit_to_board-requires-clause-belongs : goal.commit_to_board-requires-clause-belongs
commit_to_board-requires-clause-belongs g c = c.requires.standing.1.state.belongs

pub returns-clause-answer : goal.returns-clause-answer
returns-clause-answer g c = λ log stands.
    commits_in c.args.accepted.now.plan c.args.self.now c.commit_to_board.new.self c.args.bench.now c.commit_to_board.new.bench log
    c.commit_to_board.result stands c.commit_to_board.ensures.answer

pub returns-clause-stands : goal.returns-clause-stands
returns-clause-stands g c = λ log seat stands.
    let laws : Laws = record { keys = c.key_order_is_one.ensures; settled = c.due_jobs_are_settled.ensures; same = c.frame_law.ensures; within = c.write_law.ensures } in
    commits_on c.args.accepted.now.plan c.args.self.now c.commit_to_board.new.self c.args.bench.now c.commit_to_board.new.bench laws c.args.accepted.now.accepted c.requires.filled.0 log seat
    c.commit_to_board.result stands c.commit_to_board.ensures.answer c.commit_to_board.ensures.committed c.commit_to_board.ensures.belongs
