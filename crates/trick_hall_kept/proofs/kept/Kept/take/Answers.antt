use Rattle.trick_hall_kept.proofs.Takings.{takes_filled, takes_in, takes_on}
use Rattle.trick_phase.proofs.Follows.{Laws}
use Rattle.trick_hall_kept.proofs.kept.Kept.take.Goals as goal

pub take_from_board-requires-clause-belongs : goal.take_from_board-requires-clause-belongs
take_from_board-requires-clause-belongs g c = c.requires.standing.1.state.belongs

pub returns-clause-answer : goal.returns-clause-answer
returns-clause-answer g c = λ log stands.
    takes_in c.args.accepted.now.plan c.args.thread c.args.self.now c.take_from_board.new.self c.args.bench.now c.take_from_board.new.bench log
    c.take_from_board.result stands c.take_from_board.ensures.answer c.take_from_board.ensures.filled

pub returns-clause-stands : goal.returns-clause-stands
returns-clause-stands g c = λ log seat stands.
    let laws : Laws = record { keys = c.key_order_is_one.ensures; settled = c.due_jobs_are_settled.ensures; same = c.frame_law.ensures; within = c.write_law.ensures } in
    takes_on c.args.accepted.now.plan c.args.thread c.args.self.now c.take_from_board.new.self c.args.bench.now c.take_from_board.new.bench laws c.args.accepted.now.accepted log seat
    c.take_from_board.result stands c.take_from_board.ensures.answer c.take_from_board.ensures.taken c.take_from_board.ensures.filled c.take_from_board.ensures.belongs

pub returns-clause-filled : goal.returns-clause-filled
returns-clause-filled g c =
    takes_filled c.args.accepted.now.plan c.args.thread c.args.self.now c.take_from_board.new.self c.args.bench.now c.take_from_board.new.bench
    c.take_from_board.result c.requires.standing.1.state.belongs c.take_from_board.ensures.answer c.take_from_board.ensures.filled
