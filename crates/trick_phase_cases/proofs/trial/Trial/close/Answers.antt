use Rattle.std.proofs.Common.{refl}
use Rattle.trick_phase_cases.proofs.Trials.{closed_board, right_trial}
use Rattle.trick_phase_cases.proofs.trial.Trial.close.Goals as goal

pub returns : goal.returns
returns c =
    let old = c.args.self.now in
    let plan = c.args.accepted.now.plan in
    let closed = c.close-closed in
    right_trial plan old.board closed.new.self old.bench old.bench old.other c.requires
    (closed_board closed.result plan old.board closed.new.self _ c.requires.board_is closed.ensures.closed closed.ensures.left) refl
