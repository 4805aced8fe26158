use Rattle.trick_phase_board.proofs.Calls.{commit_belongs}
use Rattle.trick_phase_board.proofs.board.Board.settle.Goals as goal

pub returns-clause-belongs : goal.returns-clause-belongs
returns-clause-belongs g c =
    commit_belongs c.overwrite_law.ensures c.args.plan.now c.args.self.now c.store.new.self c.args.job c.requires.open c.requires.belongs c.requires.flies
    c.store.ensures
