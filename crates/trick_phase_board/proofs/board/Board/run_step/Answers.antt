use Rattle.std.proofs.Common.{subst, sym}
use Rattle.std.specs.Option.{IfSome}
use Rattle.std.specs.Prelude.{IsSome}
use Rattle.trick_phase_board.proofs.Calls.{ready_first, ready_there}
use Rattle.trick_phase_board.specs.Board.{BoardView, IsBoardOf, IsOpenOf}
use Rattle.trick_phase_board.proofs.board.Board.run_step.Goals as goal

pub complete-requires-clause-there : goal.complete-requires-clause-there
complete-requires-clause-there g c =
    let plan = c.args.plan.now in
    ready_there c.pass.new.self.opened plan c.args.thread c.in-Ready.job
    (subst (λ (v : BoardView). IsSome v.opened) (sym c.pass.ensures) c.requires.open)
    (subst (λ (v : BoardView). IfSome v.opened (IsOpenOf plan)) (sym c.pass.ensures) c.requires.belongs.opened)
    c.in-Ready.ensures

pub complete-requires-clause-first : goal.complete-requires-clause-first
complete-requires-clause-first g c =
    let plan = c.args.plan.now in
    let belongs = subst (λ (v : BoardView). IsBoardOf plan v) (sym c.pass.ensures) c.requires.belongs in
    ready_first c.key_order_is_one.ensures plan c.pass.new.self.tables c.pass.new.self.opened c.args.thread c.in-Ready.job belongs.tables belongs.opened
    c.in-Ready.ensures
