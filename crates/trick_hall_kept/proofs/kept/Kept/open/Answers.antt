use Rattle.std.proofs.Common.{◌∙◌, ap, subst, sym, refl}
use Rattle.trick_phase_board.specs.Board.{BoardView}
use Rattle.trick_hall_kept.proofs.Boards.{closed_board}
use Rattle.trick_hall_kept.proofs.Tics.{open_entry_is, opens}
use Rattle.trick_hall_kept.specs.HallView.{HallView}
use Rattle.trick_hall_kept.specs.Histories.{after}
use Rattle.trick_hall_kept.specs.Standing.{StandsAt}
use Rattle.trick_hall_kept.proofs.kept.Kept.open.Goals as goal

pub open-requires-clause-closed : goal.open-requires-clause-closed
open-requires-clause-closed g c =
    let with_board : BoardView → HallView = λ b. record { board = b; shut = c.self.inside.shut } in
    let is = sym c.self.view_is ∙ ap with_board (sym c.deref_mut.ensures.value) in
    let stands = subst (λ (hall : HallView). StandsAt c.args.accepted.now.plan hall c.requires.closed.0) is c.requires.closed.1 in
    closed_board c.args.accepted.now.plan (after c.requires.closed.0) (with_board c.deref_mut.result.now) stands.state c.requires.closed.2

pub open-requires-clause-belongs : goal.open-requires-clause-belongs
open-requires-clause-belongs g c =
    let with_board : BoardView → HallView = λ b. record { board = b; shut = c.self.inside.shut } in
    let is = sym c.self.view_is ∙ ap with_board (sym c.deref_mut.ensures.value) in
    (subst (λ (hall : HallView). StandsAt c.args.accepted.now.plan hall c.requires.closed.0) is c.requires.closed.1).state.belongs

pub returns-clause-entry : goal.returns-clause-entry
returns-clause-entry g c =
    open_entry_is c.args.accepted.now.plan (record { board = c.open.new.self; shut = c.self.inside.shut }) (g.M.Cells.numbers c.args.memory) c.args.on.now c.args.tic c.open.ensures.opened

pub returns-clause-stands : goal.returns-clause-stands
returns-clause-stands g c = λ log stands none off.
    let plan = c.args.accepted.now.plan in
    let with_board : BoardView → HallView = λ b. record { board = b; shut = c.self.inside.shut } in
    let is = sym c.self.view_is ∙ ap with_board (sym c.deref_mut.ensures.value) in
    opens plan log (with_board c.deref_mut.result.now) (with_board c.open.new.self) (g.M.Cells.numbers c.args.memory) c.args.on.now c.args.tic
    (subst (λ (hall : HallView). StandsAt plan hall log) is stands) none off c.open.ensures.opened c.open.ensures.phase c.open.ensures.belongs refl
