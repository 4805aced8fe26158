use Rattle.std.proofs.Common.{◌∙◌, ap, subst, sym}
use Rattle.trick_phase_board.specs.Board.{BoardView}
use Rattle.trick_hall_kept.proofs.Boards.{tic_of_course}
use Rattle.trick_hall_kept.specs.HallView.{HallView}
use Rattle.trick_hall_kept.specs.Standing.{StandsAt}
use Rattle.trick_hall_kept.proofs.kept.Kept.tic.Goals as goal

pub returns : goal.returns
returns g c = λ plan log stands.
    let with_board : BoardView → HallView = λ b. record { board = b; shut = c.self.inside.shut } in
    let is = sym c.self.view_is ∙ ap with_board (sym c.deref.ensures) in
    tic_of_course plan log (with_board c.deref.result.now) c.tic.result (subst (λ (hall : HallView). StandsAt plan hall log) is stands) c.tic.ensures
