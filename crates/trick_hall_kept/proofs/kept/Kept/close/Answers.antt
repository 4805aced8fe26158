use Rattle.std.proofs.Common.{◌∙◌, ap, subst, sym, refl}
use Rattle.trick_phase_board.specs.Board.{BoardView}
use Rattle.trick_hall_kept.proofs.Boards.{open_board}
use Rattle.trick_hall_kept.proofs.Tics.{closes_in, closes_on, scalars_given}
use Rattle.trick_hall_kept.specs.HallView.{HallView}
use Rattle.trick_hall_kept.specs.Histories.{after}
use Rattle.trick_hall_kept.specs.Standing.{StandsAt}
use Rattle.trick_phase.proofs.Follows.{Laws}
use Rattle.trick_hall_kept.proofs.kept.Kept.close.Goals as goal

pub close-requires : goal.close-requires
close-requires g c =
    let with_board : BoardView → HallView = λ b. record { board = b; shut = c.self.inside.shut } in
    let is = sym c.self.view_is ∙ ap with_board (sym c.deref_mut.ensures.value) in
    let stands = subst (λ (hall : HallView). StandsAt c.args.accepted.now.plan hall c.requires.opened.0) is c.requires.opened.1 in
    record { «open» = open_board c.args.accepted.now.plan (after c.requires.opened.0) (with_board c.deref_mut.result.now) stands.state c.requires.opened.2 }

pub returns-clause-answer : goal.returns-clause-answer
returns-clause-answer g c = λ log course stands course_is.
    let plan = c.args.accepted.now.plan in
    let laws : Laws = record { keys = c.key_order_is_one.ensures; settled = c.due_jobs_are_settled.ensures; same = c.frame_law.ensures; within = c.write_law.ensures } in
    let with_board : BoardView → HallView = λ b. record { board = b; shut = c.self.inside.shut } in
    let is = sym c.self.view_is ∙ ap with_board (sym c.deref_mut.ensures.value) in
    let was = with_board c.deref_mut.result.now in
    let first = subst (λ (hall : HallView). StandsAt plan hall c.requires.opened.0) is c.requires.opened.1 in
    let here = subst (λ (hall : HallView). StandsAt plan hall log) is stands in
    closes_in laws plan c.args.accepted.now.accepted g.M.Cells.numbers log was (with_board c.close.new.self) c.args.faults.now c.close.new.faults here course course_is
    (open_board plan (after c.requires.opened.0) was first.state c.requires.opened.2) c.close.result c.close.ensures.count
    (λ first steps. c.close.ensures.serial plan c.args.accepted.now.accepted here.state.belongs first steps) c.close.ensures.left

pub returns-clause-stands : goal.returns-clause-stands
returns-clause-stands g c = λ log stands.
    let plan = c.args.accepted.now.plan in
    let laws : Laws = record { keys = c.key_order_is_one.ensures; settled = c.due_jobs_are_settled.ensures; same = c.frame_law.ensures; within = c.write_law.ensures } in
    let with_board : BoardView → HallView = λ b. record { board = b; shut = c.self.inside.shut } in
    let is = sym c.self.view_is ∙ ap with_board (sym c.deref_mut.ensures.value) in
    let was = with_board c.deref_mut.result.now in
    let first = subst (λ (hall : HallView). StandsAt plan hall c.requires.opened.0) is c.requires.opened.1 in
    let here = subst (λ (hall : HallView). StandsAt plan hall log) is stands in
    closes_on laws plan c.args.accepted.now.accepted g.M.Cells.numbers log was (with_board c.close.new.self) c.args.faults.now c.close.new.faults here
    (open_board plan (after c.requires.opened.0) was first.state c.requires.opened.2) c.close.result c.close.ensures.count
    (λ first steps. c.close.ensures.serial plan c.args.accepted.now.accepted here.state.belongs first steps) c.close.ensures.closed c.close.ensures.left refl

pub returns-clause-scalars : goal.returns-clause-scalars
returns-clause-scalars g c =
    let plan = c.args.accepted.now.plan in
    let with_board : BoardView → HallView = λ b. record { board = b; shut = c.self.inside.shut } in
    let is = sym c.self.view_is ∙ ap with_board (sym c.deref_mut.ensures.value) in
    let was = with_board c.deref_mut.result.now in
    let here = subst (λ (hall : HallView). StandsAt plan hall c.requires.opened.0) is c.requires.opened.1 in
    scalars_given g.M.Cells.scalars plan was c.requires.opened.0 here (open_board plan (after c.requires.opened.0) was here.state c.requires.opened.2) c.close.result c.close.ensures.scalars
