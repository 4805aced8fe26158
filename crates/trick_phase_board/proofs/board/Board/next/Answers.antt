use Rattle.std.proofs.Common.{List, ◌∙◌, ap, subst, sym}
use Rattle.std.specs.Option.{IfSome}
use Rattle.trick_phase_board.proofs.Calls.{first_at, next_at}
use Rattle.trick_phase_board.specs.Answers.{CanDo}
use Rattle.trick_phase_board.specs.Board.{BoardView, IsBoardOf, tic_at}
use Rattle.std.specs.Prelude.{IsSome}
use Rattle.trick_phase_board.specs.Counts.{own_at}
use Rattle.trick_phase_board.specs.Search.{AreFirst, next_in}
use Rattle.trick_model.specs.PlanOf.{plan_of}
use Rattle.trick_phase_schedules.specs.declared.stage.Stage.{Stage}
use Rattle.trick_phase_board.proofs.board.Board.next.Goals as goal

pub returns : goal.returns
returns g c =
    let b = c.self.inside in
    let belongs = subst (λ (v : BoardView). IsBoardOf c.args.plan.now v) (sym c.self.view_is) c.requires.belongs in
    subst (λ (v : BoardView). IfSome v.opened (λ o. CanDo (tic_at c.args.plan.now o) o.progress.stages c.args.thread c.next_of.result)) c.self.view_is
    (next_at g.M.Cells.numbers g.M.Cells.scalars b.tic b.on.items b.due.items b.stages.items b.memory c.args.plan.now b.tables c.args.thread
    c.next_of.result c.key_order_is_one.ensures belongs.tables
    (c.next_of.ensures ∙ ap (λ (s : List Stage). next_in (plan_of c.args.plan.now) b.tables s c.args.thread) c.deref.ensures.value)
    belongs.opened)

pub next_of-requires-clause-tables : goal.next_of-requires-clause-tables
next_of-requires-clause-tables g c =
    (subst (λ (v : BoardView). IsBoardOf c.args.plan.now v) (sym c.self.view_is) c.requires.belongs).tables

pub next_of-requires-clause-first : goal.next_of-requires-clause-first
next_of-requires-clause-first g c =
    let b = c.self.inside in
    let belongs = subst (λ (v : BoardView). IsBoardOf c.args.plan.now v) (sym c.self.view_is) c.requires.belongs in
    subst (λ (s : List Stage). AreFirst b.tables s (own_at b.tables b.known.ranks.items b.known.left.items) c.args.thread) (sym c.deref.ensures.value)
    (first_at g.M.Cells.numbers g.M.Cells.scalars b.tic b.on.items b.due.items b.stages.items b.memory c.args.plan.now b.tables
    b.known.ranks.items b.known.left.items c.args.thread c.key_order_is_one.ensures belongs.tables
    (subst (λ (v : BoardView). IsSome v.opened) (sym c.self.view_is) c.requires.open) belongs.opened c.self.invariant.4)
