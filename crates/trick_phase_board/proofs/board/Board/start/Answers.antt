use Rattle.std.proofs.Common.{rules, ap, length, subst, sym}
use Rattle.std.specs.Option.{IfSome}
use Rattle.std.specs.Prelude.{IsSome, vec_capacity, ◌≡◌}
use Rattle.trick_phase_board.proofs.Among.{stage_open, stepped_among}
use Rattle.trick_phase_board.proofs.Calls.{own_open}
use Rattle.trick_phase_board.proofs.Counting.{start_counted, start_passed}
use Rattle.trick_phase_board.proofs.Ranks.{start_in_turn, start_ranked}
use Rattle.trick_phase_board.specs.Board.{BoardView, IsRoomy}
use Rattle.trick_phase_board.specs.Counts.{own_anew}
use Rattle.trick_phase_schedules.specs.Play.{is_due, stage_at}
use Rattle.trick_phase_schedules.specs.declared.stage.Stage.TheVariants.{Waiting}
use Rattle.trick_phase_board.proofs.board.Board.start.Goals.{in-Some, in_default}
use Rattle.trick_phase_board.proofs.board.Board.start.Goals as goal

pub invariant_of-self : goal.invariant_of-self
invariant_of-self g c =
    let inside = c.match-self.self-inside in
    let b = c.self.inside in
    let waits = stage_open g.M.Cells.numbers g.M.Cells.scalars b.tic b.on.items b.due.items b.stages.items b.memory c.args.job.0 Waiting
    (subst (λ (v : BoardView). IsSome v.opened) (sym c.self.view_is) c.requires.open)
    (subst (λ (v : BoardView). IfSome v.opened (λ o. stage_at o.progress.stages c.args.job.0 ≡ Waiting)) (sym c.self.view_is) c.requires.waits) in
    let rooms : IsRoomy (length c.set_stage.new.stages.items) (length inside.on.items) (length inside.due.items) (vec_capacity inside.due) (length inside.known.counts.items)
    (length inside.known.ranks.items) (length inside.known.left.items) = search rules in
    let first = own_open g.M.Cells.numbers g.M.Cells.scalars b.tic b.on.items b.due.items b.stages.items b.memory b.tables c.args.job.0
    (subst (λ (v : BoardView). IsSome v.opened) (sym c.self.view_is) c.requires.open)
    (subst (λ (v : BoardView). IfSome v.opened (λ o. own_anew v.tables o.due o.progress.stages c.args.job.0 ≡ 0)) (sym c.self.view_is) c.requires.first) in (
      rooms,
      elim c.match-self.branch [
        | in-Some w ↦ start_passed _ _ _ _ _ _ _ _ (ap (λ b. b.tables) w.self-inside-is) (ap (λ b. b.stages.items) w.self-inside-is)
            (ap (λ b. b.known.passed.items) w.self-inside-is) c.set_stage.ensures waits c.self.invariant.1
        | in_default w ↦ start_passed _ _ _ _ _ _ _ _ (ap (λ b. b.tables) w.self-inside-is) (ap (λ b. b.stages.items) w.self-inside-is)
            (ap (λ b. b.known.passed.items) w.self-inside-is) c.set_stage.ensures waits c.self.invariant.1
      ],
      elim c.match-self.branch [
        | in-Some w ↦ stepped_among _ _ _ _ _ _ _ (ap (λ b. b.due.items) w.self-inside-is) (ap (λ b. b.stages.items) w.self-inside-is)
            c.set_stage.ensures (ap is_due waits) c.self.invariant.2
        | in_default w ↦ stepped_among _ _ _ _ _ _ _ (ap (λ b. b.due.items) w.self-inside-is) (ap (λ b. b.stages.items) w.self-inside-is)
            c.set_stage.ensures (ap is_due waits) c.self.invariant.2
      ],
      elim c.match-self.branch [
        | in-Some w ↦ start_counted _ _ _ _ _ _ _ _ (ap (λ b. b.tables) w.self-inside-is) (ap (λ b. b.stages.items) w.self-inside-is)
            (ap (λ b. b.known.counts.items) w.self-inside-is) c.set_stage.ensures waits c.self.invariant.3
        | in_default w ↦ start_counted _ _ _ _ _ _ _ _ (ap (λ b. b.tables) w.self-inside-is) (ap (λ b. b.stages.items) w.self-inside-is)
            (ap (λ b. b.known.counts.items) w.self-inside-is) c.set_stage.ensures waits c.self.invariant.3
      ],
      elim c.match-self.branch [
        | in-Some w ↦ start_ranked _ _ _ _ _ _ _ _ _ _ _ _ (ap (λ b. b.tables) w.self-inside-is) (ap (λ b. b.due.items) w.self-inside-is) (ap (λ b. b.stages.items) w.self-inside-is)
            (ap (λ b. b.known.ranks.items) w.self-inside-is) (ap (λ b. b.known.left.items) w.self-inside-is) c.set_stage.ensures waits c.self.invariant.4
        | in_default w ↦ start_ranked _ _ _ _ _ _ _ _ _ _ _ _ (ap (λ b. b.tables) w.self-inside-is) (ap (λ b. b.due.items) w.self-inside-is) (ap (λ b. b.stages.items) w.self-inside-is)
            (ap (λ b. b.known.ranks.items) w.self-inside-is) (ap (λ b. b.known.left.items) w.self-inside-is) c.set_stage.ensures waits c.self.invariant.4
      ],
      elim c.match-self.branch [
        | in-Some w ↦ start_in_turn _ _ _ _ _ _ _ _ (ap (λ b. b.tables) w.self-inside-is) (ap (λ b. b.due.items) w.self-inside-is) (ap (λ b. b.stages.items) w.self-inside-is)
            c.set_stage.ensures waits first c.self.invariant.5
        | in_default w ↦ start_in_turn _ _ _ _ _ _ _ _ (ap (λ b. b.tables) w.self-inside-is) (ap (λ b. b.due.items) w.self-inside-is) (ap (λ b. b.stages.items) w.self-inside-is)
            c.set_stage.ensures waits first c.self.invariant.5
      ],
    )
