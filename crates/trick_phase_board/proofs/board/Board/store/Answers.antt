use Rattle.std.proofs.Common.{rules, [], List, ap, length, refl, subst, sym, ◌∙◌}
use Rattle.std.specs.List.{slice_index_or}
use Rattle.std.specs.Option.{IfSome}
use Rattle.std.specs.Prelude.{IsSome, vec_capacity, ◌≡◌, ◌<◌}
use Rattle.trick_phase_board.proofs.Among.{stage_open, stepped_among}
use Rattle.trick_phase_board.proofs.Calls.{flying_known, once_open}
use Rattle.trick_phase_board.proofs.Counting.{done_counted, open_sees}
use Rattle.trick_phase_board.proofs.Passed.{done_passed}
use Rattle.trick_phase_board.proofs.Ranks.{done_in_turn, done_ranked}
use Rattle.trick_phase_board.specs.Board.{BoardView, IsBoardOf, IsRoomy}
use Rattle.trick_phase_board.specs.Counts.{with_fewer}
use Rattle.trick_phase_board.specs.Search.{is_open}
use Rattle.trick_phase_board.specs.declared.tables.Tables.{Tables}
use Rattle.trick_lang.specs.declared.job.JobId.{JobId}
use Rattle.trick_model.specs.Valid.{ids}
use Rattle.trick_phase_schedules.specs.Play.{is_due, stage_at}
use Rattle.trick_phase_schedules.specs.declared.stage.Stage.TheVariants.{InFlight}
use Rattle.trick_phase_board.proofs.board.Board.store.Goals.{then-is_flagged+in-Some, then-is_flagged+in_default, else-is_flagged}
use Rattle.trick_phase_board.proofs.board.Board.store.Goals as goal

pub lower_thread-requires : goal.lower_thread-requires
lower_thread-requires g c =
    let b = c.self.inside in
    let belongs = subst (λ (v : BoardView). IsBoardOf c.args.plan.now v) (sym c.self.view_is) c.requires.belongs in
    let opens = subst (λ (v : BoardView). IsSome v.opened) (sym c.self.view_is) c.requires.open in
    let flies = stage_open g.M.Cells.numbers g.M.Cells.scalars b.tic b.on.items b.due.items b.stages.items b.memory c.args.job.0 InFlight opens
    (subst (λ (v : BoardView). IfSome v.opened (λ o. stage_at o.progress.stages c.args.job.0 ≡ InFlight)) (sym c.self.view_is) c.requires.flies) in
    let known = flying_known g.M.Cells.numbers g.M.Cells.scalars b.tic b.on.items b.due.items b.stages.items b.memory c.args.plan.now b.tables c.args.job.0
    belongs.tables opens belongs.opened flies in
    elim c.if-is_flagged.branch [
      | then-is_flagged+in-Some w ↦ subst (λ (t : Tables). c.args.job.0 < length t.threads) (sym (ap (λ b. b.tables) w.self-inside-is)) known
      | then-is_flagged+in_default w ↦ subst (λ (t : Tables). c.args.job.0 < length t.threads) (sym (ap (λ b. b.tables) w.self-inside-is)) known
      | else-is_flagged w ↦ subst (λ (t : Tables). c.args.job.0 < length t.threads) (sym (ap (λ b. b.tables) w.self-inside-is)) known
    ]

pub invariant_of-self : goal.invariant_of-self
invariant_of-self g c =
    let inside = c.if-is_flagged.self-inside in
    let b = c.self.inside in
    let flies = stage_open g.M.Cells.numbers g.M.Cells.scalars b.tic b.on.items b.due.items b.stages.items b.memory c.args.job.0 InFlight
    (subst (λ (v : BoardView). IsSome v.opened) (sym c.self.view_is) c.requires.open)
    (subst (λ (v : BoardView). IfSome v.opened (λ o. stage_at o.progress.stages c.args.job.0 ≡ InFlight)) (sym c.self.view_is) c.requires.flies) in
    let rooms : IsRoomy (length c.set_stage.new.stages.items) (length inside.on.items) (length inside.due.items) (vec_capacity inside.due) (length c.lower.new.counts.items)
    (length inside.known.ranks.items) (length c.lower_thread.new.left.items) = search rules in
    let only = once_open g.M.Cells.numbers g.M.Cells.scalars b.tic b.on.items b.due.items b.stages.items b.memory c.args.plan.now c.args.job.0
    c.key_order_is_one.ensures (subst (λ (v : BoardView). IsSome v.opened) (sym c.self.view_is) c.requires.open)
    (subst (λ (v : BoardView). IsBoardOf c.args.plan.now v) (sym c.self.view_is) c.requires.belongs).opened in
    let sees = open_sees g.M.Cells.numbers g.M.Cells.scalars b.tic b.on.items b.due.items b.stages.items b.memory c.args.plan.now b.tables
    c.key_order_is_one.ensures
    (subst (λ (v : BoardView). IsBoardOf c.args.plan.now v) (sym c.self.view_is) c.requires.belongs).tables
    (subst (λ (v : BoardView). IsSome v.opened) (sym c.self.view_is) c.requires.open)
    (subst (λ (v : BoardView). IsBoardOf c.args.plan.now v) (sym c.self.view_is) c.requires.belongs).opened in
    let fewer = c.lower.ensures.counts ∙ ap (λ (l : List JobId). with_fewer (ids l) inside.known.counts.items)
    (c.list_at-followers.ensures ∙ ap (λ (lists : List (List JobId)). slice_index_or lists c.args.job.0 []) c.as_slice.ensures) in (
      rooms,
      elim c.if-is_flagged.branch [
        | then-is_flagged+in-Some w ↦ done_passed _ _ _ _ _ _ _ _ _ (ap (λ b. b.tables) w.self-inside-is) (ap (λ b. b.stages.items) w.self-inside-is)
            (ap (λ b. b.known.passed.items) w.self-inside-is) c.set_stage.ensures refl c.self.invariant.1
        | then-is_flagged+in_default w ↦ done_passed _ _ _ _ _ _ _ _ _ (ap (λ b. b.tables) w.self-inside-is) (ap (λ b. b.stages.items) w.self-inside-is)
            (ap (λ b. b.known.passed.items) w.self-inside-is) c.set_stage.ensures refl c.self.invariant.1
        | else-is_flagged w ↦ done_passed _ _ _ _ _ _ _ _ _ (ap (λ b. b.tables) w.self-inside-is) (ap (λ b. b.stages.items) w.self-inside-is)
            (ap (λ b. b.known.passed.items) w.self-inside-is) c.set_stage.ensures refl c.self.invariant.1
      ],
      elim c.if-is_flagged.branch [
        | then-is_flagged+in-Some w ↦ stepped_among _ _ _ _ _ _ _ (ap (λ b. b.due.items) w.self-inside-is) (ap (λ b. b.stages.items) w.self-inside-is)
            c.set_stage.ensures (ap is_due flies) c.self.invariant.2
        | then-is_flagged+in_default w ↦ stepped_among _ _ _ _ _ _ _ (ap (λ b. b.due.items) w.self-inside-is) (ap (λ b. b.stages.items) w.self-inside-is)
            c.set_stage.ensures (ap is_due flies) c.self.invariant.2
        | else-is_flagged w ↦ stepped_among _ _ _ _ _ _ _ (ap (λ b. b.due.items) w.self-inside-is) (ap (λ b. b.stages.items) w.self-inside-is)
            c.set_stage.ensures (ap is_due flies) c.self.invariant.2
      ],
      elim c.if-is_flagged.branch [
        | then-is_flagged+in-Some w ↦ done_counted c.args.plan.now (record { on = b.on.items }) b.tic _ _ _ _ _ _ _ _ _ _ (ap (λ b. b.tables) w.self-inside-is)
            (ap (λ b. b.stages.items) w.self-inside-is) (ap (λ b. b.known.counts.items) w.self-inside-is) c.set_stage.ensures fewer
            sees (ap is_open flies) refl c.self.invariant.3
        | then-is_flagged+in_default w ↦ done_counted c.args.plan.now (record { on = b.on.items }) b.tic _ _ _ _ _ _ _ _ _ _ (ap (λ b. b.tables) w.self-inside-is)
            (ap (λ b. b.stages.items) w.self-inside-is) (ap (λ b. b.known.counts.items) w.self-inside-is) c.set_stage.ensures fewer
            sees (ap is_open flies) refl c.self.invariant.3
        | else-is_flagged w ↦ done_counted c.args.plan.now (record { on = b.on.items }) b.tic _ _ _ _ _ _ _ _ _ _ (ap (λ b. b.tables) w.self-inside-is)
            (ap (λ b. b.stages.items) w.self-inside-is) (ap (λ b. b.known.counts.items) w.self-inside-is) c.set_stage.ensures fewer
            sees (ap is_open flies) refl c.self.invariant.3
      ],
      elim c.if-is_flagged.branch [
        | then-is_flagged+in-Some w ↦ done_ranked _ _ _ _ _ _ _ _ _ _ _ _ _ _ (ap (λ b. b.tables) w.self-inside-is) (ap (λ b. b.due.items) w.self-inside-is) (ap (λ b. b.stages.items) w.self-inside-is)
            (ap (λ b. b.known.ranks.items) w.self-inside-is) (ap (λ b. b.known.left.items) w.self-inside-is) c.set_stage.ensures
            c.lower_thread.ensures only flies refl c.self.invariant.5 c.self.invariant.4
        | then-is_flagged+in_default w ↦ done_ranked _ _ _ _ _ _ _ _ _ _ _ _ _ _ (ap (λ b. b.tables) w.self-inside-is) (ap (λ b. b.due.items) w.self-inside-is) (ap (λ b. b.stages.items) w.self-inside-is)
            (ap (λ b. b.known.ranks.items) w.self-inside-is) (ap (λ b. b.known.left.items) w.self-inside-is) c.set_stage.ensures
            c.lower_thread.ensures only flies refl c.self.invariant.5 c.self.invariant.4
        | else-is_flagged w ↦ done_ranked _ _ _ _ _ _ _ _ _ _ _ _ _ _ (ap (λ b. b.tables) w.self-inside-is) (ap (λ b. b.due.items) w.self-inside-is) (ap (λ b. b.stages.items) w.self-inside-is)
            (ap (λ b. b.known.ranks.items) w.self-inside-is) (ap (λ b. b.known.left.items) w.self-inside-is) c.set_stage.ensures
            c.lower_thread.ensures only flies refl c.self.invariant.5 c.self.invariant.4
      ],
      elim c.if-is_flagged.branch [
        | then-is_flagged+in-Some w ↦ done_in_turn _ _ _ _ _ _ _ _ _ (ap (λ b. b.tables) w.self-inside-is) (ap (λ b. b.due.items) w.self-inside-is) (ap (λ b. b.stages.items) w.self-inside-is)
            c.set_stage.ensures flies refl c.self.invariant.5
        | then-is_flagged+in_default w ↦ done_in_turn _ _ _ _ _ _ _ _ _ (ap (λ b. b.tables) w.self-inside-is) (ap (λ b. b.due.items) w.self-inside-is) (ap (λ b. b.stages.items) w.self-inside-is)
            c.set_stage.ensures flies refl c.self.invariant.5
        | else-is_flagged w ↦ done_in_turn _ _ _ _ _ _ _ _ _ (ap (λ b. b.tables) w.self-inside-is) (ap (λ b. b.due.items) w.self-inside-is) (ap (λ b. b.stages.items) w.self-inside-is)
            c.set_stage.ensures flies refl c.self.invariant.5
      ],
    )
