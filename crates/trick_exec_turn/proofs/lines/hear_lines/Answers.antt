use Rattle.std.proofs.Common.{◌≡◌, ◌∙◌, ℕ, ◌+◌, ◌≤◌, ap, subst, sym}
use Rattle.trick_exec_turn.proofs.ChosenLemmas.{made_of}
use Rattle.trick_exec_turn.proofs.lines.hear_lines.Goals as goal
use Rattle.trick_exec_entries.specs.Hearing.{hearing_of}
use Rattle.trick_model.specs.PlanOf.{plan_of}
use Rattle.trick_model.specs.State.{seen}
use Rattle.trick_base.specs.Time.{tic_limit}
use Rattle.trick_model.specs.Turn.{Hearing}
use Rattle.trick_exec_meaning.proofs.Times.{heard_time}

pub look_again-requires-clause-made : goal.look_again-requires-clause-made
look_again-requires-clause-made g c =
    let old : Hearing = hearing_of g.M.Cells.numbers c.args.hearing.now in
    let same : c.hear.new.hearing.current.state.tic ≡ old.asking.state.tic =
    ap (λ (h : Hearing). h.asking.state.tic) c.in-Ok.ensures.heard ∙ (heard_time (plan_of c.plan-plan.result.now) c.args.lines.now old).tic in
    made_of c.args.accepted.now.plan c.plan-plan.result.now c.args.equipment.now.course (seen g.M.Cells.numbers c.args.hearing.now.current.state) c.hear.new.hearing.current.state.tic
    c.plan-plan.ensures.plan same c.requires.course

pub look_again-requires-clause-tic : goal.look_again-requires-clause-tic
look_again-requires-clause-tic g c =
    let old : Hearing = hearing_of g.M.Cells.numbers c.args.hearing.now in
    let same : c.hear.new.hearing.current.state.tic ≡ old.asking.state.tic =
    ap (λ (h : Hearing). h.asking.state.tic) c.in-Ok.ensures.heard ∙ (heard_time (plan_of c.plan-plan.result.now) c.args.lines.now old).tic in
    subst (λ (n : ℕ). n ≤ tic_limit + 1) (sym same) c.requires.valid.tic
