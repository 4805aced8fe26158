use Rattle.std.proofs.Common.{◌∙◌, ◌++◌, ap, append-nil, sym}
use Rattle.std.proofs.lemmas.List.{drop_all}
use Rattle.trick_exec_frame.proofs.ChoiceLemmas.{counting_more}
use Rattle.trick_exec_frame.proofs.counted.counting.Goals as goal
use Rattle.trick_model.specs.PlanOf.{plan_of}
use Rattle.trick_model.specs.State.{State, seen}
use Rattle.trick_exec_meaning.specs.Parts.{counting}

pub loop-entry-preserved : goal.loop-entry-preserved
loop-entry-preserved g c = λ plan are.
    let s : State = seen g.M.Cells.numbers c.args.state.now in
    counting_more (plan_of plan) s c.args.publications.now c.loop-entry.entry-index c.entry-item.result c.loop-entry.entries.items c.add_counting.new.entries.items
    (counting (plan_of plan) s c.args.publications.now) c.loop-entry-test.true c.entry-item.is (c.in_ok-add_counting.ensures plan are) (c.loop-entry.invariant plan are)

pub returns : goal.returns
returns g c = λ plan are.
    let s : State = seen g.M.Cells.numbers c.args.state.now in
    sym (append-nil c.loop-entry.entries.items)
    ∙ ap (λ es. c.loop-entry.entries.items ++ counting (plan_of plan) s es) (sym (drop_all c.loop-entry.entry-index c.args.publications.now c.loop-entry-test.false))
    ∙ c.loop-entry.invariant plan are
