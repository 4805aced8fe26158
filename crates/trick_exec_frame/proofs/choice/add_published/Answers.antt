use Rattle.std.proofs.Common.{◌∙◌, Bool, List, refl, subst, sym}
use Rattle.trick_exec_frame.proofs.ChoiceLemmas.{adds_idle, adds_not, adds_one, as_is}
use Rattle.trick_exec_frame.proofs.choice.add_published.Goals as goal
use Rattle.trick_exec_frame.specs.Adds.{Adds, polls_for}
use Rattle.trick_model.specs.State.{State, seen}
use Rattle.trick_model.specs.declared.entry.Entry.{Entry}
use Rattle.trick_exec_meaning.specs.Rounds.{wait_at}

pub returns-then-not-has_round-clause-adds : goal.returns-then-not-has_round-clause-adds
returns-then-not-has_round-clause-adds g c =
    adds_idle g.P.Posts (seen g.M.Cells.numbers c.args.state.now) c.args.waits.now c.args.place c.args.station.now.thread c.args.posts.now c.args.chosen.now.items
    (g.met.P.Posts.asked_none c.args.posts.now) (sym c.has_round.ensures ∙ c.if-not-has_round.true)

pub returns-in_ok-push-clause-adds : goal.returns-in_ok-push-clause-adds
returns-in_ok-push-clause-adds g c =
    let s : State = seen g.M.Cells.numbers c.args.state.now in
    let thread = c.args.station.now.thread in
    let old = c.args.chosen.now.items in
    subst (λ (now : List Entry). Adds g.P.Posts s c.args.waits.now c.args.place thread c.args.posts.now c.is_published.new.posts old now) (sym c.in_ok-push.ensures.items)
    (adds_one g.P.Posts s c.args.waits.now c.args.place thread c.args.posts.now c.is_published.new.posts (wait_at c.args.waits.now c.args.place) old refl
    (sym c.has_round.ensures ∙ c.if-not-has_round.false) c.if-is_published.ensures.asked)

pub returns-else-is_published-clause-adds : goal.returns-else-is_published-clause-adds
returns-else-is_published-clause-adds g c =
    let s : State = seen g.M.Cells.numbers c.args.state.now in
    adds_not g.P.Posts s c.args.waits.now c.args.place c.args.station.now.thread c.args.posts.now c.is_published.new.posts (wait_at c.args.waits.now c.args.place) c.args.chosen.now.items refl
    (sym c.has_round.ensures ∙ c.if-not-has_round.false) (λ long. sym c.if-is_published.false ∙ c.is_published.ensures.unasked long)
    (subst (λ (b : Bool). g.P.Posts.asked c.args.posts.now (polls_for c.args.station.now.thread.number (wait_at c.args.waits.now c.args.place) s.turn b) c.is_published.new.posts) c.if-is_published.false c.is_published.ensures.asked)
