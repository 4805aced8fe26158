use Rattle.std.proofs.Common.{◌∙◌, sym}
use Rattle.std.proofs.lemmas.Result.{err_from_is_err_and}
use Rattle.trick_exec_posts.proofs.PublicationLemmas.{no_round, one_round, other_kind}
use Rattle.trick_exec_posts.proofs.entries.push_publication.Goals as goal
use Rattle.trick_model.specs.State.{seen}

pub returns-then-not-is_async : goal.returns-then-not-is_async
returns-then-not-is_async g c =
    other_kind (seen g.M.Cells.numbers c.args.state.now) c.args.seat.place c.args.seat.station.now.thread c.args.entries.now
    (sym c.is_async.ensures ∙ c.if-not-is_async.true)

pub returns-then-not-is_held : goal.returns-then-not-is_held
returns-then-not-is_held g c =
    no_round (seen g.M.Cells.numbers c.args.state.now) c.args.seat.place c.args.seat.station.now.thread c.args.entries.now
    (sym c.is_async.ensures ∙ c.if-not-is_async.false) (sym c.is_held.ensures ∙ c.if-not-is_held.true)

pub returns-in_err-push : goal.returns-in_err-push
returns-in_err-push g c = let error = err_from_is_err_and c.from_residual.result c.from_residual.ensures.1 in rw error.1 tt

pub returns : goal.returns
returns g c =
    c.in_ok-push.ensures.ok
    ∙ one_round (seen g.M.Cells.numbers c.args.state.now) c.args.seat.place c.args.seat.station.now.thread c.args.entries.now
    (sym c.is_async.ensures ∙ c.if-not-is_async.false) (sym c.is_held.ensures ∙ c.if-not-is_held.false)
