use Rattle.std.proofs.Common.{◌≡◌, ◌∙◌, List, ap, length, refl, subst, sym}
use Rattle.std.proofs.lemmas.Result.{err_from_is_err_and}
use Rattle.std.specs.Prelude.{All}
use Rattle.trick_base.proofs.Results.{not_ok}
use Rattle.trick_exec_posts.proofs.Loops.{asks_none}
use Rattle.trick_exec_turn.proofs.RestLemmas.{right_sessions}
use Rattle.trick_exec_turn.proofs.SaidLemmas.{said_all, said_half, said_stops, unsaid}
use Rattle.trick_exec_turn.proofs.lent.Run.finish.Goals as goal
use Rattle.trick_exec_entries.specs.Hearing.{said_of}
use Rattle.trick_exec_entries.specs.Sessions.{numbers_of}
use Rattle.trick_model.specs.PlanOf.{plan_of}
use Rattle.trick_model.specs.Session.{samples}
use Rattle.trick_model.specs.State.{State, seen}
use Rattle.trick_model.specs.declared.session.Session.{Session}
use Rattle.trick_outside.proofs.DoesLemmas.{does_as, does_fail, does_none, does_ok}
use Rattle.trick_exec_meaning.specs.Parts.{state_after}
use Rattle.trick_session.specs.Kept.{IsSession}
use Rattle.trick_exec_tic.specs.Current.{asking_of}
use Rattle.trick_exec_sources.specs.Turns.{Sessions}

pub send_samples-requires-clause-right : goal.send_samples-requires-clause-right
send_samples-requires-clause-right g c =
    let state = c.in_ok-state.state in
    subst (λ (ss : List Session). All (IsSession (length (g.M.Cells.numbers state.memory))) ss) (sym c.deref.ensures.value)
    (right_sessions c.args.accepted.now.plan (g.M.Cells.numbers state.memory) (g.M.Cells.scalars state.memory) c.args.hearing.sessions.items
    c.in_ok-state.ensures.equipped.under_way.goes.memory c.requires.sessions.right)

pub send_samples-requires-clause-reached : goal.send_samples-requires-clause-reached
send_samples-requires-clause-reached g c =
    ap numbers_of c.deref.ensures.value ∙ c.requires.reached ∙ ap (λ (s : Sessions). s.reached) (sym c.send_all.ensures.kept.sessions)

pub returns-in_default-clause-does : goal.returns-in_default-clause-does
returns-in_default-clause-does g c = does_none _ _ _ (g.met.F.Shelf.called_none _) (λ d. cc) (λ f. cc)

pub returns-in_default-clause-says : goal.returns-in_default-clause-says
returns-in_default-clause-says g c =
    let s : State = state_after (plan_of c.args.accepted.now.plan) c.args.publications.now (asking_of g.M.Cells.numbers c.args.hearing.current) in
    unsaid (said_of c.args.replies.now) (samples c.args.hearing.current.state.tic s c.args.hearing.sessions.items)
    refl c.send_all.ensures

pub returns-in_default-clause-asks : goal.returns-in_default-clause-asks
returns-in_default-clause-asks g c = asks_none g.P.Posts c.args.self.now.workers.now.posts (g.met.P.Posts.asked_none c.args.self.now.workers.now.posts)

pub returns-in_err-state-clause-does : goal.returns-in_err-state-clause-does
returns-in_err-state-clause-does g c =
    let error = err_from_is_err_and c.from_residual.result c.from_residual.ensures.1 in
    does_fail c.from_residual.result _ _ c.in_err-state.ensures.does refl error.1 error.2

pub returns-in_err-state-clause-says : goal.returns-in_err-state-clause-says
returns-in_err-state-clause-says g c =
    let error = err_from_is_err_and c.from_residual.result c.from_residual.ensures.1 in
    let s : State = state_after (plan_of c.args.accepted.now.plan) c.args.publications.now (asking_of g.M.Cells.numbers c.args.hearing.current) in
    said_half c.from_residual.result (said_of c.args.replies.now) (samples c.args.hearing.current.state.tic s c.args.hearing.sessions.items)
    refl g.met.T.Turns.went_join (g.met.T.Turns.went_none _) (not_ok c.from_residual.result error.0 error.1) c.in-Ok.ensures refl

pub returns-in_default-send_samples-clause-does : goal.returns-in_default-send_samples-clause-does
returns-in_default-send_samples-clause-does g c = does_as _ c.in_ok-state.ensures.does (λ d. cc) (λ f. cc) (λ f. cc)

pub returns-in_default-send_samples-clause-says : goal.returns-in_default-send_samples-clause-says
returns-in_default-send_samples-clause-says g c =
    let s : State = state_after (plan_of c.args.accepted.now.plan) c.args.publications.now (asking_of g.M.Cells.numbers c.args.hearing.current) in
    let t : State = seen g.M.Cells.numbers c.in_ok-state.state in
    let same : samples c.args.hearing.current.state.tic s c.args.hearing.sessions.items ≡ samples c.args.hearing.current.state.tic t c.deref.result.now =
    ap (λ (x : State). samples c.args.hearing.current.state.tic x c.args.hearing.sessions.items) (sym c.in_ok-state.ensures.state)
    ∙ ap (λ (ss : List Session). samples c.args.hearing.current.state.tic t ss) (sym c.deref.ensures.value) in
    said_stops (said_of c.args.replies.now) (samples c.args.hearing.current.state.tic s c.args.hearing.sessions.items)
    refl same g.met.T.Turns.went_join c.in-Ok.ensures refl c.send_samples.ensures

pub returns-clause-does : goal.returns-clause-does
returns-clause-does g c = does_ok _ c.in_ok-state.ensures.does refl

pub returns-clause-says : goal.returns-clause-says
returns-clause-says g c =
    let s : State = state_after (plan_of c.args.accepted.now.plan) c.args.publications.now (asking_of g.M.Cells.numbers c.args.hearing.current) in
    let t : State = seen g.M.Cells.numbers c.in_ok-state.state in
    let same : samples c.args.hearing.current.state.tic s c.args.hearing.sessions.items ≡ samples c.args.hearing.current.state.tic t c.deref.result.now =
    ap (λ (x : State). samples c.args.hearing.current.state.tic x c.args.hearing.sessions.items) (sym c.in_ok-state.ensures.state)
    ∙ ap (λ (ss : List Session). samples c.args.hearing.current.state.tic t ss) (sym c.deref.ensures.value) in
    said_all _ (said_of c.args.replies.now) (samples c.args.hearing.current.state.tic s c.args.hearing.sessions.items)
    refl same g.met.T.Turns.went_join c.in-Ok.ensures refl c.in-Ok-send_samples.ensures refl
