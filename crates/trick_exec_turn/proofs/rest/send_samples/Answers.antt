use Rattle.std.proofs.Common.{◌≡◌, ◌∙◌, List, ap, refl, subst, sym}
use Rattle.std.proofs.lemmas.Result.{err_from_is_err_and}
use Rattle.std.specs.List.{list_any}
use Rattle.std.specs.Prelude.{◌==◌, All, IsTrue}
use Rattle.trick_base.proofs.Results.{not_ok}
use Rattle.trick_exec_turn.proofs.SessionLemmas.{samples_reach}
use Rattle.trick_exec_turn.proofs.rest.send_samples.Goals as goal
use Rattle.trick_exec_entries.specs.Hearing.{said_of}
use Rattle.trick_model.specs.Session.{Message as MessageOf, samples}
use Rattle.trick_model.specs.State.{State, seen}
use Rattle.trick_exec_meaning.proofs.SayLemmas.{says_as, says_none}
use Rattle.trick_exec_sources.specs.Turns.{is_among}

pub send_all-requires : goal.send_all-requires
send_all-requires g c =
    let s : State = seen g.M.Cells.numbers c.args.state.now in
    let reached = (g.T.Turns.sessions c.args.turns.now).reached in
    let P : MessageOf → Type 0 = λ message. IsTrue (is_among message.0 reached) in
    let said : said_of c.deref.result.now ≡ samples c.args.from s c.args.sessions.now = ap said_of c.deref.ensures.value ∙ c.in_ok-said.ensures in
    subst (λ (ms : List MessageOf). All P ms) (sym said)
    (samples_reach c.args.from s c.args.sessions.now reached (λ n there. sym (ap (list_any (λ m. m == n)) c.requires.reached) ∙ there))

pub returns-in_err-said : goal.returns-in_err-said
returns-in_err-said g c =
    let error = err_from_is_err_and c.from_residual.result c.from_residual.ensures.1 in
    (says_none g.T.Turns c.args.turns.now c.from_residual.result (samples c.args.from (seen g.M.Cells.numbers c.args.state.now) c.args.sessions.now)
    (g.met.T.Turns.went_none c.args.turns.now) (not_ok c.from_residual.result error.0 error.1)).0

pub returns-in_err-send_all : goal.returns-in_err-send_all
returns-in_err-send_all g c =
    let error = err_from_is_err_and c.from_residual-in_err-send_all.result c.from_residual-in_err-send_all.ensures.1 in
    says_as c.from_residual-in_err-send_all.result (samples c.args.from (seen g.M.Cells.numbers c.args.state.now) c.args.sessions.now)
    (sym (ap said_of c.deref.ensures.value ∙ c.in_ok-said.ensures)) c.in_err-send_all.ensures
    (λ ok. absurd (not_ok c.from_residual-in_err-send_all.result error.0 error.1 ok))

pub returns : goal.returns
returns g c =
    says_as _ (samples c.args.from (seen g.M.Cells.numbers c.args.state.now) c.args.sessions.now)
    (sym (ap said_of c.deref.ensures.value ∙ c.in_ok-said.ensures)) c.in_ok-send_all.ensures (λ ok. refl)
