use Rattle.std.proofs.Common.{ℕ, List, [], ◌∷◌, ◌+◌, ap, drop, subst, sym}
use Rattle.std.proofs.lemmas.List.{drop_all}
use Rattle.std.proofs.lemmas.Result.{err_from_is_err_and}
use Rattle.std.specs.Prelude.{IsTrue}
use Rattle.trick_base.proofs.Results.{not_ok}
use Rattle.trick_exec_turn.proofs.SendLemmas.{next_message, of_message}
use Rattle.trick_exec_turn.proofs.sending.send_all.Goals as goal
use Rattle.trick_exec_entries.specs.Hearing.{message_of, said_of}
use Rattle.trick_model.specs.Session.{Message as MessageOf}
use Rattle.trick_exec_meaning.proofs.SayLemmas.{saying_ends, saying_more, saying_starts, saying_stops}
use Rattle.trick_exec_sources.specs.Turns.{Sessions, is_among}

pub loop-message-init : goal.loop-message-init
loop-message-init g c = saying_starts g.T.Turns c.args.turns.now (said_of c.args.messages.now) (g.met.T.Turns.went_none c.args.turns.now)

pub send-requires : goal.send-requires
send-requires g c =
    g.met.T.Turns.reaches c.loop-message.turns c.message-item.result.session
    (subst (λ (s : Sessions). IsTrue (is_among c.message-item.result.session s.reached)) (sym c.loop-message.invariant.kept.sessions)
    (of_message (λ (message : MessageOf). IsTrue (is_among message.0 (g.T.Turns.sessions c.args.turns.now).reached)) c.args.messages.now c.loop-message.message-index
    c.message-item.result c.requires c.loop-message-test.true c.message-item.is))

pub loop-message-preserved : goal.loop-message-preserved
loop-message-preserved g c =
    let k = c.loop-message.message-index in
    let messages = c.args.messages.now in
    saying_more (message_of c.message-item.result ∷ []) (said_of (drop (k + 1) messages)) g.met.T.Turns.went_join c.loop-message.invariant
    (next_message messages k c.message-item.result c.loop-message-test.true c.message-item.is)
    (subst (λ (bytes : List ℕ). g.T.Turns.went c.loop-message.turns [] ((c.message-item.result.session, bytes) ∷ []) c.send.new.self) c.as_slice.ensures.value c.in_ok-send.ensures.step)
    (record { owes = c.in_ok-send.ensures.owes; journal = c.in_ok-send.ensures.journal; decided = c.in_ok-send.ensures.decides; sessions = c.in_ok-send.ensures.sessions })

pub returns-in_err-send : goal.returns-in_err-send
returns-in_err-send g c =
    let error = err_from_is_err_and c.from_residual.result c.from_residual.ensures.1 in
    saying_stops c.from_residual.result g.met.T.Turns.went_join c.loop-message.invariant c.in_err-send.ensures.step
    (record { owes = c.in_err-send.ensures.owes; journal = c.in_err-send.ensures.journal; decided = c.in_err-send.ensures.decides; sessions = c.in_err-send.ensures.sessions })
    (not_ok c.from_residual.result error.0 error.1)

pub returns : goal.returns
returns g c =
    saying_ends _ c.loop-message.invariant (ap said_of (drop_all c.loop-message.message-index c.args.messages.now c.loop-message-test.false))
