use Rattle.std.proofs.Common.{◌≡◌, ◌∙◌, List, ap, arith, length, rules}
use Rattle.std.proofs.lemmas.List.{with_items_is}
use Rattle.trick_exec_entries.proofs.ReplyLemmas.{said_heard, said_reply}
use Rattle.trick_exec_entries.proofs.entries.hear_entry.Goals as goal
use Rattle.trick_exec_entries.specs.Hearing.{hearing_of, messages_in}
use Rattle.trick_model.specs.Events.{Asking}
use Rattle.trick_model.specs.PlanOf.{plan_of}
use Rattle.trick_model.specs.Turn.{Hearing}
use Rattle.trick_model.specs.declared.session.Session.{Session}
use Rattle.trick_exec_tic.specs.Current.{asking_of}

pub returns-in-Said-clause-heard : goal.returns-in-Said-clause-heard
returns-in-Said-clause-heard g c =
    let p = plan_of c.args.plan.now in
    let h : Hearing = hearing_of g.M.Cells.numbers c.args.hearing.now in
    let facts = rw c.deref_mut.ensures.value at c.in_ok-reply-in-Said.ensures.answer in
    let kept : length c.answer.new.sessions ≡ c.args.hearing.now.sessions.len =
    first_of (search rules, omega (arith, c.answer.auto.sessions, c.deref_mut.ensures.len), grind (arith, c.answer.auto.sessions, c.deref_mut.ensures.len)) in
    let items = with_items_is c.args.hearing.now.sessions c.answer.new.sessions kept in
    let asking : Asking = asking_of g.M.Cells.numbers c.follow.new.current in
    let heard = said_heard p c.in-Said.session c.in-Said.line h facts.0 c.in_ok-reply-in-Said.reply asking c.answer.new.sessions facts.1 facts.2 c.follow.ensures.followed in
    rw c.in-Said.is (ap (λ (ss : List Session). let x : Hearing = record { asking = asking; sessions = ss } in x) items ∙ heard)

pub returns-in-Said-clause-reply : goal.returns-in-Said-clause-reply
returns-in-Said-clause-reply g c =
    let p = plan_of c.args.plan.now in
    let h : Hearing = hearing_of g.M.Cells.numbers c.args.hearing.now in
    let facts = rw c.deref_mut.ensures.value at c.in_ok-reply-in-Said.ensures.answer in
    rw c.in-Said.is (said_reply p _ _ h facts.0 c.in_ok-reply-in-Said.reply (messages_in c.message.result) facts.1 c.message.ensures)
