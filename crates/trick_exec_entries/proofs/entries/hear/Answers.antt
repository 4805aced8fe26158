use Rattle.std.proofs.Common.{◌≡◌, ◌∙◌, ◌+◌, ◌++◌, [], ap, append-nil, drop, subst, sym}
use Rattle.std.proofs.lemmas.List.{drop_all}
use Rattle.trick_base.proofs.ListLemmas.{next_item}
use Rattle.trick_exec_entries.proofs.Kept.{hear_keeps, rising_now}
use Rattle.trick_exec_entries.proofs.ReplyLemmas.{heard_more, said_more}
use Rattle.trick_exec_entries.proofs.entries.hear.Goals as goal
use Rattle.trick_exec_entries.specs.Hearing.{hearing_of, messages_in, said_of}
use Rattle.trick_exec_entries.specs.Sessions.{AreHeard, joining}
use Rattle.trick_model.specs.PlanOf.{plan_of}
use Rattle.trick_model.specs.Turn.{Hearing, heard, replies}

pub hear_entry-requires-clause-rising : goal.hear_entry-requires-clause-rising
hear_entry-requires-clause-rising g c =
    rising_now c.loop-entry.hearing.sessions.items (joining (drop c.loop-entry.entry-index c.args.entries.now)) c.loop-entry.invariant.sessions.rising

pub loop-entry-preserved : goal.loop-entry-preserved
loop-entry-preserved g c =
    let plan = c.args.plan.now in
    let p = plan_of plan in
    let entries = c.args.entries.now in
    let at = c.loop-entry.entry-index in
    let entry = c.entry-item.result in
    let rest = drop (at + 1) entries in
    let left = next_item entries at entry c.loop-entry-test.true c.entry-item.is in
    let old : Hearing = hearing_of g.M.Cells.numbers c.loop-entry.hearing in
    let now : Hearing = hearing_of g.M.Cells.numbers c.hear_entry.new.hearing in
    let is : now ≡ _ = c.in_ok-reply.ensures.heard in
    record {
      heard = heard_more p entry (drop at entries) rest old now left is ∙ c.loop-entry.invariant.heard;
      said = said_more p entry (drop at entries) rest old now left is (said_of c.loop-entry.replies.items) (said_of c.add_reply.new.replies.items)
          (messages_in c.in_ok-reply.reply) c.in_ok-add_reply.ensures c.in_ok-reply.ensures.reply ∙ c.loop-entry.invariant.said;
      sessions = subst (λ (h : Hearing). AreHeard p h.sessions rest) (sym is)
          (hear_keeps plan entry rest old (subst (AreHeard p old.sessions) left c.loop-entry.invariant.sessions));
      memory = c.hear_entry.ensures.memory;
      bench = c.hear_entry.ensures.bench ∙ c.loop-entry.invariant.bench;
    }

pub returns-clause-heard : goal.returns-clause-heard
returns-clause-heard g c =
    let now : Hearing = hearing_of g.M.Cells.numbers c.loop-entry.hearing in
    let none = drop_all c.loop-entry.entry-index c.args.entries.now c.loop-entry-test.false in
    sym (ap (λ es. heard (plan_of c.args.plan.now) es now) none) ∙ c.loop-entry.invariant.heard

pub returns-clause-replies : goal.returns-clause-replies
returns-clause-replies g c =
    let now : Hearing = hearing_of g.M.Cells.numbers c.loop-entry.hearing in
    let none = drop_all c.loop-entry.entry-index c.args.entries.now c.loop-entry-test.false in
    sym (append-nil (said_of c.loop-entry.replies.items))
    ∙ sym (ap (λ es. said_of c.loop-entry.replies.items ++ replies (plan_of c.args.plan.now) es now) none) ∙ c.loop-entry.invariant.said

pub returns-clause-sessions : goal.returns-clause-sessions
returns-clause-sessions g c =
    let none = drop_all c.loop-entry.entry-index c.args.entries.now c.loop-entry-test.false in
    subst (AreHeard (plan_of c.args.plan.now) c.loop-entry.hearing.sessions.items) none c.loop-entry.invariant.sessions
