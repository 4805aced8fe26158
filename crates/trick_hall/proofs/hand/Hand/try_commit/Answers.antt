use Rattle.std.proofs.Common.{◌≡◌, ◌∙◌, rules, refl, sym, ap, subst, List, Option, ◌++◌}
use Rattle.std.specs.Option.{option_map}
use Rattle.trick_hall_kept.proofs.Entries.{stands_picked}
use Rattle.trick_hall_kept.proofs.Committings.{tried_commit}
use Rattle.trick_hall.proofs.Turns.{claims_looked, commit_at, names_pass}
use Rattle.trick_hall_kept.specs.Answers.{job_committed}
use Rattle.trick_hall_kept.specs.HallView.{HallView}
use Rattle.trick_hall_kept.specs.Standing.{StandsAt}
use Rattle.trick_hall_kept.specs.declared.entry.Entry.{Entry}
use Rattle.trick_hall_kept.specs.declared.entry.Entry.TheVariants.{Commit}
use Rattle.trick_lang.specs.declared.job.JobId.{JobId}
use Rattle.trick_turn.specs.Passes.{number_of, seen}
use Rattle.trick_turn.specs.Views.{entries_told}
use Rattle.trick_hall.proofs.hand.Hand.try_commit.Goals as goal

pub commit-committed-requires-clause-standing : goal.commit-committed-requires-clause-standing
commit-committed-requires-clause-standing g c =
    let plan = c.args.accepted.now.plan in let log : List Entry = seen c.in-Got.turn.pass.now in
    (log, subst (λ (hall : HallView). StandsAt plan hall log) (sym c.value.ensures.value) (c.in-Got.ensures.got.state plan c.requires.plan))

pub end_commit-requires-clause-names : goal.end_commit-requires-clause-names
end_commit-requires-clause-names g c = names_pass (Commit (number_of c.in-Got.turn.pass.now)) _ (λ _. refl) c.job_committed.result

pub end_commit-requires-clause-stands : goal.end_commit-requires-clause-stands
end_commit-requires-clause-stands g c =
    let plan = c.args.accepted.now.plan in let log : List Entry = seen c.in-Got.turn.pass.now in let seat = number_of c.in-Got.turn.pass.now in
    let stands = subst (λ (hall : HallView). StandsAt plan hall log) (sym c.value.ensures.value) (c.in-Got.ensures.got.state plan c.requires.plan) in
    let is : c.job_committed.result ≡ job_committed c.args.bench.now.job c.commit-committed.result = c.job_committed.ensures ∙ ap (λ (job : Option JobId). job_committed job c.commit-committed.result) c.job-job.ensures in
    stands_picked _ plan _ _ c.requires.plan
    (subst (λ (job : Option JobId). StandsAt plan c.commit-committed.new.self (log ++ entries_told (option_map (Commit seat) job))) (sym is) (c.commit-committed.ensures.stands log seat stands))

pub returns-in-Got-clause-answer : goal.returns-in-Got-clause-answer
returns-in-Got-clause-answer g c =
    let plan = c.args.accepted.now.plan in let log : List Entry = seen c.in-Got.turn.pass.now in
    let stands = subst (λ (hall : HallView). StandsAt plan hall log) (sym c.value.ensures.value) (c.in-Got.ensures.got.state plan c.requires.plan) in
    let is : c.job_committed.result ≡ job_committed c.args.bench.now.job c.commit-committed.result = c.job_committed.ensures ∙ ap (λ (job : Option JobId). job_committed job c.commit-committed.result) c.job-job.ensures in
    let told = commit_at _ _ _ (claims_looked _ _ c.args.self.now.pass _ _ c.in-Got.ensures.got) plan c.args.bench.now c.commit-committed.new.bench c.commit-committed.result c.job_committed.result is
    c.end_commit.ensures (c.commit-committed.ensures.answer log stands) c.commit-committed.new.self (c.commit-committed.ensures.stands log (number_of c.args.self.now.pass) stands) in
    let tried = tried_commit plan _ _ _ _ _ told in
    search (rules, tried)

pub returns-in-Busy-clause-answer : goal.returns-in-Busy-clause-answer
returns-in-Busy-clause-answer g c = search rules
