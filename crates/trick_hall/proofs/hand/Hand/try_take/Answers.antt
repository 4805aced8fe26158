use Rattle.std.proofs.Common.{◌≡◌, ◌∙◌, rules, refl, sym, ap, subst, List, Option, ◌++◌}
use Rattle.std.specs.Option.{IfSome, option_map}
use Rattle.trick_hall_kept.proofs.Entries.{stands_picked}
use Rattle.trick_hall_kept.proofs.Takings.{tried_take}
use Rattle.trick_hall.proofs.Turns.{claims_looked, names_pass, take_at}
use Rattle.trick_hall_kept.specs.Answers.{job_taken}
use Rattle.trick_hall_kept.specs.HallView.{HallView}
use Rattle.trick_hall_kept.specs.Histories.{after}
use Rattle.trick_hall_kept.specs.Standing.{StandsAt}
use Rattle.trick_hall_kept.specs.declared.entry.Entry.{Entry}
use Rattle.trick_hall_kept.specs.declared.entry.Entry.TheVariants.{Take}
use Rattle.trick_lang.specs.declared.job.JobId.{JobId}
use Rattle.trick_turn.specs.Passes.{number_of, seen}
use Rattle.trick_turn.specs.Views.{entries_told}
use Rattle.trick_turn.specs.declared.view.View.{View}
use Rattle.trick_hall.proofs.hand.Hand.try_take.Goals as goal

pub take-took-requires-clause-standing : goal.take-took-requires-clause-standing
take-took-requires-clause-standing g c =
    let plan = c.args.accepted.now.plan in let log : List Entry = seen c.in-Got.turn.pass.now in
    (log, subst (λ (hall : HallView). StandsAt plan hall log) (sym c.value-kept.ensures.value) (c.in-Got.ensures.got.state plan c.requires.plan))

pub end_take-requires-clause-names : goal.end_take-requires-clause-names
end_take-requires-clause-names g c = names_pass (Take (number_of c.in-Got.turn.pass.now)) _ (λ _. refl) c.job_taken.result

pub end_take-requires-clause-stands : goal.end_take-requires-clause-stands
end_take-requires-clause-stands g c =
    let plan = c.args.accepted.now.plan in let log : List Entry = seen c.in-Got.turn.pass.now in let seat = number_of c.in-Got.turn.pass.now in
    let stands = subst (λ (hall : HallView). StandsAt plan hall log) (sym c.value-kept.ensures.value) (c.in-Got.ensures.got.state plan c.requires.plan) in
    let is : c.job_taken.result ≡ job_taken c.take-took.new.bench.job c.take-took.result = c.job_taken.ensures ∙ ap (λ (job : Option JobId). job_taken job c.take-took.result) c.job.ensures in
    stands_picked _ plan _ _ c.requires.plan
    (subst (λ (job : Option JobId). StandsAt plan c.take-took.new.self (log ++ entries_told (option_map (Take seat) job))) (sym is) (c.take-took.ensures.stands log seat stands))

pub returns-in-Got-clause-answer : goal.returns-in-Got-clause-answer
returns-in-Got-clause-answer g c =
    let plan = c.args.accepted.now.plan in let log : List Entry = seen c.in-Got.turn.pass.now in
    let stands = subst (λ (hall : HallView). StandsAt plan hall log) (sym c.value-kept.ensures.value) (c.in-Got.ensures.got.state plan c.requires.plan) in
    let is : c.job_taken.result ≡ job_taken c.take-took.new.bench.job c.take-took.result = c.job_taken.ensures ∙ ap (λ (job : Option JobId). job_taken job c.take-took.result) c.job.ensures in
    let told = take_at _ _ _ (claims_looked _ _ c.args.self.now.pass _ _ c.in-Got.ensures.got) plan c.args.thread c.args.bench.now c.take-took.new.bench c.take-took.result c.job_taken.result is
    c.end_take.ensures (c.take-took.ensures.answer log stands) c.take-took.new.self (c.take-took.ensures.stands log (number_of c.args.self.now.pass) stands) in
    let tried = tried_take plan c.args.thread _ _ _ _ _ told in
    search (rules, tried)

pub returns-in-Got-clause-tic : goal.returns-in-Got-clause-tic
returns-in-Got-clause-tic g c = λ took.
    let plan = c.args.accepted.now.plan in let log : List Entry = seen c.in-Got.turn.pass.now in let seat = number_of c.in-Got.turn.pass.now in
    let stands = subst (λ (hall : HallView). StandsAt plan hall log) (sym c.value-kept.ensures.value) (c.in-Got.ensures.got.state plan c.requires.plan) in
    let is : c.job_taken.result ≡ job_taken c.take-took.new.bench.job c.take-took.result = c.job_taken.ensures ∙ ap (λ (job : Option JobId). job_taken job c.take-took.result) c.job.ensures in
    let after_turn = subst (λ (job : Option JobId). StandsAt plan c.take-took.new.self (log ++ entries_told (option_map (Take seat) job))) (sym is) (c.take-took.ensures.stands log seat stands) in
    let tic = subst (λ (l : List Entry). IfSome (after l).course (λ k. c.tic-tic.result ≡ k.opening.tic)) (sym (ap (λ (v : View Entry). v.seen) c.end_take.ensures.view))
    (c.tic-tic.ensures plan _ after_turn) in
    search (rules, tic)

pub returns-in-Busy-clause-answer : goal.returns-in-Busy-clause-answer
returns-in-Busy-clause-answer g c = search rules
