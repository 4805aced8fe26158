use Rattle.std.proofs.Common.{◌∙◌, append-nil, inl, inr, sym}
use Rattle.trick_crew_clerks.proofs.Serving.{ready_waits_not, waits_not, errand_got}
use Rattle.trick_crew_clerks.proofs.shift.step.Goals as goal
use Rattle.trick_turn.specs.Passes.{number_of, own, seen}

pub returns-in-Got-clause-work : goal.returns-in-Got-clause-work
returns-in-Got-clause-work g c =
    let clerk = c.args.clerk.now in
    errand_got clerk.thread c.pick.new.self.thread (number_of clerk.pass) (own clerk.pass) (own c.pick.new.self.pass) (own c.put_back.new.self.pass)
    c.in-Got.ensures.thread clerk.seat c.in-Got.ensures.answer.1.once c.put_back.ensures.adds.1.once

pub returns-in-Got-clause-idle : goal.returns-in-Got-clause-idle
returns-in-Got-clause-idle g c =
    inr (ready_waits_not c.pick.new.self.thread c.put_back.new.self.thread (seen c.put_back.new.self.pass) c.put_back.ensures.thread c.put_back.ensures.ready)

pub returns-in-Nothing-clause-work : goal.returns-in-Nothing-clause-work
returns-in-Nothing-clause-work g c = c.in-Nothing.ensures.answer.0.none ∙ sym (append-nil (own c.args.clerk.now.pass))

pub returns-in-Nothing-clause-idle : goal.returns-in-Nothing-clause-idle
returns-in-Nothing-clause-idle g c =
    inr (waits_not c.args.clerk.now.thread c.pick.new.self.thread (seen c.pick.new.self.pass) c.in-Nothing.ensures.thread c.in-Nothing.ensures.answer.2)

pub returns-in-Shut-clause-work : goal.returns-in-Shut-clause-work
returns-in-Shut-clause-work g c = c.in-Shut.ensures.answer.0.none ∙ sym (append-nil (own c.args.clerk.now.pass))

pub returns-in-Shut-clause-idle : goal.returns-in-Shut-clause-idle
returns-in-Shut-clause-idle g c = inl c.in-Shut.ensures.answer.1

pub returns-in-Shut-clause-shut : goal.returns-in-Shut-clause-shut
returns-in-Shut-clause-shut g c = λ is. c.in-Shut.ensures.answer.1
