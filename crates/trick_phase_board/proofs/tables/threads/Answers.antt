use Rattle.std.proofs.Common.{◌≤◌, ap, sym, ◌∙◌, inl, inr, length, arith}
use Rattle.std.proofs.lemmas.Bool.{cases_lt}
use Rattle.std.proofs.lemmas.List.{get_or_past}
use Rattle.trick_lang.specs.declared.job.Job.{Job}
use Rattle.trick_model.specs.Plan.{no_job}
use Rattle.trick_phase_board.proofs.tables.threads.Goals as goal

pub returns-clause-right : goal.returns-clause-right
returns-clause-right c k = elim (cases_lt k c.loop-number.number) [
  | inl less ↦ c.loop-number.invariant.right k less
  | inr past ↦
      let made = c.loop-number.invariant.made in
      let test = c.loop-number-test.false in
      let jobs = c.args.plan.now.program.jobs in
      let none : length c.loop-number.threads ≤ k = omega (arith, made, past) in
      let over : length jobs ≤ k = omega (arith, test, past) in
      get_or_past c.loop-number.threads k 0 none ∙ sym (ap (λ (job : Job). job.thread) (get_or_past jobs k no_job over))
]
