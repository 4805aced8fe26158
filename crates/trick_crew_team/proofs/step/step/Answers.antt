use Rattle.std.proofs.Common.{◌∙◌, ap, subst}
use Rattle.trick_crew_team.proofs.step.step.Goals as goal
use Rattle.trick_crew_team.specs.Stepping.{evaluated}
use Rattle.trick_eval.specs.Bench.{BenchView}
use Rattle.trick_hall_kept.specs.Answers.{CommitsAt}
use Rattle.trick_model.specs.declared.plan.Plan.{Plan}

pub returns-in-Took-clause-answer : goal.returns-in-Took-clause-answer
returns-in-Took-clause-answer g c = record {
  between = c.take.new.self.pass;
  filled = c.take.new.bench;
  takes = c.in-Took.ensures.answer;
  answer = c.commit.result;
  commits = subst (λ (bench : BenchView). CommitsAt c.args.accepted.now.plan c.take.new.self.pass c.commit.new.self.pass bench c.commit.new.bench c.commit.result)
      (c.eval.ensures ∙ ap (λ (plan : Plan). evaluated plan.program c.take.new.bench) c.plan.ensures.plan) c.commit.ensures.answer;
}
