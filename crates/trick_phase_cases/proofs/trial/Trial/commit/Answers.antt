use Rattle.std.proofs.Common.{◌∙◌, ap, subst, sym}
use Rattle.trick_eval.specs.Bench.{BenchView, IsFor}
use Rattle.trick_model.specs.declared.plan.Plan.{Plan}
use Rattle.trick_phase_cases.proofs.Trials.{committed_parts, right_trial}
use Rattle.trick_phase_cases.proofs.trial.Trial.commit.Goals as goal

pub eval-requires-clause-bench : goal.eval-requires-clause-bench
eval-requires-clause-bench c =
    subst (λ (x : Plan). IsFor x.program c.args.self.now.bench.parts) (sym c.plan-plan.ensures.plan) c.requires.bench_is

pub commit-answer-requires-clause-belongs : goal.commit-answer-requires-clause-belongs
commit-answer-requires-clause-belongs c = c.requires.board_is

pub commit-answer-requires-clause-bench : goal.commit-answer-requires-clause-bench
commit-answer-requires-clause-bench c =
    subst (IsFor c.args.accepted.now.plan.program) (sym (ap (λ (b : BenchView). b.parts) c.eval.ensures)) c.requires.bench_is

pub returns : goal.returns
returns c =
    let old = c.args.self.now in
    let answer = c.commit-answer in
    right_trial c.args.accepted.now.plan old.board answer.new.self old.bench answer.new.bench old.other c.requires
    answer.ensures.belongs
    (committed_parts answer.result c.eval.new.bench answer.new.bench answer.ensures.emptied (λ e. (answer.ensures.kept e).1)
    ∙ ap (λ (b : BenchView). b.parts) c.eval.ensures)
