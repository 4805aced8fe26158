use Rattle.std.proofs.Common.{◌≡◌, is_some, rules, true}
use Rattle.trick_eval.specs.Bench.{the_job}
use Rattle.trick_lang.specs.Effect.{reads}
use Rattle.trick_phase_cases.proofs.Trials.{right_trial, taken_parts}
use Rattle.trick_phase_cases.proofs.trial.Trial.take.Goals as goal

pub take-took-requires-clause-belongs : goal.take-took-requires-clause-belongs
take-took-requires-clause-belongs c = c.requires.board_is

pub take-took-requires-clause-bench : goal.take-took-requires-clause-bench
take-took-requires-clause-bench c = c.requires.bench_is

pub returns : goal.returns
returns c =
    let some : is_some c.args.self.now.board.opened ≡ true = search rules in
    let old = c.args.self.now in
    let plan = c.args.accepted.now.plan in
    let took = c.take-took in
    let job = the_job took.new.bench.job in
    right_trial plan old.board took.new.self old.bench took.new.bench old.other c.requires took.ensures.belongs
    (taken_parts took.result old.board.phase (reads plan.program job) old.bench took.new.bench job old.board.opened some
    took.ensures.filled (λ e. (took.ensures.kept e).1))
