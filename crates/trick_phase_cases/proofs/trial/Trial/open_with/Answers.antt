use Rattle.std.proofs.Common.{refl}
use Rattle.trick_phase_cases.proofs.Trials.{right_trial, zeros_memory}
use Rattle.trick_phase_cases.proofs.trial.Trial.open_with.Goals as goal

pub open-requires-clause-belongs : goal.open-requires-clause-belongs
open-requires-clause-belongs c = c.requires.right.board_is

pub open-requires-clause-memory : goal.open-requires-clause-memory
open-requires-clause-memory c =
    zeros_memory c.args.accepted.now.plan c.plan-plan.result.now c.in_ok-memory.memory c.in_ok-memory.ensures c.plan-plan.ensures.plan

pub open-requires-clause-due : goal.open-requires-clause-due
open-requires-clause-due c = c.requires.due c.plan-plan.result.now.jobs

pub returns : goal.returns
returns c =
    let old = c.args.self.now in
    right_trial c.args.accepted.now.plan old.board c.open.new.self old.bench old.bench old.other c.requires.right
    c.open.ensures.belongs refl
