use Rattle.trick_phase_cases.specs.Trial.{IsTrial}
use Rattle.trick_phase_cases.proofs.acts.do_lines.Given as goal

abbrev pub invariant-loop-line : goal.invariant-loop-line
invariant-loop-line l = IsTrial l.accepted.plan l.trial.board l.trial.bench l.trial.other
