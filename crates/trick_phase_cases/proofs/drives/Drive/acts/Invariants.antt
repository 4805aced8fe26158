use Rattle.trick_phase_cases.proofs.drives.Drive.acts.Given as goal
use Rattle.trick_phase_cases.specs.Trial.{IsTrial}

abbrev pub invariant-loop-act : goal.invariant-loop-act
invariant-loop-act l = IsTrial l.accepted.plan l.self.trial.board l.self.trial.bench l.self.trial.other
