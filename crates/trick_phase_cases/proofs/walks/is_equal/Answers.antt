use Rattle.std.proofs.Common.{arith, inl}
use Rattle.trick_phase_cases.proofs.walks.is_equal.Goals as goal

pub ask-steps-requires-clause-tic : goal.ask-steps-requires-clause-tic
ask-steps-requires-clause-tic c = inl (omega (arith, c.requires.from, c.requires.later))
