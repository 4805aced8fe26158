use Rattle.std.proofs.Common.{◌≡◌, drop}
use Rattle.trick_model.specs.Plan.{process_in}
use Rattle.trick_model.proofs.thread.process_of.Given as goal

-- the threads that are left decide
abbrev pub invariant-loop-thread : goal.invariant-loop-thread
invariant-loop-thread l = process_in (drop l.thread-index l.threads) l.number ≡ process_in l.threads l.number
