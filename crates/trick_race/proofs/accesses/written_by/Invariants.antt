use Rattle.std.proofs.Common.{◌≡◌, ℕ, ◌↔◌, IsTrue, length}
use Rattle.trick_race.specs.Accesses.{has, IsWrittenBefore}
use Rattle.trick_race.proofs.accesses.written_by.Given as goal

abbrev pub invariant-loop-job : goal.invariant-loop-job
invariant-loop-job l = record {
  size : length l.set ≡ l.cells;
  written : (c : ℕ) → IsTrue (has l.set c) ↔ IsWrittenBefore l.accesses l.jobs l.job c;
}
