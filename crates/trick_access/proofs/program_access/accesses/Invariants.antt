use Rattle.std.proofs.Common.{◌≡◌, ◌<◌, length}
use Rattle.trick_access.specs.Accesses.{reads_of, writes_of}
use Rattle.trick_access.specs.Ranges.{AreCellsOf}
use Rattle.trick_lang.specs.Effect.{reads, writes}
use Rattle.trick_lang.specs.declared.job.JobId.{JobId}
use Rattle.trick_access.proofs.program_access.accesses.Given as goal

-- the jobs so far have their ranges
abbrev pub invariant-loop-number : goal.invariant-loop-number
invariant-loop-number l = record {
  made : length l.all ≡ l.number;
  reads : (job : JobId) → job.0 < l.number → AreCellsOf (length l.program.cells) (reads l.program job) (reads_of l.all job.0);
  writes : (job : JobId) → job.0 < l.number → AreCellsOf (length l.program.cells) (writes l.program job) (writes_of l.all job.0);
}
