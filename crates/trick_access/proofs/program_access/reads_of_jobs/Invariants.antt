use Rattle.std.proofs.Common.{◌≡◌, ◌<◌, [], length, slice_index_or}
use Rattle.trick_access.specs.Ranges.{AreCellsOf}
use Rattle.trick_lang.specs.Effect.{reads}
use Rattle.trick_lang.specs.declared.job.JobId.{JobId}
use Rattle.trick_access.proofs.program_access.reads_of_jobs.Given as goal

-- the jobs so far have their ranges
abbrev pub invariant-loop-number : goal.invariant-loop-number
invariant-loop-number l = record {
  made : length l.all ≡ l.number;
  ranges : (job : JobId) → job.0 < l.number → AreCellsOf (length l.program.cells) (reads l.program job) (slice_index_or l.all job.0 []);
}
