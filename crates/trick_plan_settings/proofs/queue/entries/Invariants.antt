use Rattle.std.proofs.Common.{◌≡◌, ◌<◌, ◌++◌, ℕ, drop, filter, map, slice_index_or}
use Rattle.trick_lang.specs.declared.job.Job.{Job}
use Rattle.trick_model.specs.Order.{is_of_class}
use Rattle.trick_model.specs.Plan.{numbers_from}
use Rattle.trick_plan_settings.proofs.queue.entries.Given as goal
use Rattle.trick_plan_settings.specs.Keys.{HasSmallKey, entry_of, numbers_of}

abbrev pub invariant-loop-place : goal.invariant-loop-place
invariant-loop-place l = record {
  so_far :
      l.found.items ++ map (entry_of l.jobs) (filter (is_of_class l.jobs l.class) (numbers_from l.place (drop l.place l.jobs)))
      ≡ map (entry_of l.jobs) (numbers_of l.jobs l.class);
  small : (k : ℕ) (d : Job) → k < l.place → HasSmallKey (slice_index_or l.jobs k d);
}
