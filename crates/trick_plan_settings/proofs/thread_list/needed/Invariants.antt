use Rattle.std.proofs.Common.{◌≡◌, ◌++◌, drop, filter}
use Rattle.trick_model.specs.Valid.{is_there}
use Rattle.trick_plan_settings.proofs.thread_list.needed.Given as goal
use Rattle.trick_plan_settings.specs.Threads.{threads_from, threads_of}

abbrev pub invariant-loop-setting : goal.invariant-loop-setting
invariant-loop-setting l = record {
  at : l.number ≡ l.setting-index;
  so_far :
      l.threads ++ filter (is_there l.jobs) (threads_from l.frame l.number (drop l.setting-index l.settings))
      ≡ threads_of l.jobs l.frame l.settings;
}
