-- Worked threads and queues.
use Rattle.std.specs.Prelude.{◌≡◌, ℕ, List, [], ◌∷◌, Option, Some, None, false, true}
use Rattle.trick_lang.specs.declared.class.Class.{Class}
use Rattle.trick_lang.specs.declared.class.Class.TheVariants as class
use Rattle.trick_lang.specs.declared.job.Job.{Job}
use Rattle.trick_model.specs.Order.{jobs_in}
use Rattle.trick_model.specs.declared.thread.Process.{Process}
use Rattle.trick_model.specs.declared.thread.Process.TheVariants as process
use Rattle.trick_plan_settings.specs.Threads.{threads_of}
use Rattle.trick_plan_settings.specs.declared.setting.Setting.{Setting}

-- a job of an object, by its class, thread, phase and number
abbrev pub job : ℕ → Class → ℕ → ℕ → ℕ → Job
job object class thread phase number = record {
  object = object;
  method = 0;
  instance = 1;
  class = class;
  thread = thread;
  phase = phase;
  start = 0;
  cycle = 0;
  stop = 0;
  number = number;
}

-- jobs 0 to 4: two objects, two classes, thread 2 and the main thread
abbrev pub jobs : List Job
jobs =
    job 0 class.Scheduled 2 60000 1
    ∷ job 0 class.Restart 0 1 0
    ∷ job 1 class.Scheduled 0 60000 0
    ∷ job 1 class.Scheduled 0 7 3
    ∷ job 0 class.Scheduled 2 60000 0
    ∷ []

abbrev pub said : Option Process → Option ℕ → Setting
said process cycle = record { process = process; cycle = cycle }

-- what an input says of threads 0 to 4: 3 is asynchronous, 4 has a cycle of 50 tics
abbrev pub settings : List Setting
settings = said None None ∷ said None None ∷ said None None ∷ said (Some process.Async) None ∷ said None (Some 50) ∷ []

-- Thread 1 has no job and is not named.
abbrev pub AreThreadsWorked : Type 0
AreThreadsWorked =
    threads_of jobs 1000 settings
    ≡ record { number = 0; process = process.Scheduled; cycle = 1000; named = false }
    ∷ record { number = 2; process = process.Scheduled; cycle = 1000; named = false }
    ∷ record { number = 3; process = process.Async; cycle = 1000; named = true }
    ∷ record { number = 4; process = process.Scheduled; cycle = 50; named = true }
    ∷ []

-- The phase goes before the object, and the object before the number.
abbrev pub IsQueueWorked : Type 0
IsQueueWorked = jobs_in jobs class.Scheduled ≡ 3 ∷ 4 ∷ 0 ∷ 2 ∷ []
