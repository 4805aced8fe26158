-- The threads of a plan.
use Rattle.std.specs.Prelude.{ℕ, suc, ◌≤◌, Bool, ◌||◌, IsTrue, All, List, [], ◌∷◌, filter, unwrap_or, is_some}
use Rattle.std.specs.Option.{ForSome}
use Rattle.trick_lang.specs.declared.job.Job.{Job}
use Rattle.trick_model.specs.Plan.{has_thread}
use Rattle.trick_model.specs.Valid.{IsCycle, IsMainRight, is_there, rises, thread_numbers}
use Rattle.trick_model.specs.declared.thread.Process.TheVariants as process
use Rattle.trick_model.specs.declared.thread.Thread.{Thread}
use Rattle.trick_plan_settings.specs.declared.setting.Setting.{Setting}

-- The input names the thread, for a process type or a cycle.
abbrev pub is_named : Setting → Bool
is_named setting = is_some setting.process || is_some setting.cycle

-- A cycle that is given is one.
abbrev pub HasCycle : Setting → Type 0
HasCycle setting = ForSome setting.cycle IsCycle

-- The thread of a number: it is scheduled, and its cycle is the software frame, unless the input says
-- otherwise.
abbrev pub thread_of : ℕ → ℕ → Setting → Thread
thread_of frame number setting = record {
  number = number;
  process = unwrap_or setting.process process.Scheduled;
  cycle = unwrap_or setting.cycle frame;
  named = is_named setting;
}

-- the threads from a number on
abbrev pub threads_from : ℕ → ℕ → List Setting → List Thread
threads_from frame number [] = []
threads_from frame number (setting ∷ settings) =
    thread_of frame number setting ∷ threads_from frame (suc number) settings

-- A plan has thread 0, each child thread with a job, and each thread that the input names.
abbrev pub threads_of : List Job → ℕ → List Setting → List Thread
threads_of jobs frame settings = filter (is_there jobs) (threads_from frame 0 settings)

-- what a plan with these jobs keeps of its threads
pub record AreThreads (jobs : List Job) (threads : List Thread) : Type 0 where
  -- by rising number, up to 15, thread 0 among them
  pub threads_rise : IsTrue (rises (thread_numbers threads))
  pub thread_limit : All (λ (thread : Thread). thread.number ≤ 15) threads
  pub main_thread : IsTrue (has_thread threads 0)
  -- the thread of each job is there, and no thread that nobody needs
  pub job_threads : All (λ (job : Job). IsTrue (has_thread threads job.thread)) jobs
  pub needed_threads : All (λ (thread : Thread). IsTrue (is_there jobs thread)) threads
  -- thread 0 is scheduled unless the input names it
  pub main_right : All IsMainRight threads
  pub thread_cycles : All (λ (thread : Thread). IsCycle thread.cycle) threads
