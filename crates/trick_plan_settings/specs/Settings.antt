-- What an input says of the run and of its threads. Of two lines that say one thing the last counts, and
-- it holds for the whole input. A number that is out of range says nothing; its line is refused.
use Rattle.std.specs.Prelude.{ℕ, zero, suc, ◌+◌, ◌==◌, nat_le, nat_lt, ◌++◌, Bool, true, false, ◌&&◌, List, [], ◌∷◌, Option, Some, None, Ok, unwrap_or, if◌then◌else◌}
use Rattle.trick_input.specs.declared.call.Call.{Call}
use Rattle.trick_input.specs.declared.call.Form.{Form}
use Rattle.trick_input.specs.declared.call.Form.TheVariants as form
use Rattle.trick_input.specs.declared.call.RunForm.TheVariants as run
use Rattle.trick_lang.specs.declared.job.Job.{Job}
use Rattle.trick_base.specs.Time.{tic_limit}
use Rattle.trick_model.specs.declared.thread.Process.{Process}
use Rattle.trick_plan_settings.specs.declared.said.Said.{Said}
use Rattle.trick_plan_settings.specs.declared.settings.Settings.{Settings}
use Rattle.trick_plan_settings.specs.Threads.{threads_of}
use Rattle.trick_plan_settings.specs.declared.setting.Setting.{Setting}

-- ---- the last line that says something

-- what a line says, if it says something, or else what was said before
abbrev pub later : {A : Type 0} → Option A → Option A → Option A
later None before = before
later (Some said) before = Some said

-- what the last of the lines that say something says, or else what was said before
abbrev pub latest : {A : Type 0} → (Form → Option A) → Option A → List Call → Option A
latest said before [] = before
latest said before (call ∷ calls) = latest said (later (said call.form) before) calls

-- ---- the run

-- a frame has from 1 to 10^9 tics
abbrev pub is_frame : ℕ → Bool
is_frame tics = nat_lt 0 tics && nat_le tics 1000000000

abbrev pub frame_said : Form → Option ℕ
frame_said (form.Run (run.SoftwareFrame (Ok tics))) = if is_frame tics then Some tics else None
frame_said other = None

-- the last tic is run
abbrev pub limit_said : Form → Option ℕ
limit_said (form.Run (run.Stop (Ok tics))) = if nat_le tics tic_limit then Some (tics + 1) else None
limit_said other = None

abbrev pub frozen_said : Form → Option Bool
frozen_said (form.Run run.Freeze) = Some true
frozen_said other = None

-- The software frame has 1,000,000 tics where no line says otherwise.
abbrev pub frame_of : List Call → ℕ
frame_of calls = unwrap_or (latest frame_said None calls) 1000000

-- The first tic that is not run is 10^15 + 1 where no line says otherwise.
abbrev pub limit_of : List Call → ℕ
limit_of calls = unwrap_or (latest limit_said None calls) (tic_limit + 1)

abbrev pub frozen_of : List Call → Bool
frozen_of calls = unwrap_or (latest frozen_said None calls) false

-- ---- threads

abbrev pub process_said : ℕ → Form → Option Process
process_said number (form.Run (run.ProcessType thread process)) = if thread == number then Some process else None
process_said number other = None

-- a cycle has a tic at least
abbrev pub cycle_said : ℕ → Form → Option ℕ
cycle_said number (form.Run (run.AmfCycle thread (Ok tics))) =
    if (thread == number) && (nat_lt 0 tics && nat_le tics tic_limit) then Some tics else None
cycle_said number other = None

abbrev pub setting_of : List Call → ℕ → Setting
setting_of calls number = record {
  process = latest (process_said number) None calls;
  cycle = latest (cycle_said number) None calls;
}

-- the first so many numbers, each with what the lines say of its thread
abbrev pub settings_below : List Call → ℕ → List Setting
settings_below calls zero = []
settings_below calls (suc number) = settings_below calls number ++ setting_of calls number ∷ []

-- Threads go from 0 to 15.
abbrev pub settings_by_number : List Call → List Setting
settings_by_number calls = settings_below calls 16

-- ---- lines one after another

-- what all lines say
abbrev pub said_in : List Call → Said
said_in calls = record {
  frame = latest frame_said None calls;
  limit = latest limit_said None calls;
  frozen = latest frozen_said None calls;
  threads = settings_by_number calls;
}

-- what is said of a thread now, over what was said of it before
abbrev pub over : Setting → Setting → Setting
over said before = record { process = later said.process before.process; cycle = later said.cycle before.cycle }

-- the setting of a thread is changed, where there is one of this number
abbrev pub changed : (Setting → Setting) → List Setting → ℕ → List Setting
changed change [] number = []
changed change (setting ∷ settings) zero = change setting ∷ settings
changed change (setting ∷ settings) (suc number) = setting ∷ changed change settings number

-- The settings by number after one more line: it says something of one thread, or of none.
abbrev pub threads_after : Form → List Setting → List Setting
threads_after (form.Run (run.ProcessType thread process)) settings =
    changed (over (record { process = Some process; cycle = None })) settings thread
threads_after (form.Run (run.AmfCycle thread (Ok tics))) settings =
    if nat_lt 0 tics && nat_le tics tic_limit
    then changed (over (record { process = None; cycle = Some tics })) settings thread
    else settings
threads_after other settings = settings

-- ---- all settings

abbrev pub settings_in : List Job → List Call → Settings
settings_in jobs calls = record {
  frame = frame_of calls;
  limit = limit_of calls;
  frozen = frozen_of calls;
  threads = threads_of jobs (frame_of calls) (settings_by_number calls);
}
