-- The times of lines.
use Rattle.std.specs.Prelude.{ℕ, nat_le, Option, Some, None, Result, Ok, Err, if◌then◌else◌}
use Rattle.trick_input.specs.declared.call.Call.{Call}
use Rattle.trick_input.specs.declared.call.Form.{Form}
use Rattle.trick_input.specs.declared.call.Form.TheVariants as form
use Rattle.trick_input.specs.declared.call.RunForm.TheVariants as run_form
use Rattle.trick_input.specs.declared.call.VariableForm.TheVariants as variable_form
use Rattle.trick_input.specs.declared.call.TextForm.TheVariants as text_form
use Rattle.trick_base.specs.Time.{tic_limit}
use Rattle.trick_text.specs.declared.fault.TimeFault.{TimeFault}
use Rattle.trick_text.specs.declared.fault.TimeFault.TheVariants as fault

-- the time of a line, where it has one
abbrev pub time_in : Form → Option (Result ℕ TimeFault)
time_in (form.Run (run_form.SoftwareFrame time)) = Some time
time_in (form.Run (run_form.Stop time)) = Some time
time_in (form.Run (run_form.AmfCycle thread time)) = Some time
time_in (form.Text (text_form.AddRead time actions)) = Some time
time_in (form.Variable (variable_form.SetCycle variable time)) = Some time
time_in other = None

-- why the time of a line is none; a time is at most 10^15 tics
abbrev pub fault_of_time : ℕ → Option (Result ℕ TimeFault) → Option TimeFault
fault_of_time line None = None
fault_of_time line (Some (Err refused)) = Some refused
fault_of_time line (Some (Ok tics)) = if nat_le tics tic_limit then None else Some (fault.TimeTooLarge line)

abbrev pub time_fault : Call → Option TimeFault
time_fault call = fault_of_time call.line (time_in call.form)

-- the tics of a time
abbrev pub tics_of : Result ℕ TimeFault → ℕ
tics_of (Ok tics) = tics
tics_of (Err refused) = 0
