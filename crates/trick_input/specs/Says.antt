-- What a line says, by the form that it has: its values stand at fixed places, but for those after a path.
use Rattle.std.specs.List.{slice_index_or}
use Rattle.std.specs.Prelude.{ℕ, ◌-◌, ◌==◌, ℤ, pos, neg_ℤ, Bool, true, false, not, List, [], ◌∷◌, ◌++◌, decimal, length, Result, Ok, if◌then◌else◌}
use Rattle.trick_input.specs.Classes.{is}
use Rattle.trick_input.specs.Forms.{fits}
use Rattle.trick_input.specs.Lexemes.{Lexeme}
use Rattle.trick_input.specs.declared.call.Form.{Form}
use Rattle.trick_input.specs.declared.call.Form.TheVariants as form
use Rattle.trick_input.specs.declared.call.RunForm.TheVariants as run
use Rattle.trick_input.specs.declared.call.JobForm.TheVariants as job
use Rattle.trick_input.specs.declared.call.GroupForm.TheVariants as group
use Rattle.trick_input.specs.declared.call.EventForm.TheVariants as event
use Rattle.trick_input.specs.declared.call.VariableForm.TheVariants as variable
use Rattle.trick_input.specs.declared.call.TextForm.TheVariants as text
use Rattle.trick_input.specs.declared.class.Class.{Class}
use Rattle.trick_input.specs.declared.class.Class.TheVariants as the
use Rattle.trick_input.specs.declared.form.Row.{Row}
use Rattle.trick_input.specs.declared.form.Row.TheVariants as row
use Rattle.trick_input.specs.declared.form.Sort.TheVariants as sort
use Rattle.trick_model.specs.declared.thread.Process.{Process}
use Rattle.trick_model.specs.declared.thread.Process.TheVariants as process
use Rattle.trick_text.specs.Tokens.{inner}
use Rattle.trick_text.specs.declared.fault.TimeFault.{TimeFault}

-- ---- values, by their place

-- a token that is none, for a place past the last one
abbrev pub no_lexeme : Lexeme
no_lexeme = record { class = the.Other; bytes = []; number = 0; time = Ok 0 }

abbrev pub lexeme_at : List Lexeme → ℕ → Lexeme
lexeme_at ls k = slice_index_or ls k no_lexeme

-- the bytes of a token
abbrev pub bytes_at : List Lexeme → ℕ → List ℕ
bytes_at ls k = (lexeme_at ls k).bytes

-- what stands between the quotes of a string
abbrev pub text_at : List Lexeme → ℕ → List ℕ
text_at ls k = inner (bytes_at ls k)

abbrev pub number_at : List Lexeme → ℕ → ℕ
number_at ls k = (lexeme_at ls k).number

abbrev pub time_at : List Lexeme → ℕ → Result ℕ TimeFault
time_at ls k = (lexeme_at ls k).time

-- a literal without `-`: `True` is 1 and `False` is 0
abbrev pub literal_at : List Lexeme → ℕ → ℕ
literal_at ls k = if is (lexeme_at ls k).class the.True then 1 else number_at ls k

-- the place of the last token
abbrev pub last_of : List Lexeme → ℕ
last_of ls = length ls - 1

-- what a token of a path adds to the full name: a number is written in decimal
abbrev pub shown : Lexeme → List ℕ
shown l = if fits sort.Number l.class then decimal l.number else l.bytes

-- the full name that a line begins with, up to its `=`
abbrev pub path_name : List Lexeme → List ℕ
path_name [] = []
path_name (l ∷ ls) = if is l.class the.Assign then [] else shown l ++ path_name ls

abbrev pub process_of : Class → Process
process_of class =
    if is class the.AsyncType then process.Async
    else if is class the.AmfType then process.MustFinish
    else process.Scheduled

-- ---- forms

-- what a line of this form says
abbrev pub form_of : Row → List Lexeme → Form
form_of row.ThisOwn ls = form.Variable (variable.ThisOwn (bytes_at ls 0))
form_of row.ThisOwnMinus ls = form.Variable (variable.ThisOwn (bytes_at ls 0))
form_of row.Assign ls = form.Assign (path_name ls) (pos (literal_at ls (last_of ls)))
form_of row.AssignMinus ls = form.Assign (path_name ls) (neg_ℤ (pos (number_at ls (last_of ls))))
form_of row.TrickAssign ls = form.Assign (path_name ls) (pos (literal_at ls (last_of ls)))
form_of row.TrickAssignMinus ls = form.Assign (path_name ls) (neg_ℤ (pos (number_at ls (last_of ls))))
form_of row.TrickIndexed ls = form.Assign (path_name ls) (pos (literal_at ls (last_of ls)))
form_of row.TrickIndexedMinus ls = form.Assign (path_name ls) (neg_ℤ (pos (number_at ls (last_of ls))))
form_of row.SoftwareFrame ls = form.Run (run.SoftwareFrame (time_at ls 4))
form_of row.Stop ls = form.Run (run.Stop (time_at ls 4))
form_of row.TerminateTime ls = form.Run (run.Stop (time_at ls 4))
form_of row.Freeze ls = form.Run run.Freeze
form_of row.ProcessType ls = form.Run (run.ProcessType (number_at ls 4) (process_of (lexeme_at ls 8).class))
form_of row.AmfCycle ls = form.Run (run.AmfCycle (number_at ls 4) (time_at ls 6))
form_of row.DependsOn ls = form.Job (job.DependsOn (text_at ls 4) (number_at ls 6) (text_at ls 8) (number_at ls 10))
form_of row.SetJob ls = form.Job (job.SetJob (text_at ls 4) (number_at ls 6) (not (literal_at ls 8 == 0)))
form_of row.SetJobMinus ls = form.Job (job.SetJob (text_at ls 4) (number_at ls 6) (not (number_at ls 9 == 0)))
form_of row.Declare ls = form.Declare (text_at ls 4)
form_of row.AddRead ls = form.Text (text.AddRead (time_at ls 4) (text_at ls 6))
form_of row.NewGroup ls = form.Group (group.NewGroup (bytes_at ls 0) (text_at ls 6))
form_of row.NewEvent ls = form.Event (event.NewEvent (bytes_at ls 0) (text_at ls 6))
form_of row.SetCycle ls = form.Variable (variable.SetCycle (bytes_at ls 0) (time_at ls 4))
form_of row.AddVariable ls = form.Group (group.AddVariable (bytes_at ls 0) (text_at ls 4))
form_of row.Enable ls = form.Group (group.SetGroup (bytes_at ls 0) true)
form_of row.Disable ls = form.Group (group.SetGroup (bytes_at ls 0) false)
form_of row.SetChanges ls = form.Group (group.SetChanges (bytes_at ls 0) (is (lexeme_at ls 6).class the.Changes))
form_of row.AddGroup ls = form.Group (group.AddGroup (bytes_at ls 4))
form_of row.AddGroupBuffer ls = form.Group (group.AddGroup (bytes_at ls 4))
form_of row.SetCondition ls = form.Text (text.SetCondition (bytes_at ls 0) (text_at ls 6))
form_of row.SetAction ls = form.Text (text.SetAction (bytes_at ls 0) (number_at ls 4) (text_at ls 6))
form_of row.Activate ls = form.Event (event.Activate (bytes_at ls 0))
form_of row.AddEvent ls = form.Event (event.AddEvent (bytes_at ls 4))
