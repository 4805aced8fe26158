-- The classes of tokens, by their kinds and their bytes.
use Rattle.std.specs.List.{list_all}
use Rattle.std.specs.Prelude.{ℕ, Bool, false, ◌&&◌, ◌==◌, nat_eq, nat_le, nat_lt, List, [], ◌∷◌, codes, length, if◌then◌else◌}
use Rattle.std.specs.Str.{bytes_eq}
use Rattle.trick_input.specs.contracts.class.Class.{the_type}
use Rattle.trick_input.specs.declared.class.Class.{Class}
use Rattle.trick_input.specs.declared.class.Class.TheVariants as the
use Rattle.trick_text.specs.Numbers.{whole_value}
use Rattle.trick_text.specs.Pieces.{begins_name, is_in_name}
use Rattle.trick_text.specs.Tokens.{inner}
use Rattle.trick_text.specs.declared.token.TokenKind.{TokenKind}
use Rattle.trick_text.specs.declared.token.TokenKind.TheVariants as kinds
use denote.Enum.Declared.{tag_of}

-- the place of a class in its enum
abbrev pub number_of : Class → ℕ
number_of class = tag_of the_type class

-- whether the two are the same class
abbrev pub is : Class → Class → Bool
is w v = nat_eq (number_of w) (number_of v)

-- names, and words of forms, stand first
abbrev pub is_name : Class → Bool
is_name w = nat_lt (number_of w) (number_of the.Zero)

-- the class of the first row with these bytes, and else the given one
abbrev pub looked_up : List ℕ → List (List ℕ × Class) → Class → Class
looked_up bytes [] other = other
looked_up bytes (row ∷ rows) other = if bytes_eq bytes row.0 then row.1 else looked_up bytes rows other

-- names with a class of their own
abbrev pub named_classes : List (List ℕ × Class)
named_classes =
    (codes "trick", the.Trick)
    ∷ (codes "import", the.LeftOut)
    ∷ (codes "from", the.LeftOut)
    ∷ (codes "for", the.LeftOut)
    ∷ (codes "if", the.LeftOut)
    ∷ (codes "while", the.LeftOut)
    ∷ (codes "def", the.LeftOut)
    ∷ (codes "sim_services", the.Services)
    ∷ (codes "exec_set_software_frame", the.SoftwareFrame)
    ∷ (codes "stop", the.Stop)
    ∷ (codes "exec_set_terminate_time", the.TerminateTime)
    ∷ (codes "freeze", the.Freeze)
    ∷ (codes "exec_set_thread_process_type", the.ProcessType)
    ∷ (codes "exec_set_thread_amf_cycle_time", the.AmfCycle)
    ∷ (codes "exec_add_depends_on_job", the.DependsOn)
    ∷ (codes "exec_set_job_onoff", the.SetJob)
    ∷ (codes "TMM_declare_var_s", the.Declare)
    ∷ (codes "add_read", the.AddRead)
    ∷ (codes "DRAscii", the.NewGroup)
    ∷ (codes "new_event", the.NewEvent)
    ∷ (codes "add_data_record_group", the.AddGroup)
    ∷ (codes "add_event", the.AddEvent)
    ∷ (codes "PROCESS_TYPE_SCHEDULED", the.ScheduledType)
    ∷ (codes "PROCESS_TYPE_ASYNC_CHILD", the.AsyncType)
    ∷ (codes "PROCESS_TYPE_AMF_CHILD", the.AmfType)
    ∷ (codes "DR_Always", the.Always)
    ∷ (codes "DR_Changes", the.Changes)
    ∷ (codes "DR_Buffer", the.Buffer)
    ∷ (codes "DR_No_Buffer", the.Buffer)
    ∷ (codes "DR_Ring_Buffer", the.Buffer)
    ∷ (codes "set_cycle", the.SetCycle)
    ∷ (codes "add_variable", the.AddVariable)
    ∷ (codes "enable", the.Enable)
    ∷ (codes "disable", the.Disable)
    ∷ (codes "freq", the.Frequency)
    ∷ (codes "thisown", the.ThisOwn)
    ∷ (codes "condition", the.Condition)
    ∷ (codes "action", the.Action)
    ∷ (codes "activate", the.Activate)
    ∷ (codes "True", the.True)
    ∷ (codes "False", the.False)
    ∷ []

-- marks with a class of their own
abbrev pub mark_classes : List (List ℕ × Class)
mark_classes =
    (codes ".", the.Dot)
    ∷ (codes "[", the.OpenBracket)
    ∷ (codes "]", the.CloseBracket)
    ∷ (codes "(", the.Open)
    ∷ (codes ")", the.Close)
    ∷ (codes ",", the.Comma)
    ∷ (codes "=", the.Assign)
    ∷ (codes "-", the.Minus)
    ∷ []

-- the bytes are a name: a letter or `_`, and letters, digits and `_`, at most 64 bytes
abbrev pub is_name_text : List ℕ → Bool
is_name_text [] = false
is_name_text (b ∷ bs) = (begins_name b && list_all is_in_name bs) && nat_le (length (b ∷ bs)) 64

-- the class of a whole number, by its value
abbrev pub whole_class : ℕ → Class
whole_class value = if value == 0 then the.Zero else the.Whole

-- the class of a string, by what stands between its quotes
abbrev pub text_class : List ℕ → Class
text_class bytes = if is_name_text bytes then the.NameText else the.Text

-- the class of a token of this kind with these bytes
abbrev pub class_of : TokenKind → List ℕ → Class
class_of kinds.Name bytes = looked_up bytes named_classes the.Name
class_of kinds.Whole bytes = whole_class (whole_value bytes)
class_of kinds.Decimal bytes = the.Decimal
class_of kinds.Text bytes = text_class (inner bytes)
class_of kinds.Mark bytes = looked_up bytes mark_classes the.Other
