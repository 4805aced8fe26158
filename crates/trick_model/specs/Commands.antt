-- What actions and clients' lines say: the table of their forms, and the lines of a client's bytes.
use Rattle.std.specs.List.{slice_index_or}
use Rattle.std.specs.Ordering.{int_eq}
use Rattle.std.specs.Prelude.{ℕ, ◌==◌, nat_lt, ℤ, pos, nat_abs, Bool, true, false, ◌||◌, not, List, [], ◌∷◌, ◌++◌, codes, length, Option, Some, None, option_map}
use Rattle.trick_model.specs.Forms.{Form, Is, Quoted, Whole, Time, Literal, Path, Value, Bytes, bytes_in, call, is_word, number_in, read_forms}
use Rattle.trick_model.specs.Words.{Lexeme, words}
use Rattle.trick_model.specs.declared.action.Action.{Action}
use Rattle.trick_model.specs.declared.action.Action.TheVariants as action
use Rattle.trick_model.specs.declared.command.Command.{Command}
use Rattle.trick_model.specs.declared.command.Command.TheVariants as command

-- ---- values, by their place

-- the bytes of a value
abbrev pub text_at : List Value → ℕ → List ℕ
text_at values k = bytes_in (slice_index_or values k (Bytes []))

-- the number of a value
abbrev pub integer_at : List Value → ℕ → ℤ
integer_at values k = number_in (slice_index_or values k (Bytes []))

-- the number of a value that is none below 0
abbrev pub whole_at : List Value → ℕ → ℕ
whole_at values k = nat_abs (integer_at values k)

-- A flag is on where its literal is not 0.
abbrev pub flag_at : List Value → ℕ → Bool
flag_at values k = not (int_eq (integer_at values k) (pos 0))

-- ---- actions

-- The forms of actions, in the order of the table of formats.
abbrev pub action_forms : List (Form Action)
action_forms =
    record { pieces = Path ∷ Is (codes "=") ∷ Literal ∷ []; made = λ v. action.SetCell (text_at v 0) (integer_at v 1) }
    ∷ record {
      pieces = call (codes "var_set") (Quoted ∷ Literal ∷ []);
      made = λ v. action.SetCell (text_at v 0) (integer_at v 1);
    }
    ∷ record {
      pieces = call (codes "exec_set_job_onoff") (Quoted ∷ Whole ∷ Literal ∷ []);
      made = λ v. action.SetJob (text_at v 0) (whole_at v 1) (flag_at v 2);
    }
    ∷ record { pieces = call (codes "freeze") []; made = λ v. action.Freeze }
    ∷ record { pieces = call (codes "exec_freeze") []; made = λ v. action.Freeze }
    ∷ record { pieces = call (codes "stop") []; made = λ v. action.Stop None }
    ∷ record { pieces = call (codes "stop") (Time ∷ []); made = λ v. action.Stop (Some (whole_at v 0)) }
    ∷ record { pieces = call (codes "checkpoint") []; made = λ v. action.Checkpoint }
    ∷ record { pieces = call (codes "dr_enable_group") (Quoted ∷ []); made = λ v. action.SetGroup (text_at v 0) true }
    ∷ record { pieces = call (codes "dr_disable_group") (Quoted ∷ []); made = λ v. action.SetGroup (text_at v 0) false }
    ∷ record { pieces = call (codes "activate_event") (Quoted ∷ []); made = λ v. action.SetEvent (text_at v 0) true }
    ∷ record { pieces = call (codes "deactivate_event") (Quoted ∷ []); made = λ v. action.SetEvent (text_at v 0) false }
    ∷ []

-- what words say that are one action
abbrev pub action_of : List Lexeme → Option Action
action_of ws = read_forms action_forms ws

-- the words up to the first `;`, and those of the actions after it
abbrev pub parts_of : List Lexeme → List Lexeme → List (List Lexeme)
parts_of part [] = part ∷ []
parts_of part (word ∷ ws) = elim (is_word (codes ";") word) [
  | true ↦ part ∷ parts_of [] ws
  | false ↦ parts_of (part ++ word ∷ []) ws
]

-- the actions of parts of words
abbrev pub all_actions : List (List Lexeme) → Option (List Action)
all_actions [] = Some []
all_actions (part ∷ parts) = elim (action_of part) [
  | None ↦ None
  | Some action ↦ option_map (λ actions. action ∷ actions) (all_actions parts)
]

-- The actions of a string of an input: one action or more, with one `;` between two of them and none
-- after the last.
abbrev pub actions_of : List ℕ → Option (List Action)
actions_of text = elim (words text) [ None ↦ None | Some ws ↦ all_actions (parts_of [] ws) ]

-- ---- lines of clients

-- A cycle of 0 is a bad command.
abbrev pub cycle_command : ℕ → Command
cycle_command tics = elim (tics == 0) [ true ↦ command.Bad | false ↦ command.Cycle tics ]

-- The copy modes are 1 and 2.
abbrev pub copy_command : ℕ → Command
copy_command mode = elim ((mode == 1) || (mode == 2)) [ true ↦ command.Copy mode | false ↦ command.Bad ]

-- The forms of clients' lines that are no actions; a line without words is one.
abbrev pub command_forms : List (Form Command)
command_forms =
    record { pieces = []; made = λ v. command.Nothing }
    ∷ record { pieces = call (codes "exec_run") []; made = λ v. command.Resume }
    ∷ record { pieces = call (codes "var_add") (Quoted ∷ []); made = λ v. command.Add (text_at v 0) }
    ∷ record { pieces = call (codes "var_remove") (Quoted ∷ []); made = λ v. command.Remove (text_at v 0) }
    ∷ record { pieces = call (codes "var_clear") []; made = λ v. command.Clear }
    ∷ record { pieces = call (codes "var_cycle") (Time ∷ []); made = λ v. cycle_command (whole_at v 0) }
    ∷ record { pieces = call (codes "var_pause") []; made = λ v. command.Pause true }
    ∷ record { pieces = call (codes "var_unpause") []; made = λ v. command.Pause false }
    ∷ record { pieces = call (codes "var_send") []; made = λ v. command.Send }
    ∷ record { pieces = call (codes "var_exists") (Quoted ∷ []); made = λ v. command.Exists (text_at v 0) }
    ∷ record { pieces = call (codes "var_ascii") []; made = λ v. command.Nothing }
    ∷ record { pieces = call (codes "var_set_client_tag") (Quoted ∷ []); made = λ v. command.Nothing }
    ∷ record { pieces = call (codes "var_set_copy_mode") (Whole ∷ []); made = λ v. copy_command (whole_at v 0) }
    ∷ record { pieces = call (codes "var_exit") []; made = λ v. command.Exit }
    ∷ []

-- a line of no form is a bad command
abbrev pub command_or_bad : Option Command → Command
command_or_bad None = command.Bad
command_or_bad (Some c) = c

-- what words say that are one line
abbrev pub command_in : List Lexeme → Command
command_in ws = elim (action_of ws) [
  | Some action ↦ command.Act action
  | None ↦ command_or_bad (read_forms command_forms ws)
]

-- What a client's line says: an action, another command, or nothing right.
abbrev pub command_of : List ℕ → Command
command_of line = elim (words line) [ None ↦ command.Bad | Some ws ↦ command_in ws ]

-- ---- the lines of a client's bytes

-- a line without a carriage return at its end
abbrev pub without_return : List ℕ → List ℕ
without_return [] = []
without_return (b ∷ []) = elim (b == 13) [ true ↦ [] | false ↦ b ∷ [] ]
without_return (b ∷ c ∷ bs) = b ∷ without_return (c ∷ bs)

-- the lines of bytes of which these have come since the last line feed
abbrev pub lines_behind : List ℕ → List ℕ → List (List ℕ)
lines_behind held [] = []
lines_behind held (b ∷ bs) = elim (b == 10) [
  | true ↦ without_return held ∷ lines_behind [] bs
  | false ↦ elim (nat_lt (length held) 4096) [ true ↦ lines_behind (held ++ b ∷ []) bs | false ↦ [] ]
]

-- A client's bytes are cut into lines at each line feed, which is dropped, with one carriage return
-- before it, up to the first place where 4,097 bytes come without a line feed. Bytes after the last
-- line feed are no line.
abbrev pub lines : List ℕ → List (List ℕ)
lines bytes = lines_behind [] bytes
