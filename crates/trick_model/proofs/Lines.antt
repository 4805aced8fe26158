-- What actions and clients' lines say, each form once; and the lines of a client's bytes.
use Rattle.std.proofs.Common.{refl}
use Rattle.std.specs.Fmt.{digits}
use Rattle.std.specs.Int.{int_wrap}
use Rattle.std.specs.Prelude.{◌≡◌, ℕ, ℤ, pos, negsuc, true, false, List, [], ◌∷◌, ◌++◌, codes, map, replicate, Some, None}
use Rattle.trick_model.specs.Commands.{actions_of, command_of, lines}
use Rattle.trick_model.specs.declared.action.Action.TheVariants as action
use Rattle.trick_model.specs.declared.command.Command.{Command}
use Rattle.trick_model.specs.declared.command.Command.TheVariants as command
use Rattle.trick_text.specs.Pieces as pieces

-- ---- lines of clients

abbrev pub set : List ℕ → ℤ → Command
set name number = command.Act (action.SetCell name number)

pub actions_are_read : map command_of (
    codes "a.b = 5" ∷ codes " a . b[0x2][01]\t= -3\r" ∷ codes "n = True" ∷ codes "trick.var_set(\"a.b\", False)"
    ∷ codes "trick.exec_set_job_onoff('o.run', 1, 1)" ∷ codes "trick.freeze()" ∷ codes "trick.exec_freeze()"
    ∷ codes "trick.stop()" ∷ codes "trick.stop(0.000003)" ∷ codes "trick.checkpoint()"
    ∷ codes "trick.dr_enable_group(\"g\")" ∷ codes "trick.dr_disable_group(\"g\")"
    ∷ codes "trick.activate_event(\"e\")" ∷ codes "trick.deactivate_event(\"e\")" ∷ [])
    ≡ (set (codes "a.b") (pos 5) ∷ set (codes "a.b[2][1]") (negsuc 2) ∷ set (codes "n") (pos 1)
    ∷ set (codes "a.b") (pos 0) ∷ command.Act (action.SetJob (codes "o.run") 1 true) ∷ command.Act action.Freeze
    ∷ command.Act action.Freeze ∷ command.Act (action.Stop None) ∷ command.Act (action.Stop (Some 3))
    ∷ command.Act action.Checkpoint ∷ command.Act (action.SetGroup (codes "g") true)
    ∷ command.Act (action.SetGroup (codes "g") false) ∷ command.Act (action.SetEvent (codes "e") true)
    ∷ command.Act (action.SetEvent (codes "e") false) ∷ [])
unfolding int_wrap digits pieces.front pieces.name_front pieces.number_front pieces.mark_len pieces.text_front
actions_are_read = refl

pub commands_are_read : map command_of (
    codes "" ∷ codes " \t\r" ∷ codes "trick.exec_run()" ∷ codes "trick.var_add(\"a b\")" ∷ codes "trick.var_remove(\"a\")"
    ∷ codes "trick.var_clear()" ∷ codes "trick.var_cycle(0.5)" ∷ codes "trick.var_pause()" ∷ codes "trick.var_unpause()"
    ∷ codes "trick.var_send()" ∷ codes "trick.var_exists(\"a\")" ∷ codes "trick.var_ascii()"
    ∷ codes "trick.var_set_client_tag(\"me\")" ∷ codes "trick.var_set_copy_mode(2)" ∷ codes "trick.var_exit()" ∷ [])
    ≡ (command.Nothing ∷ command.Nothing ∷ command.Resume ∷ command.Add (codes "a b") ∷ command.Remove (codes "a")
    ∷ command.Clear ∷ command.Cycle 500000 ∷ command.Pause true ∷ command.Pause false
    ∷ command.Send ∷ command.Exists (codes "a") ∷ command.Nothing
    ∷ command.Nothing ∷ command.Copy 2 ∷ command.Exit ∷ [])
unfolding int_wrap digits pieces.front pieces.name_front pieces.number_front pieces.mark_len pieces.text_front
commands_are_read = refl

-- A cycle of 0, a time that is none, copy mode 0, a word more or less, and a byte that begins no token.
pub bad_lines : map command_of (
    codes "trick.var_cycle(0)" ∷ codes "trick.var_cycle(0.0000001)" ∷ codes "trick.var_set_copy_mode(0)"
    ∷ codes "trick.var_send() ;" ∷ codes "trick.var_add(a)" ∷ codes "a.b =" ∷ codes "a[-1] = 2" ∷ codes "hello"
    ∷ codes "trick.var_add(\"a)" ∷ (1 ∷ []) ∷ [])
    ≡ replicate 10 command.Bad
unfolding int_wrap digits pieces.front pieces.name_front pieces.number_front pieces.mark_len pieces.text_front
bad_lines = refl

-- ---- actions of an input

pub two_actions : actions_of (codes "trick.freeze(); a = 1") ≡ Some (action.Freeze ∷ action.SetCell (codes "a") (pos 1) ∷ [])
unfolding int_wrap digits pieces.front pieces.name_front pieces.number_front pieces.mark_len pieces.text_front
two_actions = refl

-- There is none after the last `;`, none between two, and none in an empty string.
pub no_actions : map actions_of (codes "trick.freeze();" ∷ codes "a = 1;;a = 2" ∷ codes "" ∷ codes "trick.var_send()" ∷ []) ≡ replicate 4 None
unfolding int_wrap digits pieces.front pieces.name_front pieces.number_front pieces.mark_len pieces.text_front
no_actions = refl

-- ---- the lines of bytes

-- One carriage return goes with its line feed, and bytes after the last line feed are no line.
pub lines_are_cut : lines (codes "a\r\nb\n\n\r\r\nc") ≡ (codes "a" ∷ codes "b" ∷ [] ∷ codes "\r" ∷ [])
lines_are_cut = refl

-- A line of 4,096 bytes is read; with one byte more nothing is, from there on.
pub longest_line : lines (replicate 4096 97 ++ codes "\nb\n") ≡ (replicate 4096 97 ∷ codes "b" ∷ [])
longest_line = refl

pub line_too_long : lines (codes "a\n" ++ replicate 4097 97 ++ codes "\nb\n") ≡ (codes "a" ∷ [])
line_too_long = refl
