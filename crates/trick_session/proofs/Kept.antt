-- What lines keep of a session.
use Rattle.std.proofs.Common.{◌≡◌, ℕ, zero, suc, ◌+◌, ◌<◌, ◌≤◌, Bool, true, false, List, [], ◌∷◌, ◌++◌, length, nat_lt, Option, Some, None, refl, subst, sym, arith}
use Rattle.std.proofs.lemmas.List.Elements.{All-filter, All-push}
use Rattle.std.specs.Prelude.{◌==◌, ◌||◌, All, IfSome, not}
use Rattle.std.specs.Str.{bytes_eq}
use Rattle.trick_lang.specs.declared.cells.Cell.{Cell}
use Rattle.trick_model.specs.Commands.{action_of, command_forms, command_in, command_of, command_or_bad, copy_command, cycle_command, whole_at}
use Rattle.trick_model.specs.Events.{names_of}
use Rattle.trick_model.specs.Forms.{Form, Value, read_forms, read_pieces}
use Rattle.trick_model.specs.Names.{deed_of, find_name, one_more}
use Rattle.trick_model.specs.Plan.{Plan}
use Rattle.trick_model.specs.Session.{Answer, acted, added, answered, bad, cell_found, joined, quiet, without}
use Rattle.trick_model.specs.Words.{Lexeme, words}
use Rattle.trick_model.specs.declared.action.Action.{Action}
use Rattle.trick_model.specs.declared.command.Command.{Command}
use Rattle.trick_model.specs.declared.command.Command.TheVariants as command
use Rattle.trick_model.specs.declared.deed.Deed.{Deed}
use Rattle.trick_model.specs.declared.session.Session.{Session}
use Rattle.trick_session.specs.Kept.{AreThere, IsRight, IsSession}

-- ---- every line is right

abbrev AreRight : List (Form Command) → Type 0
AreRight [] = Unit {0}
AreRight (form ∷ forms) = ((values : List Value) → IsRight (form.made values)) × AreRight forms

read_right : (forms : List (Form Command)) (ws : List Lexeme) → AreRight forms → IsRight (command_or_bad (read_forms forms ws))
read_right [] ws are = tt
read_right (form ∷ forms) ws are = by (read_pieces form.pieces ws) (read_right forms ws are.1)
  where
    by : (o : Option (List Value)) → IsRight (command_or_bad (read_forms forms ws)) → IsRight (command_or_bad (elim o [ None ↦ read_forms forms ws | Some values ↦ Some (form.made values) ]))
    by None right = right
    by (Some values) right = are.0 values

some_tic : (tics : ℕ) → (tics == 0) ≡ false → 1 ≤ tics
some_tic zero e = absurd cc
some_tic (suc n) e = omega arith

cycle_right : (tics : ℕ) → IsRight (cycle_command tics)
cycle_right tics = by (tics == 0) (some_tic tics)
  where
    by : (b : Bool) → (b ≡ false → 1 ≤ tics) → IsRight (elim b [ true ↦ command.Bad | false ↦ command.Cycle tics ])
    by true le = tt
    by false le = le cc

copy_right : (mode : ℕ) → IsRight (copy_command mode)
copy_right mode = by ((mode == 1) || (mode == 2))
  where
    by : (b : Bool) → IsRight (elim b [ true ↦ command.Copy mode | false ↦ command.Bad ])
    by true = tt
    by false = tt

forms_right : AreRight command_forms
forms_right = (
  λ v. tt,
  (
    λ v. tt,
    (
      λ v. tt,
      (
        λ v. tt,
        (
          λ v. tt,
          (
            λ v. cycle_right (whole_at v 0),
            (
              λ v. tt,
              (
                λ v. tt,
                (λ v. tt, (λ v. tt, (λ v. tt, (λ v. tt, (λ v. copy_right (whole_at v 0), (λ v. tt, tt)))))),
              ),
            ),
          ),
        ),
      ),
    ),
  ),
)

in_words : (ws : List Lexeme) → IsRight (command_in ws)
in_words ws = by (action_of ws)
  where
    by : (o : Option Action) → IsRight (elim o [ Some action ↦ command.Act action | None ↦ command_or_bad (read_forms command_forms ws) ])
    by (Some action) = tt
    by None = read_right command_forms ws forms_right

pub lines_right : (line : List ℕ) → IsRight (command_of line)
lines_right line = by (words line)
  where
    by : (o : Option (List Lexeme)) → IsRight (elim o [ None ↦ command.Bad | Some ws ↦ command_in ws ])
    by None = tt
    by (Some ws) = in_words ws

-- ---- commands keep sessions

pub joins_right : (cells number : ℕ) → IsSession cells (joined number)
joins_right cells number = record { variables = λ k d lt. absurd (omega (arith, lt)); cycle = omega arith }

-- a name that is found is one of the names
pub found_within : (name : List ℕ) (names : List (List ℕ)) → IfSome (cell_found (find_name name names)) (λ cell. cell.0 < length names)
found_within name [] = tt
found_within name (other ∷ others) = by (bytes_eq name other) (find_name name others) (found_within name others)
  where
    by : (b : Bool) (o : Option ℕ) → IfSome (cell_found o) (λ cell. cell.0 < length others) → IfSome (cell_found (elim b [ true ↦ Some 0 | false ↦ one_more o ])) (λ cell. cell.0 < length (other ∷ others))
    by true o lt = omega arith
    by false None lt = tt
    by false (Some k) lt = omega (arith, lt)

acted_keeps : (d : Option Deed) (session : Session) → (acted d session).session ≡ session
acted_keeps None session = refl
acted_keeps (Some deed) session = refl

added_keeps : (p : Plan) (name : List ℕ) (session : Session) → IsSession (length p.names) session → IsSession (length p.names) (added p name session).session
added_keeps p name session is = by (nat_lt (length session.variables) 256)
  where
    by : (b : Bool) → IsSession (length p.names) (let answer : Answer = elim b [ true ↦ quiet (record session { variables = session.variables ++ (name, cell_found (find_name name p.names)) ∷ [] }) | false ↦ bad session ] in answer.session)
    by true = record {
      variables = All-push (λ (v : List ℕ × Option Cell). IfSome v.1 (λ cell. cell.0 < length p.names)) session.variables (name, cell_found (find_name name p.names)) is.variables (found_within name p.names);
      cycle = is.cycle;
    }
    by false = is

pub commands_keep : (p : Plan) (c : Command) (session : Session) → IsRight c → IsSession (length p.names) session → IsSession (length p.names) (answered p c session).session
commands_keep p (command.Act action) session right is = subst (IsSession (length p.names)) (sym (acted_keeps (deed_of (names_of p) action) session)) is
commands_keep p command.Nothing session right is = is
commands_keep p command.Resume session right is = is
commands_keep p (command.Add name) session right is = added_keeps p name session is
commands_keep p (command.Remove name) session right is = record {
  variables = All-filter (λ (v : List ℕ × Option Cell). not (bytes_eq v.0 name)) (λ (v : List ℕ × Option Cell). IfSome v.1 (λ cell. cell.0 < length p.names)) session.variables is.variables;
  cycle = is.cycle;
}
commands_keep p command.Clear session right is = record { variables = λ k d lt. absurd (omega (arith, lt)); cycle = is.cycle }
commands_keep p (command.Cycle tics) session right is = record { variables = is.variables; cycle = right }
commands_keep p (command.Pause on) session right is = record { variables = is.variables; cycle = is.cycle }
commands_keep p command.Send session right is = record { variables = is.variables; cycle = is.cycle }
commands_keep p (command.Exists name) session right is = is
commands_keep p (command.Copy mode) session right is = record { variables = is.variables; cycle = is.cycle }
commands_keep p command.Exit session right is = is
commands_keep p command.Bad session right is = is
