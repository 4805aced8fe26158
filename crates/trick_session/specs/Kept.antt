-- What a session keeps.
use Rattle.std.specs.Prelude.{ℕ, ◌<◌, ◌≤◌, All, List, IfSome, Option}
use Rattle.trick_lang.specs.declared.cells.Cell.{Cell}
use Rattle.trick_model.specs.declared.command.Command.{Command}
use Rattle.trick_model.specs.declared.command.Command.TheVariants as command
use Rattle.trick_model.specs.declared.session.Session.{Session}

-- Each variable is one of so many cells, or none.
abbrev pub AreThere : ℕ → List (List ℕ × Option Cell) → Type 0
AreThere cells variables = All (λ (v : List ℕ × Option Cell). IfSome v.1 (λ cell. cell.0 < cells)) variables

-- A session of a plan with so many cells.
pub record IsSession (cells : ℕ) (session : Session) : Type 0 where
  pub variables : AreThere cells session.variables
  pub cycle : 1 ≤ session.cycle

-- A cycle that a command sets has a tic at least.
abbrev pub IsRight : Command → Type 0
IsRight (command.Act action) = Unit {0}
IsRight command.Nothing = Unit {0}
IsRight command.Resume = Unit {0}
IsRight (command.Add name) = Unit {0}
IsRight (command.Remove name) = Unit {0}
IsRight command.Clear = Unit {0}
IsRight (command.Cycle tics) = 1 ≤ tics
IsRight (command.Pause on) = Unit {0}
IsRight command.Send = Unit {0}
IsRight (command.Exists name) = Unit {0}
IsRight (command.Copy mode) = Unit {0}
IsRight command.Exit = Unit {0}
IsRight command.Bad = Unit {0}
