-- Which words ask for clients at a port.
use Rattle.std.specs.Prelude.{◌≡◌, ℕ, List, Option, Some, None}
use Rattle.trick_top_words.specs.Command.{Asks}
use Rattle.trick_top_words.specs.declared.command.Command.TheVariants as commands
use Rattle.trick_top_words.specs.declared.command.Command.{Command}
use Rattle.trick_top_words.specs.declared.command.Task.TheVariants as task
use Rattle.trick_top_words.specs.declared.command.Task.{Task}

-- the port of a task: only that of a run has one
abbrev pub port_of_task : Task → Option ℕ
port_of_task task.Serial = None
port_of_task (task.Run port) = port
port_of_task (task.Replay journal) = None
port_of_task task.Check = None
port_of_task task.List = None

-- the port that a command names
abbrev pub port_of : Command → Option ℕ
port_of (commands.Texts about) = port_of_task about.task
port_of (commands.Gen objects) = None

-- The words are right, and ask for a run whose clients come at this port.
pub record AsksForPort (words : List (List ℕ)) (port : ℕ) : Type 0 where
  pub command : Command
  pub asked : Asks words command
  pub known : port_of command ≡ Some port

-- The words ask for no port.
abbrev pub AsksForNoPort : List (List ℕ) → Type 0
AsksForNoPort words = (port : ℕ) → AsksForPort words port → ⊥
