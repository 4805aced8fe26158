-- Which words ask for what.
use Rattle.std.specs.Prelude.{◌≡◌, ℕ, Bool, true, List, ◌∷◌, ◌++◌, Option, Some, None, option_to_list, false}
use Rattle.trick_top_alone.specs.Aims as aim
use Rattle.trick_top_alone.specs.Aims.{Aim}
use Rattle.trick_top_words.specs.Command as lines
use Rattle.trick_top_words.specs.declared.command.Command.TheVariants as commands
use Rattle.trick_top_words.specs.declared.command.Command.{Command}
use Rattle.trick_top_words.specs.declared.command.Task.TheVariants as task
use Rattle.trick_top_words.specs.declared.command.Task.{Task}
use Rattle.trick_top_words.specs.declared.command.Texts.{Texts}

-- The words of a command line, and whether the call that they are said to has the command `run`: the call that waits
-- for nobody does not.
pub record Words : Type 0 where
  pub said : List (List ℕ)
  pub has_run : Bool

abbrev pub with_run : List (List ℕ) → Words
with_run words = record { said = words; has_run = true }

abbrev pub without_run : List (List ℕ) → Words
without_run words = record { said = words; has_run = false }

-- a call has each task but `run`, which only some have
abbrev pub has_task : (has_run : Bool) → Task → Bool
has_task has_run task.Serial = true
has_task has_run (task.Run port) = has_run
has_task has_run (task.Replay journal) = true
has_task has_run task.Check = true
has_task has_run task.List = true

-- a call has this command
abbrev pub has_command : (has_run : Bool) → Command → Bool
has_command has_run (commands.Texts about) = has_task has_run about.task
has_command has_run (commands.Gen objects) = true

-- The words ask to run this by threads, with the clients that come. At which port they come is not looked at here:
-- whoever makes the door asks for it.
pub record AsksToRun (words : List (List ℕ)) (about : Texts) : Type 0 where
  pub asked : lines.Asks words (commands.Texts about)
  pub port : Option ℕ
  pub is_run : about.task ≡ task.Run port

-- the words ask to run nothing by threads
abbrev pub AsksNoRun : List (List ℕ) → Type 0
AsksNoRun words = (about : Texts) → AsksToRun words about → ⊥

-- the words ask for this, and the call has it
pub record Asks (words : Words) (command : Command) : Type 0 where
  pub asked : lines.Asks words.said command
  pub known : has_command words.has_run command ≡ true

-- the words ask for nothing that the call has
abbrev pub AreRefused : Words → Type 0
AreRefused words = (command : Command) → Asks words command → ⊥

-- `serial`, `run` and `replay` run a simulation, and the others look at it
abbrev pub aim_of_task : Task → Aim
aim_of_task task.Serial = aim.Run
aim_of_task (task.Run port) = aim.Run
aim_of_task (task.Replay journal) = aim.Run
aim_of_task task.Check = aim.Check
aim_of_task task.List = aim.List

-- What is done with the texts. Those of a generated simulation are run as `serial` runs texts.
abbrev pub aim_of : Command → Aim
aim_of (commands.Texts about) = aim_of_task about.task
aim_of (commands.Gen objects) = aim.Run

-- the name of the journal under which a simulation is run, where there is one
abbrev pub journal_of : Task → Option (List ℕ)
journal_of task.Serial = None
journal_of (task.Run port) = None
journal_of (task.Replay journal) = Some journal
journal_of task.Check = None
journal_of task.List = None

-- The files that a command reads, by their names, in this order: the S_define, the input, the checkpoint and the
-- journal, the last two where there are such names.
abbrev pub names_of : Texts → List (List ℕ)
names_of about =
    about.s_define ∷ about.input ∷ (option_to_list about.from ++ option_to_list (journal_of about.task))

-- What is known of the words once they are read.
pub data Wanted : Type 0 where
  -- there was no memory to read them
  Unknown : Wanted
  -- they ask for nothing that the call has
  Nothing : Wanted
  Asked : (command : Command) → Wanted

abbrev pub IsWanted : Words → Wanted → Type 0
IsWanted words Unknown = Unit {0}
IsWanted words Nothing = AreRefused words
IsWanted words (Asked command) = Asks words command
