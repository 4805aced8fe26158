-- Which words ask for which command.
use Rattle.std.specs.Prelude.{◌≡◌, ◌<◌, ◌≤◌, ℕ, List, Option, Some, None, length, true}
use Rattle.std.specs.List.{All, list_all}
use Rattle.std.specs.Str.{IsUtf8}
use Rattle.std.specs.Str.Parse.{digits_value}
use Rattle.std.specs.Char.{is_ascii_digit}
use Rattle.trick_top_words.specs.CommandLine.{Given, Text}
use Rattle.trick_top_words.specs.Reads.{IsCommand, Values, values_in}
use Rattle.trick_top_words.specs.declared.Kind.{Kind}
use Rattle.trick_top_words.specs.declared.Kind.TheVariants as kind
use Rattle.trick_top_words.specs.declared.command.Command.{Command}
use Rattle.trick_top_words.specs.declared.command.Command.TheVariants as command
use Rattle.trick_top_words.specs.declared.command.Task.{Task}
use Rattle.trick_top_words.specs.declared.command.Task.TheVariants as task

-- from one to this many decimal digits, with a value from 1 to this one
pub record IsNumber (longest most : ℕ) (digits : Text) (number : ℕ) : Type 0 where
  pub some : 0 < length digits
  pub decimal : list_all is_ascii_digit digits ≡ true
  pub short : length digits ≤ longest
  pub value : number ≡ digits_value 10 digits
  pub positive : 1 ≤ number
  pub limit : number ≤ most

-- a port, where one is given
abbrev pub IsPort : Option Text → Option ℕ → Type 0
IsPort None port = port ≡ None
IsPort (Some digits) port = (number : ℕ) × (port ≡ Some number) × IsNumber 5 65535 digits number

-- a count of objects
abbrev pub IsCount : Option Text → ℕ → Type 0
IsCount None count = ⊥
IsCount (Some digits) count = IsNumber 3 100 digits count

-- the word that names what is done with texts
abbrev pub kind_of_task : Task → Kind
kind_of_task task.Serial = kind.Serial
kind_of_task (task.Run port) = kind.Run
kind_of_task (task.Replay journal) = kind.Replay
kind_of_task task.Check = kind.Check
kind_of_task task.List = kind.List

-- the word that names a command
abbrev pub kind_of : Command → Kind
kind_of (command.Texts texts) = kind_of_task texts.task
kind_of (command.Gen objects) = kind.Gen

-- the two texts of a simulation are given
abbrev pub HasTexts : Values → Text → Text → Type 0
HasTexts values s_define input = (values.s_define ≡ Some s_define) × (values.input ≡ Some input)

-- The values beside those of the two texts: that of the checkpoint, and what the task holds. What looks at a simulation
-- has no checkpoint.
abbrev pub HasRest : Values → Option Text → Task → Type 0
HasRest values from task.Serial = values.from ≡ from
HasRest values from (task.Run port) = (values.from ≡ from) × IsPort values.port port
HasRest values from (task.Replay journal) = (values.from ≡ from) × (values.journal ≡ Some journal)
HasRest values from task.Check = from ≡ None
HasRest values from task.List = from ≡ None

-- the values are those that the command holds
abbrev pub Holds : Values → Command → Type 0
Holds values (command.Texts texts) =
    HasTexts values texts.s_define texts.input × HasRest values texts.from texts.task
Holds values (command.Gen objects) = IsCount values.count objects

-- the words are text, and ask for this command
pub record Asks (words : List Text) (command : Command) : Type 0 where
  pub texts : All IsUtf8 words
  pub given : Given
  pub line : IsCommand words (kind_of command) given
  pub holds : Holds (values_in given) command

-- the words ask for no command
abbrev pub AreRefused : List Text → Type 0
AreRefused words = (command : Command) → Asks words command → ⊥
