-- What a command has of the values of its line.
use Rattle.std.specs.Prelude.{◌≡◌, Option, is_some, true}
use Rattle.clap.specs.declared.parser.matches.ArgMatches.{ArgMatches}
use Rattle.trick_top_words.specs.CommandLine.{Text}
use Rattle.trick_top_words.specs.Command.{Holds, kind_of}
use Rattle.trick_top_words.specs.Reads.{IsRead, Values}
use Rattle.trick_top_words.specs.declared.Kind.{Kind}
use Rattle.trick_top_words.specs.declared.Kind.TheVariants as kind
use Rattle.trick_top_words.specs.declared.command.Command.{Command}

-- these values after this name ask for this command
abbrev pub IsOf : Kind → Values → Command → Type 0
IsOf kind values command = (kind ≡ kind_of command) × Holds values command

-- they ask for no command
abbrev pub IsNone : Kind → Values → Type 0
IsNone kind values = (command : Command) → IsOf kind values command → ⊥

-- the matches are of a line that asks for this command
pub record IsFound (matches : ArgMatches) (command : Command) : Type 0 where
  pub values : Values
  pub read : IsRead matches (kind_of command) values
  pub holds : Holds values command

-- the matches are of a line that asks for no command
abbrev pub IsNoneFound : ArgMatches → Type 0
IsNoneFound matches = (command : Command) → IsFound matches command → ⊥

-- a value is given
abbrev pub IsGiven : Option Text → Type 0
IsGiven value = is_some value ≡ true

-- the two texts of a simulation are given
abbrev pub HasTwo : Values → Type 0
HasTwo values = IsGiven values.s_define × IsGiven values.input

-- each place of this command has a value
abbrev pub HasPlaces : Kind → Values → Type 0
HasPlaces kind.Serial values = HasTwo values
HasPlaces kind.Run values = HasTwo values
HasPlaces kind.Replay values = HasTwo values × IsGiven values.journal
HasPlaces kind.Check values = HasTwo values
HasPlaces kind.List values = HasTwo values
HasPlaces kind.Gen values = IsGiven values.count

-- the matches are of a line in which each place has a value
pub record IsWhole (matches : ArgMatches) : Type 0 where
  pub kind : Kind
  pub values : Values
  pub read : IsRead matches kind values
  pub places : HasPlaces kind values
