-- Which words are a line of a command, and what it gives.
use Rattle.std.specs.Prelude.{◌≡◌, ◌∷◌, List, Option, Some, codes, option_map}
use Rattle.std.specs.Borrow.{Bor}
use Rattle.clap.specs.Matches.{first_value, found_of}
use Rattle.clap.specs.Simple.{subcommand_rows_of}
use Rattle.clap.specs.Walk.{Row, first_of}
use Rattle.clap.specs.declared.parser.matches.ArgMatches.{ArgMatches}
use Rattle.trick_top_words.specs.Commands.{name_of, options_of, places_of}
use Rattle.trick_top_words.specs.CommandLine.{Given, IsLine, Text, value_of}
use Rattle.trick_top_words.specs.declared.Kind.{Kind}

-- the words are a line of this command, and give these values
abbrev pub IsCommand : List Text → Kind → Given → Type 0
IsCommand words kind given = (rest : List Text) × (words ≡ name_of kind ∷ rest)
    × IsLine (places_of kind) (options_of kind) rest given

-- the values of all places and options, where they are given
pub record Values : Type 0 where
  pub s_define : Option Text
  pub input : Option Text
  pub journal : Option Text
  pub from : Option Text
  pub port : Option Text
  pub count : Option Text

-- the values that are given under their names
abbrev pub values_in : Given → Values
values_in given = record {
  s_define = value_of (codes "S_DEFINE") given;
  input = value_of (codes "INPUT") given;
  journal = value_of (codes "JOURNAL") given;
  from = value_of (codes "from") given;
  port = value_of (codes "port") given;
  count = value_of (codes "N") given;
}

-- the text that is lent, where there is one
abbrev pub text_of : Option (Bor Text) → Option Text
text_of value = option_map (λ text. text.now) value

-- the values that matches hold
abbrev pub values_of : ArgMatches → Values
values_of matches = record {
  s_define = first_value (found_of matches) (codes "S_DEFINE");
  input = first_value (found_of matches) (codes "INPUT");
  journal = first_value (found_of matches) (codes "JOURNAL");
  from = first_value (found_of matches) (codes "from");
  port = first_value (found_of matches) (codes "port");
  count = first_value (found_of matches) (codes "N");
}

-- the values that stand in rows
abbrev pub values_by : List Row → Values
values_by rows = record {
  s_define = first_of (codes "S_DEFINE") rows;
  input = first_of (codes "INPUT") rows;
  journal = first_of (codes "JOURNAL") rows;
  from = first_of (codes "from") rows;
  port = first_of (codes "port") rows;
  count = first_of (codes "N") rows;
}

-- the matches hold these values below the name of this command
pub record IsRead (matches : ArgMatches) (kind : Kind) (values : Values) : Type 0 where
  pub rows : List Row
  pub below : subcommand_rows_of matches ≡ Some (name_of kind, rows)
  pub are : values_by rows ≡ values

-- the words are a line, and the matches hold its values below the name of its command
pub record Reads (words : List Text) (matches : ArgMatches) : Type 0 where
  pub kind : Kind
  pub given : Given
  pub command : IsCommand words kind given
  pub is : IsRead matches kind (values_in given)

-- the words are no line of any command
abbrev pub IsUsage : List Text → Type 0
IsUsage words = (kind : Kind) (given : Given) → IsCommand words kind given → ⊥
