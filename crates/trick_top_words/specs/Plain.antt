-- The words that are refused before `clap` reads them.
use Rattle.std.specs.Prelude.{◌||◌, Bool, not, codes}
use Rattle.std.specs.Str.{bytes_eq}
use Rattle.trick_top_words.specs.CommandLine.{Text}

-- a hyphen alone, two of them, or an option with nothing after `=`: `clap` takes these words, and no line has them
abbrev pub is_bare : Text → Bool
is_bare w = bytes_eq w (codes "-") || (bytes_eq w (codes "--") || (bytes_eq w (codes "--from=") || bytes_eq w (codes "--port=")))

abbrev pub is_plain : Text → Bool
is_plain w = not (is_bare w)
