-- The six commands.
use Rattle.std.specs.Prelude.{◌∷◌, [], List, codes}
use Rattle.trick_top_words.specs.CommandLine.{Text}
use Rattle.trick_top_words.specs.declared.Kind.{Kind}
use Rattle.trick_top_words.specs.declared.Kind.TheVariants as kind

abbrev pub name_of : Kind → Text
name_of kind.Serial = codes "serial"
name_of kind.Run = codes "run"
name_of kind.Replay = codes "replay"
name_of kind.Check = codes "check"
name_of kind.List = codes "list"
name_of kind.Gen = codes "gen"

abbrev pub places_of : Kind → List Text
places_of kind.Serial = codes "S_DEFINE" ∷ codes "INPUT" ∷ []
places_of kind.Run = codes "S_DEFINE" ∷ codes "INPUT" ∷ []
places_of kind.Replay = codes "S_DEFINE" ∷ codes "INPUT" ∷ codes "JOURNAL" ∷ []
places_of kind.Check = codes "S_DEFINE" ∷ codes "INPUT" ∷ []
places_of kind.List = codes "S_DEFINE" ∷ codes "INPUT" ∷ []
places_of kind.Gen = codes "N" ∷ []

abbrev pub options_of : Kind → List Text
options_of kind.Serial = codes "from" ∷ []
options_of kind.Run = codes "from" ∷ codes "port" ∷ []
options_of kind.Replay = codes "from" ∷ []
options_of kind.Check = []
options_of kind.List = []
options_of kind.Gen = []
