-- What `clap` reads of the commands.
use Rattle.std.specs.Prelude.{◌∷◌, [], Some, List, fold, true, codes}
use Rattle.clap.specs.Walk.{Rule}
use Rattle.clap.specs.Simple.{App, new_app, new_rule, on_top, with_rule, with_subcommand}
use Rattle.clap.specs.declared.builder.action.ArgAction.TheVariants.{Set}
use Rattle.trick_top_words.specs.Commands.{name_of, options_of, places_of}
use Rattle.trick_top_words.specs.CommandLine.{Text}
use Rattle.trick_top_words.specs.declared.Kind.{Kind}
use Rattle.trick_top_words.specs.declared.Kind.TheVariants as kind

abbrev pub place_rule : Text → Rule
place_rule name = record (new_rule name) { required = true; action = Some Set }

abbrev pub option_rule : Text → Rule
option_rule name = record (new_rule name) { long = Some name; action = Some Set }

abbrev pub with_places : App → List Text → App
with_places app places = fold (λ a p. with_rule a (place_rule p)) app places

abbrev pub with_options : App → List Text → App
with_options app options = fold (λ a o. with_rule a (option_rule o)) app options

abbrev pub form_app : Kind → App
form_app k = with_options (with_places (new_app (name_of k)) (places_of k)) (options_of k)

abbrev pub top_app : App
top_app = on_top (λ s. record s {
  no_binary_name = true;
  disable_help_flag = true;
  disable_version_flag = true;
  disable_help_subcommand = true;
  subcommand_required = true;
}) (new_app (codes "tricks"))

abbrev pub all_app : App
all_app = fold (λ a k. with_subcommand a (form_app k).top) top_app
    (kind.Serial ∷ kind.Run ∷ kind.Replay ∷ kind.Check ∷ kind.List ∷ kind.Gen ∷ [])
