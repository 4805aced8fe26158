-- What `clap` makes of the whole command line.
use Rattle.std.proofs.Common.{◌≡◌, ◌≢◌, ◌++◌, ◌∷◌, ◌∙◌, [], List, Bool, true, false, Some, None, refl, sym, ap, ap₂, append_assoc, append-nil, codes, cond, inl, inr, is_some, map}
use Rattle.std.specs.List.{AllByRecursion}
use Rattle.std.specs.Prelude.{◌⊎◌, fold}
use Rattle.std.specs.Str.{IsUtf8, bytes_eq}
use Rattle.std.proofs.lemmas.Slice.Eq.{bytes_eq-Decides}
use Rattle.clap.specs.Walk.{Held, Names, Rule, Text, Walk, arg_by_index, arg_by_long, finished, idle, nothing_held, settled, subcommand_met, value, walk, walk_from, walked, word_met}
use Rattle.clap.specs.Kinds.{Kinds, or_else}
use Rattle.clap.specs.Faults.{check_fault, defaults_fault, entered_fault, fault_of, is_simple_and_free, settle_fault, turn_fault, walk_fault, word_fault}
use Rattle.clap.specs.Simple.{App, Shape, built, built_leaf, entered, inherited, is_simple, marked_built, names_of, subcommand_of}
use Rattle.clap.specs.declared.error.kind.ErrorKind.TheVariants as error
use Rattle.clap.proofs.OnLiterals.{clap_on_literals}
use Rattle.trick_top_words.specs.CommandLine.{IsAmong, has_hyphen}
use Rattle.trick_top_words.specs.Plain.{is_bare}
use Rattle.trick_top_words.specs.Commands.{name_of, options_of, places_of}
use Rattle.trick_top_words.specs.Rules.{all_app, form_app, top_app}
use Rattle.trick_top_words.specs.declared.Kind.{Kind}
use Rattle.trick_top_words.specs.declared.Kind.TheVariants as kind
use Rattle.trick_top_words.proofs.Rows.{single}
use Rattle.trick_top_words.proofs.Turns.{held, no_dashes, no_long, no_short, nothing, or_else_nil, or_else_parts, stand, turn_by}
use Rattle.trick_top_words.proofs.Flags.{Knows, met}
use Rattle.trick_top_words.proofs.Lines.{Ahead, Fits, total}

-- a command as it is built below the others
abbrev pub shape_for : Kind → Shape
shape_for k = built_leaf (inherited (marked_built top_app.top) (form_app k).top)

abbrev pub whole : App
whole = built all_app

pub simple_and_free : is_simple_and_free all_app ≡ true
unfolding clap_on_literals
simple_and_free = refl

pub simple : is_simple all_app ≡ true
unfolding clap_on_literals
simple = refl

-- ---- after the name of a command

abbrev stopped_at : Held → Text → List Text → Walk
stopped_at h name rest = record { held = h; waiting = idle; position = 1; is_trailing = false; stopped = Some (name, rest) }

stop_fold : (c : List Rule) (names : Names) (h : Held) (name : Text) (before rest : List Text)
    → fold (walked c names) (stopped_at h name before) rest ≡ stopped_at h name (before ++ rest)
unfolding walked
stop_fold c names h name before [] = ap (stopped_at h name) (sym (append-nil before))
stop_fold c names h name before (w ∷ rest) = stop_fold c names h name (before ++ w ∷ []) rest ∙ ap (stopped_at h name) (append_assoc before (w ∷ []) rest)

stop_fault : (s : Shape) (names : Names) (h : Held) (name : Text) (before rest : List Text)
    → walk_fault s names (stopped_at h name before) rest ≡ []
unfolding walk_fault walked
stop_fault s names h name before [] = refl
stop_fault s names h name before (w ∷ rest) = stop_fault s names h name (before ++ w ∷ []) rest

walk_is : (k : Kind) (rest : List Text) → walk whole.top.rules (names_of whole) nothing_held (name_of k ∷ rest) ≡ stopped_at nothing_held (name_of k) rest
unfolding clap_on_literals
walk_is kind.Serial rest = stop_fold whole.top.rules (names_of whole) nothing_held (codes "serial") [] rest
walk_is kind.Run rest = stop_fold whole.top.rules (names_of whole) nothing_held (codes "run") [] rest
walk_is kind.Replay rest = stop_fold whole.top.rules (names_of whole) nothing_held (codes "replay") [] rest
walk_is kind.Check rest = stop_fold whole.top.rules (names_of whole) nothing_held (codes "check") [] rest
walk_is kind.List rest = stop_fold whole.top.rules (names_of whole) nothing_held (codes "list") [] rest
walk_is kind.Gen rest = stop_fold whole.top.rules (names_of whole) nothing_held (codes "gen") [] rest

walk_free : (k : Kind) (rest : List Text) → walk_fault whole.top (names_of whole) (walk_from nothing_held) (name_of k ∷ rest) ≡ []
unfolding clap_on_literals
walk_free kind.Serial rest = stop_fault whole.top (names_of whole) nothing_held (codes "serial") [] rest
walk_free kind.Run rest = stop_fault whole.top (names_of whole) nothing_held (codes "run") [] rest
walk_free kind.Replay rest = stop_fault whole.top (names_of whole) nothing_held (codes "replay") [] rest
walk_free kind.Check rest = stop_fault whole.top (names_of whole) nothing_held (codes "check") [] rest
walk_free kind.List rest = stop_fault whole.top (names_of whole) nothing_held (codes "list") [] rest
walk_free kind.Gen rest = stop_fault whole.top (names_of whole) nothing_held (codes "gen") [] rest

-- the faults of the whole, from where the top's walk ended
abbrev fault_by : Walk → Kinds → Kinds
fault_by w f = or_else f (or_else (entered_fault whole w.stopped)
    (or_else (settle_fault whole.top.rules whole.top.args_override_self w.held)
    (or_else (defaults_fault (settled whole.top.rules w.held).rows whole.top.rules)
    (check_fault whole.top (finished whole.top.rules w.held) (is_some (entered whole w.stopped))))))

below_is : (k : Kind) (rest : List Text) → fault_by (stopped_at nothing_held (name_of k) rest) [] ≡ total (shape_for k) (stand [] nothing 1) rest
unfolding clap_on_literals
below_is kind.Serial rest = or_else_nil _
below_is k rest = or_else_nil _

pub fault_is : (k : Kind) (rest : List Text) → fault_of all_app (name_of k ∷ rest) ≡ total (shape_for k) (stand [] nothing 1) rest
fault_is k rest = ap₂ fault_by (walk_is k rest) (walk_free k rest) ∙ below_is k rest

entered_is : (k : Kind) (rest : List Text) → entered whole (Some (name_of k, rest))
    ≡ Some (name_of k, finished (shape_for k).rules (fold (walked (shape_for k).rules []) (stand [] nothing 1) rest).held)
unfolding clap_on_literals
entered_is kind.Serial rest = refl
entered_is k rest = refl

pub subcommand_is : (k : Kind) (rest : List Text) → subcommand_of all_app (name_of k ∷ rest)
    ≡ Some (name_of k, finished (shape_for k).rules (fold (walked (shape_for k).rules []) (stand [] nothing 1) rest).held)
subcommand_is k rest = ap (λ (w : Walk). entered whole w.stopped) (walk_is k rest) ∙ entered_is k rest

-- ---- each command knows its options

long_of_options : (options : List Text) (name : Text)
    → IsAmong name options ⊎ (arg_by_long (map (λ o. single o (Some o) None false) options) name ≡ None)
unfolding IsAmong
long_of_options [] name = inr refl
long_of_options (o ∷ rest) name = by (bytes_eq o name) refl (long_of_options rest name)
  where
    by : (b : Bool) → bytes_eq o name ≡ b → IsAmong name rest ⊎ (arg_by_long (map (λ o. single o (Some o) None false) rest) name ≡ None)
        → IsAmong name (o ∷ rest) ⊎ (arg_by_long (map (λ o. single o (Some o) None false) (o ∷ rest)) name ≡ None)
    by true e later = inl (inl (sym ((bytes_eq-Decides o name).0 e)))
    by false e (inl among) = inl (inr among)
    by false e (inr none) = inr (rw e none)

pub knows : (k : Kind) → Knows (shape_for k).rules (options_of k)
unfolding clap_on_literals
knows kind.Serial = record { long = λ name. long_of_options (options_of kind.Serial) name; short = λ ch. refl; bare = (refl, tt) }
knows kind.Run = record { long = λ name. long_of_options (options_of kind.Run) name; short = λ ch. refl; bare = (refl, (refl, tt)) }
knows kind.Replay = record { long = λ name. long_of_options (options_of kind.Replay) name; short = λ ch. refl; bare = (refl, tt) }
knows kind.Check = record { long = λ name. long_of_options [] name; short = λ ch. refl; bare = tt }
knows kind.List = record { long = λ name. long_of_options [] name; short = λ ch. refl; bare = tt }
knows kind.Gen = record { long = λ name. long_of_options [] name; short = λ ch. refl; bare = tt }

-- ---- words that begin with no command

pub no_words : fault_of all_app [] ≢ []
unfolding clap_on_literals walk_fault defaults_fault
no_words h = let bad : error.MissingSubcommand ∷ [] ≡ [] = h in cc bad

abbrev plain_names : List Text → Names
plain_names [] = []
plain_names (n ∷ names) = (n, []) ∷ plain_names names

named_apart : (names : List Text) (w : Text) → AllByRecursion (λ n. bytes_eq n w ≡ false) names
    → subcommand_met (plain_names names) idle w ≡ None
named_apart [] w h = refl
named_apart (n ∷ names) w h = rw h.0 (named_apart names w h.1)

apart : (w : Text) → ((k : Kind) → w ≢ name_of k) → (k : Kind) → bytes_eq (name_of k) w ≡ false
apart w none k = by (bytes_eq (name_of k) w) refl
  where
    by : (b : Bool) → bytes_eq (name_of k) w ≡ b → bytes_eq (name_of k) w ≡ false
    by false e = e
    by true e = absurd (none k (sym ((bytes_eq-Decides (name_of k) w).0 e)))

no_name : (w : Text) → ((k : Kind) → w ≢ name_of k) → subcommand_met (names_of whole) idle w ≡ None
unfolding clap_on_literals
no_name w none =
    let differ = apart w none in
    named_apart (name_of kind.Serial ∷ name_of kind.Run ∷ name_of kind.Replay ∷ name_of kind.Check ∷ name_of kind.List ∷ name_of kind.Gen ∷ []) w
    (differ kind.Serial, (differ kind.Run, (differ kind.Replay, (differ kind.Check, (differ kind.List, (differ kind.Gen, tt))))))

-- a word that no place takes
plain_refused : (s : Shape) (names : Names) (w : Text) → has_hyphen w ≡ false → arg_by_index s.rules 1 ≡ None
    → subcommand_met names idle w ≡ None → turn_fault s names (stand [] nothing 1) w ≢ []
plain_refused s names w e at none h =
    let k = held [] nothing in
    let met : word_met s.rules names false idle 1 w k ≡ (k, value) = rw (none, no_dashes w e, no_long w e, no_short w e) refl in
    let fault : word_fault s names false idle w k ≡ [] = rw (none, no_dashes w e, no_long w e, no_short w e) refl in
    stray s.is_leaf (sym (ap₂ (turn_by s 1) fault met ∙ rw at refl) ∙ h)
  where
    stray : (b : Bool) → cond b (error.UnknownArgument ∷ []) (error.UnknownArgument ∷ error.InvalidSubcommand ∷ []) ≢ []
    stray true e = cc e
    stray false e = cc e

knows_top : Knows whole.top.rules []
unfolding clap_on_literals
knows_top = record { long = λ name. inr refl; short = λ ch. refl; bare = tt }

no_place : arg_by_index whole.top.rules 1 ≡ None
unfolding clap_on_literals
no_place = refl

top_refused : (w : Text) → IsUtf8 w → is_bare w ≡ false → subcommand_met (names_of whole) idle w ≡ None
    → turn_fault whole.top (names_of whole) (stand [] nothing 1) w ≢ []
unfolding IsAmong
top_refused w text plain none = elim (met whole.top (names_of whole) [] knows_top w text plain) [
  | inl (inl e) ↦ plain_refused whole.top (names_of whole) w e no_place none
  | inl (inr (o, never, told)) ↦ absurd never
  | inr stray ↦ stray [] nothing 1 none
]

pub no_command : (w : Text) (rest : List Text) → ((k : Kind) → w ≢ name_of k) → IsUtf8 w → is_bare w ≡ false
    → fault_of all_app (w ∷ rest) ≢ []
unfolding walk_fault
no_command w rest none text plain h =
    let all : fault_by (walk whole.top.rules (names_of whole) nothing_held (w ∷ rest)) (walk_fault whole.top (names_of whole) (walk_from nothing_held) (w ∷ rest)) ≡ [] = h in
    let free = (or_else_parts (walk_fault whole.top (names_of whole) (walk_from nothing_held) (w ∷ rest)) _ all).0 in
    top_refused w text plain (no_name w none) (or_else_parts (turn_fault whole.top (names_of whole) (walk_from nothing_held) w) _ free).0

-- ---- each command fits its places and options

pub fits : (k : Kind) → Fits (shape_for k) (places_of k) (options_of k)
unfolding clap_on_literals Ahead
fits kind.Serial = record {
  again = refl;
  ahead = (refl, refl, refl, (refl, tt), (refl, refl, refl, tt, refl));
  known = (record { alone = refl; with_value = λ v. refl; word = refl; word_with = λ v. refl; by_long = refl; by_id = refl }, tt);
  apart = ((refl, (refl, tt)), tt);
  plain = (refl, (refl, (refl, tt)));
  asks = λ rs. refl;
}
fits kind.Run = record {
  again = refl;
  ahead = (refl, refl, refl, (refl, tt), (refl, refl, refl, tt, refl));
  known = (record { alone = refl; with_value = λ v. refl; word = refl; word_with = λ v. refl; by_long = refl; by_id = refl }, (record { alone = refl; with_value = λ v. refl; word = refl; word_with = λ v. refl; by_long = refl; by_id = refl }, tt));
  apart = ((refl, (refl, tt)), ((refl, (refl, tt)), tt));
  plain = (refl, (refl, (refl, (refl, tt))));
  asks = λ rs. refl;
}
fits kind.Replay = record {
  again = refl;
  ahead = (refl, refl, refl, (refl, (refl, tt)), (refl, refl, refl, (refl, tt), (refl, refl, refl, tt, refl)));
  known = (record { alone = refl; with_value = λ v. refl; word = refl; word_with = λ v. refl; by_long = refl; by_id = refl }, tt);
  apart = ((refl, (refl, (refl, tt))), tt);
  plain = (refl, (refl, (refl, (refl, tt))));
  asks = λ rs. refl;
}
fits kind.Gen = record {
  again = refl;
  ahead = (refl, refl, refl, tt, refl);
  known = tt;
  apart = tt;
  plain = (refl, tt);
  asks = λ rs. refl;
}
fits k = record {
  again = refl;
  ahead = (refl, refl, refl, (refl, tt), (refl, refl, refl, tt, refl));
  known = tt;
  apart = tt;
  plain = (refl, (refl, tt));
  asks = λ rs. refl;
}
