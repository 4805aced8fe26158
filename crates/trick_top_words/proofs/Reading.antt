-- The words that a parse reads, and those that it refuses.
use Rattle.std.proofs.Common.{◌≡◌, ◌≢◌, ◌++◌, ◌∷◌, ◌∙◌, [], List, Bool, true, false, Option, Some, None, refl, sym, ap, subst, inl, inr, codes, Global, Bor, arith, if◌then◌else◌, is_some}
use Rattle.std.specs.List.{All, list_all, AllByRecursion}
use Rattle.std.specs.Option.{MatchOption, option_map}
use Rattle.std.specs.Prelude.{◌⊎◌, Box}
use Rattle.std.specs.Str.{IsUtf8, bytes_eq}
use Rattle.std.specs.Box.{box_value}
use Rattle.std.proofs.lemmas.List.Elements.{All-drop}
use Rattle.clap.proofs.WalkLemmas.{first_value-rows}
use Rattle.std.proofs.lemmas.Slice.Eq.{bytes_eq-Decides}
use Rattle.std.proofs.lemmas.Bool.{and_from, and_parts, not-true}
use Rattle.clap.specs.Walk.{Row, Text, first_of, rows_of}
use Rattle.clap.specs.Faults.{fault_of, is_simple_and_free}
use Rattle.clap.specs.Kinds.{HasKind}
use Rattle.clap.specs.Kinds
use Rattle.clap.specs.Values.{kind_of}
use Rattle.clap.specs.declared.error.Error.{Error}
use Rattle.clap.specs.declared.error.kind.ErrorKind.TheVariants as error
use Rattle.clap.specs.Matches.{first_value, found_of, subcommand_name_of}
use Rattle.clap.specs.Simple.{App, HasMatchesOf, subcommand_of, subcommand_rows, subcommand_rows_of}
use Rattle.clap.specs.declared.parser.matches.ArgMatches.{ArgMatches}
use Rattle.clap.specs.declared.parser.matches.ArgMatches.TheViews.{out-ArgMatches, out-SubCommand}
use Rattle.clap.specs.declared.parser.matches.SubCommand.{SubCommand}
use Rattle.trick_top_words.specs.Commands.{name_of, options_of, places_of}
use Rattle.trick_top_words.specs.CommandLine.{Given, IsAllowed, IsAmong, IsLine, value_of}
use Rattle.trick_top_words.specs.Plain.{is_bare, is_plain}
use Rattle.trick_top_words.specs.Reads.{IsCommand, IsUsage}
use Rattle.trick_top_words.specs.Rules.{all_app}
use Rattle.trick_top_words.specs.declared.Kind.{Kind}
use Rattle.trick_top_words.specs.declared.Kind.TheVariants as kind
use Rattle.trick_top_words.proofs.Flags.{IsMet, met as met_word}
use Rattle.trick_top_words.proofs.Main.{allowed_from, complete, sound}
use Rattle.trick_top_words.proofs.Rows.{rows}
use Rattle.trick_top_words.proofs.Tops.{fault_is, fits, knows, no_command, no_words, shape_for, simple, simple_and_free, subcommand_is}

-- ---- the names of the commands

kind_named : Text → Option Kind
kind_named t = if bytes_eq t (codes "serial") then Some kind.Serial else (if bytes_eq t (codes "run") then Some kind.Run else (if bytes_eq t (codes "replay") then Some kind.Replay else (if bytes_eq t (codes "check") then Some kind.Check else (if bytes_eq t (codes "list") then Some kind.List else (if bytes_eq t (codes "gen") then Some kind.Gen else (None))))))

named_is : (k : Kind) → kind_named (name_of k) ≡ Some k
unfolding kind_named
named_is kind.Serial = refl
named_is k = refl

some_same : (a b : Kind) → Some a ≡ Some b → a ≡ b
some_same a b e = cc e

pub same_kind : (a b : Kind) → name_of a ≡ name_of b → a ≡ b
same_kind a b e = some_same a b (sym (named_is a) ∙ ap kind_named e ∙ named_is b)

-- ---- the words

pub tail_same : (x y : Text) (xs ys : List Text) → x ∷ xs ≡ y ∷ ys → (x ≡ y) × (xs ≡ ys)
tail_same x y xs ys e = (cc e, cc e)

pick : (k : Kind) (w : Text) → (w ≡ name_of k) ⊎ (bytes_eq w (name_of k) ≡ false)
pick k w = by (bytes_eq w (name_of k)) refl
  where
    by : (b : Bool) → bytes_eq w (name_of k) ≡ b → (w ≡ name_of k) ⊎ (bytes_eq w (name_of k) ≡ false)
    by true e = inl ((bytes_eq-Decides w (name_of k)).0 e)
    by false e = inr e

differ : (k : Kind) (w : Text) → bytes_eq w (name_of k) ≡ false → w ≢ name_of k
differ k w other same = cc (sym other ∙ (bytes_eq-Decides w (name_of k)).1 same)

no_kind : (w : Text) → bytes_eq w (name_of kind.Serial) ≡ false → bytes_eq w (name_of kind.Run) ≡ false
    → bytes_eq w (name_of kind.Replay) ≡ false → bytes_eq w (name_of kind.Check) ≡ false → bytes_eq w (name_of kind.List) ≡ false
    → bytes_eq w (name_of kind.Gen) ≡ false → (k : Kind) → w ≢ name_of k
no_kind w s r p c l g kind.Serial = differ kind.Serial w s
no_kind w s r p c l g kind.Run = differ kind.Run w r
no_kind w s r p c l g kind.Replay = differ kind.Replay w p
no_kind w s r p c l g kind.Check = differ kind.Check w c
no_kind w s r p c l g kind.List = differ kind.List w l
no_kind w s r p c l g kind.Gen = differ kind.Gen w g

-- a word is the name of a command, or of none
abbrev IsNamed : Text → Type 0
IsNamed w = ((k : Kind) × (w ≡ name_of k)) ⊎ ((k : Kind) → w ≢ name_of k)

named_by : (w : Text) → IsNamed w
named_by w = serial (pick kind.Serial w)
  where
    gen : bytes_eq w (name_of kind.Serial) ≡ false → bytes_eq w (name_of kind.Run) ≡ false → bytes_eq w (name_of kind.Replay) ≡ false
        → bytes_eq w (name_of kind.Check) ≡ false → bytes_eq w (name_of kind.List) ≡ false
        → (w ≡ name_of kind.Gen) ⊎ (bytes_eq w (name_of kind.Gen) ≡ false) → IsNamed w
    gen s r p c l (inl e) = inl (kind.Gen, e)
    gen s r p c l (inr g) = inr (no_kind w s r p c l g)

    list : bytes_eq w (name_of kind.Serial) ≡ false → bytes_eq w (name_of kind.Run) ≡ false → bytes_eq w (name_of kind.Replay) ≡ false
        → bytes_eq w (name_of kind.Check) ≡ false → (w ≡ name_of kind.List) ⊎ (bytes_eq w (name_of kind.List) ≡ false) → IsNamed w
    list s r p c (inl e) = inl (kind.List, e)
    list s r p c (inr l) = gen s r p c l (pick kind.Gen w)

    check : bytes_eq w (name_of kind.Serial) ≡ false → bytes_eq w (name_of kind.Run) ≡ false → bytes_eq w (name_of kind.Replay) ≡ false
        → (w ≡ name_of kind.Check) ⊎ (bytes_eq w (name_of kind.Check) ≡ false) → IsNamed w
    check s r p (inl e) = inl (kind.Check, e)
    check s r p (inr c) = list s r p c (pick kind.List w)

    replay : bytes_eq w (name_of kind.Serial) ≡ false → bytes_eq w (name_of kind.Run) ≡ false
        → (w ≡ name_of kind.Replay) ⊎ (bytes_eq w (name_of kind.Replay) ≡ false) → IsNamed w
    replay s r (inl e) = inl (kind.Replay, e)
    replay s r (inr p) = check s r p (pick kind.Check w)

    run : bytes_eq w (name_of kind.Serial) ≡ false → (w ≡ name_of kind.Run) ⊎ (bytes_eq w (name_of kind.Run) ≡ false) → IsNamed w
    run s (inl e) = inl (kind.Run, e)
    run s (inr r) = replay s r (pick kind.Replay w)

    serial : (w ≡ name_of kind.Serial) ⊎ (bytes_eq w (name_of kind.Serial) ≡ false) → IsNamed w
    serial (inl e) = inl (kind.Serial, e)
    serial (inr s) = run s (pick kind.Run w)

-- a word that is text, and may be shown to `clap`
abbrev pub IsGood : Text → Type 0
IsGood w = IsUtf8 w × (is_bare w ≡ false)

pub all_good : (words : List Text) → list_all is_plain words ≡ true → All IsUtf8 words → AllByRecursion IsGood words
all_good [] h texts = tt
all_good (w ∷ words) h texts =
    let (here, rest) = and_parts (is_plain w) (list_all is_plain words) h in
    ((texts 0 w (omega arith), not-true (is_bare w) here), all_good words rest (All-drop IsUtf8 1 (w ∷ words) texts))

all_met : (k : Kind) (words : List Text) → AllByRecursion IsGood words → AllByRecursion (IsMet (shape_for k) [] (options_of k)) words
all_met k [] h = tt
all_met k (w ∷ words) h = (met_word (shape_for k) [] (options_of k) (knows k) w h.0.0 h.0.1, all_met k words h.1)

-- ---- a word that is not shown to `clap` is in no line

option_named : (k : Kind) (o : Text) → IsAmong o (options_of k) → (o ≡ codes "from") ⊎ (o ≡ codes "port")
unfolding IsAmong
option_named kind.Serial o (inl e) = inl e
option_named kind.Serial o (inr never) = absurd never
option_named kind.Run o (inl e) = inl e
option_named kind.Run o (inr (inl e)) = inr e
option_named kind.Run o (inr (inr never)) = absurd never
option_named kind.Replay o (inl e) = inl e
option_named kind.Replay o (inr never) = absurd never
option_named k o never = absurd never

abbrev Spelled : Text → Text → Type 0
Spelled o w = (w ≡ codes "--" ++ o) ⊎ ((v : Text) × (v ≢ []) × (w ≡ codes "--" ++ (o ++ (codes "=" ++ v))))

plain_option : (o w : Text) → (o ≡ codes "from") ⊎ (o ≡ codes "port") → Spelled o w → is_plain w ≡ true
plain_option o w (inl f) (inl e) = ap is_plain (e ∙ ap (λ (t : Text). codes "--" ++ t) f)
plain_option o w (inl f) (inr ([], some, e)) = absurd (some refl)
plain_option o w (inl f) (inr (y ∷ v, some, e)) =
    ap is_plain (e ∙ ap (λ (t : Text). codes "--" ++ (t ++ (codes "=" ++ (y ∷ v)))) f)
plain_option o w (inr p) (inl e) = ap is_plain (e ∙ ap (λ (t : Text). codes "--" ++ t) p)
plain_option o w (inr p) (inr ([], some, e)) = absurd (some refl)
plain_option o w (inr p) (inr (y ∷ v, some, e)) =
    ap is_plain (e ∙ ap (λ (t : Text). codes "--" ++ (t ++ (codes "=" ++ (y ∷ v)))) p)

plain_of : (k : Kind) (w : Text) → IsAllowed (options_of k) w → is_plain w ≡ true
plain_of k [] (inl e) = refl
plain_of k (x ∷ xs) (inl e) = rw e refl
plain_of k w (inr (o, among, told)) = plain_option o w (option_named k o among) told

all_plain : (k : Kind) (words : List Text) → AllByRecursion (IsAllowed (options_of k)) words → list_all is_plain words ≡ true
all_plain k [] h = refl
all_plain k (w ∷ words) h = and_from (is_plain w) (list_all is_plain words) (plain_of k w h.0) (all_plain k words h.1)

name_plain : (k : Kind) → is_plain (name_of k) ≡ true
name_plain kind.Serial = refl
name_plain k = refl

pub not_plain : (words : List Text) → list_all is_plain words ≡ false → IsUsage words
not_plain words h k given (rest, is, (items, spells, fills, once)) =
    let allowed = allowed_from (shape_for k) (places_of k) (options_of k) (fits k) items rest (places_of k) given spells fills in
    let yes = and_from (is_plain (name_of k)) (list_all is_plain rest) (name_plain k) (all_plain k rest allowed) in
    cc (sym h ∙ ap (list_all is_plain) is ∙ yes)

-- ---- what the parse says

good : (k : Kind) (rest : List Text) → AllByRecursion IsGood rest → fault_of all_app (name_of k ∷ rest) ≡ []
    → (given : Given) × IsLine (places_of k) (options_of k) rest given × (subcommand_of all_app (name_of k ∷ rest) ≡ Some (name_of k, rows given))
good k rest goods h =
    let (items, given, spells, fills, once) = sound (shape_for k) (places_of k) (options_of k) (fits k) rest (all_met k rest goods) (sym (fault_is k rest) ∙ h) in
    let passes = complete (shape_for k) (places_of k) (options_of k) (fits k) items rest given spells fills once in
    (given, (items, spells, fills, once), subcommand_is k rest ∙ ap (λ (rs : List Row). Some (name_of k, rs)) passes.1)

bad : (words : List Text) → fault_of all_app words ≢ [] → IsUsage words
bad words h k given (rest, is, (items, spells, fills, once)) =
    let passes = complete (shape_for k) (places_of k) (options_of k) (fits k) items rest given spells fills once in
    h (ap (fault_of all_app) is ∙ fault_is k rest ∙ passes.0)

-- words without a fault begin with the name of a command
named : (words : List Text) → AllByRecursion IsGood words → fault_of all_app words ≡ []
    → (k : Kind) × (rest : List Text) × (words ≡ name_of k ∷ rest) × AllByRecursion IsGood rest
named [] goods h = absurd (no_words h)
named (w ∷ rest) goods h = elim (named_by w) [
  | inl (k, e) ↦ (k, rest, ap (λ (n : Text). n ∷ rest) e, goods.1)
  | inr none ↦ absurd (no_command w rest none goods.0.0 goods.0.1 h)
]

-- ---- the values

pub first_is : (name : Text) (given : Given) → first_of name (rows given) ≡ value_of name given
unfolding value_of
first_is name [] = refl
first_is name (p ∷ given) = by (bytes_eq p.0 name) refl (first_is name given)
  where
    by : (b : Bool) → bytes_eq p.0 name ≡ b → first_of name (rows given) ≡ value_of name given → first_of name (rows (p ∷ given)) ≡ value_of name (p ∷ given)
    by true e rest = rw e refl
    by false e rest = rw e rest

pub name_met : (m : ArgMatches) (name : Text) (rs : List Row) → subcommand_rows_of m ≡ Some (name, rs) → subcommand_name_of m ≡ Some name
name_met m name rs h = by (out-ArgMatches m).subcommand ∙ ap (option_map (λ (p : Text × List Row). p.0)) h
  where
    by : (o : Option (Box SubCommand Global))
        → option_map {U = Text} (λ b. (out-SubCommand (box_value b)).name.now) o ≡ option_map (λ (p : Text × List Row). p.0) (subcommand_rows o)
    by None = refl
    by (Some b) = refl

pub rows_met : (m : ArgMatches) (name : Text) (rs : List Row) → subcommand_rows_of m ≡ Some (name, rs) → option_map (λ p. p.1) (subcommand_rows (out-ArgMatches m).subcommand) ≡ Some rs
rows_met m name rs h = ap (option_map (λ (p : Text × List Row). p.1)) h

-- what a parse that succeeds met
abbrev pub Meets : List Text → ArgMatches → Type 0
Meets words m = (k : Kind) × (given : Given) × IsCommand words k given × (subcommand_rows_of m ≡ Some (name_of k, rows given))

meets : (words : List Text) (m : ArgMatches) → AllByRecursion IsGood words → fault_of all_app words ≡ [] → HasMatchesOf all_app words m → Meets words m
meets words m goods free has =
    let (k, rest, is, later) = named words goods free in
    let (given, line, sub) = good k rest later (sym (ap (fault_of all_app) is) ∙ free) in
    (k, given, (rest, is, line), (has simple).1 ∙ ap (subcommand_of all_app) is ∙ sub)

pub held_is : (inner : ArgMatches) (name : Text) (given : Given) → rows_of (found_of inner) ≡ rows given → first_value (found_of inner) name ≡ value_of name given
held_is inner name given is = first_value-rows (found_of inner) name ∙ ap (first_of name) is ∙ first_is name given

pub met_of : (a : App) (words : List Text) (m : ArgMatches) → a ≡ all_app → AllByRecursion IsGood words
    → (is_simple_and_free a ≡ true → fault_of a words ≡ []) → HasMatchesOf a words m → Meets words m
met_of a words m app goods kinds has =
    meets words m goods (sym (ap (λ (x : App). fault_of x words) app) ∙ kinds (ap is_simple_and_free app ∙ simple_and_free))
    (subst (λ (x : App). HasMatchesOf x words m) app has)

pub usage_of : (a : App) (words : List Text) (e : Error) → a ≡ all_app → (is_simple_and_free a ≡ true → HasKind (fault_of a words) e)
    → (kind_of e ≡ error.OutOfMemory → ⊥) → IsUsage words
usage_of a words e app kinds other =
    bad words (λ none. elim (kinds (ap is_simple_and_free app ∙ simple_and_free)) [
      | inl memory ↦ other memory
      | inr among ↦ subst (Kinds.IsAmong (kind_of e)) (ap (λ (x : App). fault_of x words) app ∙ none) among
    ])

pub named_some : (o : Option (Bor Text)) (t : Text) → option_map (λ s. s.now) o ≡ Some t → is_some o ≡ true
named_some None t e = cc e
named_some (Some b) t e = refl

pub kind_some : (r : Option Kind) (t : Text) (k : Kind) → t ≡ name_of k
    → MatchOption r ((kind : Kind) → t ≢ name_of kind) (λ kind. t ≡ name_of kind) → is_some r ≡ true
kind_some None t k e none = absurd (none k e)
kind_some (Some j) t k e told = refl
