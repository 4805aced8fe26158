-- The values of a line, and of the command that it asks for.
use Rattle.std.proofs.Common.{◌≡◌, ◌∙◌, Option, Some, None, option_map, Result, Ok, Err, ap, codes, subst, sym, refl, ◌∷◌, ◌++◌, [], List, map, Bor, is_some, true}
use Rattle.std.specs.List.{All, AllByRecursion}
use Rattle.std.specs.Str.{IsUtf8}
use Rattle.std.specs.Option.{MatchOption}
use Rattle.std.specs.Result.{IfOk}
use Rattle.std.proofs.lemmas.List.{map-append}
use Rattle.clap.proofs.WalkLemmas.{first_value-rows}
use Rattle.clap.specs.Matches.{first_value, found_of}
use Rattle.clap.specs.Walk.{Row, first_of, rows_of}
use Rattle.clap.specs.declared.parser.matches.ArgMatches.{ArgMatches}
use Rattle.trick_top_words.specs.CommandLine.{Given, Text, value_of}
use Rattle.trick_top_words.specs.Commands.{name_of, places_of}
use Rattle.trick_top_words.specs.Command.{AreRefused, Asks, Holds, kind_of}
use Rattle.trick_top_words.specs.Fields.{HasPlaces, IsFound, IsNone, IsNoneFound, IsOf, IsWhole}
use Rattle.trick_top_words.specs.Reads.{IsCommand, IsRead, IsUsage, Reads, Values, values_by, values_in, values_of}
use Rattle.trick_top_words.specs.declared.Kind.{Kind}
use Rattle.trick_top_words.specs.declared.Kind.TheVariants as kind
use Rattle.trick_top_words.specs.declared.command.Command.{Command}
use Rattle.trick_top_words.proofs.Reading.{first_is, same_kind}
use Rattle.trick_top_words.proofs.Rows.{rows}
use Rattle.trick_top_words.proofs.Unique.{each_place, one_line}

abbrev all_values : (s i j f p n : Option Text) → Values
all_values s i j f p n = record { s_define = s; input = i; journal = j; from = f; port = p; count = n }

joined : (s i j f p n t k l g q m : Option Text) → s ≡ t → i ≡ k → j ≡ l → f ≡ g → p ≡ q → n ≡ m
    → all_values s i j f p n ≡ all_values t k l g q m
joined s i j f p n t k l g q m e1 e2 e3 e4 e5 e6 = rw (e1, e2, e3, e4, e5, e6) refl

pub same_values : (a b : Values) → a.s_define ≡ b.s_define → a.input ≡ b.input → a.journal ≡ b.journal → a.from ≡ b.from
    → a.port ≡ b.port → a.count ≡ b.count → a ≡ b
same_values a b s i j f p n = joined a.s_define a.input a.journal a.from a.port a.count b.s_define b.input b.journal b.from b.port b.count s i j f p n

pub map_push : (texts : List (Bor Text)) (text : Bor Text) (all : List (Bor Text)) → all ≡ texts ++ text ∷ []
    → map (λ t. t.now) all ≡ map (λ t. t.now) texts ++ text.now ∷ []
map_push texts text all is = ap (map (λ t. t.now)) is ∙ map-append (λ (t : Bor Text). t.now) texts (text ∷ [])

-- two readings of the same matches
row_pair : (n m : Text) (rs qs : List Row) → ◌≡◌ {A = Option (Text × List Row)} (Some (n, rs)) (Some (m, qs)) → (n ≡ m) × (rs ≡ qs)
row_pair n m rs qs e =
    let names : Some n ≡ Some m = ap (option_map (λ (p : Text × List Row). p.0)) e in
    let same : Some rs ≡ Some qs = ap (option_map (λ (p : Text × List Row). p.1)) e in
    (some_text n m names, some_rows rs qs same)
  where
    some_text : (a b : Text) → Some a ≡ Some b → a ≡ b
    some_text a b e = cc e

    some_rows : (a b : List Row) → Some a ≡ Some b → a ≡ b
    some_rows a b e = cc e

pub one_read : (m : ArgMatches) (j k : Kind) (v w : Values) → IsRead m j v → IsRead m k w → (j ≡ k) × (v ≡ w)
one_read m j k v w one two =
    let (names, same) = row_pair (name_of j) (name_of k) one.rows two.rows (sym one.below ∙ two.below) in
    (same_kind j k names, sym one.are ∙ ap values_by same ∙ two.are)

-- the values that the matches of rows hold
pub held_values : (inner : ArgMatches) (rs : List Row) → rows_of (found_of inner) ≡ rs → values_of inner ≡ values_by rs
held_values inner rs is =
    same_values _ _ (held (codes "S_DEFINE")) (held (codes "INPUT")) (held (codes "JOURNAL")) (held (codes "from")) (held (codes "port")) (held (codes "N"))
  where
    held : (name : Text) → first_value (found_of inner) name ≡ first_of name rs
    held name = first_value-rows (found_of inner) name ∙ ap (first_of name) is

-- the values that rows hold of a line
pub given_values : (given : Given) → values_by (rows given) ≡ values_in given
given_values given =
    same_values _ _ (first_is (codes "S_DEFINE") given) (first_is (codes "INPUT") given) (first_is (codes "JOURNAL") given)
    (first_is (codes "from") given) (first_is (codes "port") given) (first_is (codes "N") given)

-- each place of the line that words are has a value
pub whole : (words : List Text) (m : ArgMatches) → Reads words m → IsWhole m
whole words m reads = record {
  kind = reads.kind;
  values = values_in reads.given;
  read = reads.is;
  places = places reads.kind (each_place words reads.kind reads.given reads.command);
}
  where
    places : (k : Kind) → AllByRecursion (λ place. is_some (value_of place reads.given) ≡ true) (places_of k)
        → HasPlaces k (values_in reads.given)
    places kind.Replay all = ((all.0, all.1.0), all.1.1.0)
    places kind.Gen all = all.0
    places k all = (all.0, all.1.0)

-- what is asked for with the values of matches is found in them
pub found_as : {E : Type 0} (m : ArgMatches) (k : Kind) (v : Values) (result : Result (Option Command) E) → IsRead m k v
    → IfOk result (λ command. MatchOption command (IsNone k v) (IsOf k v))
    → IfOk result (λ command. MatchOption command (IsNoneFound m) (IsFound m))
found_as m k v (Err error) read told = tt
found_as m k v (Ok None) read told = λ command found.
    let (kinds, values) = one_read m k (kind_of command) v found.values read found.read in
    told command (kinds, subst (λ (w : Values). Holds w command) (sym values) found.holds)
found_as m k v (Ok (Some command)) read told =
    record { values = v; read = subst (λ (j : Kind). IsRead m j v) told.0 read; holds = told.1 }

-- a command that is found in the matches of a line is what the words ask for
asked : (words : List Text) (m : ArgMatches) (command : Command) → All IsUtf8 words → Reads words m → IsFound m command → Asks words command
asked words m command texts reads found =
    let (kinds, values) = one_read m reads.kind (kind_of command) (values_in reads.given) found.values reads.is found.read in
    record {
      texts = texts;
      given = reads.given;
      line = subst (λ (k : Kind). IsCommand words k reads.given) kinds reads.command;
      holds = subst (λ (v : Values). Holds v command) (sym values) found.holds;
    }

-- and the words ask for no other
refused : (words : List Text) (m : ArgMatches) → Reads words m → IsNoneFound m → AreRefused words
refused words m reads none command asks =
    let (kinds, given) = one_line words reads.kind (kind_of command) reads.given asks.given reads.command asks.line in
    none command
    (record {
      values = values_in asks.given;
      read = subst (λ (k : Kind). IsRead m k (values_in asks.given)) kinds (subst (λ (g : Given). IsRead m reads.kind (values_in g)) given reads.is);
      holds = asks.holds;
    })

pub no_text : (words : List Text) → (All IsUtf8 words → ⊥) → AreRefused words
no_text words never command asks = never asks.texts

pub no_line : (words : List Text) → IsUsage words → AreRefused words
no_line words never command asks = never (kind_of command) asks.given asks.line

-- what is found in the matches of a line is what the words ask for
pub read_as : {E : Type 0} (words : List Text) (m : ArgMatches) (result : Result (Option Command) E) → All IsUtf8 words
    → Reads words m → IfOk result (λ command. MatchOption command (IsNoneFound m) (IsFound m))
    → IfOk result (λ command. MatchOption command (AreRefused words) (Asks words))
read_as words m (Err error) texts reads told = tt
read_as words m (Ok None) texts reads told = refused words m reads told
read_as words m (Ok (Some command)) texts reads told = asked words m command texts reads told
