-- One line, and a value for each place.
use Rattle.std.proofs.Common.{◌≡◌, ◌∷◌, ◌∙◌, [], List, Bool, true, false, refl, sym, ap, ap₂, subst, is_some}
use Rattle.std.proofs.lemmas.Bool.{or_right}
use Rattle.std.specs.List.{AllByRecursion}
use Rattle.std.specs.Str.{bytes_eq}
use Rattle.std.specs.Prelude.{fold}
use Rattle.clap.specs.Walk.{Row, Text, finished, walked}
use Rattle.trick_top_words.specs.Commands.{name_of, options_of, places_of}
use Rattle.trick_top_words.specs.CommandLine.{Fills, Given, Item, has_name, option, positional, value_of}
use Rattle.trick_top_words.specs.Reads.{IsCommand}
use Rattle.trick_top_words.specs.declared.Kind.{Kind}
use Rattle.trick_top_words.proofs.Main.{complete}
use Rattle.trick_top_words.proofs.Reading.{same_kind, tail_same}
use Rattle.trick_top_words.proofs.Rows.{row, rows}
use Rattle.trick_top_words.proofs.Tops.{fits, shape_for}
use Rattle.trick_top_words.proofs.Turns.{bytes_same, nothing, stand}

pair_same : (p q : Text × Text) → row p ≡ row q → p ≡ q
pair_same p q e =
    let values : p.1 ∷ [] ≡ q.1 ∷ [] = ap (λ (r : Row). r.values) e in
    ap₂ (λ (a b : Text). (a, b)) (ap (λ (r : Row). r.id) e) (cc values)

rows_same : (g h : Given) → rows g ≡ rows h → g ≡ h
rows_same [] [] e = refl
rows_same [] (q ∷ h) e = cc e
rows_same (p ∷ g) [] e = cc e
rows_same (p ∷ g) (q ∷ h) e = let (first, rest) = parts (row p) (row q) (rows g) (rows h) e in ap₂ (λ (a : Text × Text) (b : Given). a ∷ b) (pair_same p q first) (rows_same g h rest)
  where
    parts : (a b : Row) (xs ys : List Row) → a ∷ xs ≡ b ∷ ys → (a ≡ b) × (xs ≡ ys)
    parts a b xs ys e = (cc e, cc e)

abbrev ended : Kind → List Text → List Row
ended k rest = finished (shape_for k).rules (fold (walked (shape_for k).rules []) (stand [] nothing 1) rest).held

pub one_line : (words : List Text) (j k : Kind) (g h : Given) → IsCommand words j g → IsCommand words k h → (j ≡ k) × (g ≡ h)
one_line words j k g h (rest, is, (items, spells, fills, once)) (back, same, (others, spells_too, fills_too, once_too)) =
    let (name, tails) = tail_same (name_of j) (name_of k) rest back (sym is ∙ same) in
    let kinds = same_kind j k name in
    let one = (complete (shape_for j) (places_of j) (options_of j) (fits j) items rest g spells fills once).1 in
    let two = (complete (shape_for k) (places_of k) (options_of k) (fits k) others back h spells_too fills_too once_too).1 in
    (kinds, rows_same g h (sym one ∙ ap₂ ended kinds tails ∙ two))

more_given : (places : List Text) (p : Text × Text) (given : Given) → AllByRecursion (λ id. has_name id given ≡ true) places
    → AllByRecursion (λ id. has_name id (p ∷ given) ≡ true) places
more_given [] p given h = tt
more_given (id ∷ places) p given h = (or_right (bytes_eq p.0 id) (has_name id given) h.0, more_given places p given h.1)

filled : (items : List Item) (places options : List Text) (given : Given) → Fills places options items given
    → AllByRecursion (λ id. has_name id given ≡ true) places
unfolding Fills
filled [] places options given f = subst (AllByRecursion (λ id. has_name id given ≡ true)) (sym f.0) tt
filled (positional w ∷ items) [] options given f = absurd f
filled (positional w ∷ items) (place ∷ places) options given (more, all, f) =
    subst (λ (g : Given). AllByRecursion (λ id. has_name id g ≡ true) (place ∷ places)) (sym all)
    (rw (bytes_same place) refl, more_given places (place, w) more (filled items places options more f))
filled (option o v ∷ items) places options given (more, all, among, f) =
    subst (λ (g : Given). AllByRecursion (λ id. has_name id g ≡ true) places) (sym all) (more_given places (o, v) more (filled items places options more f))

value_there : (name : Text) (given : Given) → has_name name given ≡ true → is_some (value_of name given) ≡ true
unfolding value_of
value_there name [] h = cc h
value_there name (p ∷ given) h = by (bytes_eq p.0 name) refl (value_there name given)
  where
    by : (b : Bool) → bytes_eq p.0 name ≡ b → (has_name name given ≡ true → is_some (value_of name given) ≡ true) → is_some (value_of name (p ∷ given)) ≡ true
    by true e rest = rw e refl
    by false e rest = rw e (rest (rw e at h))

all_there : (places : List Text) (given : Given) → AllByRecursion (λ id. has_name id given ≡ true) places
    → AllByRecursion (λ place. is_some (value_of place given) ≡ true) places
all_there [] given h = tt
all_there (place ∷ places) given h = (value_there place given h.0, all_there places given h.1)

pub each_place : (words : List Text) (kind : Kind) (given : Given) → IsCommand words kind given
    → AllByRecursion (λ place. is_some (value_of place given) ≡ true) (places_of kind)
each_place words kind given (rest, is, (items, spells, fills, once)) =
    all_there (places_of kind) given (filled items (places_of kind) (options_of kind) given fills)
