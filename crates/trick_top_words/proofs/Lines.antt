-- The words of a line as `clap` walks them, and the items that they spell.
use Rattle.std.proofs.Common.{◌≡◌, ◌++◌, ◌∷◌, ◌+◌, ◌||◌, ◌∙◌, [], ℕ, List, Bool, true, false, not, Some, None, refl, sym, ap, subst, inl, inr, min}
use Rattle.std.proofs.Math.Bool.{or-false, or-true}
use Rattle.std.proofs.lemmas.Bool.{or_parts}
use Rattle.std.specs.List.{list_any, AllByRecursion}
use Rattle.std.specs.Prelude.{fold}
use Rattle.std.specs.Str.{bytes_eq}
use Rattle.std.proofs.lemmas.Slice.Eq.{bytes_eq-Decides}
use Rattle.std.proofs.lemmas.List.Folds.{list_any-append}
use Rattle.clap.specs.Lexer.{usize_max}
use Rattle.clap.specs.Walk.{Row, Rule, Text, Walk, arg_by_id, arg_by_index, finished, settled, walked}
use Rattle.clap.specs.Kinds.{Kinds, check_kinds, or_else}
use Rattle.clap.specs.Faults.{check_fault, defaults_fault, settle_fault, turn_fault, walk_fault}
use Rattle.clap.specs.Takes.{is_given}
use Rattle.clap.specs.Simple.{Shape}
use Rattle.trick_top_words.specs.CommandLine.{Given, IsAmong, NoneTwice, has_name}
use Rattle.trick_top_words.proofs.Rows.{rows, single}
use Rattle.trick_top_words.proofs.Turns.{KnowsOption, bytes_same, or_else_free, or_else_parts}

-- ---- names that stand once

bytes_other : (x y : Text) → bytes_eq x y ≡ false → bytes_eq y x ≡ false
bytes_other x y e = by (bytes_eq y x) refl
  where
    by : (b : Bool) → bytes_eq y x ≡ b → bytes_eq y x ≡ false
    by false h = h
    by true h = let same = (bytes_eq-Decides y x).0 h in let yes = (bytes_eq-Decides x y).1 (sym same) in cc (sym e ∙ yes)

pub has_name_last : (name : Text) (ps : Given) (p : Text × Text) → has_name name (ps ++ p ∷ []) ≡ (has_name name ps || bytes_eq p.0 name)
has_name_last name ps p = list_any-append (λ (q : Text × Text). bytes_eq q.0 name) ps (p ∷ []) ∙ ap (λ (b : Bool). has_name name ps || b) (or-false (bytes_eq p.0 name))

pub twice_last : (ps : Given) (p : Text × Text) → NoneTwice ps → has_name p.0 ps ≡ false → NoneTwice (ps ++ p ∷ [])
unfolding NoneTwice
twice_last [] p h e = (refl, tt)
twice_last (x ∷ ps) p h e =
    let (other, rest) = or_parts (bytes_eq x.0 p.0) (has_name p.0 ps) e in
    (has_name_last x.0 ps p ∙ rw (h.0) (bytes_other x.0 p.0 other), twice_last ps p h.1 rest)

pub twice_new : (ps : Given) (p : Text × Text) (more : Given) → NoneTwice (ps ++ p ∷ more) → has_name p.0 ps ≡ false
unfolding NoneTwice
twice_new [] p more h = refl
twice_new (x ∷ ps) p more h =
    let all = sym (list_any-append (λ (q : Text × Text). bytes_eq q.0 x.0) ps (p ∷ more)) ∙ h.0 in
    let here = (or_parts (bytes_eq p.0 x.0) (has_name x.0 more) (or_parts (has_name x.0 ps) _ all).1).0 in
    rw (bytes_other p.0 x.0 here) (twice_new ps p more h.1)

-- ---- names that are not there yet, and names that are

abbrev pub Fresh : List Text → Given → Type 0
Fresh left ps = AllByRecursion (λ id. has_name id ps ≡ false) left

abbrev pub Differs : Text → List Text → Type 0
Differs name left = AllByRecursion (λ id. bytes_eq name id ≡ false) left

pub fresh_last : (left : List Text) (ps : Given) (p : Text × Text) → Fresh left ps → Differs p.0 left → Fresh left (ps ++ p ∷ [])
fresh_last [] ps p f d = tt
fresh_last (id ∷ left) ps p f d = (has_name_last id ps p ∙ rw (f.0, d.0) refl, fresh_last left ps p f.1 d.1)

-- each of these names is there
abbrev pub lacks : List Text → Given → Bool
lacks used ps = list_any (λ id. not (has_name id ps)) used

not_or : (a b : Bool) → not a ≡ false → not (a || b) ≡ false
not_or true b e = refl
not_or false b e = cc e

pub lacks_last : (used : List Text) (ps : Given) (p : Text × Text) → lacks used ps ≡ false → lacks used (ps ++ p ∷ []) ≡ false
lacks_last [] ps p e = refl
lacks_last (id ∷ used) ps p e =
    let (here, rest) = or_parts (not (has_name id ps)) (lacks used ps) e in
    rw (has_name_last id ps p, not_or (has_name id ps) (bytes_eq p.0 id) here) (lacks_last used ps p rest)

pub lacks_used : (used : List Text) (ps : Given) (id w : Text) → lacks used ps ≡ false → lacks (used ++ id ∷ []) (ps ++ (id, w) ∷ []) ≡ false
lacks_used used ps id w e = list_any-append (λ x. not (has_name x (ps ++ (id, w) ∷ []))) used (id ∷ [])
    ∙ rw (lacks_last used ps (id, w) e, has_name_last id ps (id, w), bytes_same id, or-true (has_name id ps)) refl

pub lacks_place : (used rest : List Text) (id : Text) (ps : Given) → has_name id ps ≡ false → lacks (used ++ id ∷ rest) ps ≡ true
lacks_place used rest id ps e = list_any-append (λ x. not (has_name x ps)) used (id ∷ rest) ∙ rw e (or-true (lacks used ps))

given_is : (id : Text) (ps : Given) → is_given id (rows ps) ≡ has_name id ps
given_is id [] = refl
given_is id (p ∷ ps) = by (bytes_eq p.0 id) refl (given_is id ps)
  where
    by : (b : Bool) → bytes_eq p.0 id ≡ b → is_given id (rows ps) ≡ has_name id ps → is_given id (rows (p ∷ ps)) ≡ has_name id (p ∷ ps)
    by true e rest = rw e refl
    by false e rest = rw e rest

pub lacks_is : (used : List Text) (ps : Given) → list_any (λ id. not (is_given id (rows ps))) used ≡ lacks used ps
lacks_is [] ps = refl
lacks_is (id ∷ used) ps = rw (given_is id ps, lacks_is used ps) refl

-- ---- a command with its places and options

unfoldable pub Ahead : List Rule → ℕ → List Text → Type 0
Ahead c p [] = arg_by_index c p ≡ None
Ahead c p (id ∷ rest) = (arg_by_index c p ≡ Some (single id None (Some p) true))
    × (arg_by_id c id ≡ Some (single id None (Some p) true)) × (min (p + 1) usize_max ≡ p + 1)
    × Differs id rest × Ahead c (p + 1) rest

abbrev pub Apart : List Text → List Text → Type 0
Apart left options = AllByRecursion (λ o. Differs o left) options

pub record Fits (s : Shape) (places options : List Text) : Type 0 where
  pub again : s.args_override_self ≡ false
  pub ahead : Ahead s.rules 1 places
  pub known : AllByRecursion (KnowsOption s.rules) options
  pub apart : Apart places options
  pub plain : AllByRecursion (λ a. a.defaults ≡ []) s.rules
  pub asks : (rs : List Row) → check_fault s rs false ≡ check_kinds false false (list_any (λ id. not (is_given id rs)) places)

pub apart_rest : (id : Text) (rest options : List Text) → Apart (id ∷ rest) options → Apart rest options
apart_rest id rest [] h = tt
apart_rest id rest (o ∷ options) h = (h.0.1, apart_rest id rest options h.1)

pub of_option : (P : Text → Type 0) (o : Text) (options : List Text) → AllByRecursion P options → IsAmong o options → P o
unfolding IsAmong
of_option P o [] h a = absurd a
of_option P o (x ∷ options) h (inl e) = subst P (sym e) h.0
of_option P o (x ∷ options) h (inr a) = of_option P o options h.1 a

-- ---- all faults from one place of the walk on

abbrev pub ends : Shape → Walk → Kinds
ends s w = or_else (settle_fault s.rules s.args_override_self w.held)
    (or_else (defaults_fault (settled s.rules w.held).rows s.rules) (check_fault s (finished s.rules w.held) false))

abbrev pub total : Shape → Walk → List Text → Kinds
total s w words = or_else (walk_fault s [] w words) (ends s (fold (walked s.rules []) w words))

pub total_parts : (s : Shape) (w : Walk) (word : Text) (rest : List Text) → total s w (word ∷ rest) ≡ []
    → (turn_fault s [] w word ≡ []) × (total s (walked s.rules [] w word) rest ≡ [])
unfolding walk_fault
total_parts s w word rest h =
    let (all, end) = or_else_parts (walk_fault s [] w (word ∷ rest)) _ h in
    let (turn, later) = or_else_parts (turn_fault s [] w word) _ all in
    (turn, or_else_free (walk_fault s [] (walked s.rules [] w word) rest) _ later end)

pub total_join : (s : Shape) (w : Walk) (word : Text) (rest : List Text) → turn_fault s [] w word ≡ [] → total s (walked s.rules [] w word) rest ≡ []
    → total s w (word ∷ rest) ≡ []
unfolding walk_fault
total_join s w word rest turn h =
    let (later, end) = or_else_parts (walk_fault s [] (walked s.rules [] w word) rest) _ h in
    or_else_free (walk_fault s [] w (word ∷ rest)) _ (or_else_free (turn_fault s [] w word) _ turn later) end
