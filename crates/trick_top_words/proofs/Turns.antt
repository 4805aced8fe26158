-- One word of a line, as `clap` takes it.
use Rattle.std.proofs.Common.{◌≡◌, ◌≢◌, ◌++◌, ◌∷◌, ◌+◌, ◌∙◌, [], ℕ, List, Bool, true, false, Option, Some, None, refl, sym, ap, ap₂, cond, codes, min}
use Rattle.std.proofs.Math.Bool.{and-false}
use Rattle.std.specs.Prelude.{⊤}
use Rattle.std.specs.Str.{bytes_eq}
use Rattle.std.proofs.lemmas.Slice.Eq.{bytes_eq-Decides}
use Rattle.clap.specs.Lexer.{long_of, short_of, usize_max}
use Rattle.clap.specs.Walk.{Held, Row, Rule, Step, Text, Walk, Waiting, after_step, arg_by_id, arg_by_index, arg_by_long, idle, is_pending, next, option, option_word, plain_word, positional, reacted, settled, subcommand_met, used, value, walked, word_met}
use Rattle.clap.specs.Kinds.{Kinds, or_else}
use Rattle.clap.specs.Faults.{settle_fault, step_fault, turn_fault, use_fault, word_fault}
use Rattle.clap.specs.Simple.{Shape}
use Rattle.clap.specs.declared.error.kind.ErrorKind.TheVariants as kind
use Rattle.trick_top_words.specs.CommandLine.{Given, has_hyphen, has_name}
use Rattle.trick_top_words.proofs.Rows.{rows, single, use_needs, use_new, used_new}

-- ---- where the walk stands

-- the argument that was met last: none, one with its value, or an option that waits for it
pub data Last : Type 0 where
  nothing : Last
  full : Text → Text → Last
  waits : Text → Last

abbrev pub pending_for : Last → Option (Text × List Text)
pending_for nothing = None
pending_for (full id v) = Some (id, v ∷ [])
pending_for (waits o) = Some (o, [])

abbrev pub waiting_for : Last → Waiting
waiting_for nothing = idle
waiting_for (full id v) = idle
waiting_for (waits o) = option o

abbrev pub held : Given → Last → Held
held ps q = record { rows = rows ps; pending = pending_for q; skip = 0 }

abbrev pub stand : Given → Last → ℕ → Walk
stand ps q p = record { held = held ps q; waiting = waiting_for q; position = p; is_trailing = false; stopped = None }

-- all that was given so far
abbrev pub so_far : Given → Last → Given
so_far ps nothing = ps
so_far ps (full id v) = ps ++ (id, v) ∷ []
so_far ps (waits o) = ps

abbrev pub IsReady : Given → Last → Type 0
IsReady ps nothing = ⊤
IsReady ps (full id v) = has_name id ps ≡ false
IsReady ps (waits o) = ⊥

-- the rules have an argument of this name, with one value
abbrev pub Knows : List Rule → Text → Type 0
Knows c id = (long : Option Text) × (index : Option ℕ) × (required : Bool) × (arg_by_id c id ≡ Some (single id long index required))

abbrev pub KnowsLast : List Rule → Last → Type 0
KnowsLast c nothing = ⊤
KnowsLast c (full id v) = Knows c id
KnowsLast c (waits o) = Knows c o

pub settle_needs : (c : List Rule) (ps : Given) (q : Last) → KnowsLast c q → settle_fault c false (held ps q) ≡ [] → IsReady ps q
settle_needs c ps nothing k h = tt
settle_needs c ps (full id v) k h = use_needs id k.0 k.1 k.2 v ps (rw k.3 at h)
settle_needs c ps (waits o) k h = cc (rw k.3 at h)

pub settle_free : (c : List Rule) (ps : Given) (q : Last) → KnowsLast c q → IsReady ps q → settle_fault c false (held ps q) ≡ []
settle_free c ps nothing k h = refl
settle_free c ps (full id v) k h = rw k.3 (use_new id k.0 k.1 k.2 v ps h)
settle_free c ps (waits o) k h = absurd h

pub settle_rows : (c : List Rule) (ps : Given) (q : Last) → KnowsLast c q → IsReady ps q → settled c (held ps q) ≡ held (so_far ps q) nothing
settle_rows c ps nothing k h = refl
settle_rows c ps (full id v) k h =
    rw k.3 (ap (λ (rs : List Row). record { rows = rs; pending = None; skip = 0 }) (used_new id k.0 k.1 k.2 v ps h))
settle_rows c ps (waits o) k h = absurd h

pub or_else_parts : (a b : Kinds) → or_else a b ≡ [] → (a ≡ []) × (b ≡ [])
or_else_parts [] b h = (refl, h)
or_else_parts (k ∷ ks) b h = cc h

pub or_else_free : (a b : Kinds) → a ≡ [] → b ≡ [] → or_else a b ≡ []
or_else_free a b e f = rw (e, f) refl

pub or_else_nil : (a : Kinds) → or_else a [] ≡ a
or_else_nil [] = refl
or_else_nil (k ∷ ks) = refl

pub bytes_same : (t : Text) → bytes_eq t t ≡ true
bytes_same t = (bytes_eq-Decides t t).1 refl

-- ---- a word without a hyphen

pub no_dashes : (w : Text) → has_hyphen w ≡ false → bytes_eq w (45 ∷ 45 ∷ []) ≡ false
no_dashes [] e = refl
no_dashes (x ∷ xs) e = rw e refl

pub no_long : (w : Text) → has_hyphen w ≡ false → long_of w ≡ None
no_long [] e = refl
no_long (x ∷ xs) e = rw e refl

pub no_short : (w : Text) → has_hyphen w ≡ false → short_of w ≡ None
no_short [] e = refl
no_short (x ∷ xs) e = rw e refl

plain_met : (c : List Rule) (p : ℕ) (w : Text) (h : Held) → has_hyphen w ≡ false → word_met c [] false idle p w h ≡ (h, value)
plain_met c p w h e = rw (no_dashes w e, no_long w e, no_short w e) refl

plain_met_option : (c : List Rule) (o : Text) (p : ℕ) (w : Text) (h : Held) → has_hyphen w ≡ false
    → word_met c [] false (option o) p w h ≡ plain_word c (option o) w h
plain_met_option c o p w h e = rw (no_dashes w e, no_long w e, no_short w e) refl

plain_free : (s : Shape) (w : Text) (h : Held) → has_hyphen w ≡ false → word_fault s [] false idle w h ≡ []
plain_free s w h e = rw (no_dashes w e, no_long w e, no_short w e) refl

plain_free_option : (s : Shape) (o : Text) (w : Text) (h : Held) → has_hyphen w ≡ false → word_fault s [] false (option o) w h ≡ []
plain_free_option s o w h e = rw (no_dashes w e, no_long w e, no_short w e) refl

-- the word is a value of an option that waits
abbrev pub turn_by : Shape → ℕ → Kinds → Held × Step → Kinds
turn_by s p fault met = or_else fault (step_fault s p met.0 met.1)

abbrev walk_by : Shape → Walk → Text → Held × Step → Walk
walk_by s w word met = after_step s.rules word w met.0 met.1

pub value_turn : (s : Shape) (ps : Given) (o w : Text) (p : ℕ) → has_hyphen w ≡ false → Knows s.rules o
    → (turn_fault s [] (stand ps (waits o) p) w ≡ []) × (walked s.rules [] (stand ps (waits o) p) w ≡ stand ps (full o w) p)
unfolding walked
value_turn s ps o w p e k =
    let h = held ps (waits o) in
    let met = plain_met_option s.rules o p w h e in
    let fault = plain_free_option s o w h e in
    let count : option_word (arg_by_id s.rules o) o w h ≡ (held ps (full o w), idle) = rw (k.3, bytes_same o) refl in
    let after : plain_word s.rules (option o) w h ≡ (held ps (full o w), next idle) = ap (λ (r : Held × Waiting). (r.0, next r.1)) count in
    (ap₂ (turn_by s p) fault (met ∙ after), ap (walk_by s (stand ps (waits o) p) w) (met ∙ after))

-- the word fills the next place
pub place_turn : (s : Shape) (ps : Given) (q : Last) (id w : Text) (p : ℕ) → s.args_override_self ≡ false → waiting_for q ≡ idle
    → has_hyphen w ≡ false → arg_by_index s.rules p ≡ Some (single id None (Some p) true) → min (p + 1) usize_max ≡ p + 1
    → (turn_fault s [] (stand ps q p) w ≡ settle_fault s.rules false (held ps q))
    × (settled s.rules (held ps q) ≡ held (so_far ps q) nothing → walked s.rules [] (stand ps q p) w ≡ stand (so_far ps q) (full id w) (p + 1))
unfolding walked
place_turn s ps q id w p again still e at more =
    let h = held ps q in
    let met = ap (λ (x : Waiting). word_met s.rules [] false x p w h) still ∙ plain_met s.rules p w h e in
    let fault = ap (λ (x : Waiting). word_fault s [] false x w h) still ∙ plain_free s w h e in (
      ap₂ (turn_by s p) fault met ∙ rw (at, again, and-false (is_pending (single id None (Some p) true) (pending_for q))) refl,
      λ done. ap (walk_by s (stand ps q p) w) met ∙ rw (at, and-false (is_pending (single id None (Some p) true) (pending_for q)))
          (ap₂ (λ (t : Held) (n : ℕ). record { held = record t { pending = Some (id, w ∷ []) }; waiting = idle; position = n; is_trailing = false; stopped = None }) done more),
    )

-- no place is left
pub stray_turn : (s : Shape) (ps : Given) (q : Last) (w : Text) (p : ℕ) → waiting_for q ≡ idle
    → has_hyphen w ≡ false → arg_by_index s.rules p ≡ None → turn_fault s [] (stand ps q p) w ≢ []
stray_turn s ps q w p still e at h =
    let k = held ps q in
    let met = ap (λ (x : Waiting). word_met s.rules [] false x p w k) still ∙ plain_met s.rules p w k e in
    let fault = ap (λ (x : Waiting). word_fault s [] false x w k) still ∙ plain_free s w k e in
    stray s.is_leaf (sym (ap₂ (turn_by s p) fault met ∙ rw at refl) ∙ h)
  where
    stray : (b : Bool) → cond b (kind.UnknownArgument ∷ []) (kind.UnknownArgument ∷ kind.InvalidSubcommand ∷ []) ≢ []
    stray true e = cc e
    stray false e = cc e

-- ---- the word of an option

abbrev pub dashed : Text → Text
dashed o = codes "--" ++ o

abbrev pub dashed_with : Text → Text → Text
dashed_with o v = codes "--" ++ (o ++ (codes "=" ++ v))

-- what the rules and the lexer make of an option
pub record KnowsOption (c : List Rule) (o : Text) : Type 0 where
  pub alone : long_of (dashed o) ≡ Some (o, None)
  pub with_value : (v : Text) → long_of (dashed_with o v) ≡ Some (o, Some v)
  pub word : bytes_eq (dashed o) (45 ∷ 45 ∷ []) ≡ false
  pub word_with : (v : Text) → bytes_eq (dashed_with o v) (45 ∷ 45 ∷ []) ≡ false
  pub by_long : arg_by_long c o ≡ Some (single o (Some o) None false)
  pub by_id : arg_by_id c o ≡ Some (single o (Some o) None false)

-- an option word, whatever waits
pub met_none : (w : Waiting) (word : Text) → subcommand_met [] w word ≡ None
met_none idle word = refl
met_none (option o) word = refl
met_none positional word = refl

pub open_turn : (s : Shape) (ps : Given) (q : Last) (o : Text) (p : ℕ) → s.args_override_self ≡ false → KnowsOption s.rules o
    → (turn_fault s [] (stand ps q p) (dashed o) ≡ settle_fault s.rules false (held ps q))
    × (settled s.rules (held ps q) ≡ held (so_far ps q) nothing → walked s.rules [] (stand ps q p) (dashed o) ≡ stand (so_far ps q) (waits o) p)
unfolding walked
open_turn s ps q o p again k =
    let h = held ps q in
    let none = met_none (waiting_for q) (dashed o) in
    let met : word_met s.rules [] false (waiting_for q) p (dashed o) h ≡ (record (settled s.rules h) { pending = Some (o, []) }, next (option o)) =
    rw (none, k.word, k.alone, k.by_long) refl in
    let fault : word_fault s [] false (waiting_for q) (dashed o) h ≡ settle_fault s.rules false h = rw (none, k.word, k.alone, k.by_long, again) refl in (
      ap₂ (turn_by s p) fault met ∙ or_else_nil (settle_fault s.rules false h),
      λ done. ap (walk_by s (stand ps q p) (dashed o)) met
          ∙ ap (λ (t : Held). record { held = record t { pending = Some (o, []) }; waiting = option o; position = p; is_trailing = false; stopped = None }) done,
    )

pub with_turn : (s : Shape) (ps : Given) (q : Last) (o v : Text) (p : ℕ) → s.args_override_self ≡ false → KnowsOption s.rules o
    → (turn_fault s [] (stand ps q p) (dashed_with o v) ≡ or_else (settle_fault s.rules false (held ps q))
    (use_fault false (single o (Some o) None false) (v ∷ []) (settled s.rules (held ps q)).rows))
    × (settled s.rules (held ps q) ≡ held (so_far ps q) nothing → has_name o (so_far ps q) ≡ false
    → walked s.rules [] (stand ps q p) (dashed_with o v) ≡ stand (so_far ps q ++ (o, v) ∷ []) nothing p)
unfolding walked
with_turn s ps q o v p again k =
    let h = held ps q in
    let a = single o (Some o) None false in
    let none = met_none (waiting_for q) (dashed_with o v) in
    let met : word_met s.rules [] false (waiting_for q) p (dashed_with o v) h ≡ (reacted s.rules a (v ∷ []) h, next idle) =
    rw (none, k.word_with v, k.with_value v, k.by_long) refl in
    let fault : word_fault s [] false (waiting_for q) (dashed_with o v) h ≡ or_else (settle_fault s.rules false h) (use_fault false a (v ∷ []) (settled s.rules h).rows) =
    rw (none, k.word_with v, k.with_value v, k.by_long, again) refl in (
      ap₂ (turn_by s p) fault met ∙ or_else_nil _,
      λ done new. ap (walk_by s (stand ps q p) (dashed_with o v)) met
          ∙ ap (λ (t : Held). record { held = record t { rows = used a (v ∷ []) t.rows; pending = None }; waiting = idle; position = p; is_trailing = false; stopped = None }) done
          ∙ ap (λ (rs : List Row). record { held = record { rows = rs; pending = None; skip = 0 }; waiting = idle; position = p; is_trailing = false; stopped = None }) (used_new o (Some o) None false v (so_far ps q) new),
    )
