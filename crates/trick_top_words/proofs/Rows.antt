-- What `clap` holds for a simple command whose arguments each take one value.
use Rattle.std.proofs.Common.{◌≡◌, ◌++◌, ◌∷◌, ◌||◌, ◌∙◌, [], ℕ, List, Bool, true, false, Option, Some, None, map, refl, ap, append-nil, cond}
use Rattle.std.proofs.Math.Bool.{or-true}
use Rattle.std.proofs.lemmas.Bool.{or_parts}
use Rattle.std.specs.List.{AllByRecursion}
use Rattle.std.specs.Prelude.{fold}
use Rattle.std.specs.Str.{bytes_eq}
use Rattle.clap.specs.Walk.{Row, Rule, Text, at_row, has_row, more_values, reading_by, used, with_default, with_values, without}
use Rattle.clap.specs.Faults.{defaults_fault, use_fault}
use Rattle.clap.specs.declared.builder.action.ArgAction.TheVariants.{Set}
use Rattle.clap.specs.declared.builder.value_parser.ValueParser.TheVariants as vp
use Rattle.clap.specs.declared.parser.matches.ValueSource.TheVariants.{CommandLine}
use Rattle.trick_top_words.specs.CommandLine.{Given, has_name}

-- ---- an argument with one value

abbrev pub single : Text → Option Text → Option ℕ → Bool → Rule
single id long index required = record {
  id = id;
  long = long;
  aliases = [];
  short = None;
  short_aliases = [];
  index = index;
  action = Some Set;
  range = Some (record { start_inclusive = 1; end_inclusive = 1 });
  value_names = 0;
  defaults = [];
  missing = [];
  trailing_var_arg = false;
  parser = Some vp.String;
  ignore_case = false;
  required = required;
  is_simple = true;
  is_free = true;
}

-- the row of a name with its value
abbrev pub row : Text × Text → Row
row p = record {
  id = p.0;
  values = p.1 ∷ [];
  count = None;
  source = Some CommandLine;
  reading = reading_by (single [] None None false);
}

abbrev pub rows : Given → List Row
rows = map row

pub has_row_is : (id : Text) (ps : Given) → has_row id (rows ps) ≡ has_name id ps
has_row_is id [] = refl
has_row_is id (p ∷ ps) = ap (λ (b : Bool). bytes_eq p.0 id || b) (has_row_is id ps)

at_row_new : (id : Text) (change : Row → List Row) (missing : List Row) (ps : Given) → has_name id ps ≡ false
    → at_row id change missing (rows ps) ≡ rows ps ++ missing
at_row_new id change missing [] h = refl
at_row_new id change missing (p ∷ ps) h =
    let (here, rest) = or_parts (bytes_eq p.0 id) (has_name id ps) h in
    rw here (ap (λ (rs : List Row). row p ∷ rs) (at_row_new id change missing ps rest))

rows_last : (ps : Given) (p : Text × Text) → rows ps ++ row p ∷ [] ≡ rows (ps ++ p ∷ [])
rows_last [] p = refl
rows_last (q ∷ ps) p = ap (λ (rs : List Row). row q ∷ rs) (rows_last ps p)

-- a use of an argument that was not used before
pub used_new : (id : Text) (long : Option Text) (index : Option ℕ) (required : Bool) (v : Text) (ps : Given) → has_name id ps ≡ false
    → used (single id long index required) (v ∷ []) (rows ps) ≡ rows (ps ++ (id, v) ∷ [])
used_new id long index required v ps h =
    let gone : without id (rows ps) ≡ rows ps = at_row_new id (λ _. []) [] ps h ∙ append-nil (rows ps) in
    ap (with_values id (reading_by (single [] None None false)) CommandLine (v ∷ [])) gone ∙ at_row_new id (more_values CommandLine (v ∷ [])) (row (id, v) ∷ []) ps h ∙ rows_last ps (id, v)

pub use_new : (id : Text) (long : Option Text) (index : Option ℕ) (required : Bool) (v : Text) (ps : Given) → has_name id ps ≡ false
    → use_fault false (single id long index required) (v ∷ []) (rows ps) ≡ []
use_new id long index required v ps h = rw (has_row_is id ps, h) refl

pub use_needs : (id : Text) (long : Option Text) (index : Option ℕ) (required : Bool) (v : Text) (ps : Given)
    → use_fault false (single id long index required) (v ∷ []) (rows ps) ≡ [] → has_name id ps ≡ false
use_needs id long index required v ps h = by (has_name id ps) refl
  where
    by : (b : Bool) → has_name id ps ≡ b → has_name id ps ≡ false
    by false e = e
    by true e = cc (rw (has_row_is id ps, e) at h)

-- ---- no defaults

cond_same : {X : Type 0} (b : Bool) (x : X) → cond b x x ≡ x
cond_same true x = refl
cond_same false x = refl

pub no_default_fault : (rs : List Row) (c : List Rule) → AllByRecursion (λ a. a.defaults ≡ []) c → defaults_fault rs c ≡ []
unfolding defaults_fault
no_default_fault rs [] h = refl
no_default_fault rs (a ∷ c) h =
    let stays : with_default rs a ≡ rs = rw h.0 (cond_same (has_row a.id rs) rs) in
    rw (h.0, or-true (has_row a.id rs), cond_same (has_row a.id rs) rs) (no_default_fault rs c h.1)

pub no_defaults : (rs : List Row) (c : List Rule) → AllByRecursion (λ a. a.defaults ≡ []) c → fold with_default rs c ≡ rs
no_defaults rs [] h = refl
no_defaults rs (a ∷ c) h =
    let stays : with_default rs a ≡ rs = rw h.0 (cond_same (has_row a.id rs) rs) in
    ap (λ (q : List Row). fold with_default q c) stays ∙ no_defaults rs c h.1
