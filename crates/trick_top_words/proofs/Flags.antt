-- Words that begin with a hyphen: options of a command, and those that `clap` refuses.
use Rattle.std.proofs.Common.{◌≡◌, ◌≢◌, ◌++◌, ◌∷◌, ◌==◌, ◌+◌, ◌<◌, ◌∙◌, [], ℕ, zero, suc, List, Bool, true, false, Option, Some, None, refl, sym, ap, subst, inl, inr, codes, length, slice_get, take, arith}
use Rattle.std.specs.List.{AllByRecursion, before_first, position_or_len}
use Rattle.std.specs.Option.{option_map_or}
use Rattle.std.specs.Prelude.{◌⊎◌, chars}
use Rattle.std.specs.Str.{IsUtf8, bytes_eq}
use Rattle.std.proofs.lemmas.Str.{IsUtf8-past_char, chars-encodes, encode_ascii}
use Rattle.std.proofs.lemmas.Bool.Decides.{Decides-eqb}
use Rattle.clap.specs.Lexer.{long_of, name_and_value, short_of}
use Rattle.clap.specs.Walk.{Held, Names, Rule, Text, arg_by_long, arg_by_short, subcommand_met}
use Rattle.clap.specs.declared.error.kind.ErrorKind.TheVariants as error
use Rattle.clap.specs.Faults.{bundle_fault, flag_word_fault, flags_fault, turn_fault, word_fault}
use Rattle.clap.specs.Simple.{Shape}
use Rattle.trick_top_words.specs.CommandLine.{Given, IsAllowed, IsAmong}
use Rattle.trick_top_words.specs.Plain.{is_bare}
use Rattle.trick_top_words.proofs.Turns.{Last, dashed_with, held, or_else_parts, stand, waiting_for}
use Rattle.trick_top_words.proofs.Lines.{of_option}

-- ---- a word that is refused

-- the word is refused wherever it stands, unless it is a command's name
abbrev pub IsStray : Shape → Names → Text → Type 0
IsStray s names w = (ps : Given) (q : Last) (p : ℕ) → subcommand_met names (waiting_for q) w ≡ None
    → turn_fault s names (stand ps q p) w ≢ []

stray_by : (s : Shape) (names : Names) (w : Text) → bytes_eq w (45 ∷ 45 ∷ []) ≡ false
    → ((again : Bool) (ps : Given) (q : Last) → flag_word_fault s.rules again (long_of w) w (held ps q) ≢ [])
    → IsStray s names w
stray_by s names w dashes fault ps q p none h =
    let word : word_fault s names false (waiting_for q) w (held ps q) ≡ flag_word_fault s.rules s.args_override_self (long_of w) w (held ps q) = rw (none, dashes) refl in
    fault s.args_override_self ps q (sym word ∙ (or_else_parts (word_fault s names false (waiting_for q) w (held ps q)) _ h).0)

-- ---- one hyphen

-- a text after a hyphen has a first character
first_char : (x : ℕ) (xs : Text) → IsUtf8 (45 ∷ x ∷ xs) → (c : ℕ) × (slice_get (chars (x ∷ xs)) 0 ≡ Some c)
first_char x xs text =
    by (IsUtf8-past_char (45 ∷ x ∷ xs) (x ∷ xs) 45 text (ap (λ (e : Text). e ++ (x ∷ xs)) (sym (encode_ascii 45 (omega arith)))))
  where
    by : IsUtf8 (x ∷ xs) → (c : ℕ) × (slice_get (chars (x ∷ xs)) 0 ≡ Some c)
    by ([], (all, is)) = let bad : [] ≡ x ∷ xs = is in cc bad
    by (d ∷ ds, (all, is)) = (d, ap (λ (l : List ℕ). slice_get l 0) (ap chars (sym is) ∙ chars-encodes (d ∷ ds) all))

-- flags of which the first names no option
flags_stop : (c : List Rule) (again : Bool) (n : ℕ) (flags : Text) (h : Held) (ch : ℕ) → 0 < n → slice_get (chars flags) 0 ≡ Some ch
    → arg_by_short c ch ≡ None → flags_fault c again n flags 0 h ≡ error.UnknownArgument ∷ []
unfolding flags_fault
flags_stop c again zero flags h ch some first none = absurd (omega (arith, some))
flags_stop c again (suc k) flags h ch some first none = rw (first, none) refl

short_fault : (c : List Rule) (again : Bool) (x : ℕ) (xs : Text) (ps : Given) (q : Last) → (x == 45) ≡ false
    → IsUtf8 (45 ∷ x ∷ xs) → ((ch : ℕ) → arg_by_short c ch ≡ None)
    → flag_word_fault c again (long_of (45 ∷ x ∷ xs)) (45 ∷ x ∷ xs) (held ps q) ≢ []
short_fault c again x xs ps q other text none f =
    let (ch, first) = first_char x xs text in
    let stop : bundle_fault c again (x ∷ xs) (held ps q) ≡ error.UnknownArgument ∷ [] = flags_stop c again (length (x ∷ xs)) (x ∷ xs) (held ps q) ch (omega arith) first (none ch) in
    let no_long : long_of (45 ∷ x ∷ xs) ≡ None = rw other refl in
    let is_short : short_of (45 ∷ x ∷ xs) ≡ Some (x ∷ xs) = rw other refl in
    let long = ap (λ (l : Option (Text × Option Text)). flag_word_fault c again l (45 ∷ x ∷ xs) (held ps q)) no_long in
    let short = ap (λ (l : Option Text). option_map_or (λ flags. bundle_fault c again flags (held ps q)) l []) is_short in
    cc (sym f ∙ long ∙ short ∙ stop)

-- ---- two hyphens

-- what stands before the first `=`
abbrev pub name_in : Text → Text
name_in t = before_first (λ c. c == 61) t

one_more : (n : ℕ) → 1 + n ≡ suc n
one_more n = omega arith

name_goes_on : (c : ℕ) (t : Text) → (c == 61) ≡ false → name_in (c ∷ t) ≡ c ∷ name_in t
name_goes_on c t e = rw e (ap (λ (k : ℕ). take k (c ∷ t)) (one_more (position_or_len (λ (x : ℕ). x == 61) t)))

-- a text is such a name, or goes on with `=` and a value
split : (t : Text) → (t ≡ name_in t) ⊎ ((v : Text) × (t ≡ name_in t ++ (codes "=" ++ v)))
split [] = inl refl
split (c ∷ t) = by (c == 61) refl (split t)
  where
    by : (b : Bool) → (c == 61) ≡ b → (t ≡ name_in t) ⊎ ((v : Text) × (t ≡ name_in t ++ (codes "=" ++ v)))
        → (c ∷ t ≡ name_in (c ∷ t)) ⊎ ((v : Text) × (c ∷ t ≡ name_in (c ∷ t) ++ (codes "=" ++ v)))
    by true e rest = inr (t, rw e (ap (λ (d : ℕ). d ∷ t) ((Decides-eqb c 61).0 e)))
    by false e (inl same) = inl (ap (λ (u : Text). c ∷ u) same ∙ sym (name_goes_on c t e))
    by false e (inr (v, same)) =
        inr (v, ap (λ (u : Text). c ∷ u) same ∙ ap (λ (u : Text). u ++ (codes "=" ++ v)) (sym (name_goes_on c t e)))

long_fault : (c : List Rule) (again : Bool) (w name : Text) (v : Option Text) (h : Held) → long_of w ≡ Some (name, v)
    → arg_by_long c name ≡ None → flag_word_fault c again (long_of w) w h ≢ []
long_fault c again w name v h is none f = cc (rw (is, none) at f)

-- ---- any word

-- the options of these rules are these, each with one long name, and none of them goes with nothing after `=`
pub record Knows (c : List Rule) (options : List Text) : Type 0 where
  pub long : (name : Text) → IsAmong name options ⊎ (arg_by_long c name ≡ None)
  pub short : (ch : ℕ) → arg_by_short c ch ≡ None
  pub bare : AllByRecursion (λ o. is_bare (dashed_with o []) ≡ true) options

-- a word that is allowed, or refused
abbrev pub IsMet : Shape → Names → List Text → Text → Type 0
IsMet s names options w = IsAllowed options w ⊎ IsStray s names w

module _ (s : Shape) (names : Names) (options : List Text) (knows : Knows s.rules options) where
  after_equals : (t v : Text) → is_bare (45 ∷ 45 ∷ t) ≡ false → IsAmong (name_in t) options → t ≡ name_in t ++ (codes "=" ++ v)
      → IsAllowed options (45 ∷ 45 ∷ t)
  after_equals t [] plain among same =
      let bare = of_option (λ o. is_bare (dashed_with o []) ≡ true) (name_in t) options knows.bare among in
      cc (sym plain ∙ ap (λ (u : Text). is_bare (45 ∷ 45 ∷ u)) same ∙ bare)
  after_equals t (y ∷ v) plain among same =
      inr (name_in t, among, inr (y ∷ v, (λ e. cc e), ap (λ (u : Text). 45 ∷ 45 ∷ u) same))

  two : (t : Text) → is_bare (45 ∷ 45 ∷ t) ≡ false → IsMet s names options (45 ∷ 45 ∷ t)
  two [] plain = cc plain
  two (x ∷ xs) plain = elim (knows.long (name_in (x ∷ xs))) [
    | inl among ↦ elim (split (x ∷ xs)) [
      | inl same ↦ inl (inr (name_in (x ∷ xs), among, inl (ap (λ (u : Text). 45 ∷ 45 ∷ u) same)))
      | inr (v, same) ↦ inl (after_equals (x ∷ xs) v plain among same)
    ]
    | inr none ↦ inr (stray_by s names (45 ∷ 45 ∷ x ∷ xs) refl (λ again ps q.
        long_fault s.rules again (45 ∷ 45 ∷ x ∷ xs) (name_in (x ∷ xs)) (name_and_value (x ∷ xs)).1 (held ps q) refl none))
  ]

  hyphen : (t : Text) → IsUtf8 (45 ∷ t) → is_bare (45 ∷ t) ≡ false → IsMet s names options (45 ∷ t)
  hyphen [] text plain = cc plain
  hyphen (x ∷ xs) text plain = by (x == 45) refl
    where
      by : (b : Bool) → (x == 45) ≡ b → IsMet s names options (45 ∷ x ∷ xs)
      by false e = inr (stray_by s names (45 ∷ x ∷ xs) (rw e refl) (λ again ps q. short_fault s.rules again x xs ps q e text knows.short))
      by true e =
          let is : 45 ∷ x ∷ xs ≡ 45 ∷ 45 ∷ xs = ap (λ (y : ℕ). 45 ∷ y ∷ xs) ((Decides-eqb x 45).0 e) in
          subst (IsMet s names options) (sym is) (two xs (ap is_bare (sym is) ∙ plain))

  -- a word that is plain text is allowed, or refused by `clap`
  pub met : (w : Text) → IsUtf8 w → is_bare w ≡ false → IsMet s names options w
  met [] text plain = inl (inl refl)
  met (x ∷ xs) text plain = by (x == 45) refl
    where
      by : (b : Bool) → (x == 45) ≡ b → IsMet s names options (x ∷ xs)
      by false e = inl (inl e)
      by true e =
          let is : x ∷ xs ≡ 45 ∷ xs = ap (λ (y : ℕ). y ∷ xs) ((Decides-eqb x 45).0 e) in
          subst (IsMet s names options) (sym is) (hyphen xs (subst IsUtf8 is text) (ap is_bare (sym is) ∙ plain))
