-- Grammars with larger limits: which refusals come of a limit.
use Rattle.std.specs.Prelude.{◌≡◌, ℕ, ◌≤◌, ◌<◌, Bool, true, false, ◌&&◌, not, List, [], ◌∷◌, ◌++◌, length, Option, Result, Ok, Err}
use Rattle.trick_grammar.specs.Classes.{is_one_of}
use Rattle.trick_grammar.specs.Grammar.{Outline, Link, Grammar, token, nothing, refuse, sequence, choice, repetition, chain, nearest, rule, hint, scope, after, again, alone, act, is_nullable, first_of}
use Rattle.trick_grammar.specs.Reading.{Reading, Refused, refused, read}
use Rattle.trick_grammar.specs.StartsWith.{next_in}
use Rattle.trick_grammar.specs.Text.{GoesOn, read_all}
use Rattle.trick_grammar.specs.declared.refusal.Refusal.{Refusal}
use Rattle.trick_grammar.specs.declared.refusal.Refusal.TheVariants.{Expected, NotInProfile, TooLong, TooDeep, BadHeader, BadLoop, BadName, BadTime}

-- whether the reason is a limit of lists or of nesting
abbrev pub is_limit : Refusal → Bool
is_limit Expected = false
is_limit NotInProfile = false
is_limit TooLong = true
is_limit TooDeep = true
is_limit BadHeader = false
is_limit BadLoop = false
is_limit BadName = false
is_limit BadTime = false

-- whether no limit stands in the grammar
abbrev pub is_unlimited : {C T A : Type 0} → Grammar C T A → Bool
is_unlimited (token cs) = true
is_unlimited (nothing x) = true
is_unlimited (refuse k cs) = not (is_limit k)
is_unlimited (sequence a b) = is_unlimited a && is_unlimited b
is_unlimited (choice a b) = is_unlimited a && is_unlimited b
is_unlimited (repetition n a) = false
is_unlimited (chain a) = is_unlimited a
is_unlimited (nearest a) = is_unlimited a
is_unlimited (rule i a) = is_unlimited a
is_unlimited (hint k a) = not (is_limit k) && is_unlimited a
is_unlimited (scope k cs b) = not (is_limit k) && is_unlimited b
is_unlimited (after k cs test b c) = not (is_limit k) && (is_unlimited b && is_unlimited c)
is_unlimited (again key cs) = true
is_unlimited (alone a) = is_unlimited a
is_unlimited (act f a) = is_unlimited a

-- n tokens are left at most
abbrev pub Leaves : {T A : Type 0} → ℕ → Reading T A → Type 0
Leaves n (Ok p) = length p.1 ≤ n
Leaves n (Err z) = length z.rest ≤ n

module _ {C T : Type 0} (number : C → ℕ) (class : T → C) where
  -- each token with which the grammar begins is taken
  pub record Takes {A : Type 0} (h : Grammar C T A) : Type 0 where
    pub takes : (e : List T) (t : T) (us : List T) → is_one_of number (class t) (first_of h) ≡ true
        → Leaves (length us) (read number class e h (t ∷ us))

  -- each token with which the grammar begins is taken, and any other one is not expected
  pub record Opens {A : Type 0} (h : Grammar C T A) : Type 0 where
    pub takes : Takes h
    pub others : (e ts : List T) → next_in number class (first_of h) ts ≡ false
        → read number class e h ts ≡ refused Expected ts

  -- The second is the first with larger limits: each list may be longer, and where the first nests
  -- no deeper the second does.
  pub data Larger : (A : Type 0) → Grammar C T A → Grammar C T A → Type 1 where
    same : {A : Type 0} {g : Grammar C T A} → is_unlimited g ≡ true → Larger _ g g
    deeper : {A : Type 0} (k : Refusal) (cs : List C) {h : Grammar C T A} → is_limit k ≡ true → first_of h ≡ cs
        → is_nullable h ≡ false → Opens h → Larger _ (refuse k cs) h
    in_sequence : {A B : Type 0} {a c : Grammar C T A} {b d : Grammar C T B} → Larger _ a c → Larger _ b d
        → Larger _ (sequence a b) (sequence c d)
    in_choice : {A : Type 0} {a b c d : Grammar C T A} → Larger _ a c → Larger _ b d
        → Larger _ (choice a b) (choice c d)
    longer : {A : Type 0} {m n : ℕ} {a c : Grammar C T A} → m < n → Larger _ a c → Takes c
        → Larger _ (repetition m a) (repetition n c)
    in_chain : {A B : Type 0} {a c : Grammar C T (Link A B)} → Larger _ a c → Larger _ (chain a) (chain c)
    in_nearest : {A B : Type 0} {a c : Grammar C T (Link A B)} → Larger _ a c → Larger _ (nearest a) (nearest c)
    in_rule : {A : Type 0} {i : Outline C} {a c : Grammar C T A} → Larger _ a c → Larger _ (rule i a) (rule i c)
    in_hint : {A : Type 0} {k : Refusal} {a c : Grammar C T A} → is_limit k ≡ false → Larger _ a c
        → Larger _ (hint k a) (hint k c)
    in_scope : {B : Type 0} {k : Refusal} {cs : List C} {b d : Grammar C T B} → is_limit k ≡ false → Larger _ b d
        → Larger _ (scope k cs b) (scope k cs d)
    behind : {B : Type 0} {k : Refusal} {cs : List C} {test : List T → T → Bool} {b c d f : Grammar C T B}
        → is_limit k ≡ false → Larger _ b d → Larger _ c f → Larger _ (after k cs test b c) (after k cs test d f)
    in_alone : {A : Type 0} {a c : Grammar C T A} → Larger _ a c → Larger _ (alone a) (alone c)
    in_act : {A B : Type 0} {f : A → B} {a c : Grammar C T A} → Larger _ a c → Larger _ (act f a) (act f c)

  -- What a refusal says of larger limits: where its reason is a limit, some text goes on with the
  -- token, and else it stays the same.
  abbrev pub Tells : {A : Type 0} → Grammar C T A → List T → Result A (Refused T) → Type 0
  Tells h ts (Ok x) = read_all number class h ts ≡ Ok x
  Tells h ts (Err z) = (is_limit z.kind ≡ false → read_all number class h ts ≡ Err z)
      × (is_limit z.kind ≡ true → (front : List T) × (t : T) × (more : List T) × (z.rest ≡ t ∷ more)
      × (ts ≡ front ++ t ∷ more) × GoesOn number class h (front ++ t ∷ []))
