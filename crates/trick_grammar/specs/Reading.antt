-- Reading tokens from left to right by the one that comes next, up to the first that is refused.
use Rattle.std.specs.Prelude.{ℕ, zero, suc, ◌&&◌, List, [], ◌∷◌, ◌++◌, Option, Some, None, Result, Ok, Err, if◌then◌else◌}
use Rattle.trick_grammar.specs.Classes.{is_one_of}
use Rattle.trick_grammar.specs.Grammar.{Link, onward, last, Grammar, token, nothing, refuse, sequence, choice, repetition, chain, nearest, rule, hint, scope, after, again, alone, act, first_of}
use Rattle.trick_grammar.specs.StartsWith.{next_in, repeats}
use Rattle.trick_grammar.specs.declared.refusal.Refusal.{Refusal}
use Rattle.trick_grammar.specs.declared.refusal.Refusal.TheVariants.{Expected, NotInProfile, TooLong, TooDeep, BadHeader, BadLoop, BadName, BadTime}

-- a refusal: its reason, and the tokens from the refused one on, none where the text ends too early
pub record Refused (T : Type 0) : Type 0 where
  pub kind : Refusal
  pub rest : List T

-- what is read at the front of a list of tokens, and the tokens that follow it
abbrev pub Reading : Type 0 → Type 0 → Type 0
Reading T A = Result (A × List T) (Refused T)

abbrev pub refused : {T A : Type 0} → Refusal → List T → Reading T A
refused k ts = Err (record { kind = k; rest = ts })

-- reading goes on after what was read, and a refusal stays
infixl 10 ◌>>=◌
abbrev pub ◌>>=◌ : {T A B : Type 0} → Reading T A → (A × List T → Reading T B) → Reading T B
(Ok x) >>= f = f x
(Err e) >>= f = Err e

-- what was only not expected is refused for the hinted reason
abbrev pub hinted : Refusal → Refusal → Refusal
hinted k Expected = k
hinted k NotInProfile = NotInProfile
hinted k TooLong = TooLong
hinted k TooDeep = TooDeep
hinted k BadHeader = BadHeader
hinted k BadLoop = BadLoop
hinted k BadName = BadName
hinted k BadTime = BadTime

abbrev pub with_hint : {T A : Type 0} → Refusal → Reading T A → Reading T A
with_hint k (Ok p) = Ok p
with_hint k (Err e) = Err (record { kind = hinted k e.kind; rest = e.rest })

-- the items that were found, and after them what is read
abbrev pub prefixed : {T A : Type 0} → List A → Reading T (List A) → Reading T (List A)
prefixed found q = q >>= λ xs. Ok (found ++ xs.0, xs.1)

-- what a link adds to the links after it
abbrev pub linked : {T A B : Type 0} → Link A B → List T → (List T → Reading T (List A × Option B))
    → Reading T (List A × Option B)
linked (onward x) rest more = more rest >>= λ y. Ok ((x ∷ y.0.0, y.0.1), y.1)
linked (last y) rest more = Ok (([], Some y), rest)

module _ {C T : Type 0} (number : C → ℕ) (class : T → C) where
  -- one token of these classes
  abbrev pub read_token : List C → List T → Reading T T
  read_token cs [] = refused Expected []
  read_token cs (t ∷ ts) = if is_one_of number (class t) cs then Ok (t, ts) else refused Expected (t ∷ ts)

  -- items for as long as one begins, n at most
  abbrev pub read_items : {A : Type 0} → (List T → Reading T A) → List C → ℕ → List T → Reading T (List A)
  read_items item cs zero ts = if next_in number class cs ts then refused TooLong ts else Ok ([], ts)
  read_items item cs (suc n) ts = if next_in number class cs ts
      then (item ts >>= λ x. read_items item cs n x.1 >>= λ xs. Ok (x.0 ∷ xs.0, xs.1)) else Ok ([], ts)

  -- links for as long as one begins, up to the last; there are no more of them than tokens, so the
  -- first list, which counts them, is never too short
  abbrev pub read_links : {A B : Type 0} → (List T → Reading T (Link A B)) → List C → List T → List T
      → Reading T (List A × Option B)
  read_links link cs [] ts = Ok (([], None), ts)
  read_links link cs (u ∷ us) ts = if next_in number class cs ts
      then (link ts >>= λ x. linked x.0 x.1 (λ rest. read_links link cs us rest)) else Ok (([], None), ts)

  -- one token of these classes that repeats the innermost name in scope
  abbrev pub read_again : (T → List ℕ) → List C → List T → List T → Reading T T
  read_again key cs e [] = refused Expected []
  read_again key cs e (t ∷ ts) = if is_one_of number (class t) cs && repeats number class key cs e t then Ok (t, ts)
      else refused Expected (t ∷ ts)

  -- why a token is refused where none is due: one of these classes for this reason, another one is
  -- not expected
  abbrev pub reason_at : Refusal → List C → List T → Refusal
  reason_at k cs ts = if next_in number class cs ts then k else Expected

  -- what reading the grammar gives on these tokens, with those in scope
  abbrev pub read : {A : Type 0} → List T → Grammar C T A → List T → Reading T A
  read e (token cs) ts = read_token cs ts
  read e (nothing y) ts = Ok (y, ts)
  read e (refuse k cs) ts = refused (reason_at k cs ts) ts
  read e (sequence a b) ts = read e a ts >>= λ x. read e b x.1 >>= λ y. Ok ((x.0, y.0), y.1)
  read e (choice a b) ts = if next_in number class (first_of a) ts then read e a ts else read e b ts
  read e (repetition n a) ts = read_items (read e a) (first_of a) n ts
  read e (chain a) ts = read_links (read e a) (first_of a) ts ts
  read e (nearest a) ts = read_links (read e a) (first_of a) ts ts
  read e (rule i a) ts = read e a ts
  read e (hint k a) ts = with_hint k (read e a ts)
  read e (scope k cs b) ts = with_hint k (read_token cs ts) >>= λ x. read (x.0 ∷ e) b x.1 >>= λ y. Ok ((x.0, y.0), y.1)
  read e (after k cs test b c) ts = with_hint k (read_token cs ts)
      >>= λ x. (if test e x.0 then read e b x.1 else read e c x.1) >>= λ y. Ok ((x.0, y.0), y.1)
  read e (again key cs) ts = read_again key cs e ts
  read e (alone a) ts = read [] a ts
  read e (act f a) ts = read e a ts >>= λ x. Ok (f x.0, x.1)
