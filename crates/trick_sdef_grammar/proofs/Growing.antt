-- What reading with larger limits says, where an item may begin with a token that is not in the profile:
-- steps for one grammar after the other.
use Rattle.std.proofs.Common.{◌≡◌, ◌⊎◌, ℕ, zero, suc, ◌<◌, Bool, true, false, cond, List, [], ◌∷◌, ◌++◌, length, Option, Some, None, Ok, Err, refl, sym, ap, ◌∙◌, inl, inr, subst, arith}
use Rattle.std.proofs.lemmas.List.{append-nil}
use Rattle.trick_body_symbols.specs.Expressions.{Of}
use Rattle.trick_body_symbols.specs.Symbols.{number_of, Token}
use Rattle.trick_body_symbols.specs.declared.symbol.Symbol.{Symbol}
use Rattle.trick_grammar.proofs.Larger.{Grown, grown}
use Rattle.trick_grammar.proofs.Short.{leaves, leaves_then}
use Rattle.trick_grammar.proofs.Tests.{one_of-append, subset_one_of}
use Rattle.trick_grammar.specs.Classes.{is_one_of, is_subset}
use Rattle.trick_grammar.specs.Gives.{class_of}
use Rattle.trick_grammar.specs.Grammar.{Outline, refuse, sequence, choice, repetition, rule, act, one, optional, first_of}
use Rattle.trick_grammar.specs.Larger.{is_limit, Leaves, Takes, Larger, same}
use Rattle.trick_grammar.specs.Reading.{Reading, refused, ◌>>=◌, read_token, read_items, read}
use Rattle.trick_grammar.specs.Separated.{behind_separator, behind_item}
use Rattle.trick_grammar.specs.StartsWith.{next_in}
use Rattle.trick_grammar.specs.declared.refusal.Refusal.TheVariants.{Expected, NotInProfile, TooLong}
use Rattle.trick_sdef_grammar.specs.Larger.{outside}

-- the same, or beyond the token at which a limit refuses, or that token is not in the profile
abbrev pub Growing : {A : Type 0} → Reading Token A → Reading Token A → Type 0
Growing (Ok p) q = q ≡ Ok p
Growing (Err z) q = Grown (Err z) q ⊎ ((is_limit z.kind ≡ true) × (next_in number_of class_of outside z.rest ≡ true) × (q ≡ refused NotInProfile z.rest))

plain : {A : Type 0} (q r : Reading Token A) → Grown q r → Growing q r
plain (Ok p) r h = h
plain (Err z) r h = inl h

growing_then : {A B : Type 0} (q r : Reading Token A) (f g : A × List Token → Reading Token B) → Growing q r → ((p : A × List Token) → Growing (f p) (g p)) → ((p : A × List Token) → Leaves (length p.1) (g p)) → Growing (q >>= f) (r >>= g)
growing_then (Ok p) r f g h each short = subst (λ w. Growing (f p) (w >>= g)) (sym h) (each p)
growing_then (Err z) r f g (inl (inl h)) each short = inl (inl (h.0, ap (λ w. w >>= g) h.1))
growing_then (Err z) r f g (inl (inr h)) each short = inl (inr (h.0, (h.1.0, h.1.1, leaves_then h.1.0 r g h.1.2 short)))
growing_then (Err z) r f g (inr h) each short = inr (h.0, h.1, ap (λ w. w >>= g) h.2)

-- values made by two functions that agree
growing_as : {A B : Type 0} (f g : A → B) → ((x : A) → f x ≡ g x) → (q r : Reading Token A) → Growing q r → Growing (q >>= λ x. Ok (f x.0, x.1)) (r >>= λ x. Ok (g x.0, x.1))
growing_as {A} {B} f g agree q r h = growing_then q r (λ x. Ok (f x.0, x.1)) (λ x. Ok (g x.0, x.1)) h (λ p. ap (λ (y : B). Ok (y, p.1)) (sym (agree p.0))) (λ p. omega arith)

growing_map : {A B : Type 0} (f : A → B) (q r : Reading Token A) → Growing q r → Growing (q >>= λ x. Ok (f x.0, x.1)) (r >>= λ x. Ok (f x.0, x.1))
growing_map f q r h = growing_as f f (λ x. refl) q r h

growing_either : {A : Type 0} (b c : Bool) (p q r s : Reading Token A) → b ≡ c → (b ≡ true → Growing p r) → (b ≡ false → Growing q s) → Growing (cond b p q) (cond c r s)
growing_either true c p q r s e on off = subst (λ (d : Bool). Growing p (cond d r s)) e (on refl)
growing_either false c p q r s e on off = subst (λ (d : Bool). Growing q (cond d r s)) e (off refl)

short_either : {A : Type 0} (n : ℕ) (b : Bool) (q r : Reading Token A) → Leaves n q → Leaves n r → Leaves n (cond b q r)
short_either n true q r hq hr = hq
short_either n false q r hq hr = hr

-- the second grammar is the first with larger limits
pub record Grows {A : Type 0} (g h : Of A) : Type 0 where
  pub reads : (e ts : List Token) → Growing (read number_of class_of e g ts) (read number_of class_of e h ts)

pub grows_larger : {A : Type 0} {g h : Of A} → Larger number_of class_of A g h → Grows g h
grows_larger {g = g} {h = h} p = record { reads = λ e ts. plain (read number_of class_of e g ts) (read number_of class_of e h ts) (grown number_of class_of e p ts) }

pub grows_sequence : {A B : Type 0} (a c : Of A) (b d : Of B) → Grows a c → Grows b d → Grows (sequence a b) (sequence c d)
grows_sequence a c b d p q = record { reads = λ e ts. growing_then (read number_of class_of e a ts) (read number_of class_of e c ts) _ _ (p.reads e ts) (λ x. growing_map (λ y. (x.0, y)) (read number_of class_of e b x.1) (read number_of class_of e d x.1) (q.reads e x.1)) (λ x. leaves_then (length x.1) (read number_of class_of e d x.1) _ (leaves number_of class_of e d x.1) (λ y. omega arith)) }

pub grows_choice : {A : Type 0} (a c b d : Of A) → first_of a ≡ first_of c → Grows a c → Grows b d → Grows (choice a b) (choice c d)
grows_choice a c b d is p q = record { reads = λ e ts. growing_either (next_in number_of class_of (first_of a) ts) (next_in number_of class_of (first_of c) ts) (read number_of class_of e a ts) (read number_of class_of e b ts) (read number_of class_of e c ts) (read number_of class_of e d ts) (ap (λ ks. next_in number_of class_of ks ts) is) (λ on. p.reads e ts) (λ off. q.reads e ts) }

pub grows_rule : {A : Type 0} (i j : Outline Symbol) (a c : Of A) → Grows a c → Grows (rule i a) (rule j c)
grows_rule i j a c p = record { reads = λ e ts. p.reads e ts }

pub grows_act : {A B : Type 0} (f g : A → B) (a c : Of A) → ((x : A) → f x ≡ g x) → Grows a c → Grows (act f a) (act g c)
grows_act f g a c agree p = record { reads = λ e ts. growing_as f g agree (read number_of class_of e a ts) (read number_of class_of e c ts) (p.reads e ts) }

-- ---- items that begin with a token that is taken, or that is not in the profile

abbrev Told : {A : Type 0} → Token → List Token → Reading Token A → Type 0
Told t us q = Leaves (length us) q ⊎ ((is_one_of number_of t.class outside ≡ true) × (q ≡ refused NotInProfile (t ∷ us)))

pub record TakesBut {A : Type 0} (h : Of A) : Type 0 where
  pub takes : (e : List Token) (t : Token) (us : List Token) → is_one_of number_of t.class (first_of h) ≡ true → Told t us (read number_of class_of e h (t ∷ us))

pub but_takes : {A : Type 0} {h : Of A} → Takes number_of class_of h → TakesBut h
but_takes p = record { takes = λ e t us on. inl (p.takes e t us on) }

pub but_rule : {A : Type 0} (i : Outline Symbol) (a : Of A) → is_subset number_of i.first (first_of a) ≡ true → TakesBut a → TakesBut (rule i a)
but_rule i a sub ta = record { takes = λ e t us on. ta.takes e t us (subset_one_of number_of i.first (first_of a) t.class sub on) }

told_then : {A B : Type 0} (t : Token) (us : List Token) (q : Reading Token A) (f : A × List Token → Reading Token B) → ((p : A × List Token) → Leaves (length p.1) (f p)) → Told t us q → Told t us (q >>= f)
told_then t us q f short (inl le) = inl (leaves_then (length us) q f le short)
told_then t us q f short (inr o) = inr (o.0, ap (λ w. w >>= f) o.1)

pub but_act : {A B : Type 0} (f : A → B) (a : Of A) → TakesBut a → TakesBut (act f a)
but_act f a ta = record { takes = λ e t us on. told_then t us (read number_of class_of e a (t ∷ us)) _ (λ p. omega arith) (ta.takes e t us on) }

-- one of these is not in the profile
pub but_refuse : {A : Type 0} (cs : List Symbol) (b : Of A) → is_subset number_of cs outside ≡ true → TakesBut b → TakesBut (choice (refuse NotInProfile cs) b)
but_refuse {A} cs b sub tb = record { takes = λ e t us on. go e t us on (is_one_of number_of t.class cs) refl }
  where
    either : List Token → Token → List Token → Bool → Reading Token A
    either e t us z = cond z (refused (cond z NotInProfile Expected) (t ∷ us)) (read number_of class_of e b (t ∷ us))

    go : (e : List Token) (t : Token) (us : List Token) → is_one_of number_of t.class (cs ++ first_of b) ≡ true → (z : Bool) → is_one_of number_of t.class cs ≡ z → Told t us (either e t us (is_one_of number_of t.class cs))
    go e t us on true i = subst (λ z. Told t us (either e t us z)) (sym i) (inr (subset_one_of number_of cs outside t.class sub i, refl))
    go e t us on false i = subst (λ z. Told t us (either e t us z)) (sym i) (tb.takes e t us (rw i at (sym (one_of-append number_of t.class cs (first_of b)) ∙ on)))

-- a part that may be left out, and one after it
pub but_optional : {X Y B : Type 0} (f : Option X → Y) (x : Of X) (b : Of B) → TakesBut x → TakesBut b → TakesBut (sequence (act f (optional x)) b)
but_optional {X} {Y} {B} f x b tx tb = record { takes = λ e t us on. go e t us on (is_one_of number_of t.class (first_of x)) refl }
  where
    behind : List Token → Y × List Token → Reading Token (Y × B)
    behind e p = read number_of class_of e b p.1 >>= λ y. Ok ((p.0, y.0), y.1)

    behind_short : (e : List Token) (p : Y × List Token) → Leaves (length p.1) (behind e p)
    behind_short e p = leaves_then (length p.1) (read number_of class_of e b p.1) _ (leaves number_of class_of e b p.1) (λ y. omega arith)

    some : Reading Token X → Reading Token (Option X)
    some q = q >>= λ w. Ok (Some w.0, w.1)

    made : Reading Token (Option X) → Reading Token Y
    made q = q >>= λ w. Ok (f w.0, w.1)

    whole : List Token → List Token → Bool → Reading Token (Y × B)
    whole e ts z = made (cond z (some (read number_of class_of e x ts)) (Ok (None, ts))) >>= behind e

    go : (e : List Token) (t : Token) (us : List Token) → is_one_of number_of t.class ((first_of x ++ []) ++ first_of b) ≡ true → (z : Bool) → is_one_of number_of t.class (first_of x) ≡ z → Told t us (whole e (t ∷ us) (is_one_of number_of t.class (first_of x)))
    go e t us on true i =
        subst (λ z. Told t us (whole e (t ∷ us) z)) (sym i)
        (told_then t us (made (some (read number_of class_of e x (t ∷ us)))) (behind e) (behind_short e)
        (told_then t us (some (read number_of class_of e x (t ∷ us))) (λ w. Ok (f w.0, w.1)) (λ w. omega arith)
        (told_then t us (read number_of class_of e x (t ∷ us)) (λ w. Ok (Some w.0, w.1)) (λ w. omega arith) (tx.takes e t us i))))
    go e t us on false i =
        let none = ap (λ ks. is_one_of number_of t.class ks) (append-nil (first_of x)) ∙ i in
        subst (λ z. Told t us (whole e (t ∷ us) z)) (sym i)
        (told_then t us (read number_of class_of e b (t ∷ us)) (λ y. Ok ((f None, y.0), y.1)) (λ y. omega arith) (tb.takes e t us (rw none at (sym (one_of-append number_of t.class (first_of x ++ []) (first_of b)) ∙ on))))

pub grows_items : {A : Type 0} (a c : Of A) (m n : ℕ) → m < n → first_of a ≡ first_of c → Grows a c → TakesBut c → Grows (repetition m a) (repetition n c)
grows_items {A} a c m n lt is p takes = record { reads = λ e ts. items e m n lt ts }
  where
    more : List Token → ℕ → A × List Token → Reading Token (List A)
    more e n x = read_items number_of class_of (read number_of class_of e c) (first_of c) n x.1 >>= λ xs. Ok (x.0 ∷ xs.0, xs.1)

    more_short : (e : List Token) (n : ℕ) (x : A × List Token) → Leaves (length x.1) (more e n x)
    more_short e n x = leaves_then (length x.1) (read number_of class_of e (repetition n c) x.1) _ (leaves number_of class_of e (repetition n c) x.1) (λ xs. omega arith)

    beyond : (e : List Token) (n : ℕ) (t : Token) (us : List Token) → is_one_of number_of t.class (first_of c) ≡ true → Told t us (read number_of class_of e c (t ∷ us)) → Growing (refused TooLong (t ∷ us)) (read number_of class_of e c (t ∷ us) >>= more e n)
    beyond e n t us on (inl le) = inl (inr (refl, (length us, refl, leaves_then (length us) (read number_of class_of e c (t ∷ us)) (more e n) le (more_short e n))))
    beyond e n t us on (inr o) = inr (refl, o.0, ap (λ w. w >>= more e n) o.1)

    full : (e : List Token) (n : ℕ) (ts : List Token) → next_in number_of class_of (first_of c) ts ≡ true → Growing (refused TooLong ts) (read number_of class_of e c ts >>= more e n)
    full e n [] on = absurd cc
    full e n (t ∷ us) on = beyond e n t us on (takes.takes e t us on)

    items : (e : List Token) (m n : ℕ) → m < n → (ts : List Token) → Growing (read_items number_of class_of (read number_of class_of e a) (first_of a) m ts) (read_items number_of class_of (read number_of class_of e c) (first_of c) n ts)
    items e m zero lt ts = absurd (omega (arith, lt))
    items e zero (suc n) lt ts =
        let test = ap (λ ks. next_in number_of class_of ks ts) is in
        growing_either (next_in number_of class_of (first_of a) ts) (next_in number_of class_of (first_of c) ts) (refused TooLong ts) (Ok ([], ts)) (read number_of class_of e c ts >>= more e n) (Ok ([], ts)) test (λ on. full e n ts (sym test ∙ on)) (λ off. refl)
    items e (suc m) (suc n) lt ts =
        growing_either (next_in number_of class_of (first_of a) ts) (next_in number_of class_of (first_of c) ts) _ (Ok ([], ts)) (read number_of class_of e c ts >>= more e n) (Ok ([], ts)) (ap (λ ks. next_in number_of class_of ks ts) is)
        (λ on. growing_then (read number_of class_of e a ts) (read number_of class_of e c ts) _ (more e n) (p.reads e ts) (λ x. growing_map (λ xs. x.0 ∷ xs) (read_items number_of class_of (read number_of class_of e a) (first_of a) m x.1) (read_items number_of class_of (read number_of class_of e c) (first_of c) n x.1) (items e m n (omega (arith, lt)) x.1)) (more_short e n))
        (λ off. refl)

-- ---- what is made of values

abbrev made : {X Y : Type 0} → (X → Y) → Reading Token X → Reading Token Y
made f q = q >>= λ z. Ok (f z.0, z.1)

abbrev some : {X : Type 0} → Reading Token X → Reading Token (Option X)
some q = q >>= λ z. Ok (Some z.0, z.1)

abbrev paired : {X Y : Type 0} → X → Reading Token Y → Reading Token (X × Y)
paired x q = q >>= λ y. Ok ((x, y.0), y.1)

-- ---- what may stand after an item, with a separator

module _ {A : Type 0} (separator : Symbol) (first more : List Symbol) (body : Of A) where
  -- reading what may stand after an item, with n more at most
  abbrev behind : List Token → ℕ → List Token → Reading Token (List A)
  behind e n ts = read number_of class_of e (behind_item separator first more body n) ts

  abbrev items_with : List Token → ℕ → List Token → Reading Token (List A)
  items_with e n ts = read number_of class_of e body ts >>= λ y. behind e n y.1 >>= λ ys. Ok (y.0 ∷ ys.0, ys.1)

  begins : (ts : List Token) → next_in number_of class_of (first ++ []) ts ≡ next_in number_of class_of first ts
  begins ts = ap (λ ks. next_in number_of class_of ks ts) (append-nil first)

  -- a separator, and after it what an item's first token decides
  abbrev separated : (List Token → Reading Token (List A)) → List Token → Reading Token (List A)
  separated item ts = cond (next_in number_of class_of (separator ∷ []) ts) (read_token number_of class_of (separator ∷ []) ts >>= λ x. cond (next_in number_of class_of first x.1) (item x.1) (Ok ([], x.1))) (Ok ([], ts))

  none_left : (e ts : List Token) → behind e 0 ts ≡ separated (λ us. refused TooLong us) ts
  unfolding behind_item
  none_left e ts = go (next_in number_of class_of (separator ∷ []) ts) (read_token number_of class_of (separator ∷ []) ts)
    where
      nothing_of : Option (Token × Option Token) → List A
      nothing_of v = []

      full : List Token → Bool → Reading Token (Option Token)
      full us d = cond d (some (refused (cond d TooLong Expected) us)) (Ok (None, us))

      inner : (t : Token) (us : List Token) (d : Bool) → made nothing_of (some (paired t (full us d))) ≡ cond d (refused TooLong us) (Ok ([], us))
      inner t us true = refl
      inner t us false = refl

      go : (b : Bool) (q : Reading Token Token) → made nothing_of (cond b (some (q >>= λ x. paired x.0 (full x.1 (next_in number_of class_of first x.1)))) (Ok (None, ts))) ≡ cond b (q >>= λ x. cond (next_in number_of class_of first x.1) (refused TooLong x.1) (Ok ([], x.1))) (Ok ([], ts))
      go false q = refl
      go true (Err z) = refl
      go true (Ok p) = inner p.0 p.1 (next_in number_of class_of first p.1)

  some_left : (e : List Token) (n : ℕ) (ts : List Token) → behind e (suc n) ts ≡ separated (items_with e n) ts
  unfolding behind_item
  some_left e n ts = go (next_in number_of class_of (separator ∷ []) ts) (read_token number_of class_of (separator ∷ []) ts)
    where
      pair : Reading Token A → Reading Token (A × List A)
      pair q = q >>= λ y. paired y.0 (behind e n y.1)

      items : Reading Token A → Reading Token (List A)
      items q = q >>= λ y. behind e n y.1 >>= λ ys. Ok (y.0 ∷ ys.0, ys.1)

      last : (t : Token) (y : A) (q : Reading Token (List A)) → made behind_separator (some (paired t (some (paired y q)))) ≡ made (λ ys. y ∷ ys) q
      last t y (Ok w) = refl
      last t y (Err z) = refl

      inner : (t : Token) (us : List Token) (d : Bool) (q : Reading Token A) → made behind_separator (some (paired t (cond d (some (pair q)) (Ok (None, us))))) ≡ cond d (items q) (Ok ([], us))
      inner t us false q = refl
      inner t us true (Err z) = refl
      inner t us true (Ok y) = last t y.0 (behind e n y.1)

      go : (b : Bool) (q : Reading Token Token) → made behind_separator (cond b (some (q >>= λ x. paired x.0 (cond (next_in number_of class_of (first ++ []) x.1) (some (pair (read number_of class_of e body x.1))) (Ok (None, x.1))))) (Ok (None, ts))) ≡ cond b (q >>= λ x. cond (next_in number_of class_of first x.1) (items_with e n x.1) (Ok ([], x.1))) (Ok ([], ts))
      go false q = refl
      go true (Err z) = refl
      go true (Ok p) =
          ap (λ d. made behind_separator (some (paired p.0 (cond d (some (pair (read number_of class_of e body p.1))) (Ok (None, p.1)))))) (begins p.1)
          ∙ inner p.0 p.1 (next_in number_of class_of first p.1) (read number_of class_of e body p.1)

  module _ (unlimited : Larger number_of class_of A body body) (takes : (e : List Token) (t : Token) (us : List Token) → is_one_of number_of t.class first ≡ true → Leaves (length us) (read number_of class_of e body (t ∷ us))) where
    with_short : (e : List Token) (n : ℕ) (us : List Token) → Leaves (length us) (items_with e n us)
    with_short e n us = leaves_then (length us) (read number_of class_of e body us) _ (leaves number_of class_of e body us) (λ y. leaves_then (length y.1) (behind e n y.1) _ (leaves number_of class_of e (behind_item separator first more body n) y.1) (λ ys. omega arith))

    item_full : (e : List Token) (n : ℕ) (us : List Token) → next_in number_of class_of first us ≡ true → Growing (refused TooLong us) (items_with e n us)
    item_full e n [] on = absurd cc
    item_full e n (t ∷ us) on = inl (inr (refl, (length us, refl, leaves_then (length us) (read number_of class_of e body (t ∷ us)) _ (takes e t us on) (λ y. leaves_then (length y.1) (behind e n y.1) _ (leaves number_of class_of e (behind_item separator first more body n) y.1) (λ ys. omega arith)))))

    separated_grows : (e : List Token) (n : ℕ) (item : List Token → Reading Token (List A)) → ((us : List Token) → next_in number_of class_of first us ≡ true → Growing (item us) (items_with e n us)) → (ts : List Token) → Growing (separated item ts) (separated (items_with e n) ts)
    separated_grows e n item each ts =
        growing_either (next_in number_of class_of (separator ∷ []) ts) (next_in number_of class_of (separator ∷ []) ts) _ (Ok ([], ts)) _ (Ok ([], ts)) refl
        (λ on. growing_then (read_token number_of class_of (separator ∷ []) ts) (read_token number_of class_of (separator ∷ []) ts) _ _
        (plain (read_token number_of class_of (separator ∷ []) ts) (read_token number_of class_of (separator ∷ []) ts) (grown number_of class_of e {g = one separator} {h = one separator} (same refl) ts))
        (λ x. growing_either (next_in number_of class_of first x.1) (next_in number_of class_of first x.1) (item x.1) (Ok ([], x.1)) (items_with e n x.1) (Ok ([], x.1)) refl (λ begun. each x.1 begun) (λ off. refl))
        (λ x. short_either (length x.1) (next_in number_of class_of first x.1) (items_with e n x.1) (Ok ([], x.1)) (with_short e n x.1) (omega arith)))
        (λ off. refl)

    longer : (e : List Token) (m n : ℕ) → ((us : List Token) → Growing (behind e m us) (behind e n us)) → (us : List Token) → Growing (items_with e m us) (items_with e n us)
    longer e m n deeper us =
        growing_then (read number_of class_of e body us) (read number_of class_of e body us) _ _
        (plain (read number_of class_of e body us) (read number_of class_of e body us) (grown number_of class_of e unlimited us))
        (λ y. growing_map (λ ys. y.0 ∷ ys) (behind e m y.1) (behind e n y.1) (deeper y.1))
        (λ y. leaves_then (length y.1) (behind e n y.1) _ (leaves number_of class_of e (behind_item separator first more body n) y.1) (λ ys. omega arith))

    behind_grows : (e : List Token) (m n : ℕ) → m < n → (ts : List Token) → Growing (behind e m ts) (behind e n ts)
    behind_grows e m zero lt ts = absurd (omega (arith, lt))
    behind_grows e zero (suc n) lt ts = subst (λ q. Growing q (behind e (suc n) ts)) (sym (none_left e ts)) (subst (λ r. Growing (separated (λ us. refused TooLong us) ts) r) (sym (some_left e n ts)) (separated_grows e n (λ us. refused TooLong us) (item_full e n) ts))
    behind_grows e (suc m) (suc n) lt ts = subst (λ q. Growing q (behind e (suc n) ts)) (sym (some_left e m ts)) (subst (λ r. Growing (separated (items_with e m) ts) r) (sym (some_left e n ts)) (separated_grows e n (items_with e m) (λ us on. longer e m n (behind_grows e m n (omega (arith, lt))) us) ts))

    pub grows_behind : (m n : ℕ) → m < n → Grows (behind_item separator first more body m) (behind_item separator first more body n)
    grows_behind m n lt = record { reads = λ e ts. behind_grows e m n lt ts }
