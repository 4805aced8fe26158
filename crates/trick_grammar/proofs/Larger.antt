-- What reading by a grammar says of reading with larger limits.
use Rattle.std.proofs.Common.{◌≡◌, ◌⊎◌, ℕ, zero, suc, ◌+◌, ◌≤◌, ◌<◌, Bool, true, false, ◌&&◌, not, cond, List, [], ◌∷◌, ◌++◌, length, Option, None, Ok, Err, refl, sym, ap, ◌∙◌, inl, inr, subst, arith}
use Rattle.trick_grammar.specs.Grammar.{Link, onward, last, Grammar, token, nothing, refuse, sequence, choice, repetition, chain, nearest, rule, hint, scope, after, again, alone, act, is_nullable, first_of}
use Rattle.trick_grammar.specs.Classes.{only_if, is_one_of}
use Rattle.trick_grammar.specs.Larger.{is_limit, is_unlimited, Leaves, Takes, Opens, Larger, same, deeper, in_sequence, in_choice, longer, in_chain, in_nearest, in_rule, in_hint, in_scope, behind, in_alone, in_act}
use Rattle.trick_grammar.specs.StartsWith.{next_in, repeats}
use Rattle.trick_grammar.specs.Reading.{Refused, Reading, refused, ◌>>=◌, linked, with_hint, hinted, reason_at, read_token, read_again, read_items, read_links, read}
use Rattle.trick_grammar.specs.declared.refusal.Refusal.{Refusal}
use Rattle.trick_grammar.specs.declared.refusal.Refusal.TheVariants.{Expected, NotInProfile, TooLong, TooDeep, BadHeader, BadLoop, BadName, BadTime}
use Rattle.trick_grammar.proofs.Tests.{and_true, not_true, when_on, when_off, yes_no}
use Rattle.trick_grammar.proofs.Short.{leaves_fewer, leaves_then, leaves}

-- reading with larger limits is the same, or goes beyond the token at which a limit refuses
abbrev pub Passes : {T A : Type 0} → List T → Reading T A → Type 0
Passes rest q = (n : ℕ) × (suc n ≡ length rest) × Leaves n q

abbrev pub Grown : {T A : Type 0} → Reading T A → Reading T A → Type 0
Grown (Ok p) q = q ≡ Ok p
Grown (Err z) q = ((is_limit z.kind ≡ false) × (q ≡ Err z)) ⊎ ((is_limit z.kind ≡ true) × Passes z.rest q)

grown_then : {T A B : Type 0} (q r : Reading T A) (f g : A × List T → Reading T B) → Grown q r → ((p : A × List T) → Grown (f p) (g p)) → ((p : A × List T) → Leaves (length p.1) (g p)) → Grown (q >>= f) (r >>= g)
grown_then (Ok p) r f g h each short = subst (λ w. Grown (f p) (w >>= g)) (sym h) (each p)
grown_then (Err z) r f g (inl h) each short = inl (h.0, ap (λ w. w >>= g) h.1)
grown_then (Err z) r f g (inr h) each short = inr (h.0, (h.1.0, h.1.1, leaves_then h.1.0 r g h.1.2 short))

grown_map : {T A B : Type 0} (f : A → B) (q r : Reading T A) → Grown q r → Grown (q >>= λ x. Ok (f x.0, x.1)) (r >>= λ x. Ok (f x.0, x.1))
grown_map f q r h = grown_then q r (λ x. Ok (f x.0, x.1)) (λ x. Ok (f x.0, x.1)) h (λ p. refl) (λ p. omega arith)

grown_either : {T A : Type 0} (b c : Bool) (p q r s : Reading T A) → b ≡ c → (b ≡ true → Grown p r) → (b ≡ false → Grown q s) → Grown (cond b p q) (cond c r s)
grown_either true c p q r s e on off = subst (λ (d : Bool). Grown p (cond d r s)) e (on refl)
grown_either false c p q r s e on off = subst (λ (d : Bool). Grown q (cond d r s)) e (off refl)

hinted_limit : (k z : Refusal) → is_limit k ≡ false → is_limit (hinted k z) ≡ is_limit z
hinted_limit k Expected e = e
hinted_limit k NotInProfile e = refl
hinted_limit k TooLong e = refl
hinted_limit k TooDeep e = refl
hinted_limit k BadHeader e = refl
hinted_limit k BadLoop e = refl
hinted_limit k BadName e = refl
hinted_limit k BadTime e = refl

pub leaves_hint : {T A : Type 0} (n : ℕ) (k : Refusal) (q : Reading T A) → Leaves n q → Leaves n (with_hint k q)
leaves_hint n k (Ok p) h = h
leaves_hint n k (Err z) h = h

grown_hint : {T A : Type 0} (k : Refusal) (q r : Reading T A) → is_limit k ≡ false → Grown q r → Grown (with_hint k q) (with_hint k r)
grown_hint k (Ok p) r e h = ap (with_hint k) h
grown_hint k (Err z) r e (inl h) = inl (hinted_limit k z.kind e ∙ h.0, ap (with_hint k) h.1)
grown_hint k (Err z) r e (inr h) = inr (hinted_limit k z.kind e ∙ h.0, (h.1.0, h.1.1, leaves_hint h.1.0 k r h.1.2))

-- a reading that no limit refuses
abbrev Free : {T A : Type 0} → Reading T A → Type 0
Free (Ok p) = Unit {0}
Free (Err z) = is_limit z.kind ≡ false

free_grown : {T A : Type 0} (q : Reading T A) → Free q → Grown q q
free_grown (Ok p) f = refl
free_grown (Err z) f = inl (f, refl)

free_then : {T A B : Type 0} (q : Reading T A) (f : A × List T → Reading T B) → Free q → ((p : A × List T) → Free (f p)) → Free (q >>= f)
free_then (Ok p) f h each = each p
free_then (Err z) f h each = h

free_either : {T A : Type 0} (b : Bool) (p q : Reading T A) → Free p → Free q → Free (cond b p q)
free_either true p q hp hq = hp
free_either false p q hp hq = hq

free_hint : {T A : Type 0} (k : Refusal) (q : Reading T A) → is_limit k ≡ false → Free q → Free (with_hint k q)
free_hint k (Ok p) e h = tt
free_hint k (Err z) e h = hinted_limit k z.kind e ∙ h

module _ {C T : Type 0} (number : C → ℕ) (class : T → C) where
  free_token : (cs : List C) (ts : List T) → Free (read_token number class cs ts)
  free_token cs [] = refl
  free_token cs (t ∷ ts) = free_either (is_one_of number (class t) cs) (Ok (t, ts)) (refused Expected (t ∷ ts)) tt refl

  free_again : (key : T → List ℕ) (cs : List C) (e ts : List T) → Free (read_again number class key cs e ts)
  free_again key cs e [] = refl
  free_again key cs e (t ∷ ts) = free_either (is_one_of number (class t) cs && repeats number class key cs e t) (Ok (t, ts)) (refused Expected (t ∷ ts)) tt refl

  free_refuse : (k : Refusal) (b : Bool) → is_limit k ≡ false → is_limit (cond b k Expected) ≡ false
  free_refuse k true e = e
  free_refuse k false e = refl

  free_linked : {A B : Type 0} (x : Link A B) (rest : List T) (more : List T → Reading T (List A × Option B)) → ((ts : List T) → Free (more ts)) → Free (linked x rest more)
  free_linked (onward x) rest more each = free_then (more rest) _ (each rest) (λ p. tt)
  free_linked (last y) rest more each = tt

  free_links : {A B : Type 0} (r : List T → Reading T (Link A B)) (cs : List C) → ((ts : List T) → Free (r ts)) → (us ts : List T) → Free (read_links number class r cs us ts)
  free_links r cs each [] ts = tt
  free_links r cs each (u ∷ us) ts = free_either (next_in number class cs ts) _ (Ok (([], None), ts)) (free_then (r ts) _ (each ts) (λ x. free_linked x.0 x.1 (λ rest. read_links number class r cs us rest) (free_links r cs each us))) tt

  free : {A : Type 0} (e : List T) (g : Grammar C T A) → is_unlimited g ≡ true → (ts : List T) → Free (read number class e g ts)
  free e (token cs) u ts = free_token cs ts
  free e (nothing y) u ts = tt
  free e (refuse k cs) u ts = free_refuse k (next_in number class cs ts) (not_true _ u)
  free e (sequence a b) u ts = let p = and_true _ _ u in free_then (read number class e a ts) _ (free e a p.0 ts) (λ x. free_then (read number class e b x.1) _ (free e b p.1 x.1) (λ y. tt))
  free e (choice a b) u ts = let p = and_true _ _ u in free_either (next_in number class (first_of a) ts) _ _ (free e a p.0 ts) (free e b p.1 ts)
  free e (repetition n a) u ts = absurd cc
  free e (chain a) u ts = free_links (read number class e a) (first_of a) (free e a u) ts ts
  free e (nearest a) u ts = free_links (read number class e a) (first_of a) (free e a u) ts ts
  free e (rule i a) u ts = free e a u ts
  free e (hint k a) u ts = let p = and_true _ _ u in free_hint k (read number class e a ts) (not_true _ p.0) (free e a p.1 ts)
  free e (scope k cs b) u ts = let p = and_true _ _ u in free_then (with_hint k (read_token number class cs ts)) _ (free_hint k (read_token number class cs ts) (not_true _ p.0) (free_token cs ts)) (λ x. free_then (read number class (x.0 ∷ e) b x.1) _ (free (x.0 ∷ e) b p.1 x.1) (λ y. tt))
  free e (after k cs test b c) u ts = let p = and_true _ _ u in let q = and_true _ _ p.1 in free_then (with_hint k (read_token number class cs ts)) _ (free_hint k (read_token number class cs ts) (not_true _ p.0) (free_token cs ts)) (λ x. free_then (cond (test e x.0) (read number class e b x.1) (read number class e c x.1)) _ (free_either (test e x.0) _ _ (free e b q.0 x.1) (free e c q.1 x.1)) (λ y. tt))
  free e (again key cs) u ts = free_again key cs e ts
  free e (alone a) u ts = free [] a u ts
  free e (act f a) u ts = free_then (read number class e a ts) _ (free e a u ts) (λ x. tt)

  -- ---- what does not change

  pub larger_null : {A : Type 0} {g h : Grammar C T A} → Larger number class A g h → is_nullable g ≡ is_nullable h
  larger_null (same u) = refl
  larger_null (deeper k cs l f n t) = sym n
  larger_null (in_sequence a b) = rw (larger_null a, larger_null b) refl
  larger_null (in_choice a b) = larger_null b
  larger_null (longer lt a t) = refl
  larger_null (in_chain a) = refl
  larger_null (in_nearest a) = refl
  larger_null (in_rule a) = refl
  larger_null (in_hint l a) = larger_null a
  larger_null (in_scope l b) = refl
  larger_null (behind l b c) = refl
  larger_null (in_alone a) = larger_null a
  larger_null (in_act a) = larger_null a

  pub larger_first : {A : Type 0} {g h : Grammar C T A} → Larger number class A g h → first_of g ≡ first_of h
  larger_first (same u) = refl
  larger_first (deeper k cs l f n t) = sym f
  larger_first (in_sequence a b) = rw (larger_first a, larger_first b, larger_null a) refl
  larger_first (in_choice a b) = rw (larger_first a, larger_first b) refl
  larger_first (longer lt a t) = larger_first a
  larger_first (in_chain a) = larger_first a
  larger_first (in_nearest a) = larger_first a
  larger_first (in_rule a) = refl
  larger_first (in_hint l a) = larger_first a
  larger_first (in_scope l b) = refl
  larger_first (behind l b c) = refl
  larger_first (in_alone a) = larger_first a
  larger_first (in_act a) = larger_first a

  -- ---- lists and chains

  module _ {A : Type 0} (r s : List T → Reading T A) (cs ds : List C) (is : cs ≡ ds) (each : (ts : List T) → Grown (r ts) (s ts)) (short : (ts : List T) → Leaves (length ts) (s ts)) (takes : (t : T) (us : List T) → is_one_of number (class t) ds ≡ true → Leaves (length us) (s (t ∷ us))) where
    short_items : (n : ℕ) (ts : List T) → Leaves (length ts) (read_items number class s ds n ts)
    short_items zero ts = go (next_in number class ds ts)
      where
        go : (b : Bool) → Leaves (length ts) (cond b (refused {A = List A} TooLong ts) (Ok ([], ts)))
        go true = omega arith
        go false = omega arith
    short_items (suc n) ts = go (next_in number class ds ts) (leaves_then (length ts) (s ts) (λ x. read_items number class s ds n x.1 >>= λ xs. Ok (x.0 ∷ xs.0, xs.1)) (short ts) (λ x. leaves_then (length x.1) (read_items number class s ds n x.1) _ (short_items n x.1) (λ xs. omega arith)))
      where
        go : (b : Bool) → Leaves (length ts) (s ts >>= λ x. read_items number class s ds n x.1 >>= λ xs. Ok (x.0 ∷ xs.0, xs.1)) → Leaves (length ts) (cond b (s ts >>= λ x. read_items number class s ds n x.1 >>= λ xs. Ok (x.0 ∷ xs.0, xs.1)) (Ok ([], ts)))
        go true h = h
        go false h = omega arith

    full_passes : (n : ℕ) (ts : List T) → next_in number class ds ts ≡ true → Passes ts (s ts >>= λ x. read_items number class s ds n x.1 >>= λ xs. Ok (x.0 ∷ xs.0, xs.1))
    full_passes n [] on = absurd cc
    full_passes n (t ∷ us) on = (length us, refl, leaves_then (length us) (s (t ∷ us)) (λ x. read_items number class s ds n x.1 >>= λ xs. Ok (x.0 ∷ xs.0, xs.1)) (takes t us on) (λ x. leaves_then (length x.1) (read_items number class s ds n x.1) _ (short_items n x.1) (λ xs. omega arith)))

    pub grown_items : (m n : ℕ) → m < n → (ts : List T) → Grown (read_items number class r cs m ts) (read_items number class s ds n ts)
    grown_items m zero lt ts = absurd (omega (arith, lt))
    grown_items zero (suc n) lt ts = grown_either (next_in number class cs ts) (next_in number class ds ts) (refused TooLong ts) (Ok ([], ts)) _ (Ok ([], ts)) (ap (λ ks. next_in number class ks ts) is) (λ on. inr (refl, full_passes n ts (sym (ap (λ ks. next_in number class ks ts) is) ∙ on))) (λ off. refl)
    grown_items (suc m) (suc n) lt ts = grown_either (next_in number class cs ts) (next_in number class ds ts) _ (Ok ([], ts)) _ (Ok ([], ts)) (ap (λ ks. next_in number class ks ts) is)
        (λ on. grown_then (r ts) (s ts) _ _ (each ts) (λ x. grown_map (λ xs. x.0 ∷ xs) (read_items number class r cs m x.1) (read_items number class s ds n x.1) (grown_items m n (omega (arith, lt)) x.1)) (λ x. leaves_then (length x.1) (read_items number class s ds n x.1) _ (short_items n x.1) (λ xs. omega arith)))
        (λ off. refl)

  module _ {A B : Type 0} (r s : List T → Reading T (Link A B)) (cs ds : List C) (is : cs ≡ ds) (each : (ts : List T) → Grown (r ts) (s ts)) (short : (ts : List T) → Leaves (length ts) (s ts)) where
    short_linked : (x : Link A B) (rest : List T) (more : List T → Reading T (List A × Option B)) → ((ts : List T) → Leaves (length ts) (more ts)) → Leaves (length rest) (linked x rest more)
    short_linked (onward x) rest more shorter = leaves_then (length rest) (more rest) _ (shorter rest) (λ y. omega arith)
    short_linked (last y) rest more shorter = omega arith

    short_links : (us ts : List T) → Leaves (length ts) (read_links number class s ds us ts)
    short_links [] ts = omega arith
    short_links (u ∷ us) ts = go (next_in number class ds ts) (leaves_then (length ts) (s ts) (λ x. linked x.0 x.1 (λ rest. read_links number class s ds us rest)) (short ts) (λ x. short_linked x.0 x.1 (λ rest. read_links number class s ds us rest) (short_links us)))
      where
        go : (b : Bool) → Leaves (length ts) (s ts >>= λ x. linked x.0 x.1 (λ rest. read_links number class s ds us rest)) → Leaves (length ts) (cond b (s ts >>= λ x. linked x.0 x.1 (λ rest. read_links number class s ds us rest)) (Ok (([], None), ts)))
        go true h = h
        go false h = omega arith

    grown_linked : (x : Link A B) (rest : List T) (f g : List T → Reading T (List A × Option B)) → ((ts : List T) → Grown (f ts) (g ts)) → Grown (linked x rest f) (linked x rest g)
    grown_linked (onward x) rest f g more = grown_map (λ y. (x ∷ y.0, y.1)) (f rest) (g rest) (more rest)
    grown_linked (last y) rest f g more = refl

    pub grown_links : (us ts : List T) → Grown (read_links number class r cs us ts) (read_links number class s ds us ts)
    grown_links [] ts = refl
    grown_links (u ∷ us) ts = grown_either (next_in number class cs ts) (next_in number class ds ts) _ (Ok (([], None), ts)) _ (Ok (([], None), ts)) (ap (λ ks. next_in number class ks ts) is)
        (λ on. grown_then (r ts) (s ts) _ _ (each ts) (λ x. grown_linked x.0 x.1 (λ rest. read_links number class r cs us rest) (λ rest. read_links number class s ds us rest) (grown_links us)) (λ x. short_linked x.0 x.1 (λ rest. read_links number class s ds us rest) (short_links us)))
        (λ off. refl)

  -- ---- all grammars

  grown_refuse : {A : Type 0} (e : List T) (k : Refusal) (cs : List C) (h : Grammar C T A) → is_limit k ≡ true → first_of h ≡ cs → Opens number class h → (ts : List T) → (next_in number class cs ts ≡ true) ⊎ (next_in number class cs ts ≡ false) → Grown (refused {A = A} (reason_at number class k cs ts) ts) (read number class e h ts)
  grown_refuse e k cs h l f opens [] (inl on) = absurd cc
  grown_refuse e k cs h l f opens (t ∷ us) (inl on) = inr (rw on l, (length us, refl, opens.takes.takes e t us (subst (λ ks. is_one_of number (class t) ks ≡ true) (sym f) on)))
  grown_refuse {A} e k cs h l f opens ts (inr off) = inl (rw off refl, opens.others e ts (subst (λ ks. next_in number class ks ts ≡ false) (sym f) off) ∙ ap (λ (b : Bool). refused {A = A} (cond b k Expected) ts) (sym off))

  pub grown : {A : Type 0} (e : List T) {g h : Grammar C T A} → Larger number class A g h → (ts : List T) → Grown (read number class e g ts) (read number class e h ts)
  grown e {g = g} (same u) ts = free_grown (read number class e g ts) (free e g u ts)
  grown e {h = h} (deeper k cs l f n opens) ts = grown_refuse e k cs h l f opens ts (yes_no (next_in number class cs ts))
  grown e {g = sequence a b} {h = sequence c d} (in_sequence p q) ts = grown_then (read number class e a ts) (read number class e c ts) _ _ (grown e p ts) (λ x. grown_map (λ y. (x.0, y)) (read number class e b x.1) (read number class e d x.1) (grown e q x.1)) (λ x. leaves_then (length x.1) (read number class e d x.1) _ (leaves number class e d x.1) (λ y. omega arith))
  grown e {g = choice a b} {h = choice c d} (in_choice p q) ts = grown_either (next_in number class (first_of a) ts) (next_in number class (first_of c) ts) _ _ _ _ (ap (λ ks. next_in number class ks ts) (larger_first p)) (λ on. grown e p ts) (λ off. grown e q ts)
  grown e {g = repetition m a} {h = repetition n c} (longer lt p takes) ts = grown_items (read number class e a) (read number class e c) (first_of a) (first_of c) (larger_first p) (grown e p) (leaves number class e c) (takes.takes e) m n lt ts
  grown e {g = chain a} {h = chain c} (in_chain p) ts = grown_links (read number class e a) (read number class e c) (first_of a) (first_of c) (larger_first p) (grown e p) (leaves number class e c) ts ts
  grown e {g = nearest a} {h = nearest c} (in_nearest p) ts = grown_links (read number class e a) (read number class e c) (first_of a) (first_of c) (larger_first p) (grown e p) (leaves number class e c) ts ts
  grown e (in_rule p) ts = grown e p ts
  grown e {g = hint k a} {h = hint k2 c} (in_hint l p) ts = grown_hint k (read number class e a ts) (read number class e c ts) l (grown e p ts)
  grown e {g = scope k cs b} {h = scope k2 cs2 d} (in_scope l p) ts = grown_then _ _ _ _ (free_grown (with_hint k (read_token number class cs ts)) (free_hint k (read_token number class cs ts) l (free_token cs ts))) (λ x. grown_map (λ y. (x.0, y)) (read number class (x.0 ∷ e) b x.1) (read number class (x.0 ∷ e) d x.1) (grown (x.0 ∷ e) p x.1)) (λ x. leaves_then (length x.1) (read number class (x.0 ∷ e) d x.1) _ (leaves number class (x.0 ∷ e) d x.1) (λ y. omega arith))
  grown e {g = after k cs test b c} {h = after k2 cs2 test2 d f} (behind l p q) ts = grown_then _ _ _ _ (free_grown (with_hint k (read_token number class cs ts)) (free_hint k (read_token number class cs ts) l (free_token cs ts))) (λ x. grown_map (λ y. (x.0, y)) (cond (test e x.0) (read number class e b x.1) (read number class e c x.1)) (cond (test e x.0) (read number class e d x.1) (read number class e f x.1)) (grown_either (test e x.0) (test e x.0) _ _ _ _ refl (λ on. grown e p x.1) (λ off. grown e q x.1))) (λ x. leaves_then (length x.1) (cond (test e x.0) (read number class e d x.1) (read number class e f x.1)) _ (short (test e x.0) (read number class e d x.1) (read number class e f x.1) x.1 (leaves number class e d x.1) (leaves number class e f x.1)) (λ y. omega arith))
    where
      short : {A : Type 0} (b : Bool) (q r : Reading T A) (us : List T) → Leaves (length us) q → Leaves (length us) r → Leaves (length us) (cond b q r)
      short true q r us hq hr = hq
      short false q r us hq hr = hr
  grown e (in_alone p) ts = grown [] p ts
  grown e {g = act f a} {h = act f2 c} (in_act p) ts = grown_map f (read number class e a ts) (read number class e c ts) (grown e p ts)
