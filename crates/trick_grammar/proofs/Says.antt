-- What reading says of the tokens: what is read is a text of the grammar, a refusal comes after a
-- front that some text goes on from, and neither depends on what stands after the next token.
use Rattle.std.proofs.Common.{◌≡◌, ◌⊎◌, ℕ, Bool, true, false, cond, List, [], ◌∷◌, ◌++◌, Ok, Err, refl, sym, ap, ◌∙◌, inl, inr, subst, append_assoc}
use Rattle.std.proofs.lemmas.List.{append-nil}
use Rattle.trick_grammar.specs.StartsWith.{Each, next_in}
use Rattle.trick_grammar.specs.Reading.{Refused, Reading, refused, ◌>>=◌, with_hint, read_token, hinted}
use Rattle.trick_grammar.specs.Classes.{is_one_of}
use Rattle.trick_grammar.specs.declared.refusal.Refusal.{Refusal}
use Rattle.trick_grammar.specs.declared.refusal.Refusal.TheVariants.{Expected}
use Rattle.trick_grammar.proofs.Tests.{when_on, when_off, next_same, same_through, Follows, follows_through}

module _ {C T : Type 0} (number : C → ℕ) (class : T → C) (Real : T → Type 0) where
  -- what was read
  pub record Found {A : Type 0} (R : List T → A → List T → Type 0) (S : List C) (r : List T → Reading T A) (ts : List T) (x : A) (rest : List T) : Type 0 where
    pub front : List T
    pub parts : ts ≡ front ++ rest
    pub moves : (other : List T) → Follows number class S rest other → R (front ++ other) x other
    pub again : (t : T) (more other : List T) → rest ≡ t ∷ more → r (front ++ t ∷ other) ≡ Ok (x, t ∷ other)

  -- real tokens complete this front, which is not empty
  pub record Completes {A : Type 0} (R : List T → A → List T → Type 0) (S : List C) (front : List T) : Type 0 where
    pub head : T
    pub tail : List T
    pub is : front ≡ head ∷ tail
    pub ws : List T
    pub real : Each Real ws
    pub value : A
    pub word : (rest : List T) → next_in number class S rest ≡ false → R (front ++ (ws ++ rest)) value rest

  -- what was refused
  pub record Stopped {A : Type 0} (R : List T → A → List T → Type 0) (S : List C) (r : List T → Reading T A) (ts : List T) (e : Refused T) : Type 0 where
    pub front : List T
    pub parts : ts ≡ front ++ e.rest
    pub again : (t : T) (more other : List T) → e.rest ≡ t ∷ more → r (front ++ t ∷ other) ≡ refused e.kind (t ∷ other)
    pub viable : (front ≡ []) ⊎ Completes R S front

  abbrev pub Says : {A : Type 0} → (List T → A → List T → Type 0) → List C → (List T → Reading T A) → List T → Reading T A → Type 0
  Says R S r ts (Ok p) = Found R S r ts p.0 p.1
  Says R S r ts (Err e) = Stopped R S r ts e

  -- a text by real tokens, and the empty one where that is a text
  pub record Shortest {A : Type 0} (R : List T → A → List T → Type 0) (S : List C) (nullable : Bool) : Type 0 where
    pub ws : List T
    pub real : Each Real ws
    pub value : A
    pub empty : nullable ≡ true → ws ≡ []
    pub word : (rest : List T) → next_in number class S rest ≡ false → R (ws ++ rest) value rest

  pub each_append : (xs ys : List T) → Each Real xs → Each Real ys → Each Real (xs ++ ys)
  each_append [] ys p q = q
  each_append (x ∷ xs) ys p q = (p.0, each_append xs ys p.1 q)

  pub each_behind : (xs ys : List T) → Each Real (xs ++ ys) → Each Real ys
  each_behind [] ys p = p
  each_behind (x ∷ xs) ys p = each_behind xs ys p.1

  -- ---- the same reading

  module _ {A : Type 0} (R : List T → A → List T → Type 0) (S : List C) (r s : List T → Reading T A) (same : (us : List T) → s us ≡ r us) where
    pub says_same : (ts : List T) (q : Reading T A) → Says R S r ts q → Says R S s ts q
    says_same ts (Ok p) f = record { front = f.front; parts = f.parts; moves = f.moves; again = λ t more other is. same (f.front ++ t ∷ other) ∙ f.again t more other is }
    says_same ts (Err e) f = record { front = f.front; parts = f.parts; viable = f.viable; again = λ t more other is. same (f.front ++ t ∷ other) ∙ f.again t more other is }

  -- ---- the next token decides

  head_again : (cs : List C) (ts front rest : List T) (t : T) (more other : List T) → ts ≡ front ++ rest → rest ≡ t ∷ more → next_in number class cs (front ++ t ∷ other) ≡ next_in number class cs ts
  head_again cs ts front rest t more other parts is =
      next_same number class cs (front ++ t ∷ other) ts (rw (parts, is) (same_through front (t ∷ other) (t ∷ more) refl))

  module _ {A : Type 0} (R : List T → A → List T → Type 0) (S : List C) (cs : List C) (ra rb : List T → Reading T A) where
    abbrev pub either : List T → Reading T A
    either us = cond (next_in number class cs us) (ra us) (rb us)

    says_on : (ts : List T) (q : Reading T A) → next_in number class cs ts ≡ true → Says R S ra ts q → Says R S either ts q
    says_on ts (Ok p) on s = record {
      front = s.front;
      parts = s.parts;
      moves = s.moves;
      again = λ t more other is. when_on (next_in number class cs (s.front ++ t ∷ other)) _ _ _ (head_again cs ts s.front p.1 t more other s.parts is ∙ on) (s.again t more other is);
    }
    says_on ts (Err e) on s = record {
      front = s.front;
      parts = s.parts;
      viable = s.viable;
      again = λ t more other is. when_on (next_in number class cs (s.front ++ t ∷ other)) _ _ _ (head_again cs ts s.front e.rest t more other s.parts is ∙ on) (s.again t more other is);
    }

    says_off : (ts : List T) (q : Reading T A) → next_in number class cs ts ≡ false → Says R S rb ts q → Says R S either ts q
    says_off ts (Ok p) on s = record {
      front = s.front;
      parts = s.parts;
      moves = s.moves;
      again = λ t more other is. when_off (next_in number class cs (s.front ++ t ∷ other)) _ _ _ (head_again cs ts s.front p.1 t more other s.parts is ∙ on) (s.again t more other is);
    }
    says_off ts (Err e) on s = record {
      front = s.front;
      parts = s.parts;
      viable = s.viable;
      again = λ t more other is. when_off (next_in number class cs (s.front ++ t ∷ other)) _ _ _ (head_again cs ts s.front e.rest t more other s.parts is ∙ on) (s.again t more other is);
    }

    pub says_either : (ts : List T) → (next_in number class cs ts ≡ true → Says R S ra ts (ra ts)) → (next_in number class cs ts ≡ false → Says R S rb ts (rb ts)) → Says R S either ts (either ts)
    says_either ts on off = go (next_in number class cs ts) refl
      where
        go : (b : Bool) → next_in number class cs ts ≡ b → Says R S either ts (cond b (ra ts) (rb ts))
        go true e = says_on ts (ra ts) e (on e)
        go false e = says_off ts (rb ts) e (off e)

  -- ---- a weaker relation, and a function of the value

  pub follows_up : (S Q : List C) → ((rest : List T) → next_in number class Q rest ≡ false → next_in number class S rest ≡ false) → (rest other : List T) → Follows number class Q rest other → Follows number class S rest other
  follows_up S Q up rest other (inl s) = inl s
  follows_up S Q up rest other (inr e) = inr (up other e)

  module _ {A B : Type 0} (R : List T → A → List T → Type 0) (P : List T → B → List T → Type 0) (S Q : List C) (f : A → B) (r : List T → Reading T A) (to : (us : List T) (x : A) (rest : List T) → R us x rest → P us (f x) rest) (up : (rest : List T) → next_in number class Q rest ≡ false → next_in number class S rest ≡ false) where
    abbrev pub mapped : List T → Reading T B
    mapped us = r us >>= λ x. Ok (f x.0, x.1)

    abbrev pub map_reading : Reading T A → Reading T B
    map_reading q = q >>= λ x. Ok (f x.0, x.1)

    pub says_map : (ts : List T) (q : Reading T A) → Says R S r ts q → Says P Q mapped ts (map_reading q)
    says_map ts (Ok p) s = record {
      front = s.front;
      parts = s.parts;
      moves = λ other fo. to _ _ _ (s.moves other (follows_up S Q up p.1 other fo));
      again = λ t more other is. ap map_reading (s.again t more other is);
    }
    says_map ts (Err e) s = record {
      front = s.front;
      parts = s.parts;
      again = λ t more other is. ap map_reading (s.again t more other is);
      viable = onwards s.viable;
    }
      where
        onwards : (s.front ≡ []) ⊎ Completes R S s.front → (s.front ≡ []) ⊎ Completes P Q s.front
        onwards (inl e) = inl e
        onwards (inr c) = inr (record { head = c.head; tail = c.tail; is = c.is; ws = c.ws; real = c.real; value = f c.value; word = λ rest off. to _ _ _ (c.word rest (up rest off)) })

  pub says_hint : {A : Type 0} (R : List T → A → List T → Type 0) (S : List C) (r : List T → Reading T A) (k : Refusal) (ts : List T) (q : Reading T A) → Says R S r ts q → Says R S (λ us. with_hint k (r us)) ts (with_hint k q)
  says_hint R S r k ts (Ok p) s = record { front = s.front; parts = s.parts; moves = s.moves; again = λ t more other is. ap (with_hint k) (s.again t more other is) }
  says_hint R S r k ts (Err e) s = record { front = s.front; parts = s.parts; viable = s.viable; again = λ t more other is. ap (with_hint k) (s.again t more other is) }

  module _ {A : Type 0} (R P : List T → A → List T → Type 0) (S Q : List C) (r : List T → Reading T A) (to : (us : List T) (x : A) (rest : List T) → R us x rest → P us x rest) (up : (rest : List T) → next_in number class Q rest ≡ false → next_in number class S rest ≡ false) where
    pub says_weaker : (ts : List T) (q : Reading T A) → Says R S r ts q → Says P Q r ts q
    says_weaker ts (Ok p) s = record { front = s.front; parts = s.parts; moves = λ other fo. to _ _ _ (s.moves other (follows_up S Q up p.1 other fo)); again = s.again }
    says_weaker ts (Err e) s = record { front = s.front; parts = s.parts; again = s.again; viable = onwards s.viable }
      where
        onwards : (s.front ≡ []) ⊎ Completes R S s.front → (s.front ≡ []) ⊎ Completes P Q s.front
        onwards (inl e) = inl e
        onwards (inr c) = inr (record { head = c.head; tail = c.tail; is = c.is; ws = c.ws; real = c.real; value = c.value; word = λ rest off. to _ _ _ (c.word rest (up rest off)) })

  -- ---- one after the other; how the second is read may depend on the value of the first

  longer : (front w : List T) (h : T) (t : List T) → w ≡ h ∷ t → (u : T) × (v : List T) × (front ++ w ≡ u ∷ v)
  longer [] w h t e = (h, t, e)
  longer (u ∷ front) w h t e = (u, front ++ w, refl)

  same_start : (cs : List C) (w : List T) (h : T) (t rest other : List T) → w ≡ h ∷ t → Follows number class cs (w ++ rest) (w ++ other)
  same_start cs [] h t rest other e = absurd cc
  same_start cs (u ∷ w) h t rest other e = inl refl

  -- what completes a text after the first part
  pub record Ending {D : Type 0} (R : List T → D → List T → Type 0) (S Q : List C) : Type 0 where
    pub ws : List T
    pub real : Each Real ws
    pub value : D
    pub calm : (rest : List T) → next_in number class Q rest ≡ false → next_in number class S (ws ++ rest) ≡ false
    pub word : (rest : List T) → next_in number class Q rest ≡ false → R (ws ++ rest) value rest

  module _ {A D : Type 0} (Ra : List T → A → List T → Type 0) (Rb : A → List T → D → List T → Type 0) (P : List T → D → List T → Type 0) (Sa Q : List C) (ra : List T → Reading T A) (rb : A → List T → Reading T D) (join : (us mid rest : List T) (x : A) (y : D) → Ra us x mid → Rb x mid y rest → P us y rest) (upa : (rest : List T) → next_in number class Q rest ≡ false → next_in number class Sa rest ≡ false) (ending : (x : A) → Ending (Rb x) Sa Q) where
    abbrev pub second : Reading T A → Reading T D
    second q = q >>= λ x. rb x.0 x.1

    abbrev pub both : List T → Reading T D
    both us = second (ra us)

    -- the first is read again in front of what the second began with
    first_again : (front : List T) (x : A) (mid inner rest : List T) (t : T) (more other : List T) → ((u : T) (m o : List T) → mid ≡ u ∷ m → ra (front ++ u ∷ o) ≡ Ok (x, u ∷ o)) → mid ≡ inner ++ rest → rest ≡ t ∷ more → ra (front ++ (inner ++ t ∷ other)) ≡ Ok (x, inner ++ t ∷ other)
    first_again front x mid [] rest t more other again parts is = again t more other (parts ∙ is)
    first_again front x mid (u ∷ inner) rest t more other again parts is = again u (inner ++ rest) (inner ++ t ∷ other) parts

    second_says : (ts : List T) (x : A) (mid : List T) (q : Reading T D) → Found Ra Sa ra ts x mid → Says (Rb x) Q (rb x) mid q → Says P Q both ts q
    second_says ts x mid (Ok p) a s = record {
      front = a.front ++ s.front;
      parts = a.parts ∙ ap (λ (us : List T). a.front ++ us) s.parts ∙ sym (append_assoc a.front s.front p.1);
      moves = λ other fo.
          let inner = s.front ++ other in
          let fa = subst (λ (us : List T). Follows number class Sa us inner) (sym s.parts) (follows_through number class Sa s.front p.1 other (follows_up Sa Q upa p.1 other fo)) in
          subst (λ (us : List T). P us p.0 other) (sym (append_assoc a.front s.front other)) (join _ _ _ _ _ (a.moves inner fa) (s.moves other fo));
      again = λ t more other is.
          ap both (append_assoc a.front s.front (t ∷ other)) ∙ ap second (first_again a.front x mid s.front p.1 t more other a.again s.parts is) ∙ s.again t more other is;
    }
    second_says ts x mid (Err e) a s = record {
      front = a.front ++ s.front;
      parts = a.parts ∙ ap (λ (us : List T). a.front ++ us) s.parts ∙ sym (append_assoc a.front s.front e.rest);
      again = λ t more other is.
          ap both (append_assoc a.front s.front (t ∷ other)) ∙ ap second (first_again a.front x mid s.front e.rest t more other a.again s.parts is) ∙ s.again t more other is;
      viable = onwards a.front refl s.viable;
    }
      where
        -- the second is refused at once: the front of the first goes on by the ending
        at_once : (front : List T) → a.front ≡ front → s.front ≡ [] → (front ++ s.front ≡ []) ⊎ Completes P Q (front ++ s.front)
        at_once [] e none = inl none
        at_once (u ∷ w) e none =
            let n = ending x in
            inr (record {
              head = u;
              tail = w ++ s.front;
              is = refl;
              ws = n.ws;
              real = n.real;
              value = n.value;
              word = λ rest off.
                  let go : P (a.front ++ (n.ws ++ rest)) n.value rest = join _ _ _ _ _ (a.moves (n.ws ++ rest) (inr (n.calm rest off))) (n.word rest off) in
                  subst (λ (us : List T). P us n.value rest) (ap (λ (us : List T). us ++ (n.ws ++ rest)) (e ∙ sym (ap (λ (us : List T). (u ∷ w) ++ us) none ∙ append-nil (u ∷ w)))) go;
            })

        -- the second is refused later: its own completion
        later : Completes (Rb x) Q s.front → Completes P Q (a.front ++ s.front)
        later c =
            record {
              head = (longer a.front s.front c.head c.tail c.is).0;
              tail = (longer a.front s.front c.head c.tail c.is).1;
              is = (longer a.front s.front c.head c.tail c.is).2;
              ws = c.ws;
              real = c.real;
              value = c.value;
              word = λ rest off.
                  let inner = s.front ++ (c.ws ++ rest) in
                  let fa : Follows number class Sa mid inner = subst (λ (us : List T). Follows number class Sa us inner) (sym s.parts) (same_start Sa s.front c.head c.tail e.rest (c.ws ++ rest) c.is) in
                  subst (λ (us : List T). P us c.value rest) (sym (append_assoc a.front s.front (c.ws ++ rest))) (join _ _ _ _ _ (a.moves inner fa) (c.word rest off));
            }

        onwards : (front : List T) → a.front ≡ front → (s.front ≡ []) ⊎ Completes (Rb x) Q s.front → (a.front ++ s.front ≡ []) ⊎ Completes P Q (a.front ++ s.front)
        onwards front e (inl none) = subst (λ (us : List T). (us ++ s.front ≡ []) ⊎ Completes P Q (us ++ s.front)) (sym e) (at_once front e none)
        onwards front e (inr c) = inr (later c)

    pub both_say : (ts : List T) (q : Reading T A) → Each Real ts → Says Ra Sa ra ts q → ((x : A) (mid : List T) → q ≡ Ok (x, mid) → Each Real mid → Says (Rb x) Q (rb x) mid (rb x mid)) → Says P Q both ts (second q)
    both_say ts (Ok p) real s each = second_says ts p.0 p.1 (rb p.0 p.1) s (each p.0 p.1 refl (each_behind s.front p.1 (subst (Each Real) s.parts real)))
    both_say ts (Err e) real s each = record {
      front = s.front;
      parts = s.parts;
      again = λ t more other is. ap second (s.again t more other is);
      viable = onwards s.viable;
    }
      where
        onwards : (s.front ≡ []) ⊎ Completes Ra Sa s.front → (s.front ≡ []) ⊎ Completes P Q s.front
        onwards (inl none) = inl none
        onwards (inr c) =
            let n = ending c.value in
            inr (record {
              head = c.head;
              tail = c.tail;
              is = c.is;
              ws = c.ws ++ n.ws;
              real = each_append c.ws n.ws c.real n.real;
              value = n.value;
              word = λ rest off.
                  let go : P (s.front ++ (c.ws ++ (n.ws ++ rest))) n.value rest = join _ _ _ _ _ (c.word (n.ws ++ rest) (n.calm rest off)) (n.word rest off) in
                  subst (λ (us : List T). P (s.front ++ us) n.value rest) (sym (append_assoc c.ws n.ws rest)) go;
            })

  -- ---- a token, and a part after it that may depend on the token

  module _ {D : Type 0} (k : Refusal) (cs : List C) (Rb : T → List T → D → List T → Type 0) (P : List T → D → List T → Type 0) (Q : List C) (rb : T → List T → Reading T D) (join : (t : T) (mid rest : List T) (y : D) → is_one_of number (class t) cs ≡ true → Rb t mid y rest → P (t ∷ mid) y rest) where
    abbrev pub token_then : List T → Reading T D
    token_then us = with_hint k (read_token number class cs us) >>= λ x. rb x.0 x.1

    token_on : (t : T) (us : List T) → is_one_of number (class t) cs ≡ true → token_then (t ∷ us) ≡ rb t us
    token_on t us on = ap (λ (b : Bool). with_hint k (cond b (Ok (t, us)) (refused Expected (t ∷ us))) >>= λ x. rb x.0 x.1) on

    token_off : (t : T) (us : List T) → is_one_of number (class t) cs ≡ false → token_then (t ∷ us) ≡ refused (hinted k Expected) (t ∷ us)
    token_off t us off = ap (λ (b : Bool). with_hint k (cond b (Ok (t, us)) (refused Expected (t ∷ us))) >>= λ x. rb x.0 x.1) off

    behind_token : (t : T) (us : List T) (q : Reading T D) → is_one_of number (class t) cs ≡ true → Shortest (Rb t) Q false → Says (Rb t) Q (rb t) us q → Says P Q token_then (t ∷ us) q
    behind_token t us (Ok p) on d s = record {
      front = t ∷ s.front;
      parts = ap (λ (vs : List T). t ∷ vs) s.parts;
      moves = λ other fo. join t (s.front ++ other) other p.0 on (s.moves other fo);
      again = λ u more other is. token_on t (s.front ++ u ∷ other) on ∙ s.again u more other is;
    }
    behind_token t us (Err e) on d s = record {
      front = t ∷ s.front;
      parts = ap (λ (vs : List T). t ∷ vs) s.parts;
      again = λ u more other is. token_on t (s.front ++ u ∷ other) on ∙ s.again u more other is;
      viable = inr (onwards s.viable);
    }
      where
        onwards : (s.front ≡ []) ⊎ Completes (Rb t) Q s.front → Completes P Q (t ∷ s.front)
        onwards (inl none) = record {
          head = t;
          tail = s.front;
          is = refl;
          ws = d.ws;
          real = d.real;
          value = d.value;
          word = λ rest off. subst (λ (vs : List T). P (t ∷ (vs ++ (d.ws ++ rest))) d.value rest) (sym none) (join t (d.ws ++ rest) rest d.value on (d.word rest off));
        }
        onwards (inr c) = record {
          head = t;
          tail = s.front;
          is = refl;
          ws = c.ws;
          real = c.real;
          value = c.value;
          word = λ rest off. join t (s.front ++ (c.ws ++ rest)) rest c.value on (c.word rest off);
        }

    pub token_says : (ts : List T) → Each Real ts → ((t : T) → Real t → is_one_of number (class t) cs ≡ true → Shortest (Rb t) Q false) → ((t : T) (us : List T) → Real t → is_one_of number (class t) cs ≡ true → Each Real us → Says (Rb t) Q (rb t) us (rb t us)) → Says P Q token_then ts (token_then ts)
    token_says [] real short each = record { front = []; parts = refl; again = λ t more other is. absurd cc; viable = inl refl }
    token_says (t ∷ us) real short each = go (is_one_of number (class t) cs) refl
      where
        go : (b : Bool) → is_one_of number (class t) cs ≡ b → Says P Q token_then (t ∷ us) (token_then (t ∷ us))
        go true on = subst (λ (q : Reading T D). Says P Q token_then (t ∷ us) q) (sym (token_on t us on)) (behind_token t us (rb t us) on (short t real.0 on) (each t us real.0 on real.1))
        go false off = subst (λ (q : Reading T D). Says P Q token_then (t ∷ us) q) (sym (token_off t us off)) (record {
          front = [];
          parts = refl;
          again = λ u more other is. let same : t ≡ u = cc in token_off u other (subst (λ v. is_one_of number (class v) cs ≡ false) same off);
          viable = inl refl;
        })
