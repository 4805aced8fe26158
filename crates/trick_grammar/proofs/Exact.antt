-- Reading a whole text is exact, for each grammar that the next token decides, and so is reading a
-- front where no text of the grammar would take the next token.
use Rattle.std.proofs.Common.{◌≡◌, ◌⊎◌, ℕ, suc, true, false, List, [], ◌∷◌, ◌++◌, Contains, arith, Ok, Err, refl, sym, ap, ◌∙◌, inl, inr, subst, append_assoc}
use Rattle.std.proofs.lemmas.List.{append-nil}
use Rattle.trick_grammar.specs.Grammar.{Grammar, barred_after, has_text, is_predictive, more_of}
use Rattle.trick_grammar.specs.StartsWith.{Each, StartsWith, next_in}
use Rattle.trick_grammar.specs.Reading.{Refused, Reading, refused, read}
use Rattle.trick_grammar.specs.Text.{at_end, read_all, IsText, GoesOn, IsOffered, IsExact, IsExactFront}
use Rattle.trick_grammar.proofs.Says.{Completes, Says}
use Rattle.trick_grammar.proofs.Tests.{same_refl}
use Rattle.trick_grammar.proofs.Sound.{shortest, says}
use Rattle.trick_grammar.proofs.Complete.{complete}

abbrev was_read : {T A : Type 0} → A → List T → Reading T A
was_read x us = Ok (x, us)

read_is : {T A : Type 0} (x y : A) (us vs : List T) → was_read x us ≡ was_read y vs → (x ≡ y) × (us ≡ vs)
read_is {T} {A} x y us vs h =
    let pair : ◌≡◌ {A = A × List T} (x, us) (y, vs) = cc in (ap (λ (p : A × List T). p.0) pair, ap (λ (p : A × List T). p.1) pair)

read_is_refused : {T A : Type 0} (x : A) (us : List T) (b : Refused T) → was_read x us ≡ Err b → ⊥
read_is_refused x us b h = cc

cons_not_nil : {T : Type 0} (t : T) (ts : List T) → t ∷ ts ≡ [] → ⊥
cons_not_nil t ts h = cc

module _ {C T : Type 0} (number : C → ℕ) (class : T → C) (spelled : C → T) (is_spelled : (c : C) → class (spelled c) ≡ c) {A : Type 0} (g : Grammar C T A) (predictive : is_predictive number g ≡ true) (inhabited : has_text g ≡ true) where
  -- a text of the grammar is read to its end
  reads_all : (ts : List T) (x : A) → IsText number class g ts x → read number class [] g ts ≡ Ok (x, [])
  reads_all ts x h = complete number class spelled is_spelled [] g ts x [] predictive h refl

  -- a front that reading refuses to pass, whatever follows, begins no text
  no_text : (front : List T) (t : T) (q : List T → Reading T A) → ((other : List T) → read number class [] g (front ++ t ∷ other) ≡ q other) → ((other : List T) (x : A) → q other ≡ Ok (x, []) → ⊥) → GoesOn number class g (front ++ t ∷ []) → ⊥
  no_text front t q again never h = never h.0 h.1 (sym (again h.0) ∙ sym (ap (read number class [] g) (append_assoc front (t ∷ []) h.0)) ∙ reads_all ((front ++ t ∷ []) ++ h.0) h.1 h.2)

  -- offered tokens complete this front to a text
  abbrev Completion : List T → List T → Type 0
  Completion ts front = (more : List T) × (x : A) × Each (IsOffered number class spelled ts) more × IsText number class g (front ++ more) x

  from_nothing : (ts : List T) → Completion ts []
  from_nothing ts =
      let d = shortest number class spelled is_spelled (IsOffered number class spelled ts) (λ c. inl (c, refl)) [] tt g predictive inhabited in
      (d.ws, d.value, d.real, subst (λ (us : List T). IsText number class g us d.value) (append-nil d.ws) (d.word [] refl))

  answer : (ts : List T) (q : Reading T A) → read number class [] g ts ≡ q → Says number class (IsOffered number class spelled ts) (StartsWith number class [] g) (barred_after g) (read number class [] g) ts q → IsExact number class spelled g ts (at_end q)
  answer ts (Ok (x, [])) e s = (
    subst (λ (us : List T). IsText number class g us x) (sym s.parts) (s.moves [] (inl tt)),
    λ y h. (read_is y x [] [] (sym (reads_all ts y h) ∙ e)).0,
  )
  answer ts (Ok (x, t ∷ more)) e s = record {
    front = s.front;
    parts = s.parts;
    goes_on = ([], x, tt, s.moves [] (inr refl));
    stops = λ u m is. no_text s.front u (λ other. Ok (x, u ∷ other)) (λ other. s.again u m other is) (λ other y k. cons_not_nil u other (read_is x y (u ∷ other) [] k).1);
    outside = λ y h. cons_not_nil t more (read_is x y (t ∷ more) [] (sym e ∙ reads_all ts y h)).1;
  }
  answer ts (Err b) e s = record {
    front = s.front;
    parts = s.parts;
    goes_on = onwards s.viable;
    stops = λ u m is. no_text s.front u (λ other. refused b.kind (u ∷ other)) (λ other. s.again u m other is) (λ other y k. read_is_refused y [] _ (sym k));
    outside = λ y h. read_is_refused y [] b (sym (reads_all ts y h) ∙ e);
  }
    where
      onwards : (s.front ≡ []) ⊎ Completes number class (IsOffered number class spelled ts) (StartsWith number class [] g) (barred_after g) s.front → Completion ts s.front
      onwards (inl none) = subst (Completion ts) (sym none) (from_nothing ts)
      onwards (inr c) = (c.ws, c.value, c.real, subst (λ (us : List T). IsText number class g (s.front ++ us) c.value) (append-nil c.ws) (c.word [] refl))

  offered : (ts us : List T) → ((t : T) → Contains us t → Contains ts t) → Each (IsOffered number class spelled ts) us
  offered ts [] sub = tt
  offered ts (u ∷ us) sub = (inr (sub u (0, omega arith, refl)), offered ts us (λ t h. sub t (suc h.0, omega (arith, h.1), h.2)))

  pub exact : (ts : List T) → IsExact number class spelled g ts (read_all number class g ts)
  exact ts = answer ts (read number class [] g ts) refl (says number class spelled is_spelled (IsOffered number class spelled ts) (λ c. inl (c, refl)) [] tt g predictive ts (offered ts ts (λ t h. h)))

  -- ---- fronts

  module _ (closed : more_of g ≡ []) where
    reads_front : (ts : List T) (y : A) (rest : List T) → StartsWith number class [] g ts y rest → read number class [] g ts ≡ Ok (y, rest)
    reads_front ts y rest h = complete number class spelled is_spelled [] g ts y rest predictive h (ap (λ (cs : List C). next_in number class cs rest) closed ∙ none rest)
      where
        none : (us : List T) → next_in number class [] us ≡ false
        none [] = refl
        none (u ∷ us) = refl

    answer_front : (ts : List T) (q : Reading T A) → read number class [] g ts ≡ q → Says number class (IsOffered number class spelled ts) (StartsWith number class [] g) (barred_after g) (read number class [] g) ts q → IsExactFront number class spelled g ts q
    answer_front ts (Ok x) e s = (
      subst (λ (us : List T). StartsWith number class [] g us x.0 x.1) (sym s.parts) (s.moves x.1 (inl (same_refl x.1))),
      λ y rest h. read_is y x.0 rest x.1 (sym (reads_front ts y rest h) ∙ e),
    )
    answer_front ts (Err b) e s = (answer ts (Err b) e s, λ y rest h. read_is_refused y rest b (sym (reads_front ts y rest h) ∙ e))

    pub exact_front : (ts : List T) → IsExactFront number class spelled g ts (read number class [] g ts)
    exact_front ts = answer_front ts (read number class [] g ts) refl (says number class spelled is_spelled (IsOffered number class spelled ts) (λ c. inl (c, refl)) [] tt g predictive ts (offered ts ts (λ t h. h)))
