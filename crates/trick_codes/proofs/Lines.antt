-- Reading lines is exact.
use Rattle.std.proofs.Common.{◌≡◌, ◌⊎◌, ℕ, ◌-◌, Bool, true, false, not, cond, ◌≢◌, take, List, [], ◌∷◌, ◌++◌, length, Ok, Err, refl, sym, ap, ◌∙◌, inl, inr, subst, append_assoc, arith}
use Rattle.std.proofs.lemmas.Bool.{and_parts}
use Rattle.std.proofs.lemmas.List.{append-nil, length-append}
use Rattle.std.specs.Prelude.{nat_eq}
use Rattle.trick_codes.proofs.Base.{good_is, good_bad, apart}
use Rattle.trick_codes.proofs.Codes.{tells, back, some_value}
use Rattle.trick_codes.specs.Code.{Told, ◌>>=◌, Code, spell, read, Sound}
use Rattle.trick_codes.specs.Exact.{Tells, TellsLines}
use Rattle.trick_codes.specs.Lines.{Lines, no_line, line, and_then, seen_as, text, Holds, IsPrefix, first_line, cut, wrong, Seen, judged, fed, read_lines, is_one_line, SoundLines}
use Rattle.trick_codes.specs.Loads.{line_behind, front_of, IsRefusedAt, IsProperPrefix, GoesOnBehind}
use Rattle.trick_codes.specs.declared.kind.Kind.{Kind}
use Rattle.trick_codes.specs.declared.miss.Miss.TheVariants.{Ends, Differs}

pub fed_sound : {A : Type 0} (c : Code A) → Sound c → Sound (fed c)
fed_sound c s = ((s, λ x h. tt), λ v h. refl)

pub some_text : {A : Type 0} (c : Lines A) → SoundLines c → (x : A) × Holds c x
some_text (no_line y) s = (y, refl)
some_text (line k c) s = some_value c s.0
some_text (and_then c f) s = let d = some_text c s.0 in let e = some_text (f d.0) (s.1 d.0 d.1) in ((d.0, e.0), (d.1, e.1))
some_text (seen_as f g c) s = let d = some_text c s.0 in (f d.0, (subst (Holds c) (sym (s.1 d.0 d.1)) d.1, ap f (s.1 d.0 d.1)))

pub lines_back : {A : Type 0} (c : Lines A) (x : A) (rest : List ℕ) → SoundLines c → Holds c x → read_lines c (text c x ++ rest) ≡ Ok (x, rest)
lines_back (no_line y) x rest s h = rw h refl
lines_back (line k c) x rest s h = ap (judged k ((spell c x ++ 10 ∷ []) ++ rest)) (back (fed c) x rest (fed_sound c s.0) ((h, tt), refl))
lines_back (and_then c f) x rest s h =
    ap (read_lines (and_then c f)) (append_assoc (text c x.0) (text (f x.0) x.1) rest)
    ∙ rw (lines_back c x.0 (text (f x.0) x.1 ++ rest) s.0 h.0, lines_back (f x.0) x.1 rest (s.1 x.0 h.0) h.1) refl
lines_back (seen_as f g c) x rest s h = rw (lines_back c (g x) rest s.0 h.0, h.1) refl

-- the rest of a text after its first_line line
pub first_is : (ts : List ℕ) → (others : List ℕ) × (ts ≡ first_line ts ++ others)
first_is [] = ([], refl)
first_is (t ∷ ts) = go (nat_eq t 10) (first_is ts)
  where
    go : (b : Bool) → ((others : List ℕ) × (ts ≡ first_line ts ++ others)) → (others : List ℕ) × (t ∷ ts ≡ cond b (t ∷ []) (t ∷ first_line ts) ++ others)
    go true r = (ts, refl)
    go false r = (r.0, ap (λ (us : List ℕ). t ∷ us) r.1)

-- a line that begins with all of a text's first_line line is that line, or the text is a part of it
pub same_line : (body ts more : List ℕ) → is_one_line body ≡ true → body ++ 10 ∷ [] ≡ first_line ts ++ more → ((others : List ℕ) × (ts ≡ (body ++ 10 ∷ []) ++ others)) ⊎ ((m : List ℕ) × (body ++ 10 ∷ [] ≡ ts ++ m))
same_line body [] more p e = inr (body ++ 10 ∷ [], refl)
same_line [] (t ∷ ts) more p e = go (nat_eq t 10) e
  where
    go : (b : Bool) → 10 ∷ [] ≡ cond b (t ∷ []) (t ∷ first_line ts) ++ more → ((others : List ℕ) × (t ∷ ts ≡ 10 ∷ others)) ⊎ ((m : List ℕ) × (10 ∷ [] ≡ t ∷ (ts ++ m)))
    go true e = let h : 10 ≡ t = cc in inl (ts, ap (λ (u : ℕ). u ∷ ts) (sym h))
    go false e = let h : 10 ≡ t = cc in inl (ts, ap (λ (u : ℕ). u ∷ ts) (sym h))
same_line (b ∷ body) (t ∷ ts) more p e = go (nat_eq t 10) refl e (λ h. same_line body ts more (and_parts _ _ p).1 h)
  where
    go : (k : Bool) → nat_eq t 10 ≡ k → b ∷ (body ++ 10 ∷ []) ≡ cond k (t ∷ []) (t ∷ first_line ts) ++ more
        → (body ++ 10 ∷ [] ≡ first_line ts ++ more → ((others : List ℕ) × (ts ≡ (body ++ 10 ∷ []) ++ others)) ⊎ ((m : List ℕ) × (body ++ 10 ∷ [] ≡ ts ++ m)))
        → ((others : List ℕ) × (t ∷ ts ≡ b ∷ ((body ++ 10 ∷ []) ++ others))) ⊎ ((m : List ℕ) × (b ∷ (body ++ 10 ∷ []) ≡ t ∷ (ts ++ m)))
    go true q e ih =
        let h : b ≡ t = cc in
        let r : nat_eq b 10 ≡ true = ap (λ u. nat_eq u 10) h ∙ q in
        let n : not (nat_eq b 10) ≡ true = (and_parts _ _ p).0 in
        absurd cc
    go false q e ih =
        let h : b ≡ t = cc in
        let tail : body ++ 10 ∷ [] ≡ first_line ts ++ more = cc in
        elim (ih tail) [
          | inl r ↦ inl (r.0, ap (λ (u : ℕ). u ∷ ts) (sym h) ∙ ap (λ (us : List ℕ). b ∷ us) r.1)
          | inr r ↦ inr (r.0, ap (λ (u : ℕ). u ∷ (body ++ 10 ∷ [])) h ∙ ap (λ (us : List ℕ). t ∷ us) r.1)
        ]

line_tells : {A : Type 0} (k : List ℕ → Kind) (c : Code A) (ts : List ℕ) → SoundLines (line k c) → (q : Told A) → read (fed c) ts ≡ q → Tells (fed c) ts q → TellsLines (line k c) ts (judged k ts q)
line_tells k c ts s (Ok p) e t = (t.0, t.1.0.0)
line_tells k c ts s (Err Ends) e t = (t.0, t.1, t.2.0.0, t.3)
line_tells k c ts s (Err Differs) e t =
    let d = some_value c s.0 in (
      [],
      refl,
      (d.0, spell c d.0 ++ 10 ∷ [], d.1, refl),
      (λ o. elim (same_line (spell c o.0) ts o.1 (s.1 o.0 o.2) o.3) [
        | inl r ↦ good_bad o.0 r.0 Differs (sym (back (fed c) o.0 r.0 (fed_sound c s.0) ((o.2, tt), refl)) ∙ ap (read (fed c)) (sym r.1) ∙ e)
        | inr r ↦ t (o.0, r.0, ((o.2, tt), refl), r.1)
      ]),
      k,
      (refl, refl),
      refl,
    )

pub lines_tell : {A : Type 0} (c : Lines A) (ts : List ℕ) → SoundLines c → TellsLines c ts (read_lines c ts)
lines_tell (no_line y) ts s = (refl, refl)
lines_tell (line k c) ts s = line_tells k c ts s (read (fed c) ts) refl (tells (fed c) ts (fed_sound c s.0))
lines_tell (and_then {A} {B} c f) ts s = start (read_lines c ts) refl (lines_tell c ts s.0) (λ x h us. lines_tell (f x) us (s.1 x h))
  where
    -- what stands after a value's text is that of the second alone
    moved : (x : A) → Holds c x → (us : List ℕ) → (IsPrefix (f x) us → ⊥) → IsPrefix (and_then c f) (text c x ++ us) → ⊥
    moved x h us never g =
        let both = g.3 ∙ append_assoc (text c x) us g.1 in
        let same = good_is g.0.0 x (text (f g.0.0) g.0.1) (us ++ g.1) (sym (lines_back c g.0.0 (text (f g.0.0) g.0.1) s.0 g.2.0) ∙ ap (read_lines c) both ∙ lines_back c x (us ++ g.1) s.0 h) in
        go g.0.0 same.0 g.0.1 g.2.1 same.1
      where
        go : (y : A) → y ≡ x → (z : B) → Holds (f y) z → text (f y) z ≡ us ++ g.1 → ⊥
        go y e = subst (λ y. (z : B) → Holds (f y) z → text (f y) z ≡ us ++ g.1 → ⊥) (sym e) (λ z k q. never (z, g.1, k, q))

    second : (x : A) (mid : List ℕ) → Holds c x → ts ≡ text c x ++ mid → (q : Seen B) → TellsLines (f x) mid q → TellsLines (and_then c f) ts (q >>= λ y. Ok ((x, y.0), y.1))
    second x mid h e (Ok p) r = (e ∙ ap (λ (us : List ℕ). text c x ++ us) r.0 ∙ sym (append_assoc (text c x) (text (f x) p.0) p.1), (h, r.1))
    second x mid h e (Err cut) r = ((x, r.0), r.1, (h, r.2), ap (λ (us : List ℕ). text c x ++ us) r.3 ∙ sym (append_assoc (text c x) mid r.1) ∙ ap (λ (us : List ℕ). us ++ r.1) (sym e))
    second x mid h e (Err (wrong kind rest)) r =
        let o = r.2 in (
          text c x ++ r.0,
          e ∙ ap (λ (us : List ℕ). text c x ++ us) r.1 ∙ sym (append_assoc (text c x) r.0 rest),
          ((x, o.0), o.1, (h, o.2), ap (λ (us : List ℕ). text c x ++ us) o.3 ∙ sym (append_assoc (text c x) r.0 o.1)),
          (λ g. moved x h (r.0 ++ first_line rest) r.3 (g.0, g.1, g.2, g.3 ∙ ap (λ (us : List ℕ). us ++ g.1) (append_assoc (text c x) r.0 (first_line rest)))),
          r.4,
          inr (x, r.0, h, refl, r.5),
          r.6,
        )

    start : (q : Seen A) → read_lines c ts ≡ q → TellsLines c ts q → ((x : A) → Holds c x → (us : List ℕ) → TellsLines (f x) us (read_lines (f x) us)) → TellsLines (and_then c f) ts (q >>= λ x. read_lines (f x.0) x.1 >>= λ y. Ok ((x.0, y.0), y.1))
    start (Ok p) e r all = second p.0 p.1 r.1 r.0 (read_lines (f p.0) p.1) (all p.0 r.1 p.1)
    start (Err cut) e r all = let d = some_text (f r.0) (s.1 r.0 r.2) in ((r.0, d.0), r.1 ++ text (f r.0) d.0, (r.2, d.1), ap (λ (us : List ℕ). us ++ text (f r.0) d.0) r.3 ∙ append_assoc ts r.1 (text (f r.0) d.0))
    start (Err (wrong kind rest)) e r all =
        let o = r.2 in
        let d = some_text (f o.0) (s.1 o.0 o.2) in (
          r.0,
          r.1,
          ((o.0, d.0), o.1 ++ text (f o.0) d.0, (o.2, d.1), ap (λ (us : List ℕ). us ++ text (f o.0) d.0) o.3 ∙ append_assoc r.0 o.1 (text (f o.0) d.0)),
          (λ g. elim (apart (text c g.0.0) (text (f g.0.0) g.0.1) (r.0 ++ first_line rest) g.1 g.3) [
            | inl p ↦ r.3 (g.0.0, p.0, g.2.0, p.1)
            | inr p ↦
                let tail = first_is rest in
                let all_of = r.1 ∙ ap (λ (us : List ℕ). r.0 ++ us) tail.1 ∙ sym (append_assoc r.0 (first_line rest) tail.0) ∙ ap (λ (us : List ℕ). us ++ tail.0) p.1 ∙ append_assoc (text c g.0.0) p.0 tail.0 in
                good_bad g.0.0 (p.0 ++ tail.0) (wrong kind rest) (sym (lines_back c g.0.0 (p.0 ++ tail.0) s.0 g.2.0) ∙ ap (read_lines c) (sym all_of) ∙ e)
          ]),
          r.4,
          inl r.5,
          r.6,
        )
lines_tell (seen_as {A} {B} f g c) ts s = go (read_lines c ts) (lines_tell c ts s.0)
  where
    there : (us : List ℕ) → IsPrefix c us → IsPrefix (seen_as f g c) us
    there us t = let inv = s.1 t.0 t.2 in (f t.0, t.1, (subst (Holds c) (sym inv) t.2, ap f inv), ap (text c) inv ∙ t.3)

    here : (us : List ℕ) → IsPrefix (seen_as f g c) us → IsPrefix c us
    here us b = (g b.0, b.1, b.2.0, b.3)

    go : (q : Seen A) → TellsLines c ts q → TellsLines (seen_as f g c) ts (q >>= λ x. Ok (f x.0, x.1))
    go (Ok p) t = let inv = s.1 p.0 t.1 in (t.0 ∙ ap (λ x. text c x ++ p.1) (sym inv), (subst (Holds c) (sym inv) t.1, ap f inv))
    go (Err cut) t = there ts t
    go (Err (wrong kind rest)) t = (t.0, t.1, there t.0 t.2, (λ o. t.3 (here (t.0 ++ first_line rest) o)), t.4, t.5, t.6)

take_front : (us vs : List ℕ) → take (length us) (us ++ vs) ≡ us
take_front [] vs = refl
take_front (u ∷ us) vs = ap (λ (w : List ℕ). u ∷ w) (take_front us vs)

-- ---- whole texts
module _ {A : Type 0} (c : Lines A) (sound : SoundLines c) where
  pub whole_back : (x : A) → Holds c x → read_lines c (text c x) ≡ Ok (x, [])
  whole_back x h = ap (read_lines c) (sym (append-nil (text c x))) ∙ lines_back c x [] sound h

  -- no text begins another's
  pub no_front : (x y : A) (more : List ℕ) → Holds c x → Holds c y → text c x ++ more ≡ text c y → (x ≡ y) × (more ≡ [])
  no_front x y more h k e = good_is x y more [] (sym (lines_back c x more sound h) ∙ ap (read_lines c) e ∙ whole_back y k)

  -- what is read of a whole text
  pub got_it : (ts : List ℕ) (x : A) (rest : List ℕ) → read_lines c ts ≡ Ok (x, rest) → (ts ≡ text c x ++ rest) × Holds c x
  got_it ts x rest e = subst (TellsLines c ts) e (lines_tell c ts sound)

  pub cut_off : (ts : List ℕ) → read_lines c ts ≡ Err cut → IsProperPrefix c ts
  cut_off ts e = (subst (TellsLines c ts) e (lines_tell c ts sound), λ x h q. good_bad x [] cut (sym (whole_back x h) ∙ ap (read_lines c) (sym q) ∙ e))

  -- before the rest stands the front
  before : (ts front rest : List ℕ) → ts ≡ front ++ rest → front_of ts rest ≡ front
  before ts front rest e =
      let len : length ts - length rest ≡ length front = omega (arith, ap length e, length-append front rest) in
      ap (λ k. take k ts) len ∙ ap (take (length front)) e ∙ take_front front rest

  pub refused_at : (ts : List ℕ) (kind : Kind) (rest : List ℕ) → read_lines c ts ≡ Err (wrong kind rest) → IsRefusedAt c ts kind (line_behind (front_of ts rest))
  refused_at ts kind rest e =
      let r = subst (TellsLines c ts) e (lines_tell c ts sound) in
      (r.0, rest, r.1, r.2, r.3, ap line_behind (before ts r.0 rest r.1), r.4, r.5, r.6)

  pub read_all : (ts : List ℕ) (x : A) (rest : List ℕ) → read_lines c ts ≡ Ok (x, rest) → rest ≡ [] → (ts ≡ text c x) × Holds c x
  read_all ts x rest e empty = let p = got_it ts x rest e in (p.0 ∙ ap (λ us. text c x ++ us) empty ∙ append-nil (text c x), p.1)

  pub read_more : (ts : List ℕ) (x : A) (rest : List ℕ) → read_lines c ts ≡ Ok (x, rest) → rest ≢ [] → GoesOnBehind c ts (length (front_of ts rest))
  read_more ts x rest e some = let p = got_it ts x rest e in (x, rest, p.1, p.0, some, ap length (before ts (text c x) rest p.0))
