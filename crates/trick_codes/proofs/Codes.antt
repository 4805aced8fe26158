-- Reading by a code is exact.
use Rattle.std.proofs.Common.{◌≡◌, ℕ, Bool, true, false, cond, List, [], ◌∷◌, ◌++◌, Ok, Err, refl, sym, ap, ◌∙◌, inl, inr, subst, append_assoc, arith}
use Rattle.std.proofs.lemmas.Bool.{eq-eqb, eqb-true}
use Rattle.std.specs.Prelude.{nat_eq, pos}
use Rattle.trick_codes.proofs.Base.{when_on, when_off, cons_is, apart, good_is, good_bad, TellsOf}
use Rattle.trick_codes.proofs.Fields.{literal_back, literal_says, integer_back, integer_says, free_back, free_says, word_back, word_tells}
use Rattle.trick_codes.proofs.Numbers.{number_back, number_says}
use Rattle.trick_codes.specs.Code.{Code, nothing, literal, number, integer, free, one_of, choice, sequence, read_as, Either, left, right, Told, ◌>>=◌, spell, Fits, read, Sound}
use Rattle.trick_codes.specs.Exact.{Tells}
use Rattle.trick_codes.specs.declared.miss.Miss.TheVariants.{Ends, Differs}

-- each sound code has a value with a text
pub some_value : {A : Type 0} (c : Code A) → Sound c → (x : A) × Fits c x
some_value (nothing y) s = (y, refl)
some_value (literal bs) s = (tt, tt)
some_value (number least most end) s = (least, (omega arith, s.1))
some_value (integer below above end) s = (pos 0, omega arith)
some_value (free most end) s = ([], (omega arith, refl))
some_value (one_of ws) s = (0, s.0)
some_value (choice b c d) s = let x = some_value c s.0 in (left (x.0), x.1)
some_value (sequence c f) s = let d = some_value c s.0 in let e = some_value (f d.0) (s.1 d.0 d.1) in ((d.0, e.0), (d.1, e.1))
some_value (read_as f g c) s =
    let d = some_value c s.0 in
    (f d.0, (subst (Fits c) (sym (s.1 d.0 d.1)) d.1, ap f (s.1 d.0 d.1)))

-- what is spelled is read
pub back : {A : Type 0} (c : Code A) (x : A) (rest : List ℕ) → Sound c → Fits c x → read c (spell c x ++ rest) ≡ Ok (x, rest)
back (nothing y) x rest s h = rw h refl
back (literal bs) x rest s h = literal_back bs rest
back (number least most end) x rest s h = number_back least most end s.0 s.1 s.2 s.3 x rest h
back (integer below above end) x rest s h = integer_back below above end s.0 s.1 s.2 x rest h
back (free most end) x rest s h = free_back end most x rest h
back (one_of ws) x rest s h = word_back ws s.1 x rest h
back (choice b c d) (left x) rest s h =
    let p = s.2 x h in
    ap (λ (us : List ℕ). read (choice b c d) (us ++ rest)) p.1
    ∙ when_on (nat_eq b b) _ _ _ (eq-eqb b b refl) (rw (ap (λ (us : List ℕ). read c (us ++ rest)) (sym p.1) ∙ back c x rest s.0 h) refl)
back (choice b c d) (right y) rest s h =
    let p = s.3 y h in
    ap (λ (us : List ℕ). read (choice b c d) (us ++ rest)) p.2
    ∙ when_off (nat_eq p.0 b) _ _ _ p.3 (rw (ap (λ (us : List ℕ). read d (us ++ rest)) (sym p.2) ∙ back d y rest s.1 h) refl)
back (sequence c f) x rest s h =
    ap (read (sequence c f)) (append_assoc (spell c x.0) (spell (f x.0) x.1) rest)
    ∙ rw (back c x.0 (spell (f x.0) x.1 ++ rest) s.0 h.0, back (f x.0) x.1 rest (s.1 x.0 h.0) h.1) refl
back (read_as f g c) x rest s h = rw (back c (g x) rest s.0 h.0, h.1) refl

of_field : {A : Type 0} (c : Code A) (ts : List ℕ) (q : Told A) → TellsOf (spell c) (Fits c) ts q → Tells c ts q
of_field c ts (Ok p) t = t
of_field c ts (Err Ends) t = t
of_field c ts (Err Differs) t = t

-- what is read is spelled so, what ends goes on to a value's text, and what differs goes on to none
pub tells : {A : Type 0} (c : Code A) (ts : List ℕ) → Sound c → Tells c ts (read c ts)
tells (nothing y) ts s = (refl, refl)
tells (literal bs) ts s = of_field (literal bs) ts (read (literal bs) ts) (literal_says bs ts)
tells (number least most end) ts s = of_field (number least most end) ts (read (number least most end) ts) (number_says least most end s.0 s.1 s.2 s.3 ts)
tells (integer below above end) ts s = of_field (integer below above end) ts (read (integer below above end) ts) (integer_says below above end s.0 s.1 s.2 ts)
tells (free most end) ts s = of_field (free most end) ts (read (free most end) ts) (free_says end most ts)
tells (one_of ws) ts s = of_field (one_of ws) ts (read (one_of ws) ts) (word_tells ws s.1 ts)
tells (choice b c d) [] s = let x = some_value c s.0 in (left (x.0), spell c x.0, x.1, refl)
tells (choice {A} {B} b c d) (t ∷ ts) s = go (nat_eq t b) refl (tells c (t ∷ ts) s.0) (tells d (t ∷ ts) s.1)
  where
    first : (q : Told A) → t ≡ b → Tells c (t ∷ ts) q → Tells (choice b c d) (t ∷ ts) (q >>= λ x. Ok (left (x.0), x.1))
    first (Ok p) e r = r
    first (Err Ends) e r = (left (r.0), r.1, r.2, r.3)
    first (Err Differs) e r = λ g. no g.0 g.1 g.2 g.3
      where
        no : (z : Either A B) (more : List ℕ) → Fits (choice b c d) z → spell (choice b c d) z ≡ t ∷ (ts ++ more) → ⊥
        no (left x) more h k = r (x, more, h, k)
        no (right y) more h k =
            let p = s.3 y h in
            let same = (cons_is _ _ _ _ (sym p.2 ∙ k)).0 in
            let o : nat_eq p.0 b ≡ true = eq-eqb p.0 b (same ∙ e) in
            let f = p.3 in
            absurd cc

    second : (q : Told B) → nat_eq t b ≡ false → Tells d (t ∷ ts) q → Tells (choice b c d) (t ∷ ts) (q >>= λ x. Ok (right (x.0), x.1))
    second (Ok p) e r = r
    second (Err Ends) e r = (right (r.0), r.1, r.2, r.3)
    second (Err Differs) e r = λ g. no g.0 g.1 g.2 g.3
      where
        no : (z : Either A B) (more : List ℕ) → Fits (choice b c d) z → spell (choice b c d) z ≡ t ∷ (ts ++ more) → ⊥
        no (left x) more h k =
            let p = s.2 x h in
            let same = (cons_is _ _ _ _ (sym p.1 ∙ k)).0 in
            let o : nat_eq t b ≡ true = eq-eqb t b (sym same) in
            absurd cc
        no (right y) more h k = r (y, more, h, k)

    go : (k : Bool) → nat_eq t b ≡ k → Tells c (t ∷ ts) (read c (t ∷ ts)) → Tells d (t ∷ ts) (read d (t ∷ ts)) → Tells (choice b c d) (t ∷ ts) (cond k (read c (t ∷ ts) >>= λ x. Ok (left (x.0), x.1)) (read d (t ∷ ts) >>= λ y. Ok (right (y.0), y.1)))
    go true e l r = first (read c (t ∷ ts)) (eqb-true t b e) l
    go false e l r = second (read d (t ∷ ts)) e r
tells (sequence {A} {B} c f) ts s = first (read c ts) refl (tells c ts s.0) (λ x h us. tells (f x) us (s.1 x h))
  where
    second : (x : A) (mid : List ℕ) → Fits c x → ts ≡ spell c x ++ mid → (q : Told B) → Tells (f x) mid q → Tells (sequence c f) ts (q >>= λ y. Ok ((x, y.0), y.1))
    second x mid h e (Ok p) r = (e ∙ ap (λ (us : List ℕ). spell c x ++ us) r.0 ∙ sym (append_assoc (spell c x) (spell (f x) p.0) p.1), (h, r.1))
    second x mid h e (Err Ends) r = ((x, r.0), r.1, (h, r.2), ap (λ (us : List ℕ). spell c x ++ us) r.3 ∙ sym (append_assoc (spell c x) mid r.1) ∙ ap (λ (us : List ℕ). us ++ r.1) (sym e))
    second x mid h e (Err Differs) r = λ g. no g.0.0 g.0.1 g.1 g.2 g.3
      where
        no : (y : A) (z : B) (more : List ℕ) → Fits c y × Fits (f y) z → spell c y ++ spell (f y) z ≡ ts ++ more → ⊥
        no y z more k q =
            let both : spell c y ++ spell (f y) z ≡ spell c x ++ (mid ++ more) = q ∙ ap (λ (us : List ℕ). us ++ more) e ∙ append_assoc (spell c x) mid more in
            let same = good_is y x (spell (f y) z) (mid ++ more) (sym (back c y (spell (f y) z) s.0 k.0) ∙ ap (read c) both ∙ back c x (mid ++ more) s.0 h) in
            moved y same.0 z k.1 same.1
          where
            moved : (y : A) → y ≡ x → (z : B) → Fits (f y) z → spell (f y) z ≡ mid ++ more → ⊥
            moved y e = subst (λ y. (z : B) → Fits (f y) z → spell (f y) z ≡ mid ++ more → ⊥) (sym e) (λ z k q. r (z, more, k, q))

    first : (q : Told A) → read c ts ≡ q → Tells c ts q → ((x : A) → Fits c x → (us : List ℕ) → Tells (f x) us (read (f x) us)) → Tells (sequence c f) ts (q >>= λ x. read (f x.0) x.1 >>= λ y. Ok ((x.0, y.0), y.1))
    first (Ok p) e r each = second p.0 p.1 r.1 r.0 (read (f p.0) p.1) (each p.0 r.1 p.1)
    first (Err Ends) e r each = let d = some_value (f r.0) (s.1 r.0 r.2) in ((r.0, d.0), r.1 ++ spell (f r.0) d.0, (r.2, d.1), ap (λ (us : List ℕ). us ++ spell (f r.0) d.0) r.3 ∙ append_assoc ts r.1 (spell (f r.0) d.0))
    first (Err Differs) e r each = λ g. elim (apart (spell c g.0.0) (spell (f g.0.0) g.0.1) ts g.1 g.3) [
      | inl p ↦ r (g.0.0, p.0, g.2.0, p.1)
      | inr p ↦ good_bad g.0.0 p.0 Differs (sym (back c g.0.0 p.0 s.0 g.2.0) ∙ ap (read c) (sym p.1) ∙ e)
    ]
tells (read_as {A} {B} f g c) ts s = go (read c ts) (tells c ts s.0)
  where
    go : (q : Told A) → Tells c ts q → Tells (read_as f g c) ts (q >>= λ x. Ok (f x.0, x.1))
    go (Ok p) t = let inv = s.1 p.0 t.1 in (t.0 ∙ ap (λ x. spell c x ++ p.1) (sym inv), (subst (Fits c) (sym inv) t.1, ap f inv))
    go (Err Ends) t = let inv = s.1 t.0 t.2 in (f t.0, t.1, (subst (Fits c) (sym inv) t.2, ap f inv), ap (spell c) inv ∙ t.3)
    go (Err Differs) t = λ b. t (g b.0, b.1, b.2.0, b.3)
