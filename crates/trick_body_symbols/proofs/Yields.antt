-- The values that a grammar gives to texts whose tokens all have a property, without the places of
-- the tokens.
use Rattle.std.proofs.Common.{◌≡◌, ◌⊎◌, ℕ, zero, suc, ◌≤◌, Bool, true, false, List, [], ◌∷◌, length, Option, Some, None, inl, inr, subst, arith}
use Rattle.trick_grammar.proofs.Tests.{and_true}
use Rattle.trick_grammar.specs.Classes.{is_one_of}
use Rattle.trick_grammar.specs.Grammar.{Link, onward, last, Grammar, token, nothing, refuse, sequence, choice, repetition, chain, nearest, rule, hint, scope, after, again, alone, act, first_of}
use Rattle.trick_grammar.specs.StartsWith.{Each, Links, Repeats, StartsWith}

-- the value, where there is one
abbrev pub OnSome : {A : Type 0} → (A → Type 0) → Option A → Type 0
OnSome P None = Unit {0}
OnSome P (Some x) = P x

module _ {C T : Type 0} (number : C → ℕ) (class : T → C) (Right : T → Type 0) where
  -- a right token of these classes
  abbrev pub IsOf : List C → T → Type 0
  IsOf cs t = (is_one_of number (class t) cs ≡ true) × Right t

  -- the value is one of a text of right tokens
  unfoldable pub Yields : {A : Type 0} → Grammar C T A → A → Type 0
  Yields (token cs) x = IsOf cs x
  Yields (nothing y) x = x ≡ y
  Yields (refuse k cs) x = ⊥
  Yields (sequence a b) x = Yields a x.0 × Yields b x.1
  Yields (choice a b) x = Yields a x ⊎ Yields b x
  Yields (repetition n a) x = Each (Yields a) x × (length x ≤ n)
  Yields (chain a) x = Each (λ y. Yields a (onward y)) x.0 × OnSome (λ y. Yields a (last y)) x.1
  Yields (nearest a) x = Each (λ y. Yields a (onward y)) x.0 × OnSome (λ y. Yields a (last y)) x.1
  Yields (rule i a) x = Yields a x
  Yields (hint k a) x = Yields a x
  Yields (scope k cs b) x = IsOf cs x.0 × Yields b x.1
  Yields (after k cs test b c) x = IsOf cs x.0 × (Yields b x.1 ⊎ Yields c x.1)
  Yields (again key cs) x = IsOf cs x
  Yields (alone a) x = Yields a x
  Yields (act {A} f a) x = (y : A) × Yields a y × (f y ≡ x)

  -- what was read is right, and the tokens that follow it are right
  abbrev Reads : {A : Type 0} → (A → Type 0) → (List T → A → List T → Type 0) → Type 0
  Reads {A} Y R = (ts : List T) (x : A) (rest : List T) → Each Right ts → R ts x rest → Y x × Each Right rest

  items_yield : {A : Type 0} (Y : A → Type 0) (R : List T → A → List T → Type 0) → Reads Y R → (n : ℕ)
      → Reads (λ xs. Each Y xs × (length xs ≤ n)) (Repeats R n)
  items_yield Y R reads n ts [] rest right is = ((tt, omega arith), subst (Each Right) is right)
  items_yield Y R reads zero ts (x ∷ xs) rest right is = absurd is
  items_yield Y R reads (suc n) ts (x ∷ xs) rest right (mid, p, q) =
      let a = reads ts x mid right p in
      let b = items_yield Y R reads n mid xs rest a.1 q in
      let short = b.0.1 in
      (((a.0, b.0.0), omega arith), b.1)

  links_yield : {A B : Type 0} (Y : Link A B → Type 0) (R : List T → Link A B → List T → Type 0) → Reads Y R
      → (near : Bool) (cs : List C)
      → (ts : List T) (xs : List A) (end : Option B) (rest : List T) → Each Right ts
      → Links number class near R cs ts xs end rest
      → (Each (λ x. Y (onward x)) xs × OnSome (λ y. Y (last y)) end) × Each Right rest
  links_yield Y R reads near cs ts [] None rest right is = ((tt, tt), subst (Each Right) is.0 right)
  links_yield Y R reads near cs ts [] (Some y) rest right is =
      let a = reads ts (last y) rest right is in ((tt, a.0), a.1)
  links_yield Y R reads near cs ts (x ∷ xs) end rest right (mid, p, q) =
      let a = reads ts (onward x) mid right p in
      let b = links_yield Y R reads near cs mid xs end rest a.1 q in
      (((a.0, b.0.0), b.0.1), b.1)

  token_yields : (cs : List C) (ts : List T) (x : T) (rest : List T) → Each Right ts → ts ≡ x ∷ rest
      → is_one_of number (class x) cs ≡ true → IsOf cs x × Each Right rest
  token_yields cs ts x rest right is one = let r = subst (Each Right) is right in ((one, r.0), r.1)

  -- a text of right tokens has a value of such
  pub yields : {A : Type 0} (e : List T) (g : Grammar C T A) → Reads (Yields g) (StartsWith number class e g)
  unfolding StartsWith Yields
  yields e (token cs) ts x rest right is = token_yields cs ts x rest right is.0 is.1
  yields e (nothing y) ts x rest right is = (is.0, subst (Each Right) is.1 right)
  yields e (refuse k cs) ts x rest right is = absurd is
  yields e (sequence a b) ts x rest right (mid, p, q) =
      let r = yields e a ts x.0 mid right p in
      let s = yields e b mid x.1 rest r.1 q in ((r.0, s.0), s.1)
  yields e (choice a b) ts x rest right (inl p) = let r = yields e a ts x rest right p in (inl r.0, r.1)
  yields e (choice a b) ts x rest right (inr p) = let r = yields e b ts x rest right p in (inr r.0, r.1)
  yields e (repetition n a) ts x rest right is =
      items_yield (Yields a) (StartsWith number class e a) (yields e a) n ts x rest right is
  yields e (chain a) ts x rest right is =
      links_yield (Yields a) (StartsWith number class e a) (yields e a) false (first_of a) ts x.0 x.1 rest right is
  yields e (nearest a) ts x rest right is =
      links_yield (Yields a) (StartsWith number class e a) (yields e a) true (first_of a) ts x.0 x.1 rest right is
  yields e (rule i a) ts x rest right is = yields e a ts x rest right is
  yields e (hint k a) ts x rest right is = yields e a ts x rest right is
  yields e (scope k cs b) ts x rest right (mid, p, q) =
      let r = token_yields cs ts x.0 mid right p.0 p.1 in
      let s = yields (x.0 ∷ e) b mid x.1 rest r.1 q in ((r.0, s.0), s.1)
  yields e (after k cs test b c) ts x rest right (mid, p, inl (on, q)) =
      let r = token_yields cs ts x.0 mid right p.0 p.1 in
      let s = yields e b mid x.1 rest r.1 q in ((r.0, inl s.0), s.1)
  yields e (after k cs test b c) ts x rest right (mid, p, inr (off, q)) =
      let r = token_yields cs ts x.0 mid right p.0 p.1 in
      let s = yields e c mid x.1 rest r.1 q in ((r.0, inr s.0), s.1)
  yields e (again key cs) ts x rest right is =
      token_yields cs ts x rest right is.0 (and_true _ _ is.1).0
  yields e (alone a) ts x rest right is = yields [] a ts x rest right is
  yields e (act f a) ts x rest right (y, p, is) = let r = yields e a ts y rest right p in ((y, r.0, is), r.1)
