-- Memories that agree outside the asynchronous reach, and what changes of a cell make of them.
use Rattle.std.proofs.Common.{◌≡◌, ◌∙◌, ℕ, zero, suc, ◌+◌, ℤ, pos, List, [], ◌∷◌, length, map, Bool, true, false, cond, Option, Some, None, unwrap_or, ap, arith, refl, subst, sym}
use Rattle.std.specs.List.{slice_index_or}
use Rattle.std.specs.Prelude.{slice_set}
use Rattle.trick_lang.specs.Effect.{overwritten}
use Rattle.trick_model.proofs.Sizes.{replaced_length}
use Rattle.trick_model.specs.Access.{IsReached}
use Rattle.trick_model.specs.Beside.{replaced, spread}
use Rattle.trick_model.specs.Plan.{Plan}
use Rattle.trick_model.specs.State.{number_at}
use Rattle.trick_model_publications.specs.Publications.{AgreeOutside}

-- ---- lists of one length, place by place

-- the entries of two lists keep what their places ask for
abbrev pub Pairs : {A : Type 0} → (ℕ → A → A → Type 0) → A → List A → List A → Type 0
Pairs P none xs ys = (k : ℕ) → P k (slice_index_or xs k none) (slice_index_or ys k none)

pub one_less : (m n : ℕ) → suc m ≡ suc n → m ≡ n
one_less m n e = omega (arith, e)

pub none_some : (n : ℕ) → 0 ≡ suc n → ⊥
none_some n e = omega (arith, e)

pub some_none : (n : ℕ) → suc n ≡ 0 → ⊥
some_none n e = omega (arith, e)

-- an entry of each is set
pub set_pairs : {A : Type 0} (P : ℕ → A → A → Type 0) (none : A) (xs ys : List A) (k : ℕ) (v w : A) → length xs ≡ length ys
    → P k v w → Pairs P none xs ys → Pairs P none (slice_set xs k v) (slice_set ys k w)
set_pairs P none [] [] k v w e new pairs j = pairs j
set_pairs P none [] (y ∷ ys) k v w e new pairs j = absurd (none_some (length ys) e)
set_pairs P none (x ∷ xs) [] k v w e new pairs j = absurd (some_none (length xs) e)
set_pairs P none (x ∷ xs) (y ∷ ys) zero v w e new pairs zero = new
set_pairs P none (x ∷ xs) (y ∷ ys) zero v w e new pairs (suc j) = pairs (suc j)
set_pairs P none (x ∷ xs) (y ∷ ys) (suc k) v w e new pairs zero = pairs zero
set_pairs P none (x ∷ xs) (y ∷ ys) (suc k) v w e new pairs (suc j) =
    set_pairs (λ i. P (suc i)) none xs ys k v w (one_less (length xs) (length ys) e) new (λ i. pairs (suc i)) j

-- an entry of one of two equal lists is set
pub set_one : {A : Type 0} (P : ℕ → A → A → Type 0) (none : A) (xs : List A) (k : ℕ) (w : A)
    → ((x : A) → P k x w) → Pairs P none xs xs → Pairs P none xs (slice_set xs k w)
set_one P none [] k w new pairs j = pairs j
set_one P none (x ∷ xs) zero w new pairs zero = new x
set_one P none (x ∷ xs) zero w new pairs (suc j) = pairs (suc j)
set_one P none (x ∷ xs) (suc k) w new pairs zero = pairs zero
set_one P none (x ∷ xs) (suc k) w new pairs (suc j) = set_one (λ i. P (suc i)) none xs k w new (λ i. pairs (suc i)) j

set_length : {A : Type 0} (xs : List A) (k : ℕ) (v : A) → length (slice_set xs k v) ≡ length xs
set_length [] k v = refl
set_length (x ∷ xs) zero v = refl
set_length (x ∷ xs) (suc k) v = ap suc (set_length xs k v)

pub set_lengths : {A : Type 0} (xs ys : List A) (k : ℕ) (v w : A) → length xs ≡ length ys → length (slice_set xs k v) ≡ length (slice_set ys k w)
set_lengths xs ys k v w e = set_length xs k v ∙ e ∙ sym (set_length ys k w)

pub one_length : {A : Type 0} (xs : List A) (k : ℕ) (w : A) → length xs ≡ length (slice_set xs k w)
one_length xs k w = sym (set_length xs k w)

-- ---- memories

-- the number of a cell that is not reached is the same
abbrev SameAt : Plan → ℕ → ℤ → ℤ → Type 0
SameAt p cell x y = (IsReached p cell → ⊥) → x ≡ y

pub agree_refl : (p : Plan) (m : List ℤ) → AgreeOutside p m m
agree_refl p m = record { many = refl; same = λ cell out. refl }

pub agree_sym : (p : Plan) (m n : List ℤ) → AgreeOutside p m n → AgreeOutside p n m
agree_sym p m n h = record { many = sym h.many; same = λ cell out. sym (h.same cell out) }

pub agree_trans : (p : Plan) (m n o : List ℤ) → AgreeOutside p m n → AgreeOutside p n o → AgreeOutside p m o
agree_trans p m n o h g = record { many = h.many ∙ g.many; same = λ cell out. h.same cell out ∙ g.same cell out }

-- a cell of both is set
pub agree_set : (p : Plan) (m n : List ℤ) (cell : ℕ) (x y : ℤ) → ((IsReached p cell → ⊥) → x ≡ y)
    → AgreeOutside p m n → AgreeOutside p (slice_set m cell x) (slice_set n cell y)
agree_set p m n cell x y new h = record {
  many = set_lengths m n cell x y h.many;
  same = set_pairs (SameAt p) (pos 0) m n cell x y h.many new h.same;
}

-- the numbers of some cells are put into two memories
pub agree_spread : (p : Plan) (m n : List ℤ) (cells : List ℕ) (into other : List ℤ) → AgreeOutside p m n → AgreeOutside p into other
    → AgreeOutside p (spread cells (map (number_at m) cells) into) (spread cells (map (number_at n) cells) other)
agree_spread p m n [] into other h g = g
agree_spread p m n (cell ∷ cells) into other h g =
    agree_spread p m n cells (slice_set into cell (number_at m cell)) (slice_set other cell (number_at n cell)) h
    (agree_set p into other cell (number_at m cell) (number_at n cell) (h.same cell) g)

-- ---- memories that are overwritten

-- a cell that both have the same number in, by one effect
pub over_same : (stored : List (Option ℤ)) (m n : List ℤ) (cell : ℕ) → length m ≡ length n → number_at m cell ≡ number_at n cell
    → number_at (overwritten stored m) cell ≡ number_at (overwritten stored n) cell
over_same stored [] [] cell e same = refl
over_same stored [] (y ∷ ys) cell e same = absurd (none_some (length ys) e)
over_same stored (x ∷ xs) [] cell e same = absurd (some_none (length xs) e)
over_same [] (x ∷ xs) (y ∷ ys) cell e same = same
over_same (v ∷ stored) (x ∷ xs) (y ∷ ys) zero e same = ap (unwrap_or v) same
over_same (v ∷ stored) (x ∷ xs) (y ∷ ys) (suc cell) e same = over_same stored xs ys cell (one_less (length xs) (length ys) e) same

-- a cell that nothing is stored to
pub over_other : (stored : List (Option ℤ)) (m : List ℤ) (cell : ℕ) → ((n : ℤ) → slice_index_or stored cell None ≡ Some n → ⊥)
    → number_at (overwritten stored m) cell ≡ number_at m cell
over_other stored [] cell out = refl
over_other [] (n ∷ ns) cell out = refl
over_other (None ∷ stored) (n ∷ ns) zero out = refl
over_other (Some v ∷ stored) (n ∷ ns) zero out = absurd (out v refl)
over_other (v ∷ stored) (n ∷ ns) (suc cell) out = over_other stored ns cell out

-- ---- memories in which chosen cells are replaced

choose_both : (b : Bool) (x y v w : ℤ) → x ≡ y → v ≡ w → cond b x v ≡ cond b y w
choose_both true x y v w e f = e
choose_both false x y v w e f = f

-- both get new numbers, of two memories that agree
replaced_both : (p : Plan) (chosen : ℕ → Bool) (cell : ℕ) (new other m n : List ℤ) → length m ≡ length n → AgreeOutside p new other
    → ((k : ℕ) → SameAt p (cell + k) (number_at m k) (number_at n k))
    → (k : ℕ) → SameAt p (cell + k) (number_at (replaced chosen cell new m) k) (number_at (replaced chosen cell other n) k)
replaced_both p chosen cell new other [] [] e h pairs k out = refl
replaced_both p chosen cell new other [] (y ∷ ys) e h pairs k out = absurd (none_some (length ys) e)
replaced_both p chosen cell new other (x ∷ xs) [] e h pairs k out = absurd (some_none (length xs) e)
replaced_both p chosen cell new other (x ∷ xs) (y ∷ ys) e h pairs zero out =
    let same : cell + zero ≡ cell = omega arith in
    choose_both (chosen cell) _ _ x y (h.same cell (subst (λ (i : ℕ). IsReached p i → ⊥) same out)) (pairs zero out)
replaced_both p chosen cell new other (x ∷ xs) (y ∷ ys) e h pairs (suc k) out =
    let shift : (i : ℕ) → cell + suc i ≡ cell + 1 + i = λ i. omega arith in
    replaced_both p chosen (cell + 1) new other xs ys (one_less (length xs) (length ys) e) h
    (λ i still. pairs (suc i) (subst (λ (j : ℕ). IsReached p j → ⊥) (sym (shift i)) still)) k
    (subst (λ (j : ℕ). IsReached p j → ⊥) (shift k) out)

pub agree_replaced : (p : Plan) (chosen : ℕ → Bool) (new other m n : List ℤ) → AgreeOutside p new other → AgreeOutside p m n
    → AgreeOutside p (replaced chosen 0 new m) (replaced chosen 0 other n)
agree_replaced p chosen new other m n h g =
    let same : (k : ℕ) → 0 + k ≡ k = λ k. omega arith in
    record {
      many = replaced_length chosen 0 new m ∙ g.many ∙ sym (replaced_length chosen 0 other n);
      same = λ k out. replaced_both p chosen 0 new other m n g.many h
          (λ i still. g.same i (subst (λ (j : ℕ). IsReached p j → ⊥) (same i) still)) k
          (subst (λ (j : ℕ). IsReached p j → ⊥) (sym (same k)) out);
    }

choose_reached : (p : Plan) (b : Bool) (cell : ℕ) (x y : ℤ) → (b ≡ true → IsReached p cell) → (IsReached p cell → ⊥) → x ≡ cond b y x
choose_reached p true cell x y reached out = absurd (out (reached refl))
choose_reached p false cell x y reached out = refl

-- only cells of the reach get new numbers
replaced_one : (p : Plan) (chosen : ℕ → Bool) (cell : ℕ) (new m : List ℤ) → ((k : ℕ) → chosen k ≡ true → IsReached p k)
    → (k : ℕ) → SameAt p (cell + k) (number_at m k) (number_at (replaced chosen cell new m) k)
replaced_one p chosen cell new [] reached k out = refl
replaced_one p chosen cell new (x ∷ xs) reached zero out =
    let same : cell + zero ≡ cell = omega arith in
    choose_reached p (chosen cell) cell x (number_at new cell) (reached cell) (subst (λ (i : ℕ). IsReached p i → ⊥) same out)
replaced_one p chosen cell new (x ∷ xs) reached (suc k) out =
    let shift : cell + suc k ≡ cell + 1 + k = omega arith in
    replaced_one p chosen (cell + 1) new xs reached k (subst (λ (j : ℕ). IsReached p j → ⊥) shift out)

pub agree_reached : (p : Plan) (chosen : ℕ → Bool) (new m : List ℤ) → ((k : ℕ) → chosen k ≡ true → IsReached p k)
    → AgreeOutside p m (replaced chosen 0 new m)
agree_reached p chosen new m reached =
    let same : (k : ℕ) → k ≡ 0 + k = λ k. omega arith in
    record {
      many = sym (replaced_length chosen 0 new m);
      same = λ k out. replaced_one p chosen 0 new m reached k (subst (λ (j : ℕ). IsReached p j → ⊥) (same k) out);
    }
