-- The passes that the clerks are dealt.
use Rattle.std.proofs.Common.{◌≡◌, ◌∙◌, ℕ, zero, suc, ◌+◌, ◌<◌, List, [], ◌∷◌, ◌++◌, Bool, true, false, cond, filter, length, map, take, drop, Some, refl, sym, ap, subst, arith, append-nil}
use Rattle.std.proofs.lemmas.List.{drop_more, length-drop, map-append, take_more}
use Rattle.std.proofs.lemmas.List.Elements.{All-push}
use Rattle.std.specs.List.{remove, slice_index_or}
use Rattle.std.specs.Prelude.{All, slice_get}
use Rattle.trick_post.specs.Clerks.{AreClerkPasses, IsClerkPass}
use Rattle.trick_turn.specs.Passes.{AreDealt, IsDealt}
use Rattle.trick_turn.specs.declared.lock.TurnLock.{TurnLock}
use Rattle.trick_turn.specs.declared.pass.Pass.{Pass}
use Rattle.trick_turn.specs.declared.view.View.{View}

-- so many numbers from one on
abbrev pub numbers_from : ℕ → ℕ → List ℕ
numbers_from from zero = []
numbers_from from (suc count) = from ∷ numbers_from (suc from) count

filter_append : (test : ℕ → Bool) (xs ys : List ℕ) → filter test (xs ++ ys) ≡ filter test xs ++ filter test ys
filter_append test [] ys = refl
filter_append test (x ∷ xs) ys =
    ap (λ (l : List ℕ). cond (test x) (x ∷ l) l) (filter_append test xs ys) ∙ by_test (test x) (filter test xs) (filter test ys)
  where
    by_test : (b : Bool) (l m : List ℕ) → cond b (x ∷ (l ++ m)) (l ++ m) ≡ cond b (x ∷ l) l ++ m
    by_test true l m = refl
    by_test false l m = refl

module _ {B E : Type 0} (lock : TurnLock B E) where
  -- passes that were dealt are those of the clerks
  pub are_dealt : (from count : ℕ) (passes : List (Pass B E)) → length passes ≡ count
      → ((i : ℕ) (p : Pass B E) → slice_get passes i ≡ Some p → IsDealt lock (from + i + 2) 0 p) → AreClerkPasses lock (numbers_from from count) passes
  are_dealt from zero [] many dealt = tt
  are_dealt from zero (pass ∷ passes) many dealt = absurd (omega (arith, many))
  are_dealt from (suc count) [] many dealt = absurd (omega (arith, many))
  are_dealt from (suc count) (pass ∷ passes) many dealt =
      let d = dealt 0 pass refl in (
        record { of_lock = d.0; rests = d.1; seat = ap (λ (v : View E). v.number) d.2 ∙ (let e : from + 0 + 2 ≡ from + 2 = omega arith in e) },
        are_dealt (suc from) count passes (omega (arith, many))
            (λ i p is. subst (λ (n : ℕ). IsDealt lock n 0 p) (let e : from + suc i + 2 ≡ suc from + i + 2 = omega arith in e) (dealt (suc i) p is)),
      )

  -- there is a pass for each of the numbers
  pub has_pass : (numbers : List ℕ) (passes : List (Pass B E)) → 0 < length numbers → AreClerkPasses lock numbers passes → 0 < length passes
  has_pass [] passes some are = absurd (omega (arith, some))
  has_pass (number ∷ numbers) [] some are = absurd are
  has_pass (number ∷ numbers) (pass ∷ passes) some are = omega arith

  -- the first of them
  pub first_pass : (number : ℕ) (numbers : List ℕ) (passes : List (Pass B E)) (pass : Pass B E) → AreClerkPasses lock (number ∷ numbers) passes
      → pass ≡ slice_index_or passes 0 pass → IsClerkPass lock number pass
  first_pass number numbers [] pass are is = absurd are
  first_pass number numbers (p ∷ passes) pass are is = subst (IsClerkPass lock number) (sym is) are.0

  -- and the others
  pub other_passes : (number : ℕ) (numbers : List ℕ) (passes : List (Pass B E)) → AreClerkPasses lock (number ∷ numbers) passes
      → AreClerkPasses lock numbers (remove passes 0)
  other_passes number numbers [] are = absurd are
  other_passes number numbers (pass ∷ passes) are = are.1

  -- the first pass of a lock
  pub dealt_first : (count : ℕ) (passes : List (Pass B E)) (pass : Pass B E) → AreDealt lock (suc count) passes → pass ≡ slice_index_or passes 0 pass
      → IsDealt lock 1 (suc count) pass
  dealt_first count [] pass dealt is = absurd (let none : 0 ≡ suc count = dealt.count in omega (arith, none))
  dealt_first count (p ∷ passes) pass dealt is = subst (IsDealt lock 1 (suc count)) (sym is) (dealt.first p refl)

  -- the passes of a lock but for the first
  pub others_dealt : (count : ℕ) (passes : List (Pass B E)) → AreDealt lock (suc count) passes → AreClerkPasses lock (numbers_from 0 count) (remove passes 0)
  others_dealt count [] dealt = absurd (let none : 0 ≡ suc count = dealt.count in omega (arith, none))
  others_dealt count (pass ∷ passes) dealt =
      are_dealt 0 count passes (let many : suc (length passes) ≡ suc count = dealt.count in omega (arith, many))
      (λ i p is. subst (λ (n : ℕ). IsDealt lock n 0 p) (let e : suc i + 1 ≡ 0 + i + 2 = omega arith in e) (dealt.others (suc i) p (omega arith) is))

  -- the passes that are left, and the next one
  pub next_pass : (numbers : List ℕ) (i : ℕ) (passes : List (Pass B E)) (pass : Pass B E) → i < length numbers → AreClerkPasses lock (drop i numbers) passes
      → pass ≡ slice_index_or passes 0 pass → IsClerkPass lock (slice_index_or numbers i 0) pass
  next_pass numbers i passes pass less are is =
      first_pass (slice_index_or numbers i 0) (drop (i + 1) numbers) passes pass
      (subst (λ (ns : List ℕ). AreClerkPasses lock ns passes) (drop_more numbers i 0 less) are) is

  pub passes_left : (numbers : List ℕ) (i : ℕ) (passes : List (Pass B E)) → i < length numbers → AreClerkPasses lock (drop i numbers) passes
      → AreClerkPasses lock (drop (i + 1) numbers) (remove passes 0)
  passes_left numbers i passes less are =
      other_passes (slice_index_or numbers i 0) (drop (i + 1) numbers) passes
      (subst (λ (ns : List ℕ). AreClerkPasses lock ns passes) (drop_more numbers i 0 less) are)

  pub some_pass : (numbers : List ℕ) (i : ℕ) (passes : List (Pass B E)) → i < length numbers → AreClerkPasses lock (drop i numbers) passes → 0 < length passes
  some_pass numbers i passes less are = has_pass (drop i numbers) passes (omega (arith, less, length-drop i numbers)) are

-- the clerks of the first threads
module _ {C L A : Type 0} (thread_of : C → ℕ) (lock_of : C → L) (plan_of : C → A) (lock : L) (plan : A) (test : ℕ → Bool) (numbers : List ℕ) where
  pub record AreClerks (count : ℕ) (clerks : List C) : Type 0 where
    pub threads : map thread_of clerks ≡ filter test (take count numbers)
    pub locks : All (λ c. lock_of c ≡ lock) clerks
    pub plans : All (λ c. plan_of c ≡ plan) clerks

  step : (i : ℕ) → i < length numbers → (b : Bool) → test (slice_index_or numbers i 0) ≡ b
      → filter test (take (i + 1) numbers) ≡ filter test (take i numbers) ++ cond b (slice_index_or numbers i 0 ∷ []) []
  step i less b is =
      ap (filter test) (take_more numbers i 0 less) ∙ filter_append test (take i numbers) (slice_index_or numbers i 0 ∷ [])
      ∙ ap (λ (b : Bool). filter test (take i numbers) ++ cond b (slice_index_or numbers i 0 ∷ []) []) is

  pub clerk_more : (i : ℕ) (clerks now : List C) (clerk : C) → i < length numbers → AreClerks i clerks → now ≡ clerks ++ clerk ∷ []
      → thread_of clerk ≡ slice_index_or numbers i 0 → lock_of clerk ≡ lock → plan_of clerk ≡ plan → test (slice_index_or numbers i 0) ≡ true → AreClerks (i + 1) now
  clerk_more i clerks now clerk less are is thread own of on = subst (AreClerks (i + 1)) (sym is) (record {
    threads = map-append thread_of clerks (clerk ∷ []) ∙ ap (λ (l : List ℕ). l ++ thread_of clerk ∷ []) are.threads
        ∙ ap (λ (n : ℕ). filter test (take i numbers) ++ n ∷ []) thread ∙ sym (step i less true on);
    locks = All-push (λ c. lock_of c ≡ lock) clerks clerk are.locks own;
    plans = All-push (λ c. plan_of c ≡ plan) clerks clerk are.plans of;
  })

  pub no_clerk : (i : ℕ) (clerks now : List C) → i < length numbers → AreClerks i clerks → now ≡ clerks → test (slice_index_or numbers i 0) ≡ false → AreClerks (i + 1) now
  no_clerk i clerks now less are is off = subst (AreClerks (i + 1)) (sym is) (record {
    threads = are.threads ∙ sym (append-nil (filter test (take i numbers))) ∙ sym (step i less false off);
    locks = are.locks;
    plans = are.plans;
  })
