-- A tic that is passed, group after group.
use Rattle.std.proofs.Common.{◌≡◌, ◌≢◌, ◌∙◌, ℕ, zero, suc, ◌+◌, ◌<◌, ◌≤◌, ◌==◌, Bool, true, false, ◌||◌, All, List, [], ◌∷◌, ◌++◌, length, get_or, set, refl, sym, ap, subst, arith, inl, inr}
use Rattle.std.proofs.Math.Bool.{or-false}
use Rattle.std.proofs.lemmas.Bool.{le-leb, ne_eqb}
use Rattle.std.proofs.lemmas.Bool.Decides.{nat_tests}
use Rattle.std.proofs.lemmas.List.{append-nil, get_or-map, get_or-set_other, get_or-set_same, length-append, length-map, length-set}
use Rattle.std.specs.Prelude.{cond, nat_le}
use Rattle.trick_base.proofs.Numbers.{equal_to_itself}
use Rattle.trick_cycle.specs.Due.{IsDue, is_due_at}
use Rattle.trick_cycle.specs.declared.Due.{Due}
use Rattle.trick_model.specs.Laws.{is_among}
use Rattle.trick_queue.proofs.Trees.{same_or}
use Rattle.trick_queue.specs.Calendar.{AreNext, IsNext, no_times, times_in}
use Rattle.trick_lang.specs.declared.job.Job.{Job}
use Rattle.trick_lang.specs.declared.job.JobId.{JobId}
use Rattle.trick_queue.specs.Groups.{IsGroup, times_by}
use Rattle.trick_queue.specs.Merged.{AreThere}
use Rattle.trick_queue.specs.Passed.{AreInRange, AreOnce, IsPassed, IsPassing, late}
use Rattle.trick_queue.specs.Tree.{never}
use Rattle.trick_queue.specs.declared.group.Group.{Group}

abbrev one_if : Bool → ℕ
one_if b = cond b 1 0

le_false : (t tic : ℕ) → tic < t → nat_le t tic ≡ false
le_false t tic less = grind (arith, nat_tests)

-- ---- how many are late

pub late_set : (tic : ℕ) (tics : List ℕ) (at t : ℕ) → at < length tics → get_or tics at never ≤ tic → tic < t → late tic (set tics at t) + 1 ≡ late tic tics
late_set tic [] at t there le later = absurd (omega arith)
late_set tic (u ∷ tics) zero t there le later =
    let old : one_if (nat_le u tic) ≡ 1 = ap one_if (le-leb u tic le) in
    let new : one_if (nat_le t tic) ≡ 0 = ap one_if (le_false t tic later) in
    omega (arith, old, new)
late_set tic (u ∷ tics) (suc at) t there le later = let others : late tic (set tics at t) + 1 ≡ late tic tics = late_set tic tics at t (omega arith) le later in omega (arith, others)

pub late_most : (tic : ℕ) (tics : List ℕ) → late tic tics ≤ length tics
late_most tic [] = omega arith
late_most tic (t ∷ tics) = by_test (nat_le t tic) (late_most tic tics)
  where
    by_test : (b : Bool) → late tic tics ≤ length tics → one_if b + late tic tics ≤ suc (length tics)
    by_test true others = omega (arith, others)
    by_test false others = omega (arith, others)

pub late_one : (tic : ℕ) (tics : List ℕ) (at : ℕ) → at < length tics → get_or tics at never ≤ tic → 1 ≤ late tic tics
late_one tic tics at there le =
    let e : late tic (set tics at (suc tic)) + 1 ≡ late tic tics = late_set tic tics at (suc tic) there le (omega arith) in omega (arith, e)

-- ---- what was noted

among_append : (k : ℕ) (xs ys : List ℕ) → is_among k (xs ++ ys) ≡ (is_among k xs || is_among k ys)
among_append k [] ys = refl
among_append k (x ∷ xs) ys = by_test (x == k) (among_append k xs ys)
  where
    by_test : (b : Bool) → is_among k (xs ++ ys) ≡ (is_among k xs || is_among k ys) → (b || is_among k (xs ++ ys)) ≡ ((b || is_among k xs) || is_among k ys)
    by_test true others = refl
    by_test false others = others

noted_other : (k at : ℕ) (noted : List ℕ) (b : Bool) → at ≢ k → is_among k (noted ++ cond b (at ∷ []) []) ≡ is_among k noted
noted_other k at noted true ne = among_append k noted (at ∷ []) ∙ ap (λ c. is_among k noted || (c || false)) (ne_eqb at k ne) ∙ or-false (is_among k noted)
noted_other k at noted false ne = ap (is_among k) (append-nil noted)

noted_here : (at : ℕ) (noted : List ℕ) (b : Bool) → is_among at noted ≡ false → is_among at (noted ++ cond b (at ∷ []) []) ≡ b
noted_here at noted true none = among_append at noted (at ∷ []) ∙ ap (λ c. c || ((at == at) || false)) none ∙ ap (λ c. c || false) (equal_to_itself at)
noted_here at noted false none = ap (is_among at) (append-nil noted) ∙ none

once_push : (at : ℕ) (noted : List ℕ) (b : Bool) → is_among at noted ≡ false → AreOnce noted → AreOnce (noted ++ cond b (at ∷ []) [])
once_push at noted false none once = subst AreOnce (sym (append-nil noted)) once
once_push at [] true none once = (refl, tt)
once_push at (n ∷ noted) true none once = by_test (n == at) refl none (λ none'. once_push at noted true none' once.1)
  where
    by_test : (b : Bool) → (n == at) ≡ b → (b || is_among at noted) ≡ false → (is_among at noted ≡ false → AreOnce (noted ++ at ∷ [])) → AreOnce (n ∷ noted ++ at ∷ [])
    by_test true same none others = cc
    by_test false other none others =
        let ne : at ≢ n = λ e. let yes : (n == at) ≡ true = ap (λ m. n == m) e ∙ equal_to_itself n in let no : true ≡ false = sym yes ∙ other in cc in
        (noted_other n at noted true ne ∙ once.0, others none)

-- ---- one group more

true≢false : true ≡ false → ⊥
true≢false e = cc

pub passing_more : (times : List Due) (tics : List ℕ) (tic at next : ℕ) (noted : List ℕ) (due : Bool) → IsPassing times tics tic noted → at < length tics
    → get_or tics at never ≤ tic → IsNext (times_in times at) (tic + 1) next → tic < next → due ≡ is_due_at (times_in times at) tic
    → IsPassing times (set tics at next) tic (noted ++ cond due (at ∷ []) [])
passing_more times tics tic at next noted due p there le is later due_is =
    let as_many : length tics ≡ length times = p.as_many in
    let here : get_or (set tics at next) at never ≡ next = get_or-set_same tics at next never there in
    let none : is_among at noted ≡ false = by_test (is_among at noted) refl in
    let fewer : late tic (set tics at next) + 1 ≡ late tic tics = late_set tic tics at next there le later in
    let few : length noted + late tic tics ≤ length times = p.few in
    record {
      as_many = length-set tics at next ∙ as_many;
      waiting = λ k less low. elim (same_or k at) [
        | inl e ↦ let now : get_or (set tics at next) k never ≡ next = ap (λ i. get_or (set tics at next) i never) e ∙ here in absurd (omega (arith, now, low, later))
        | inr ne ↦
            let other : get_or (set tics at next) k never ≡ get_or tics k never = get_or-set_other tics at k next never ne in
            subst (IsDue (times_in times k)) (sym other) (p.waiting k less (subst (λ n. n ≤ tic) other low))
      ];
      passed = λ k less high. elim (same_or k at) [
        | inl e ↦ record {
          next_is = subst (λ i. IsNext (times_in times i) (tic + 1) (get_or (set tics at next) i never)) (sym e) (subst (IsNext (times_in times at) (tic + 1)) (sym here) is);
          due = ap (λ i. is_due_at (times_in times i) tic) e ∙ sym due_is ∙ sym (noted_here at noted due none) ∙ ap (λ i. is_among i (noted ++ cond due (at ∷ []) [])) (sym e);
        }
        | inr ne ↦
            let other : get_or (set tics at next) k never ≡ get_or tics k never = get_or-set_other tics at k next never ne in
            let was = p.passed k less (subst (λ n. tic < n) other high) in
            record {
              next_is = subst (IsNext (times_in times k) (tic + 1)) (sym other) was.next_is;
              due = was.due ∙ sym (noted_other k at noted due (λ e. ne (sym e)));
            }
      ];
      later = λ k among. elim (same_or k at) [
        | inl e ↦ (omega (arith, e, there, as_many), subst (λ i. tic < get_or (set tics at next) i never) (sym e) (subst (λ n. tic < n) (sym here) later))
        | inr ne ↦
            let was = p.later k (sym (noted_other k at noted due (λ e. ne (sym e))) ∙ among) in
            (was.0, subst (λ n. tic < n) (sym (get_or-set_other tics at k next never ne)) was.1)
      ];
      once = once_push at noted due none p.once;
      few = by_due due few fewer;
    }
  where
    by_test : (b : Bool) → is_among at noted ≡ b → b ≡ false
    by_test true among = let was = p.later at among in absurd (omega (arith, was.1, le))
    by_test false among = refl

    by_due : (b : Bool) → length noted + late tic tics ≤ length times → late tic (set tics at next) + 1 ≡ late tic tics
        → length (noted ++ cond b (at ∷ []) []) + late tic (set tics at next) ≤ length times
    by_due true few fewer = omega (arith, few, fewer, length-append noted (at ∷ []))
    by_due false few fewer = omega (arith, few, fewer, length-append {A = ℕ} noted [])

-- Where no group is late the tic is passed.
pub passing_ends : (times : List Due) (tics : List ℕ) (tic : ℕ) (noted : List ℕ) → IsPassing times tics tic noted
    → ((at : ℕ) → at < length tics → tic < get_or tics at never) → IsPassed times tics tic noted
passing_ends times tics tic noted p all =
    let as_many : length tics ≡ length times = p.as_many in
    record {
      next = record {
        as_many = as_many;
        next = λ at less. (p.passed at less (all at (omega (arith, less, as_many)))).next_is;
      };
      due_is = λ at less. (p.passed at less (all at (omega (arith, less, as_many)))).due;
      there = λ at among. (p.later at among).0;
      once = p.once;
      few = omega (arith, p.few);
    }

-- Before the first one nothing is noted.
pub passing_starts : (times : List Due) (tics : List ℕ) (from tic : ℕ) → ((d : Due) (t : ℕ) → is_due_at d t ≡ true → IsDue d t)
    → AreNext times from tics → from ≤ tic → tic < never → IsPassing times tics tic []
passing_starts times tics from tic exact are low small = record {
  as_many = are.as_many;
  waiting = λ at less le. elim ((are.next at less).due) [ inl e ↦ absurd (omega (arith, e, le, small)) | inr h ↦ h.1 ];
  passed = λ at less high.
      let next = are.next at less in
      record {
        next_is = record {
          none_before = λ t first last. next.none_before t (omega (arith, first, low)) last;
          due = elim (next.due) [ inl e ↦ inl e | inr h ↦ inr (omega (arith, high), h.1) ];
        };
        due = not_due (times_in times at) (is_due_at (times_in times at) tic) refl (next.none_before tic low high);
      };
  later = λ at among. cc;
  once = tt;
  few = omega (arith, late_most tic tics, are.as_many);
}
  where
    not_due : (d : Due) (b : Bool) → is_due_at d tic ≡ b → (IsDue d tic → ⊥) → b ≡ false
    not_due d true is none = absurd (none (exact d tic is))
    not_due d false is none = refl

pub late_none : (tic : ℕ) (tics : List ℕ) → ((at : ℕ) → at < length tics → tic < get_or tics at never) → late tic tics ≡ 0
late_none tic [] all = refl
late_none tic (t ∷ tics) all =
    let here : one_if (nat_le t tic) ≡ 0 = ap one_if (le_false t tic (all 0 (omega arith))) in
    let others : late tic tics ≡ 0 = late_none tic tics (λ at less. all (suc at) (omega arith)) in
    omega (arith, here, others)

-- ---- groups

-- the times of the group at a place
pub times_here : (groups : List Group) (at : ℕ) (group : Group) → at < length groups → get_or groups at group ≡ group → times_in (times_by groups) at ≡ group.times
times_here groups at group there is = get_or-map (λ (g : Group). g.times) groups at group no_times there ∙ ap (λ (g : Group). g.times) is

pub as_many_times : (groups : List Group) → length (times_by groups) ≡ length groups
as_many_times groups = length-map groups (λ (g : Group). g.times)

among_at : (ns : List ℕ) (k none : ℕ) → k < length ns → is_among (get_or ns k none) ns ≡ true
among_at [] k none less = absurd (omega arith)
among_at (n ∷ ns) zero none less = ap (λ b. b || is_among n ns) (equal_to_itself n)
among_at (n ∷ ns) (suc k) none less = or_true (n == get_or ns k none) (among_at ns k none (omega arith))
  where
    or_true : (b : Bool) → is_among (get_or ns k none) ns ≡ true → (b || is_among (get_or ns k none) ns) ≡ true
    or_true true others = refl
    or_true false others = others

-- all that are noted are there
pub all_there : (ns : List ℕ) (end : ℕ) → ((k : ℕ) → is_among k ns ≡ true → k < end) → AreThere ns end
all_there ns end there k none less = there (get_or ns k none) (among_at ns k none less)

pub in_range : (jobs : List Job) (ids_of : List JobId) (end : ℕ) (groups : List Group) → All (IsGroup jobs ids_of end) groups → AreInRange (times_by groups)
in_range jobs ids_of end [] each at less = absurd (omega arith)
in_range jobs ids_of end (g ∷ groups) each zero less = (each 0 g (omega arith)).range
in_range jobs ids_of end (g ∷ groups) each (suc at) less = in_range jobs ids_of end groups (λ k d within. each (suc k) d (omega arith)) at (omega arith)
