-- What a take and a commit leave of the order, the memory and the faults.
use Rattle.std.proofs.Common.{◌≡◌, ◌⊎◌, inl, inr, ℕ, ◌<◌, false, List, length, Option, IsTrue, refl, sym, ◌∙◌, ap, subst}
use Rattle.std.proofs.Math.Logic.{∥∥₁_elim}
use Rattle.std.proofs.lemmas.Bool.{cases_eq, cases_lt}
use Rattle.std.proofs.lemmas.List.{get_or_past, length-set}
use Rattle.std.specs.Option.{option_to_list}
use Rattle.std.specs.Prelude.{ℤ, slice_set}
use Rattle.trick_base.proofs.Truths.{no_two_absurdities}
use Rattle.trick_lang.specs.declared.fault.JobFault.{JobFault}
use Rattle.trick_model.specs.Acceptance.{AreIndependent}
use Rattle.trick_model.specs.Laws.{is_among}
use Rattle.trick_model.specs.Order.{precedes}
use Rattle.trick_model.specs.Plan.{thread_of}
use Rattle.trick_phase_schedules.proofs.Insert.{EndAlike, HaveTheirFaults, PassesLater, ended, faults_alike, faults_insert, folded, folded_alike, folded_insert, stage_other, stage_set}
use Rattle.trick_phase_schedules.proofs.Keys.{one_first}
use Rattle.trick_phase_schedules.proofs.Passing.{run, turned}
use Rattle.trick_phase_schedules.proofs.Right.{AreOrdered, IsRight}
use Rattle.trick_phase_schedules.specs.Play.{is_done, is_due, is_taken, stage_at}
use Rattle.trick_phase_schedules.specs.Progress.{IsInOrder}
use Rattle.trick_phase_schedules.specs.Tics.{IsDueIn, IsPredecessor, Tic, due_jobs}
use Rattle.trick_phase_schedules.specs.declared.stage.Stage.{Stage}
use Rattle.trick_phase_schedules.specs.declared.stage.Stage.TheVariants.{Done, Idle, InFlight, Waiting}

-- ---- stages

pub taken_due : (s : Stage) → IsTrue (is_taken s) → IsTrue (is_due s)
taken_due Idle h = cc
taken_due Waiting h = cc
taken_due InFlight h = refl
taken_due (Done fault) h = refl

pub done_taken : (s : Stage) → IsTrue (is_done s) → IsTrue (is_taken s)
done_taken Idle h = cc
done_taken Waiting h = cc
done_taken InFlight h = cc
done_taken (Done fault) h = refl

pub flies_taken : (s : Stage) → s ≡ InFlight → IsTrue (is_taken s)
flies_taken s e = ap is_taken e

pub flies_open : (s : Stage) → s ≡ InFlight → IsTrue (is_done s) → ⊥
flies_open s e done = let off : is_done s ≡ false = ap is_done e in cc

pub waits_not_taken : (s : Stage) → s ≡ Waiting → IsTrue (is_taken s) → ⊥
waits_not_taken s e taken = let off : is_taken s ≡ false = ap is_taken e in cc

pub waits_open : (s : Stage) → s ≡ Waiting → IsTrue (is_done s) → ⊥
waits_open s e done = let off : is_done s ≡ false = ap is_done e in cc

-- a due job is there
pub inside : (stages : List Stage) (k : ℕ) → IsTrue (is_due (stage_at stages k)) → k < length stages
inside stages k due = elim (cases_lt k (length stages)) [
  | inl less ↦ less
  | inr past ↦ let off : is_due (stage_at stages k) ≡ false = ap is_due (get_or_past stages k Idle past) in absurd (cc)
]

pub is_due_in : (t : Tic) (stages : List Stage) (k : ℕ) → IsInOrder t stages → IsTrue (is_due (stage_at stages k)) → IsDueIn t k
is_due_in t stages k order due = sym (order.due k) ∙ due

-- ---- independent jobs

-- a due job that is not committed, and a taken one of larger key, are independent
pub ordered_apart : (t : Tic) (stages : List Stage) (a b : ℕ) → IsRight t → IsInOrder t stages → IsTrue (precedes t.plan.jobs a b)
    → IsDueIn t a → IsTrue (is_taken (stage_at stages b)) → (IsTrue (is_done (stage_at stages a)) → ⊥) → AreIndependent t.plan a b
ordered_apart t stages a b right order first due taken out = elim (cases_eq (thread_of t.plan.jobs a) (thread_of t.plan.jobs b)) [
  | inl same ↦ absurd (out (order.closed a b (record { due = due; before = inl (first, same) }) taken))
  | inr other ↦ by_law (right.apart a b first due due_b other)
]
  where
    due_b : IsDueIn t b
    due_b = is_due_in t stages b order (taken_due (stage_at stages b) taken)

    taken_target : (o : AreOrdered t a b) → IsTrue (is_taken (stage_at stages o.target))
    taken_target o = elim (one_first t.plan.jobs (due_jobs t) o.target b right.ordered o.target_due due_b) [
      | inl e ↦ subst (λ (n : ℕ). IsTrue (is_taken (stage_at stages n))) (sym e) taken
      | inr (inl before) ↦ done_taken (stage_at stages o.target)
          (order.closed o.target b (record { due = o.target_due; before = inl (before, o.on_second) }) taken)
      | inr (inr behind) ↦ absurd (o.not_above behind)
    ]

    done_first : AreOrdered t a b → IsTrue (is_done (stage_at stages a))
    done_first o =
        let done : IsTrue (is_done (stage_at stages o.depended)) =
        order.closed o.depended o.target (record { due = o.depended_due; before = inr o.pair }) (taken_target o) in
        elim (one_first t.plan.jobs (due_jobs t) o.depended a right.ordered o.depended_due due) [
          | inl e ↦ subst (λ (n : ℕ). IsTrue (is_done (stage_at stages n))) e done
          | inr (inl before) ↦ absurd (o.not_below before)
          | inr (inr behind) ↦ order.closed a o.depended (record { due = due; before = inl (behind, sym o.on_first) })
              (done_taken (stage_at stages o.depended) done)
        ]

    independent : AreIndependent t.plan a b ⊎ AreOrdered t a b → AreIndependent t.plan a b
    independent (inl i) = i
    independent (inr o) = absurd (out (done_first o))

    by_law : ∥ AreIndependent t.plan a b ⊎ AreOrdered t a b ∥₁ → AreIndependent t.plan a b
    by_law h = record {
      from = λ c x y. ∥∥₁_elim h no_two_absurdities (λ (s : AreIndependent t.plan a b ⊎ AreOrdered t a b). (independent s).from c x y);
      to = λ c x y. ∥∥₁_elim h no_two_absurdities (λ (s : AreIndependent t.plan a b ⊎ AreOrdered t a b). (independent s).to c x y);
      both = λ c x y. ∥∥₁_elim h no_two_absurdities (λ (s : AreIndependent t.plan a b ⊎ AreOrdered t a b). (independent s).both c x y);
    }

-- two jobs in flight are independent
pub flying_apart : (t : Tic) (stages : List Stage) (i k : ℕ) → IsRight t → IsInOrder t stages → (i ≡ k → ⊥)
    → stage_at stages i ≡ InFlight → stage_at stages k ≡ InFlight → AreIndependent t.plan i k
flying_apart t stages i k right order ne fi fk =
    let due_i = is_due_in t stages i order (taken_due (stage_at stages i) (flies_taken (stage_at stages i) fi)) in
    let due_k = is_due_in t stages k order (taken_due (stage_at stages k) (flies_taken (stage_at stages k) fk)) in
    elim (one_first t.plan.jobs (due_jobs t) i k right.ordered due_i due_k) [
      | inl e ↦ absurd (ne e)
      | inr (inl before) ↦ ordered_apart t stages i k right order before due_i (flies_taken (stage_at stages k) fk) (flies_open (stage_at stages i) fi)
      | inr (inr behind) ↦ turned t k i
          (ordered_apart t stages k i right order behind due_k (flies_taken (stage_at stages i) fi) (flies_open (stage_at stages k) fk))
    ]

-- ---- what is kept, in the words of the proofs

pub record IsKept (t : Tic) (first memory : List ℤ) (stages : List Stage) : Type 0 where
  pub order : IsInOrder t stages
  pub memory_is : memory ≡ folded t stages (due_jobs t) first
  pub faults : HaveTheirFaults t stages (due_jobs t) first

-- ---- a take

pub take_order : (t : Tic) (stages : List Stage) (k : ℕ) → IsInOrder t stages → stage_at stages k ≡ Waiting
    → ((a : ℕ) → IsPredecessor t a k → IsTrue (is_done (stage_at stages a))) → IsInOrder t (slice_set stages k InFlight)
take_order t stages k order waits ready = record { many = length-set stages k InFlight ∙ order.many; due = due; closed = closed }
  where
    there : k < length stages
    there = inside stages k (ap is_due waits)

    due : (i : ℕ) → is_due (stage_at (slice_set stages k InFlight) i) ≡ is_among i (due_jobs t)
    due i = elim (cases_eq i k) [
      | inl e ↦ subst (λ (n : ℕ). is_due (stage_at (slice_set stages k InFlight) n) ≡ is_among n (due_jobs t)) (sym e)
          (ap is_due (stage_set stages k InFlight there) ∙ sym (ap is_due waits) ∙ order.due k)
      | inr ne ↦ ap is_due (stage_other stages k i InFlight ne) ∙ order.due i
    ]

    before : (a i : ℕ) → IsPredecessor t a i → IsTrue (is_taken (stage_at (slice_set stages k InFlight) i)) → IsTrue (is_done (stage_at stages a))
    before a i pred taken = elim (cases_eq i k) [
      | inl e ↦ ready a (subst (λ (n : ℕ). IsPredecessor t a n) e pred)
      | inr ne ↦ order.closed a i pred (subst (λ (s : Stage). IsTrue (is_taken s)) (stage_other stages k i InFlight ne) taken)
    ]

    closed : (a i : ℕ) → IsPredecessor t a i → IsTrue (is_taken (stage_at (slice_set stages k InFlight) i))
        → IsTrue (is_done (stage_at (slice_set stages k InFlight) a))
    closed a i pred taken =
        let done = before a i pred taken in
        let ne : a ≡ k → ⊥ = λ e. waits_open (stage_at stages a) (ap (stage_at stages) e ∙ waits) done in
        subst (λ (s : Stage). IsTrue (is_done s)) (sym (stage_other stages k a InFlight ne)) done

take_alike : (stages : List Stage) (k : ℕ) (ks : List ℕ) → stage_at stages k ≡ Waiting → EndAlike (slice_set stages k InFlight) stages ks
take_alike stages k ks waits j among = elim (cases_eq j k) [
  | inl e ↦ subst (λ (n : ℕ). ended (stage_at (slice_set stages k InFlight) n) ≡ ended (stage_at stages n)) (sym e)
      (ap ended (stage_set stages k InFlight (inside stages k (ap is_due waits))) ∙ sym (ap ended waits))
  | inr ne ↦ ap ended (stage_other stages k j InFlight ne)
]

pub take_kept : (t : Tic) (first memory : List ℤ) (stages : List Stage) (k : ℕ) → IsKept t first memory stages → stage_at stages k ≡ Waiting
    → ((a : ℕ) → IsPredecessor t a k → IsTrue (is_done (stage_at stages a))) → IsKept t first memory (slice_set stages k InFlight)
take_kept t first memory stages k kept waits ready = record {
  order = take_order t stages k kept.order waits ready;
  memory_is = kept.memory_is ∙ sym (folded_alike t (slice_set stages k InFlight) stages (due_jobs t) first (take_alike stages k (due_jobs t) waits));
  faults = faults_alike t stages (slice_set stages k InFlight) (due_jobs t) first
      (λ j among. sym (take_alike stages k (due_jobs t) waits j among)) kept.faults;
}

-- ---- a commit

pub commit_order : (t : Tic) (stages : List Stage) (k : ℕ) (g : Option JobFault) → IsInOrder t stages → stage_at stages k ≡ InFlight
    → IsInOrder t (slice_set stages k (Done g))
commit_order t stages k g order flies = record { many = length-set stages k (Done g) ∙ order.many; due = due; closed = closed }
  where
    there : k < length stages
    there = inside stages k (ap is_due flies)

    due : (i : ℕ) → is_due (stage_at (slice_set stages k (Done g)) i) ≡ is_among i (due_jobs t)
    due i = elim (cases_eq i k) [
      | inl e ↦ subst (λ (n : ℕ). is_due (stage_at (slice_set stages k (Done g)) n) ≡ is_among n (due_jobs t)) (sym e)
          (ap is_due (stage_set stages k (Done g) there) ∙ sym (ap is_due flies) ∙ order.due k)
      | inr ne ↦ ap is_due (stage_other stages k i (Done g) ne) ∙ order.due i
    ]

    before : (i : ℕ) → IsTrue (is_taken (stage_at (slice_set stages k (Done g)) i)) → IsTrue (is_taken (stage_at stages i))
    before i taken = elim (cases_eq i k) [
      | inl e ↦ ap is_taken (ap (stage_at stages) e ∙ flies)
      | inr ne ↦ subst (λ (s : Stage). IsTrue (is_taken s)) (stage_other stages k i (Done g) ne) taken
    ]

    closed : (a i : ℕ) → IsPredecessor t a i → IsTrue (is_taken (stage_at (slice_set stages k (Done g)) i))
        → IsTrue (is_done (stage_at (slice_set stages k (Done g)) a))
    closed a i pred taken = elim (cases_eq a k) [
      | inl e ↦ subst (λ (n : ℕ). IsTrue (is_done (stage_at (slice_set stages k (Done g)) n))) (sym e) (ap is_done (stage_set stages k (Done g) there))
      | inr ne ↦ subst (λ (s : Stage). IsTrue (is_done s)) (sym (stage_other stages k a (Done g) ne)) (order.closed a i pred (before i taken))
    ]

pub commit_kept : (t : Tic) (first memory : List ℤ) (stages : List Stage) (k : ℕ) (g : Option JobFault) → IsRight t → IsKept t first memory stages
    → stage_at stages k ≡ InFlight → option_to_list g ≡ (run t k memory).faults
    → IsKept t first (run t k memory).memory (slice_set stages k (Done g))
commit_kept t first memory stages k g right kept flies is = record {
  order = commit_order t stages k g kept.order flies;
  memory_is = ap (λ (m : List ℤ). (run t k m).memory) kept.memory_is
      ∙ sym (folded_insert t k g stages (due_jobs t) first right right.ordered due there out pass);
  faults = faults_insert t k g stages (due_jobs t) first right right.ordered due there out pass kept.faults
      (is ∙ ap (λ (m : List ℤ). (run t k m).faults) kept.memory_is);
}
  where
    there : k < length stages
    there = inside stages k (ap is_due flies)

    due : IsDueIn t k
    due = is_due_in t stages k kept.order (ap is_due flies)

    out : IsTrue (is_done (stage_at stages k)) → ⊥
    out = flies_open (stage_at stages k) flies

    pass : PassesLater t k stages (due_jobs t)
    pass j among after done = ordered_apart t stages k j right kept.order after due (done_taken (stage_at stages j) done) out
