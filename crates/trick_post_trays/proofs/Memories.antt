-- What is written of a memory, and what a fold over a copy leaves of it.
use Rattle.std.proofs.Common.{◌≡◌, ◌∙◌, inl, inr, ℕ, zero, suc, ◌+◌, ◌<◌, ◌≤◌, ◌==◌, ◌&&◌, ◌||◌, ℤ, pos, Bool, true, false, IsTrue, List, [], ◌∷◌, ◌++◌, length, Some, None, refl, sym, ap, arith}
use Rattle.std.proofs.lemmas.Bool.{or_left}
use Rattle.std.proofs.lemmas.Bool.Decides.{nat_tests}
use Rattle.std.proofs.lemmas.List.{ext_get_or, get_or-set_other}
use Rattle.std.specs.List.{slice_index_or}
use Rattle.std.specs.Prelude.{Ok, Err, Option, Result, cond, replicate, slice_set, unwrap_or}
use Rattle.trick_lang.specs.Access.{is_in}
use Rattle.trick_lang.specs.Effect.{effect, overwritten, writes}
use Rattle.trick_lang.specs.Laws.{WritesOnly}
use Rattle.trick_lang.specs.declared.fault.JobFault.{JobFault}
use Rattle.trick_lang.specs.declared.fault.StatementFault.{StatementFault}
use Rattle.trick_model.proofs.Sizes.{replaced_length}
use Rattle.trick_model.specs.Access.{may_read, may_write, scope}
use Rattle.trick_model.specs.Beside.{replaced, spread}
use Rattle.trick_model.specs.FaultList.{FaultList, with_fault, with_faults}
use Rattle.trick_model.specs.Laws.{is_among}
use Rattle.trick_model.specs.Plan.{Plan, jobs_of, numbers_from}
use Rattle.trick_model.specs.PlanOf.{plan_of}
use Rattle.trick_model.specs.Running.{After, after_jobs, apply, outcome}
use Rattle.trick_model.specs.State.{number_at}
use Rattle.trick_model.specs.declared.plan.Plan.{Plan as PlanValue}
use Rattle.trick_model.specs.declared.thread.Thread.{Thread}
use Rattle.trick_post_trays.proofs.Lists.{neither_left, neither_right}
use Rattle.trick_post_trays.specs.Scratch.{IsWritten}
use Rattle.trick_queue.proofs.Orders.{among_filter}
use Rattle.trick_queue.proofs.Trees.{same_or}

-- ---- what is written

replaced_at : (chosen : ℕ → Bool) (cell : ℕ) (others ns : List ℤ) (c : ℕ) → c < length ns
    → number_at (replaced chosen cell others ns) c ≡ cond (chosen (cell + c)) (number_at others (cell + c)) (number_at ns c)
replaced_at chosen cell others [] c less = absurd (omega arith)
replaced_at chosen cell others (n ∷ ns) zero less =
    let e : cell ≡ cell + zero = omega arith in ap (λ (i : ℕ). cond (chosen i) (number_at others i) n) e
replaced_at chosen cell others (n ∷ ns) (suc c) less =
    let e : cell + 1 + c ≡ cell + suc c = omega arith in
    replaced_at chosen (cell + 1) others ns c (omega arith)
    ∙ ap (λ (i : ℕ). cond (chosen i) (number_at others i) (number_at ns c)) e

-- What is written is what replaces.
pub written_is : (chosen wanted : ℕ → Bool) (others old new : List ℤ) → ((c : ℕ) → chosen c ≡ wanted c) → IsWritten chosen others old new
    → new ≡ replaced wanted 0 others old
written_is chosen wanted others old new same written =
    ext_get_or (pos 0) new (replaced wanted 0 others old) (written.many ∙ sym (replaced_length wanted 0 others old))
    (λ c less. let there : c < length old = omega (arith, written.many) in
    let e : c ≡ 0 + c = omega arith in
    written.at c there
    ∙ ap (λ (b : Bool). cond b (number_at others c) (number_at old c)) (same c)
    ∙ ap (λ (i : ℕ). cond (wanted i) (number_at others i) (number_at old c)) e
    ∙ sym (replaced_at wanted 0 others old c there))

-- ---- what is laid out

-- a cell that is none of these keeps its number
pub spread_other : (cells : List ℕ) (ns memory : List ℤ) (c : ℕ) → is_among c cells ≡ false → number_at (spread cells ns memory) c ≡ number_at memory c
spread_other [] ns memory c none = refl
spread_other (cell ∷ cells) [] memory c none = refl
spread_other (cell ∷ cells) (n ∷ ns) memory c none =
    spread_other cells ns (slice_set memory cell n) c (neither_right (cell == c) (is_among c cells) none)
    ∙ get_or-set_other memory cell c n (pos 0) (apart c cell (neither_left (cell == c) (is_among c cells) none))
  where
    apart : (c cell : ℕ) → (cell == c) ≡ false → c ≡ cell → ⊥
    apart c cell e is = grind (arith, nat_tests)

pub zero_at : (n c : ℕ) → number_at (replicate n (pos 0)) c ≡ pos 0
zero_at zero c = refl
zero_at (suc n) zero = refl
zero_at (suc n) (suc c) = zero_at n c

-- ---- what a fold leaves

over_other : (stored : List (Option ℤ)) (ns : List ℤ) (c : ℕ) → slice_index_or stored c None ≡ None → number_at (overwritten stored ns) c ≡ number_at ns c
over_other stored [] c none = refl
over_other [] (n ∷ ns) c none = refl
over_other (v ∷ stored) (n ∷ ns) zero none = ap (λ (o : Option ℤ). unwrap_or o n) none
over_other (v ∷ stored) (n ∷ ns) (suc c) none = over_other stored ns c none

-- a job leaves a cell that it may not write
apply_other : (plan : PlanValue) → WritesOnly → (on : Bool) (tic k : ℕ) (memory : List ℤ) (c : ℕ) → is_in ((plan_of plan).writes k) c ≡ false
    → number_at (apply (plan_of plan) on tic k memory).memory c ≡ number_at memory c
apply_other plan only false tic k memory c none = refl
apply_other plan only true tic k memory c none = by_effect (effect plan.program (record { 0 = k }) memory) refl
  where
    by_number : (stored : List (Option ℤ)) (o : Option ℤ) → effect plan.program (record { 0 = k }) memory ≡ Ok stored → slice_index_or stored c None ≡ o
        → slice_index_or stored c None ≡ None
    by_number stored None e is = is
    by_number stored (Some n) e is =
        let within : IsTrue (is_in (writes plan.program (record { 0 = k })) c) = only plan.program (record { 0 = k }) memory stored c n e is in
        let off : true ≡ false = sym within ∙ none in cc

    by_effect : (r : Result (List (Option ℤ)) StatementFault) → effect plan.program (record { 0 = k }) memory ≡ r
        → number_at (outcome tic k memory r).memory c ≡ number_at memory c
    by_effect (Ok stored) e = over_other stored memory c (by_number stored (slice_index_or stored c None) e refl)
    by_effect (Err stop) e = refl

pub fold_other : (plan : PlanValue) → WritesOnly → (on : ℕ → Bool) (tic : ℕ) (ks : List ℕ) (memory : List ℤ) (c : ℕ)
    → may_write (plan_of plan) ks c ≡ false → number_at (after_jobs (plan_of plan) on tic ks memory).memory c ≡ number_at memory c
fold_other plan only on tic [] memory c none = refl
fold_other plan only on tic (k ∷ ks) memory c none =
    fold_other plan only on tic ks (apply (plan_of plan) (on k) tic k memory).memory c
    (neither_right (is_in ((plan_of plan).writes k) c) (may_write (plan_of plan) ks c) none)
    ∙ apply_other plan only (on k) tic k memory c (neither_left (is_in ((plan_of plan).writes k) c) (may_write (plan_of plan) ks c) none)

-- flags that agree on the jobs are as good
pub fold_same : (p : Plan) (on flags : ℕ → Bool) (tic : ℕ) (ks : List ℕ) (memory : List ℤ) → ((k : ℕ) → IsTrue (is_among k ks) → on k ≡ flags k)
    → after_jobs p on tic ks memory ≡ after_jobs p flags tic ks memory
fold_same p on flags tic [] memory same = refl
fold_same p on flags tic (k ∷ ks) memory same =
    ap (λ (b : Bool). joined (apply p b tic k memory) (after_jobs p on tic ks (apply p b tic k memory).memory)) (same k (or_left (k == k) (is_among k ks) (same_as k)))
    ∙ ap (joined (apply p (flags k) tic k memory)) (fold_same p on flags tic ks (apply p (flags k) tic k memory).memory (λ j h. same j (later k j ks h)))
  where
    joined : After → After → After
    joined first others = record { memory = others.memory; faults = first.faults ++ others.faults }

    same_as : (n : ℕ) → IsTrue (n == n)
    same_as n = grind (arith, nat_tests)

    later : (k j : ℕ) (ks : List ℕ) → IsTrue (is_among j ks) → IsTrue ((k == j) || is_among j ks)
    later k j ks h = by_test (k == j)
      where
        by_test : (b : Bool) → IsTrue (b || is_among j ks)
        by_test true = refl
        by_test false = h

-- jobs, and then others
pub fold_memory : (p : Plan) (on : ℕ → Bool) (tic : ℕ) (ks js : List ℕ) (memory : List ℤ)
    → (after_jobs p on tic (ks ++ js) memory).memory ≡ (after_jobs p on tic js (after_jobs p on tic ks memory).memory).memory
fold_memory p on tic [] js memory = refl
fold_memory p on tic (k ∷ ks) js memory = fold_memory p on tic ks js (apply p (on k) tic k memory).memory

pub with_more : (early late : List JobFault) (faults : FaultList) → with_faults (early ++ late) faults ≡ with_faults late (with_faults early faults)
with_more [] late faults = refl
with_more (fault ∷ early) late faults = with_more early late (with_fault fault faults)

pub fold_faults : (p : Plan) (on : ℕ → Bool) (tic : ℕ) (ks js : List ℕ) (memory : List ℤ) (faults : FaultList)
    → with_faults (after_jobs p on tic (ks ++ js) memory).faults faults
    ≡ with_faults (after_jobs p on tic js (after_jobs p on tic ks memory).memory).faults (with_faults (after_jobs p on tic ks memory).faults faults)
fold_faults p on tic [] js memory faults = refl
fold_faults p on tic (k ∷ ks) js memory faults =
    let first = apply p (on k) tic k memory in
    with_more first.faults (after_jobs p on tic (ks ++ js) first.memory).faults faults
    ∙ fold_faults p on tic ks js first.memory (with_faults first.faults faults)
    ∙ ap (with_faults (after_jobs p on tic js (after_jobs p on tic ks first.memory).memory).faults)
    (sym (with_more first.faults (after_jobs p on tic ks first.memory).faults faults))

-- ---- the scope

among_numbers : {A : Type 0} (xs : List A) (from c : ℕ) → from ≤ c → c < from + length xs → is_among c (numbers_from from xs) ≡ true
among_numbers [] from c low high = absurd (omega arith)
among_numbers (x ∷ xs) from c low high = elim (same_or from c) [
  | inl e ↦ or_left (from == c) (is_among c (numbers_from (suc from) xs)) (equal from c e)
  | inr ne ↦ later (from == c) (among_numbers xs (suc from) c (omega arith) (omega arith))
]
  where
    equal : (n m : ℕ) → n ≡ m → IsTrue (n == m)
    equal n m e = grind (arith, nat_tests)

    later : (b : Bool) {r : Bool} → r ≡ true → (b || r) ≡ true
    later true e = refl
    later false e = e

and_yes : (a b : Bool) → b ≡ true → (a && b) ≡ false → a ≡ false
and_yes true b passes fails = let e : true ≡ false = sym passes ∙ fails in cc
and_yes false b passes fails = refl

-- no job of the thread may write a cell that is not in its scope
pub not_in_scope : (p : Plan) (thread : Thread) (c : ℕ) → c < length p.names → is_among c (scope p thread) ≡ false
    → may_write p (jobs_of p.jobs thread) c ≡ false
not_in_scope p thread c less none =
    let ks = jobs_of p.jobs thread in
    let touches = λ (cell : ℕ). may_read p ks cell || may_write p ks cell in
    neither_right (may_read p ks c) (may_write p ks c)
    (and_yes (touches c) (is_among c (numbers_from 0 p.names)) (among_numbers p.names 0 c (omega arith) (omega arith))
    (sym (among_filter touches c (numbers_from 0 p.names)) ∙ none))
