-- The cells that are marked when the jobs of a thread have been walked are its scope.
use Rattle.std.proofs.Common.{◌≡◌, ℕ, zero, suc, ◌+◌, ◌<◌, ◌≤◌, cond, Bool, List, [], ◌∷◌, length, drop, refl, sym, ap, ◌∙◌, arith}
use Rattle.std.specs.Prelude.{filter, ◌||◌}
use Rattle.trick_chkpt_printer.specs.Marks.{is_marked, marked_cells, numbers_of, touched_by}
use Rattle.trick_lang.specs.declared.job.JobId.{JobId}
use Rattle.trick_model.proofs.Lengths.{names_length}
use Rattle.trick_model.specs.Access.{may_read, may_write, scope}
use Rattle.trick_model.specs.Plan.{jobs_of, numbers_from}
use Rattle.trick_model.specs.PlanOf.{plan_of}
use Rattle.trick_model.specs.declared.plan.Plan.{Plan as PlanValue}
use Rattle.trick_model.specs.declared.thread.Thread.{Thread}

-- two tests that agree on the numbers of a list keep the same ones
kept_alike : {A B : Type 0} (f g : ℕ → Bool) (from : ℕ) (xs : List A) (ys : List B) → length xs ≡ length ys
    → ((k : ℕ) → k < from + length xs → f k ≡ g k) → filter f (numbers_from from xs) ≡ filter g (numbers_from from ys)
kept_alike f g from [] [] e same = refl
kept_alike f g from [] (y ∷ ys) e same = absurd (omega arith)
kept_alike f g from (x ∷ xs) [] e same = absurd (omega arith)
kept_alike f g from (x ∷ xs) (y ∷ ys) e same =
    ap (λ (b : Bool). cond b (from ∷ filter f (numbers_from (suc from) xs)) (filter f (numbers_from (suc from) xs))) (same from (omega arith))
    ∙ ap (λ (us : List ℕ). cond (g from) (from ∷ us) us) (kept_alike f g (suc from) xs ys (omega arith) (λ k lt. same k (omega arith)))

drop_all : {A : Type 0} (i : ℕ) (xs : List A) → length xs ≤ i → drop i xs ≡ []
drop_all zero [] le = refl
drop_all (suc i) [] le = refl
drop_all zero (x ∷ xs) le = absurd (omega arith)
drop_all (suc i) (x ∷ xs) le = drop_all i xs (omega arith)

-- when no job is left, the marked cells are those that the jobs of the thread may read or write
pub in_scope : (plan : PlanValue) (thread : Thread) (jobs : List JobId) (marks : List Bool) (i : ℕ)
    → numbers_of jobs ≡ jobs_of plan.program.jobs thread → length marks ≡ length plan.program.cells → length jobs ≤ i
    → ((c : ℕ) → c < length plan.program.cells → (touched_by (plan_of plan) (drop i jobs) c || is_marked marks c)
    ≡ touched_by (plan_of plan) jobs c)
    → marked_cells marks ≡ scope (plan_of plan) thread
in_scope plan thread jobs marks i of_thread size le walked =
    let p = plan_of plan in
    let names = names_length plan.program.cells in
    kept_alike (is_marked marks) (touched_by p jobs) 0 marks p.names (size ∙ sym names)
    (λ k lt. sym (ap (λ (us : List JobId). touched_by p us k || is_marked marks k) (drop_all i jobs le))
    ∙ walked k (omega (arith, size, lt)))
    ∙ ap (λ (ks : List ℕ). filter (λ cell. may_read p ks cell || may_write p ks cell) (numbers_from 0 p.names)) of_thread
