-- Tics at which nothing can be due.
use Rattle.std.proofs.Common.{◌≡◌, ◌∙◌, ℕ, ◌<◌, ◌≤◌, ◌^◌, List, [], ◌∷◌, IsTrue, length, get_or, refl, sym, ap, arith}
use Rattle.trick_cycle.specs.Due.{IsDue, is_due_at}
use Rattle.trick_cycle.specs.declared.Due.{Due}
use Rattle.trick_lang.specs.declared.job.JobId.{JobId}
use Rattle.trick_model.proofs.Lengths.{ids_length}
use Rattle.trick_model.specs.Order.{jobs_at}
use Rattle.trick_model.specs.PlanOf.{plan_of}
use Rattle.trick_base.specs.Time.{tic_limit}
use Rattle.trick_model.specs.Valid.{ids}
use Rattle.trick_model.specs.declared.flags.Flags.{Flags}
use Rattle.trick_model.specs.declared.plan.Plan.{Plan as PlanValue}
use Rattle.trick_queue.proofs.Answered.{filter_none, not_due_at}
use Rattle.trick_queue.proofs.Orders.{queue_due}
use Rattle.trick_queue.proofs.Queued.{all_scheduled, ids_at, times_in_range}
use Rattle.trick_queue.specs.Line.{id_at, no_id, queue_of, times_at}

-- the jobs of numbers
jobs_of_numbers : List ℕ → List JobId
jobs_of_numbers [] = []
jobs_of_numbers (k ∷ ks) = record { 0 = k } ∷ jobs_of_numbers ks

numbers_of_them : (ks : List ℕ) → ids (jobs_of_numbers ks) ≡ ks
unfolding jobs_of_numbers
numbers_of_them [] = refl
numbers_of_them (k ∷ ks) = ap (λ (l : List ℕ). k ∷ l) (numbers_of_them ks)

-- after the last time no job is due
pub none_due : (plan : PlanValue) (on : Flags) (tic : ℕ) → ((d : Due) (t : ℕ) → IsTrue (is_due_at d t) → IsDue d t) → tic_limit < tic
    → jobs_at (plan_of plan) on tic ≡ []
none_due plan on tic tells late =
    let p = plan_of plan in
    let all = jobs_of_numbers (queue_of p) in
    let is : ids all ≡ queue_of p = numbers_of_them (queue_of p) in
    let test = λ (k : ℕ). is_due_at (times_at plan.program.jobs k) tic in
    sym (queue_due plan on tic)
    ∙ filter_none test (queue_of p) (λ k less.
    let there : k < length all = omega (arith, ids_length all, ap length is) in
    let right = times_in_range plan.program.jobs (id_at all k) plan.program.right_times (all_scheduled p all is k there) in
    ap (λ (l : List ℕ). test (get_or l k 0)) (sym is) ∙ ap test (ids_at all k no_id there)
    ∙ not_due_at (times_at plan.program.jobs (id_at all k)) tic tells
    (λ due. let stop : (times_at plan.program.jobs (id_at all k)).stop ≤ 10 ^ 15 = right.stop_in_range in
    let over : tic ≤ (times_at plan.program.jobs (id_at all k)).stop = due.not_over in absurd (omega arith)))
