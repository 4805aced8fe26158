-- What is published of a frame or a round that was started is what the rules publish.
use Rattle.std.proofs.Common.{◌≡◌, ◌∙◌, ℕ, zero, suc, ◌+◌, ◌-◌, ◌<◌, ℤ, List, [], ap, arith, refl, sym}
use Rattle.std.specs.Prelude.{filter, flat_map}
use Rattle.trick_model.specs.Access.{may_write, scope}
use Rattle.trick_model.specs.Beside.{flag_in, published, replaced, spread, tics_from, work, zeros}
use Rattle.trick_model.specs.Order.{in_key_order, is_due}
use Rattle.trick_model.specs.Plan.{Plan, jobs_of}
use Rattle.trick_model.specs.Running.{After, after_jobs}
use Rattle.trick_model.specs.declared.flags.Flags.{Flags}
use Rattle.trick_model.specs.declared.taken.Taken.{Taken}
use Rattle.trick_model.specs.declared.thread.Process.{Process}
use Rattle.trick_model.specs.declared.thread.Process.TheVariants as process
use Rattle.trick_model.specs.declared.thread.Thread.{Thread}
use Rattle.trick_post_work.specs.Laws.{IsFrameOf, IsPublished}
use Rattle.trick_post_work.specs.Work.{publication, tics_between}
use Rattle.trick_post_work.specs.declared.posts.Job1.TheVariants as kind

-- the jobs of these tics, in the order of tic and then of key
abbrev due_in : Plan → Thread → Flags → List ℕ → List ℕ
due_in p thread on tics = flat_map (λ u. in_key_order p.jobs (filter (is_due p on u) (jobs_of p.jobs thread))) tics

-- what is published of jobs
abbrev by_jobs : Plan → Thread → Taken → ℕ → List ℤ → List ℕ → After
by_jobs p thread taken tic memory ks =
    let after = after_jobs p (flag_in (jobs_of p.jobs thread) taken.on.on) tic ks (spread (scope p thread) taken.cells (zeros p)) in
    record { memory = replaced (may_write p ks) 0 after.memory memory; faults = after.faults }

same_tics : (cycle tic first last : ℕ) → IsFrameOf cycle tic first last
    → tics_between first last ≡ tics_from (tic - cycle) (tic - (tic - cycle))
same_tics cycle zero first last is =
    let less : last < first = is.none refl in
    let none : last + 1 - first ≡ 0 = omega arith in
    let from : zero - (zero - cycle) ≡ 0 = omega arith in
    ap (tics_from first) none ∙ sym (ap (tics_from (zero - cycle)) from)
same_tics cycle (suc tic) first last is =
    let low : first ≡ suc tic - cycle = is.begins (omega arith) in
    let high : last + 1 ≡ suc tic = is.ends (omega arith) in
    let count : last + 1 - first ≡ suc tic - (suc tic - cycle) = omega arith in
    ap (tics_from first) count ∙ ap (λ (n : ℕ). tics_from n (suc tic - (suc tic - cycle))) low

-- the jobs of a thread, by its process type
abbrev by_process : Plan → Thread → Flags → ℕ → Process → List ℕ
by_process p thread on tic process_type = elim process_type [
  | process.Scheduled ↦ []
  | process.Async ↦ in_key_order p.jobs (jobs_of p.jobs thread)
  | process.MustFinish ↦ due_in p thread on (tics_from (tic - thread.cycle) (tic - (tic - thread.cycle)))
]

pub is_published : IsPublished
is_published = record {
  frames = λ p thread on taken tic first last memory is frame.
      ap (λ (tics : List ℕ). by_jobs p thread taken tic memory (due_in p thread on tics)) (same_tics thread.cycle tic first last frame)
      ∙ sym (ap (λ (process_type : Process). by_jobs p thread taken tic memory (by_process p thread on tic process_type)) is);
  rounds = λ p thread on taken tic memory is.
      sym (ap (λ (process_type : Process). by_jobs p thread taken tic memory (by_process p thread on tic process_type)) is);
}
