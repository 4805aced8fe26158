-- A tic that is asked for.
use Rattle.std.proofs.Common.{◌≡◌, ◌∙◌, ℕ, ◌+◌, ◌<◌, ◌≤◌, List, Some, arith, length, refl}
use Rattle.trick_model.specs.declared.plan.Plan.{Plan as PlanValue}
use Rattle.trick_queue.proofs.Answered.{due_are}
use Rattle.trick_queue.proofs.Merged.{due_jobs_are, gathered_few, gathered_there}
use Rattle.trick_queue.proofs.Passed.{all_there, as_many_times}
use Rattle.trick_queue.specs.Groups.{times_by}
use Rattle.trick_queue.specs.Merged.{AreThere, IsMergeOf, gathered}
use Rattle.trick_queue.specs.Passed.{IsPassed}
use Rattle.trick_queue.specs.Queue.{IsFor, QueuesView}
use Rattle.trick_queue.specs.declared.group.Group.{Group}
use Rattle.trick_queue.specs.declared.merge.Merge.{Merge}

-- the groups that are due are there
pub due_there : (groups : List Group) (tics : List ℕ) (tic : ℕ) (due : List ℕ) → IsPassed (times_by groups) tics tic due → AreThere due (length groups)
due_there groups tics tic due passed =
    all_there due (length groups) (λ k among. let less : k < length (times_by groups) = passed.there k among in omega (arith, less, as_many_times groups))

pub due_few : (groups : List Group) (tics : List ℕ) (tic : ℕ) (due : List ℕ) → IsPassed (times_by groups) tics tic due → length due ≤ length groups
due_few groups tics tic due passed = omega (arith, passed.few, as_many_times groups)

pub few_places : (plan : PlanValue) (q : QueuesView) (tics : List ℕ) (tic : ℕ) (due : List ℕ) → IsFor plan q → IsPassed (times_by q.groups) tics tic due
    → length (gathered q.groups due) ≤ length q.jobs
few_places plan q tics tic due own passed = gathered_few plan.program.jobs q.jobs q.groups due own.groups (due_there q.groups tics tic due passed) passed.once

pub places_within : (plan : PlanValue) (q : QueuesView) (tics : List ℕ) (tic : ℕ) (due : List ℕ) → IsFor plan q → IsPassed (times_by q.groups) tics tic due
    → AreThere (gathered q.groups due) (length q.jobs)
places_within plan q tics tic due own passed = gathered_there plan.program.jobs q.jobs q.groups due own.groups (due_there q.groups tics tic due passed) passed.once

-- Once the tic is passed, and the jobs of several due groups are put together, queues give the due jobs.
pub asked_is : (plan : PlanValue) (old : QueuesView) (tics : List ℕ) (tic : ℕ) (due : List ℕ) (merge : Merge) → IsFor plan old
    → IsPassed (times_by old.groups) tics tic due → (2 ≤ length due → merge.groups.items ≡ due) → IsMergeOf plan.program.jobs old.jobs old.groups merge
    → IsFor plan (record {
      jobs = old.jobs;
      groups = old.groups;
      tics = tics;
      from = tic + 1;
      asked = Some tic;
      due = due;
      merged = merge.groups.items;
      merged_jobs = merge.jobs.items;
    })
asked_is plan old tics tic due merge own passed several merged = record {
  jobs = own.jobs;
  groups = own.groups;
  have = own.have;
  next = passed.next;
  merged = merged;
  asked = record {
    passed = refl;
    due = λ on. due_jobs_are plan.program.jobs old.jobs old.groups due merge.groups.items merge.jobs.items own.groups (due_there old.groups tics tic due passed) merged several
        ∙ due_are plan on old.jobs old.groups tic due own.jobs own.groups passed.due_is passed.there;
  };
}
