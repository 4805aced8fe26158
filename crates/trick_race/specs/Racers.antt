-- Jobs that may race, in key order.
use Rattle.std.specs.List.{slice_index_or}
use Rattle.std.specs.Prelude.{◌≡◌, ℕ, ◌<◌, IsTrue, List, length}
use Rattle.trick_cycle.specs.Least.{IsLeast}
use Rattle.trick_cycle.specs.Shared.{IsShared}
use Rattle.trick_lang.specs.declared.class.Class.TheVariants as class
use Rattle.trick_lang.specs.declared.job.JobId.{JobId}
use Rattle.trick_model.specs.Acceptance.{IsFine}
use Rattle.trick_model.specs.Order.{is_of_class, precedes}
use Rattle.trick_model.specs.Plan.{Plan, is_on_scheduled}
use Rattle.trick_model.specs.Time.{due_of}

-- the job is there, of class scheduled and on a scheduled thread
pub record IsRacer (p : Plan) (k : ℕ) : Type 0 where
  pub there : k < length p.jobs
  pub scheduled : IsTrue (is_of_class p.jobs class.Scheduled k)
  pub in_tics : IsTrue (is_on_scheduled p.jobs p.threads k)

-- the job at a place of a list
abbrev pub racer_at : List JobId → ℕ → ℕ
racer_at racers i = (slice_index_or racers i (record { 0 = 0 })).0

-- all jobs that may race, in key order
pub record AreRacers (p : Plan) (racers : List JobId) : Type 0 where
  pub each : (i : ℕ) → i < length racers → IsRacer p (racer_at racers i)
  pub every : (k : ℕ) → IsRacer p k → (i : ℕ) × (i < length racers) × (racer_at racers i ≡ k)
  pub rise : (i j : ℕ) → i < j → j < length racers → IsTrue (precedes p.jobs (racer_at racers i) (racer_at racers j))

-- the two jobs race, and this is the first tic that they share
pub record IsRaceAt (p : Plan) (a b tic : ℕ) : Type 0 where
  pub races : IsFine p a b → ⊥
  pub first_tic : IsLeast (IsShared (due_of p p.jobs_on a) (due_of p p.jobs_on b)) tic

-- the job at a place races with none after it
abbrev pub IsFineAt : Plan → List JobId → ℕ → Type 0
IsFineAt p racers i = (j : ℕ) → i < j → j < length racers → IsFine p (racer_at racers i) (racer_at racers j)

-- the first job after a place that races with the one there
pub record IsFirstOther (p : Plan) (racers : List JobId) (i other tic : ℕ) : Type 0 where
  pub place : (j : ℕ) × (i < j) × (j < length racers) × (racer_at racers j ≡ other)
      × ((k : ℕ) → i < k → k < j → IsFine p (racer_at racers i) (racer_at racers k))
  pub race : IsRaceAt p (racer_at racers i) other tic
