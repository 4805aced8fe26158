-- Jobs that are due at the same tics.
use Rattle.std.specs.List.{slice_index_or}
use Rattle.std.specs.Prelude.{◌≡◌, ◌≢◌, ℕ, zero, suc, ◌<◌, Bool, true, false, ◌&&◌, ◌||◌, ◌==◌, All, List, [], ◌∷◌, ◌++◌, filter, length, map}
use Rattle.trick_cycle.specs.Due.{IsInRange}
use Rattle.trick_cycle.specs.declared.Due.{Due}
use Rattle.trick_lang.specs.declared.job.Job.{Job}
use Rattle.trick_lang.specs.declared.job.JobId.{JobId}
use Rattle.trick_model.specs.Valid.{ids}
use Rattle.trick_queue.specs.Line.{id_at, times_at}
use Rattle.trick_queue.specs.declared.group.Group.{Group}

-- Whether two have one start, one cycle and one stop.
abbrev pub are_same : Due → Due → Bool
are_same a b = ((a.start == b.start) && (a.cycle == b.cycle)) && (a.stop == b.stop)

-- Whether times are among these.
abbrev pub is_one_of : Due → List Due → Bool
is_one_of a [] = false
is_one_of a (b ∷ times) = are_same a b || is_one_of a times

-- None of these times stand twice.
abbrev pub AreApart : List Due → Type 0
AreApart [] = Unit {0}
AreApart (a ∷ times) = (is_one_of a times ≡ false) × AreApart times

-- the numbers below one
abbrev pub below : ℕ → List ℕ
below zero = []
below (suc n) = below n ++ n ∷ []

-- The times of the job at a place.
abbrev pub times_of : List Job → List JobId → ℕ → Due
times_of jobs ids place = times_at jobs (id_at ids place)

-- The places, of so many first ones, whose jobs have these times.
abbrev pub places_with : List Job → List JobId → ℕ → Due → List ℕ
places_with jobs ids end times = filter (λ place. are_same (times_of jobs ids place) times) (below end)

-- The jobs, of so many first ones, that have the times of the group.
pub record IsGroup (jobs : List Job) (ids_of : List JobId) (end : ℕ) (group : Group) : Type 0 where
  pub range : IsInRange group.times
  pub places : group.places.items ≡ places_with jobs ids_of end group.times
  pub jobs_are : ids group.jobs.items ≡ map (id_at ids_of) group.places.items

-- the times of each group
abbrev pub times_by : List Group → List Due
times_by groups = map (λ (group : Group). group.times) groups

-- the start, the cycle and the stop of each of these
abbrev pub keys_of : List Due → List (ℕ × ℕ × ℕ)
keys_of times = map (λ (d : Due). (d.start, d.cycle, d.stop)) times

-- The group of this number has these times.
abbrev pub HasTimes : Due → ℕ → List Group → Type 0
HasTimes d at groups = (none : Due) → slice_index_or (times_by groups) at none ≡ d

-- So many first jobs in groups: each is in the one group of its times.
pub record AreGroups (jobs : List Job) (ids_of : List JobId) (end : ℕ) (groups : List Group) : Type 0 where
  pub each : All (IsGroup jobs ids_of end) groups
  pub apart : AreApart (times_by groups)
  pub all : (place : ℕ) → place < end → is_one_of (times_of jobs ids_of place) (times_by groups) ≡ true

-- A job of so many first ones has these times.
abbrev pub IsUsed : List Job → List JobId → ℕ → Due → Type 0
IsUsed jobs ids end d = (place : ℕ) × (place < end) × (times_of jobs ids place ≡ d)

-- Each group has a job, but for the group of this number, where there is one.
abbrev pub HaveJobsBut : List Job → List JobId → ℕ → List Group → ℕ → Type 0
HaveJobsBut jobs ids end groups but =
    (at : ℕ) (none : Due) → at < length (times_by groups) → at ≢ but
    → IsUsed jobs ids end (slice_index_or (times_by groups) at none)

-- Each group has a job.
abbrev pub HaveJobs : List Job → List JobId → ℕ → List Group → Type 0
HaveJobs jobs ids end groups =
    (at : ℕ) (none : Due) → at < length (times_by groups) → IsUsed jobs ids end (slice_index_or (times_by groups) at none)
