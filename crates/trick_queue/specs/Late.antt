-- Jobs that are late: their least due tic that is not passed is not after the tic that is asked for.
use Rattle.std.specs.Prelude.{◌≡◌, ℕ, zero, suc, ◌+◌, ◌-◌, ◌≤◌, ◌↔◌, Bool, false, ◌||◌, IsTrue, List, [], ◌∷◌, filter, length, map}
use Rattle.trick_base.specs.Time.{tic_limit}
use Rattle.trick_cycle.specs.Due.{IsDue, is_due_at}
use Rattle.trick_cycle.specs.declared.Due.{Due}
use Rattle.trick_model.specs.Plan.{Plan}
use Rattle.trick_queue.specs.Line.{queue_of, times_at}

-- whether one of so many tics, from this one on, is a due one
abbrev pub is_due_within : Due → (from count : ℕ) → Bool
is_due_within d from zero = false
is_due_within d from (suc count) = is_due_at d from || is_due_within d (suc from) count

-- There is a least due tic that is not below `from`, and it is not after the tic.
abbrev pub is_late : (from tic : ℕ) → Due → Bool
is_late from tic d = is_due_within d from (suc tic - from)

-- how many of these times are late
abbrev pub late_times : (from tic : ℕ) → List Due → ℕ
late_times from tic times = length (filter (is_late from tic) times)

-- How many jobs of class scheduled on scheduled threads are late.
abbrev pub late_jobs : Plan → (from tic : ℕ) → ℕ
late_jobs p from tic = late_times from tic (map (times_at p.jobs) (queue_of p))

-- What is late has a due tic, from `from` to the tic.
abbrev pub IsLateExact : Type 0
IsLateExact =
    (d : Due) (from tic : ℕ) → IsTrue (is_late from tic d) ↔ ((t : ℕ) × (from ≤ t) × (t ≤ tic) × IsDue d t)

-- ---- worked values

-- the times of a job that starts at tic 0 and does not stop
abbrev pub every : ℕ → Due
every cycle = record { start = 0; cycle = cycle; stop = tic_limit }

-- three jobs
abbrev pub worked_times : List Due
worked_times = every 2 ∷ every 3 ∷ every 7 ∷ []

-- Asked for tics 0, 2 and 3 in turn, the three take at most 4, 2 and 2 steps.
abbrev pub AreStepsWorked : Type 0
AreStepsWorked =
    (late_times 0 0 worked_times + 1 ≡ 4)
    × (late_times 1 2 worked_times + 1 ≡ 2)
    × (late_times 3 3 worked_times + 1 ≡ 2)
