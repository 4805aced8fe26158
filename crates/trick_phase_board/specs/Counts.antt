-- How many of the predecessors of a due job are not committed, and how a commit lowers these counts. The
-- predecessors are of two kinds: the due jobs before it on its thread, and others that it depends on.
use Rattle.std.specs.List.{slice_index_or}
use Rattle.std.specs.Prelude.{◌≡◌, ℕ, ◌+◌, ◌-◌, ◌==◌, ◌&&◌, cond, Bool, true, false, IsTrue, List, [], ◌∷◌, slice_set}
use Rattle.trick_phase_board.specs.Search.{is_open}
use Rattle.trick_phase_board.specs.Tables.{thread_in}
use Rattle.trick_phase_board.specs.declared.tables.Tables.{Tables}
use Rattle.trick_lang.specs.declared.job.JobId.{JobId}
use Rattle.trick_phase_schedules.specs.Play.{is_due, is_taken, stage_at}
use Rattle.trick_phase_schedules.specs.declared.stage.Stage.{Stage}

-- 1 where it is so
abbrev pub one_if : Bool → ℕ
one_if true = 1
one_if false = 0

-- how many of these jobs are due and not committed
abbrev pub open_among : List Stage → List JobId → ℕ
open_among stages [] = 0
open_among stages (job ∷ jobs) = one_if (is_open (stage_at stages job.0)) + open_among stages jobs

-- the number that is kept at a place
abbrev pub count_at : List ℕ → ℕ → ℕ
count_at counts k = slice_index_or counts k 0

-- ---- the jobs that a job depends on, but for those before it on its thread

-- The count of a job, made anew: how many of them are due and not committed.
abbrev pub count_anew : Tables → List Stage → ℕ → ℕ
count_anew tables stages k = open_among stages (slice_index_or tables.depended k [])

-- The count that is kept of a job is the one made anew.
abbrev pub IsCounted : Tables → List Stage → List ℕ → ℕ → Type 0
IsCounted tables stages counts k = count_at counts k ≡ count_anew tables stages k

-- So it is with each due job.
abbrev pub AreCounted : Tables → List Stage → List ℕ → Type 0
AreCounted tables stages counts =
    (k : ℕ) → IsTrue (is_due (stage_at stages k)) → IsCounted tables stages counts k

-- the counts where each of these jobs has 1 less
abbrev pub with_fewer : List ℕ → List ℕ → List ℕ
with_fewer [] counts = counts
with_fewer (k ∷ ks) counts = with_fewer ks (slice_set counts k (count_at counts k - 1))

-- ---- the due jobs before a job on its thread

-- the jobs of a list that come before a job, on a thread
abbrev pub before_on : Tables → ℕ → ℕ → List JobId → List JobId
before_on tables thread k [] = []
before_on tables thread k (job ∷ jobs) =
    cond (job.0 == k) [] (cond (thread_in tables job.0 == thread)
    (job ∷ before_on tables thread k jobs) (before_on tables thread k jobs))

-- how many jobs of a list are on a thread
abbrev pub many_on : Tables → ℕ → List JobId → ℕ
many_on tables thread [] = 0
many_on tables thread (job ∷ jobs) = one_if (thread_in tables job.0 == thread) + many_on tables thread jobs

-- The rank of a job, from the last job of a thread on: how many jobs of the list are on the thread from its
-- own place on.
abbrev pub rank_in : Tables → ℕ → ℕ → List JobId → ℕ
rank_in tables thread k [] = 0
rank_in tables thread k (job ∷ jobs) =
    cond (job.0 == k) (many_on tables thread (job ∷ jobs)) (rank_in tables thread k jobs)

-- How many of the due jobs before a job on its thread are not committed, made anew.
abbrev pub own_anew : Tables → List JobId → List Stage → ℕ → ℕ
own_anew tables due stages k = open_among stages (before_on tables (thread_in tables k) k due)

-- What is kept of it: the due jobs of the thread that are not committed, less the rank of the job.
abbrev pub own_at : Tables → List ℕ → List ℕ → ℕ → ℕ
own_at tables ranks left k = count_at left (thread_in tables k) - count_at ranks k

-- What is kept of each due job is what is made anew.
abbrev pub AreRanked : Tables → List JobId → List Stage → List ℕ → List ℕ → Type 0
AreRanked tables due stages ranks left =
    (k : ℕ) → IsTrue (is_due (stage_at stages k)) → own_at tables ranks left k ≡ own_anew tables due stages k

-- Before a job that is taken, all due jobs of its thread are committed.
abbrev pub AreInTurn : Tables → List JobId → List Stage → Type 0
AreInTurn tables due stages = (k : ℕ) → IsTrue (is_taken (stage_at stages k)) → own_anew tables due stages k ≡ 0

-- ---- all predecessors

-- no predecessor of the job is left, by what is kept
abbrev pub none_is_left : Tables → List ℕ → List ℕ → List ℕ → ℕ → Bool
none_is_left tables counts ranks left k = (count_at counts k == 0) && (own_at tables ranks left k == 0)
