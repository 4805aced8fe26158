-- Work beside the tics: must-finish and asynchronous threads.
use Rattle.std.specs.Prelude.{ℕ, suc, zero, ◌+◌, ◌-◌, ◌%◌, ◌==◌, ℤ, pos, Bool, true, false, ◌&&◌, cond, List, [], ◌∷◌, map, filter, flat_map, replicate, length, slice_set, Option, Some, None}
use Rattle.trick_model.specs.Access.{may_write, scope}
use Rattle.trick_model.specs.Order.{in_key_order, is_due}
use Rattle.trick_model.specs.Plan.{Plan, is_async, is_on, jobs_of, threads_beside}
use Rattle.trick_model.specs.Running.{After, after_jobs, settled}
use Rattle.trick_model.specs.State.{State, nothing_taken, number_at, taken_at}
use Rattle.trick_model.specs.declared.flags.Flags.{Flags}
use Rattle.trick_model.specs.declared.taken.Taken.{Taken}
use Rattle.trick_model.specs.declared.thread.Process.TheVariants as process
use Rattle.trick_model.specs.declared.thread.Thread.{Thread}

-- ---- what is taken

-- The cells of the scope and the flags of the thread's jobs are taken.
abbrev pub taken_from : Plan → Thread → State → Taken
taken_from p thread s = record {
  held = true;
  cells = map (number_at s.memory) (scope p thread);
  on = record { on = map (is_on s.jobs) (jobs_of p.jobs thread) };
}

-- numbers put into a memory, each into its cell
abbrev pub spread : List ℕ → List ℤ → List ℤ → List ℤ
spread [] ns memory = memory
spread (cell ∷ cells) [] memory = memory
spread (cell ∷ cells) (n ∷ ns) memory = spread cells ns (slice_set memory cell n)

-- a memory in which every cell is 0
abbrev pub zeros : Plan → List ℤ
zeros p = replicate (length p.names) (pos 0)

-- the flag of a job among flags, of which there is one for each of these jobs
abbrev pub flag_in : List ℕ → List Bool → ℕ → Bool
flag_in [] flags k = false
flag_in (j ∷ js) [] k = false
flag_in (j ∷ js) (flag ∷ flags) k = elim (j == k) [ true ↦ flag | false ↦ flag_in js flags k ]

-- ---- the work

-- the tics from one on
abbrev pub tics_from : ℕ → ℕ → List ℕ
tics_from tic zero = []
tics_from tic (suc count) = tic ∷ tics_from (tic + 1) count

-- The work of a must-finish thread at a tic t is the thread's jobs that were due at the tics u with
-- t - c <= u < t, in the order of u and then of key; there are no tics below 0. A round of an
-- asynchronous thread is each of its jobs once, in key order.
abbrev pub work : Plan → Thread → Flags → ℕ → List ℕ
work p thread on tic = elim (thread.process) [
  | process.Scheduled ↦ []
  | process.Async ↦ in_key_order p.jobs (jobs_of p.jobs thread)
  | process.MustFinish ↦
      let from = tic - thread.cycle in
      flat_map (λ u. in_key_order p.jobs (filter (is_due p on u) (jobs_of p.jobs thread))) (tics_from from (tic - from))
]

-- The held work is the fold over the taken cells, with the taken flags.
abbrev pub held_work : Plan → Thread → Flags → ℕ → Taken → After
held_work p thread on tic taken =
    after_jobs p (flag_in (jobs_of p.jobs thread) taken.on.on) tic (work p thread on tic)
    (spread (scope p thread) taken.cells (zeros p))

-- ---- publishing

-- a memory, but with other numbers in the chosen cells; `cell` is the number of the first
abbrev pub replaced : (ℕ → Bool) → ℕ → List ℤ → List ℤ → List ℤ
replaced chosen cell others [] = []
replaced chosen cell others (n ∷ ns) =
    cond (chosen cell) (number_at others cell) n ∷ replaced chosen (cell + 1) others ns

-- To publish means: every cell that one of the folded jobs may write gets the number that the fold
-- ends with, and the faults of the fold are added, with the tic of publication.
abbrev pub published : Plan → Thread → Flags → ℕ → Taken → List ℤ → After
published p thread on tic taken memory =
    let after = held_work p thread on tic taken in
    record { memory = replaced (may_write p (work p thread on tic)) 0 after.memory memory; faults = after.faults }

-- Then the record is empty. Where nothing is held, nothing is published.
abbrev pub publish : Plan → ℕ → Thread → ℕ → State → State
publish p place thread tic s =
    let taken = taken_at s place in
    elim (taken.held) [
      | true ↦
          let after = settled (published p thread s.jobs tic taken s.memory) s in
          record after { taken = slice_set s.taken place nothing_taken }
      | false ↦ s
    ]

-- the cells and flags of a thread are taken into its record
abbrev pub take : Plan → ℕ → Thread → State → State
take p place thread s = record s { taken = slice_set s.taken place (taken_from p thread s) }

-- ---- threads one after another

-- a step for each of these threads, in their order; `place` is that of the first
abbrev pub each_thread : (ℕ → Thread → State → State) → ℕ → List Thread → State → State
each_thread step place [] s = s
each_thread step place (thread ∷ threads) s = each_thread step (place + 1) threads (step place thread s)

-- whether a must-finish thread's cycle divides the tic
abbrev pub ends_at : ℕ → Thread → Bool
ends_at tic thread = elim (thread.process) [
  | process.Scheduled ↦ false
  | process.Async ↦ false
  | process.MustFinish ↦ (tic % thread.cycle) == 0
]

-- a step for the threads whose cycle ends at the tic
abbrev pub where_ends : (ℕ → Thread → State → State) → ℕ → ℕ → Thread → State → State
where_ends step tic place thread s = elim (ends_at tic thread) [ true ↦ step place thread s | false ↦ s ]

-- Of the must-finish threads whose cycle divides the tic first all publish, in thread order, and then
-- each of them takes.
abbrev pub must_finish : Plan → ℕ → State → State
must_finish p tic s =
    let published = each_thread (where_ends (λ place thread. publish p place thread tic) tic) 0 (threads_beside p) s in
    each_thread (where_ends (take p) tic) 0 (threads_beside p) published

-- ---- rounds of asynchronous threads

-- what was found stands one place later
abbrev pub one_later : Option (ℕ × Thread) → Option (ℕ × Thread)
one_later None = None
one_later (Some found) = Some (suc found.0, found.1)

-- a thread of this number, with its place among these
abbrev pub find_thread : ℕ → List Thread → Option (ℕ × Thread)
find_thread number [] = None
find_thread number (thread ∷ threads) =
    elim (thread.number == number) [ true ↦ Some (0, thread) | false ↦ one_later (find_thread number threads) ]

-- whether the thread at this place has a round in flight
abbrev pub has_round : State → ℕ → Thread → Bool
has_round s place thread = is_async thread.process && (taken_at s place).held

-- The asynchronous thread of this number has a round in flight.
abbrev pub is_in_flight : Plan → State → ℕ → Bool
is_in_flight p s number = elim (find_thread number (threads_beside p)) [
  | None ↦ false
  | Some found ↦ has_round s found.0 found.1
]

-- The round of the thread of this number is published, with the state's `tic`.
abbrev pub publish_round : Plan → ℕ → State → State
publish_round p number s = elim (find_thread number (threads_beside p)) [
  | None ↦ s
  | Some found ↦ elim (has_round s found.0 found.1) [ true ↦ publish p found.0 found.1 s.tic s | false ↦ s ]
]

-- An asynchronous thread that has nothing in flight takes its cells and starts a round.
abbrev pub start_round : Plan → ℕ → Thread → State → State
start_round p place thread s = elim (thread.process) [
  | process.Scheduled ↦ s
  | process.MustFinish ↦ s
  | process.Async ↦ elim ((taken_at s place).held) [ true ↦ s | false ↦ take p place thread s ]
]

-- each asynchronous thread, in thread order
abbrev pub start_rounds : Plan → State → State
start_rounds p s = each_thread (start_round p) 0 (threads_beside p) s
