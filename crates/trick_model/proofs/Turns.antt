-- A turn, and the start of a run, keep what a valid state keeps.
use Rattle.std.proofs.Common.{◌≡◌, ℕ, zero, suc, ◌+◌, ◌-◌, ◌<◌, ◌≤◌, ◌==◌, min, nat_lt, ℤ, pos, List, [], ◌∷◌, length, map, Bool, true, false, ◌&&◌, Option, Some, None, refl, sym, subst, ap, ◌∙◌, length-set}
use Rattle.std.proofs.lemmas.List.{get_or_default, length-map, length-replicate}
use Rattle.std.specs.List.{slice_index_or}
use Rattle.std.specs.Prelude.{All, filter, flat_map, slice_set}
use Rattle.trick_base.proofs.Truths.{first_holds}
use native.Mathlib.Omega.{arith}
use Rattle.trick_lang.specs.Wrap.{IsInRange}
use Rattle.trick_lang.specs.declared.cells.Cell.{Cell}
use Rattle.trick_lang.specs.declared.class.Class.TheVariants as class
use Rattle.trick_lang.specs.declared.scalar.Scalar.{Scalar}
use Rattle.trick_model.proofs.Ranges.{Below, filter_below, flat_below, jobs_below, map_each, numbers_of_cells, order_below, replaced_each, replicate_each, set_each, spread_each, zero_in_range}
use Rattle.trick_model.proofs.Sizes.{last_keeps, replaced_length}
use Rattle.trick_model.proofs.States.{IsAfter, IsFound, action_found, by_test, class_right, deed_right, due_right, enter_right, fire_right, jobs_right, leave_right, settled_right, with_last, with_memory, with_mode, with_taken, with_tic, with_turn}
use Rattle.trick_model.specs.Access.{may_write, scope}
use Rattle.trick_model.specs.Beside.{each_thread, ends_at, find_thread, flag_in, has_round, held_work, must_finish, one_later, publish, publish_round, published, spread, start_round, take, taken_from, tics_from, where_ends, work, zeros}
use Rattle.trick_model.specs.Events.{Asking, Between, fire, names_of}
use Rattle.trick_model.specs.Laws.{KeepsValidity, StartsValid}
use Rattle.trick_model.specs.Names.{deed_of}
use Rattle.trick_model.specs.Order.{in_key_order, is_due}
use Rattle.trick_model.specs.Plan.{Plan, is_on, job_numbers, jobs_of, thread_of, threads_beside}
use Rattle.trick_model.specs.Records.{row_kept, row_of, rows, writes_row}
use Rattle.trick_model.specs.Run.{assigned, empty, frozen_at_start, is_shut, shut, with_assigns}
use Rattle.trick_model.specs.Running.{run_class, settled}
use Rattle.trick_model.specs.Session.{Answer, acted, answered, bad, quiet}
use Rattle.trick_model.specs.State.{State, nothing_taken, number_at, taken_at}
use Rattle.trick_model.specs.Tic.{Ticked, jobs_done, tic, tic_below_limit, tics}
use Rattle.trick_base.specs.Time.{tic_limit}
use Rattle.trick_model.specs.Time.{last_turn, tics_left}
use Rattle.trick_model.specs.Turn.{Hearing, begun, checkpoint_jobs, counted, do_between, framed, frozen, hear, heard, publish_all, resumed, rounds, runs, session_of}
use Rattle.trick_model.specs.ValidState.{AreInRange, AreNumbersOf, Each, IsLastRow, IsRecord, IsSound, IsStateOf, OfGroup, OfThread, sizes, sizes_of}
use Rattle.trick_model.specs.declared.command.Command.{Command}
use Rattle.trick_model.specs.declared.command.Command.TheVariants as command
use Rattle.trick_model.specs.declared.deed.Deed.{Deed}
use Rattle.trick_model.specs.declared.deed.Deed.TheVariants.{SetCell, SetJob, Freeze, Stop as StopRun, Checkpoint, SetGroup, SetEvent}
use Rattle.trick_model.specs.declared.entry.Entry.{Entry}
use Rattle.trick_model.specs.declared.entry.Entry.TheVariants.{Join, Said, Leave, Publish}
use Rattle.trick_model.specs.declared.flags.Flags.{Flags}
use Rattle.trick_model.specs.declared.group.Group.{Group}
use Rattle.trick_model.specs.declared.mode.Mode.TheVariants as mode
use Rattle.trick_model.specs.declared.session.Session.{Session}
use Rattle.trick_model.specs.declared.taken.Taken.{Taken}
use Rattle.trick_model.specs.declared.thread.Process.{Process}
use Rattle.trick_model.specs.declared.thread.Process.TheVariants as process
use Rattle.trick_model.specs.declared.thread.Thread.{Thread}

-- ---- work beside the tics

thread_jobs_below : (p : Plan) (thread : Thread) → Below (length p.jobs) (jobs_of p.jobs thread)
thread_jobs_below p thread = filter_below (length p.jobs) (λ k. thread_of p.jobs k == thread.number) (job_numbers p.jobs) (jobs_below p.jobs)

work_below : (p : Plan) (thread : Thread) (on : Flags) (tic : ℕ) → Below (length p.jobs) (work p thread on tic)
work_below p thread on tic = by_process thread.process
  where
    by_process : (type : Process) → Below (length p.jobs) (elim type [
      | process.Scheduled ↦ []
      | process.Async ↦ in_key_order p.jobs (jobs_of p.jobs thread)
      | process.MustFinish ↦
          let from = tic - thread.cycle in
          flat_map (λ u. in_key_order p.jobs (filter (is_due p on u) (jobs_of p.jobs thread))) (tics_from from (tic - from))
    ])
    by_process process.Scheduled = tt
    by_process process.Async = order_below (length p.jobs) p.jobs (jobs_of p.jobs thread) (thread_jobs_below p thread)
    by_process process.MustFinish =
        flat_below (length p.jobs) (λ u. in_key_order p.jobs (filter (is_due p on u) (jobs_of p.jobs thread))) _
        (λ u. order_below (length p.jobs) p.jobs _ (filter_below (length p.jobs) (is_due p on u) (jobs_of p.jobs thread) (thread_jobs_below p thread)))

held_right : (p : Plan) → IsSound p → (thread : Thread) (on : Flags) (tic : ℕ) (taken : Taken) → tic ≤ tic_limit + 1
    → AreNumbersOf p.scalars (scope p thread) taken.cells → IsAfter p (held_work p thread on tic taken)
held_right p sound thread on tic taken fits cells =
    jobs_right p sound (flag_in (jobs_of p.jobs thread) taken.on.on) tic (work p thread on tic)
    (spread (scope p thread) taken.cells (zeros p)) fits (work_below p thread on tic)
    (spread_each p.scalars (scope p thread) taken.cells (zeros p) cells
    (replicate_each (IsInRange p.scalars) (pos 0) (length p.names) (zero_in_range p.scalars)))

published_right : (p : Plan) → IsSound p → (thread : Thread) (on : Flags) (tic : ℕ) (taken : Taken) (memory : List ℤ) → tic ≤ tic_limit + 1
    → AreNumbersOf p.scalars (scope p thread) taken.cells → AreInRange p.scalars memory → IsAfter p (published p thread on tic taken memory)
published_right p sound thread on tic taken memory fits cells range =
    let held = held_right p sound thread on tic taken fits cells in
    record {
      range = from_zero _ (replaced_each (IsInRange p.scalars) (may_write p (work p thread on tic)) 0 (held_work p thread on tic taken).memory memory held.range to_zero);
      faults = held.faults;
    }
  where
    to_zero : Each (λ k. IsInRange p.scalars (0 + k)) (pos 0) memory
    to_zero k = let same : k ≡ 0 + k = omega arith in subst (λ (j : ℕ). IsInRange p.scalars j (number_at memory k)) same (range k)

    from_zero : (ns : List ℤ) → Each (λ k. IsInRange p.scalars (0 + k)) (pos 0) ns → AreInRange p.scalars ns
    from_zero ns each k = let same : 0 + k ≡ k = omega arith in subst (λ (j : ℕ). IsInRange p.scalars j (number_at ns k)) same (each k)

nothing_right : (p : Plan) (thread : Thread) → IsRecord p thread nothing_taken
nothing_right p thread = record { cells = λ h. grind (arith, h); flags = λ h. grind (arith, h); none = λ h. refl }

pub publish_right : (p : Plan) → IsSound p → (place : ℕ) (thread : Thread) (tic : ℕ) (s : State) → tic ≤ tic_limit + 1
    → IsRecord p thread (taken_at s place) → IsStateOf p s → IsStateOf p (publish p place thread tic s)
publish_right p sound place thread tic s fits right good =
    let taken = taken_at s place in
    let after = published p thread s.jobs tic taken s.memory in
    by_test p taken.held _ s
    (λ held. with_taken p (settled after s) place nothing_taken (λ d there. nothing_right p _)
    (settled_right p after s (published_right p sound thread s.jobs tic taken s.memory fits (right.cells held) good.memory)
    (replaced_length (may_write p (work p thread s.jobs tic)) 0 (held_work p thread s.jobs tic taken).memory s.memory) good))
    (λ none. good)

taken_right : (p : Plan) (thread : Thread) (s : State) → IsStateOf p s → IsRecord p thread (taken_from p thread s)
taken_right p thread s good = record {
  cells = λ held. numbers_of_cells p.scalars s.memory good.memory (scope p thread);
  flags = λ held. length-map (jobs_of p.jobs thread) (is_on s.jobs);
  none = λ none. grind (arith, none);
}

-- the thread of a place
abbrev pub IsAt : Plan → ℕ → Thread → Type 0
IsAt p place thread = (place < length (threads_beside p)) × ((d : Thread) → slice_index_or (threads_beside p) place d ≡ thread)

pub record_at : (p : Plan) (place : ℕ) (thread : Thread) (s : State) → IsAt p place thread → IsStateOf p s → IsRecord p thread (taken_at s place)
record_at p place thread s at good =
    subst (λ (t : Thread). IsRecord p t (taken_at s place)) (at.1 thread) (good.taken place thread at.0)

pub take_right : (p : Plan) (place : ℕ) (thread : Thread) (s : State) → IsAt p place thread → IsStateOf p s → IsStateOf p (take p place thread s)
take_right p place thread s at good =
    with_taken p s place (taken_from p thread s)
    (λ d there. subst (λ (t : Thread). IsRecord p t (taken_from p thread s)) (sym (at.1 d)) (taken_right p thread s good)) good

-- threads that stand at these places
abbrev pub AreAt : Plan → ℕ → List Thread → Type 0
AreAt p place [] = Unit {0}
AreAt p place (thread ∷ threads) = IsAt p place thread × AreAt p (place + 1) threads

threads_right : (p : Plan) (step : ℕ → Thread → State → State)
    → ((place : ℕ) (thread : Thread) (s : State) → IsAt p place thread → IsStateOf p s → IsStateOf p (step place thread s))
    → (place : ℕ) (threads : List Thread) (s : State) → AreAt p place threads → IsStateOf p s → IsStateOf p (each_thread step place threads s)
threads_right p step right place [] s at good = good
threads_right p step right place (thread ∷ threads) s at good =
    threads_right p step right (place + 1) threads _ at.1 (right place thread s at.0 good)

at_places : (p : Plan) (place : ℕ) (threads : List Thread)
    → ((k : ℕ) (d : Thread) → k < length threads → IsAt p (place + k) (slice_index_or threads k d)) → AreAt p place threads
at_places p place [] each = tt
at_places p place (thread ∷ threads) each =
    let first : place + 0 ≡ place = omega arith in
    let shift : (k : ℕ) → place + suc k ≡ place + 1 + k = λ k. omega arith in (
      subst (λ (n : ℕ). IsAt p n thread) first (each 0 thread (omega arith)),
      at_places p (place + 1) threads
          (λ k d there. subst (λ (n : ℕ). IsAt p n (slice_index_or threads k d)) (shift k) (each (suc k) d (omega arith))),
    )

pub all_at : (p : Plan) → AreAt p 0 (threads_beside p)
all_at p = at_places p 0 (threads_beside p) (λ k d there. let same : k ≡ 0 + k = omega arith in
    subst (λ (n : ℕ). IsAt p n (slice_index_or (threads_beside p) k d)) same (there, λ e. get_or_default (threads_beside p) k e d there))

pub must_right : (p : Plan) → IsSound p → (tic : ℕ) (s : State) → tic ≤ tic_limit + 1 → IsStateOf p s → IsStateOf p (must_finish p tic s)
must_right p sound tic s fits good =
    threads_right p (where_ends (take p) tic)
    (λ place thread s at good. by_test p (ends_at tic thread) _ s (λ ends. take_right p place thread s at good) (λ goes. good))
    0 (threads_beside p) _ (all_at p)
    (threads_right p (where_ends (λ place thread. publish p place thread tic) tic)
    (λ place thread s at good. by_test p (ends_at tic thread) _ s
    (λ ends. publish_right p sound place thread tic s fits (record_at p place thread s at good) good) (λ goes. good))
    0 (threads_beside p) s (all_at p) good)

-- ---- a tic

-- the group of a place
abbrev pub IsGroupAt : Plan → ℕ → Group → Type 0
IsGroupAt p k group = (d : Group) → k < length p.groups → slice_index_or p.groups k d ≡ group

abbrev pub AreGroupsAt : Plan → ℕ → List Group → Type 0
AreGroupsAt p k [] = Unit {0}
AreGroupsAt p k (group ∷ groups) = IsGroupAt p k group × AreGroupsAt p (suc k) groups

row_numbers : (scalars : List Scalar) (memory : List ℤ) → AreInRange scalars memory → (cells : List Cell)
    → AreNumbersOf scalars (map (λ (cell : Cell). cell.0) cells) (map (λ (cell : Cell). number_at memory cell.0) cells)
row_numbers scalars memory range [] = tt
row_numbers scalars memory range (cell ∷ cells) = (range cell.0, row_numbers scalars memory range cells)

row_right : (p : Plan) (tic k : ℕ) (group : Group) (s : State) → IsGroupAt p k group → IsStateOf p s → IsStateOf p (row_kept tic k group s)
row_right p tic k group s at good =
    by_test p (group.changes && writes_row tic k group s) _ s
    (λ writes. with_last p s k (row_of group s)
    (λ d there. subst (λ (g : Group). IsLastRow p g (Some (row_of group s))) (sym (at d there))
    (first_holds group.changes (writes_row tic k group s) writes, row_numbers p.scalars s.memory good.memory group.cells))
    (last_keeps s k (row_of group s)) good)
    (λ none. good)

pub rows_right : (p : Plan) (tic k : ℕ) (groups : List Group) (s : State) → AreGroupsAt p k groups → IsStateOf p s → IsStateOf p (rows tic k groups s).state
rows_right p tic k [] s at good = good
rows_right p tic k (group ∷ groups) s at good = rows_right p tic (suc k) groups _ at.1 (row_right p tic k group s at.0 good)

pub groups_at : (p : Plan) (k : ℕ) (groups : List Group)
    → ((i : ℕ) (d e : Group) → i < length groups → slice_index_or p.groups (k + i) d ≡ slice_index_or groups i e) → AreGroupsAt p k groups
groups_at p k [] each = tt
groups_at p k (group ∷ groups) each =
    let first : k + 0 ≡ k = omega arith in
    let shift : (i : ℕ) → k + suc i ≡ suc k + i = λ i. omega arith in (
      (λ d there. ap (λ (n : ℕ). slice_index_or p.groups n d) (sym first) ∙ each 0 d group (omega arith)),
      groups_at p (suc k) groups
          (λ i d e there. ap (λ (n : ℕ). slice_index_or p.groups n d) (sym (shift i)) ∙ each (suc i) d e (omega arith)),
    )

pub all_groups_at : (p : Plan) → AreGroupsAt p 0 p.groups
all_groups_at p = groups_at p 0 p.groups (λ i d e there. let same : 0 + i ≡ i = omega arith in
    ap (λ (n : ℕ). slice_index_or p.groups n d) same ∙ get_or_default p.groups i d e there)

pub tic_right : (p : Plan) → IsSound p → (a : Asking) → a.state.tic < a.state.limit → IsStateOf p a.state → IsStateOf p (tic p a).asking.state
tic_right p sound a below good =
    let now = a.state.tic in
    let fits : now ≤ tic_limit = omega (arith, below, good.limit) in
    let later : now ≤ tic_limit + 1 = omega (arith, fits) in
    let b = fire p now a in
    let must = must_right p sound now b.state later (fire_right p sound.event_deeds sound.read_deeds now a fits good) in
    let jobs = due_right p sound now (must_finish p now b.state) later must in
    with_tic p _ (now + 1) (omega (arith, fits)) (rows_right p now 0 p.groups (jobs_done p now (must_finish p now b.state)) (all_groups_at p) jobs)

below_right : (p : Plan) → IsSound p → (a : Asking) (b : Bool) → nat_lt a.state.tic a.state.limit ≡ b → IsStateOf p a.state
    → (let t : Ticked = elim b [ true ↦ tic p a | false ↦ record { asking = a; writes = [] } ] in IsStateOf p t.asking.state)
below_right p sound a true e good = tic_right p sound a (grind (arith, e)) good
below_right p sound a false e good = good

pub tics_right : (p : Plan) → IsSound p → (count : ℕ) (a : Asking) → IsStateOf p a.state → IsStateOf p (tics p count a).asking.state
tics_right p sound zero a good = good
tics_right p sound (suc count) a good = tics_right p sound count (tic_below_limit p a).asking (below_right p sound a _ refl good)

-- ---- a turn

between_right : (p : Plan) → IsSound p → (deed : Option Deed) (a : Asking) → IsFound p deed → IsStateOf p a.state → IsStateOf p (do_between p deed a).state
between_right p sound None a right good = good
between_right p sound (Some (SetCell cell number)) a right good = deed_right p Between (SetCell cell number) a tt right good
between_right p sound (Some (SetJob job on)) a right good = deed_right p Between (SetJob job on) a tt right good
between_right p sound (Some Freeze) a right good = enter_right p sound a.state good
between_right p sound (Some (StopRun at)) a right good = deed_right p Between (StopRun at) a tt right good
between_right p sound (Some Checkpoint) a right good = good
between_right p sound (Some (SetGroup group on)) a right good = deed_right p Between (SetGroup group on) a tt right good
between_right p sound (Some (SetEvent event on)) a right good = deed_right p Between (SetEvent event on) a tt right good

resumed_right : (p : Plan) → IsSound p → (resume : Bool) (a : Asking) → IsStateOf p a.state → IsStateOf p (resumed p resume a).state
resumed_right p sound false a good = good
resumed_right p sound true a good = leave_right p sound a.state good

acted_found : (p : Plan) (deed : Option Deed) (s : Session) → IsFound p deed → IsFound p (acted deed s).deed
acted_found p None s right = tt
acted_found p (Some deed) s right = right

added_found : (p : Plan) (b : Bool) (a s : Session) → let x : Answer = elim b [ true ↦ quiet a | false ↦ bad s ] in IsFound p x.deed
added_found p true a s = tt
added_found p false a s = tt

answer_found : (p : Plan) (c : Command) (s : Session) → IsFound p (answered p c s).deed
answer_found p (command.Act action) s = acted_found p (deed_of (names_of p) action) s (action_found p action)
answer_found p command.Nothing s = tt
answer_found p command.Resume s = tt
answer_found p (command.Add name) s = added_found p (nat_lt (length s.variables) 256) _ s
answer_found p (command.Remove name) s = tt
answer_found p command.Clear s = tt
answer_found p (command.Cycle tics) s = tt
answer_found p (command.Pause on) s = tt
answer_found p command.Send s = tt
answer_found p (command.Exists name) s = tt
answer_found p (command.Copy mode) s = tt
answer_found p command.Exit s = tt
answer_found p command.Bad s = tt

pub hear_right : (p : Plan) → IsSound p → (entry : Entry) (h : Hearing) → IsStateOf p h.asking.state → IsStateOf p (hear p entry h).asking.state
hear_right p sound (Join number) h good = good
hear_right p sound (Said number line) h good =
    let session = session_of number h.sessions in
    let a = answered p (p.command line) session in
    resumed_right p sound a.resume (do_between p a.deed h.asking) (between_right p sound a.deed h.asking (answer_found p (p.command line) session) good)
hear_right p sound (Leave number cause) h good = good
hear_right p sound (Publish thread) h good = good

pub heard_right : (p : Plan) → IsSound p → (entries : List Entry) (h : Hearing) → IsStateOf p h.asking.state → IsStateOf p (heard p entries h).asking.state
heard_right p sound [] h good = good
heard_right p sound (entry ∷ entries) h good = heard_right p sound entries (hear p entry h) (hear_right p sound entry h good)

-- what was found stands at its place
abbrev pub FoundAt : Plan → ℕ → Option (ℕ × Thread) → Type 0
FoundAt p place None = Unit {0}
FoundAt p place (Some found) = IsAt p (place + found.0) found.1

later_at : (p : Plan) (place : ℕ) (found : Option (ℕ × Thread)) → FoundAt p (place + 1) found → FoundAt p place (one_later found)
later_at p place None at = tt
later_at p place (Some found) at =
    let shift : place + 1 + found.0 ≡ place + suc found.0 = omega arith in subst (λ (n : ℕ). IsAt p n found.1) shift at

either_found : (p : Plan) (place : ℕ) (b : Bool) (x y : Option (ℕ × Thread)) → FoundAt p place x → FoundAt p place y → FoundAt p place (elim b [ true ↦ x | false ↦ y ])
either_found p place true x y hx hy = hx
either_found p place false x y hx hy = hy

pub find_at : (p : Plan) (place number : ℕ) (threads : List Thread) → AreAt p place threads → FoundAt p place (find_thread number threads)
find_at p place number [] at = tt
find_at p place number (thread ∷ threads) at =
    let same : place ≡ place + 0 = omega arith in
    either_found p place (thread.number == number) (Some (0, thread)) (one_later (find_thread number threads))
    (subst (λ (n : ℕ). IsAt p n thread) same at.0) (later_at p place (find_thread number threads) (find_at p (place + 1) number threads at.1))

round_right : (p : Plan) → IsSound p → (found : Option (ℕ × Thread)) (s : State) → FoundAt p 0 found → IsStateOf p s → IsStateOf p (elim found [
  | None ↦ s
  | Some found ↦ elim (has_round s found.0 found.1) [ true ↦ publish p found.0 found.1 s.tic s | false ↦ s ]
])
round_right p sound None s at good = good
round_right p sound (Some found) s at good =
    let same : 0 + found.0 ≡ found.0 = omega arith in
    by_test p (has_round s found.0 found.1) _ s
    (λ there. publish_right p sound found.0 found.1 s.tic s good.tic
    (record_at p found.0 found.1 s (subst (λ (n : ℕ). IsAt p n found.1) same at) good) good)
    (λ none. good)

pub publish_all_right : (p : Plan) → IsSound p → (entries : List Entry) (s : State) → IsStateOf p s → IsStateOf p (publish_all p entries s)
publish_all_right p sound [] s good = good
publish_all_right p sound (Join number ∷ entries) s good = publish_all_right p sound entries s good
publish_all_right p sound (Said number line ∷ entries) s good = publish_all_right p sound entries s good
publish_all_right p sound (Leave number cause ∷ entries) s good = publish_all_right p sound entries s good
publish_all_right p sound (Publish thread ∷ entries) s good =
    publish_all_right p sound entries (publish_round p thread s)
    (round_right p sound (find_thread thread (threads_beside p)) s (find_at p 0 thread (threads_beside p) (all_at p)) good)

pub frozen_right : (p : Plan) → IsSound p → (freeze : Bool) (s : State) → IsStateOf p s → IsStateOf p (frozen p freeze s)
frozen_right p sound false s good = good
frozen_right p sound true s good = enter_right p sound s good

pub framed_right : (p : Plan) → IsSound p → (ran : Bool) (entries : List Entry) (a : Asking) → IsStateOf p a.state → IsStateOf p (framed p ran entries a).asking.state
framed_right p sound false entries a good = good
framed_right p sound true entries a good =
    let top = run_class p class.TopOfFrame (publish_all p entries a.state) in
    let before = record a { state = top } in
    let ran = tics p (tics_left p top.tic) before in
    frozen_right p sound ran.asking.freeze (run_class p class.EndOfFrame ran.asking.state)
    (class_right p sound class.EndOfFrame ran.asking.state
    (tics_right p sound (tics_left p top.tic) before (class_right p sound class.TopOfFrame (publish_all p entries a.state) (publish_all_right p sound entries a.state good))))

start_right : (p : Plan) (place : ℕ) (thread : Thread) (s : State) → IsAt p place thread → IsStateOf p s → IsStateOf p (start_round p place thread s)
start_right p place thread s at good = by_process thread.process
  where
    by_process : (type : Process) → IsStateOf p (elim type [
      | process.Scheduled ↦ s
      | process.MustFinish ↦ s
      | process.Async ↦ elim ((taken_at s place).held) [ true ↦ s | false ↦ take p place thread s ]
    ])
    by_process process.Scheduled = good
    by_process process.MustFinish = good
    by_process process.Async = by_test p (taken_at s place).held s _ (λ held. good) (λ none. take_right p place thread s at good)

pub rounds_right : (p : Plan) (ran : Bool) (s : State) → IsStateOf p s → IsStateOf p (rounds p ran s)
rounds_right p false s good = good
rounds_right p true s good = threads_right p (start_round p) (start_right p) 0 (threads_beside p) s (all_at p) good

pub checkpoint_right : (p : Plan) → IsSound p → (asked : Bool) (s : State) → IsStateOf p s → IsStateOf p (checkpoint_jobs p asked s)
checkpoint_right p sound false s good = good
checkpoint_right p sound true s good = class_right p sound class.Checkpoint s good

pub counted_right : (p : Plan) (s : State) → IsStateOf p s → IsStateOf p (counted s)
counted_right p s good = with_turn p s (min (s.turn + 1) last_turn) (grind arith) good

pub turns_keep_validity : KeepsValidity
turns_keep_validity p sound w entries good =
    let a = (heard p entries (begun w)).asking in
    let ran = framed p (runs a.state) entries a in
    counted_right p (rounds p (runs a.state) (checkpoint_jobs p ran.asking.checkpoint ran.asking.state))
    (rounds_right p (runs a.state) (checkpoint_jobs p ran.asking.checkpoint ran.asking.state)
    (checkpoint_right p sound ran.asking.checkpoint ran.asking.state
    (framed_right p sound (runs a.state) entries a (heard_right p sound entries (begun w) good))))

-- ---- the start and the end

empty_sizes : (p : Plan) → IsSound p → sizes (empty p) ≡ sizes_of p
empty_sizes p sound =
    let no_row : Option (List ℤ) = None in
    λ i. length-replicate (length p.names) (pos 0) i ∷ sound.jobs_flagged i ∷ sound.events_flagged i ∷ sound.groups_flagged i
    ∷ length-map p.groups (λ (group : Group). no_row) i ∷ length-map (threads_beside p) (λ (thread : Thread). nothing_taken) i ∷ []

pub empty_right : (p : Plan) → IsSound p → IsStateOf p (empty p)
empty_right p sound = record {
  turn = omega arith;
  tic = omega arith;
  limit = sound.limit;
  sizes = empty_sizes p sound;
  memory = replicate_each (IsInRange p.scalars) (pos 0) (length p.names) (zero_in_range p.scalars);
  last = map_each (λ k row. OfGroup p (λ group. IsLastRow p group row) k) None p.groups (λ k d there. tt);
  taken = map_each (λ k taken. OfThread p (λ thread. IsRecord p thread taken) k) nothing_taken (threads_beside p) (λ k d there. nothing_right p _);
  faults = λ k d there. absurd (omega (arith, there));
  kept = refl;
}

assigned_each : (p : Plan) (assigns : List (Cell × ℤ)) (memory : List ℤ) → All (λ (a : Cell × ℤ). IsInRange p.scalars (a.0).0 a.1) assigns
    → AreInRange p.scalars memory → AreInRange p.scalars (assigned assigns memory)
assigned_each p [] memory all range = range
assigned_each p (a ∷ more) memory all range =
    assigned_each p more (slice_set memory (a.0).0 a.1) (λ k d there. all (suc k) d (omega arith))
    (set_each (IsInRange p.scalars) (pos 0) memory (a.0).0 a.1 (all 0 a (omega arith)) range)

assigned_length : (assigns : List (Cell × ℤ)) (memory : List ℤ) → length (assigned assigns memory) ≡ length memory
assigned_length [] memory = refl
assigned_length (a ∷ more) memory = assigned_length more (slice_set memory (a.0).0 a.1) ∙ length-set memory (a.0).0 a.1

pub assigns_right : (p : Plan) → IsSound p → (s : State) → IsStateOf p s → IsStateOf p (with_assigns p s)
assigns_right p sound s good =
    with_memory p s (assigned p.assigns s.memory) (assigned_each p p.assigns s.memory sound.assigns good.memory)
    (λ i. assigned_length p.assigns s.memory i ∷ length s.jobs.on ∷ length s.events.on ∷ length s.groups.on ∷ length s.last ∷ length s.taken ∷ []) good

pub frozen_start_right : (p : Plan) → IsSound p → (freeze : Bool) (s : State) → IsStateOf p s → IsStateOf p (frozen_at_start p freeze s)
frozen_start_right p sound false s good = good
frozen_start_right p sound true s good = enter_right p sound s good

pub shut_right : (p : Plan) → IsSound p → (s : State) → IsStateOf p s → IsStateOf p (shut p s)
shut_right p sound s good =
    by_test p (is_shut s.mode) s _ (λ done. good) (λ goes. class_right p sound class.Shutdown _ (with_mode p s mode.Shutdown good))

pub runs_start_valid : StartsValid
runs_start_valid = record {
  start = λ p sound.
      let made = run_class p class.DefaultData (empty p) in
      frozen_start_right p sound p.frozen _
      (class_right p sound class.Initialization (with_assigns p made)
      (assigns_right p sound made (class_right p sound class.DefaultData (empty p) (empty_right p sound))));
  shut = shut_right;
}
