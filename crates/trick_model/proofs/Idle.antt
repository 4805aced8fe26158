-- At an idle tic each part of a tic does nothing.
use Rattle.std.proofs.Common.{◌≡◌, ℕ, zero, suc, ◌+◌, ◌≤◌, ◌++◌, nat_lt, ◌%◌, ◌==◌, List, [], ◌∷◌, Bool, true, false, ◌&&◌, ◌||◌, refl, sym, subst, ap, ◌∙◌}
use Rattle.std.proofs.lemmas.Bool.{lt-ltb}
use native.Mathlib.Omega.{arith}
use Rattle.std.specs.List.{list_any}
use Rattle.trick_model.specs.Beside.{each_thread, ends_at, must_finish, publish, take, where_ends}
use Rattle.trick_model.specs.Events.{Asking, events_done, fire, fires, holds, reads_done}
use Rattle.trick_model.specs.Laws.{IdleTicsPass, IsIdle, LimitStops, event_is_due, group_is_due, later}
use Rattle.trick_model.specs.Order.{jobs_at}
use Rattle.trick_model.specs.Plan.{Event, Plan, is_on, threads_beside}
use Rattle.trick_model.specs.Records.{row_kept, row_writes, rows, writes_row}
use Rattle.trick_model.specs.Running.{after_jobs, settled}
use Rattle.trick_model.specs.State.{State}
use Rattle.trick_model.specs.Tic.{Ticked, jobs_done, tic, tic_below_limit, tics}
use Rattle.trick_model.specs.declared.group.Group.{Group}
use Rattle.trick_model.specs.declared.read_at.ReadAt.{ReadAt}
use Rattle.trick_model.specs.declared.thread.Thread.{Thread}

or_false : (x y : Bool) → x || y ≡ false → (x ≡ false) × (y ≡ false)
or_false true y e = (e, grind arith)
or_false false y e = (refl, e)

and_more : (x y z : Bool) → x && y ≡ false → x && (y && z) ≡ false
and_more false y z e = refl
and_more true false z e = refl
and_more true true z e = grind arith

none_right : (x : Bool) → x && false ≡ false
none_right true = refl
none_right false = refl

pub reads_idle : (tic : ℕ) (reads : List ReadAt) (a : Asking)
    → list_any (λ (read : ReadAt). read.tic == tic) reads ≡ false → reads_done tic reads a ≡ a
reads_idle tic [] a e = refl
reads_idle tic (read ∷ reads) a e =
    let both = or_false (read.tic == tic) _ e in rw both.0 (reads_idle tic reads a both.1)

pub events_idle : (tic k : ℕ) (events : List Event) (a : Asking)
    → event_is_due tic k events a.state ≡ false → events_done tic k events a ≡ a
events_idle tic k [] a e = refl
events_idle tic k (event ∷ events) a e =
    let both = or_false (is_on a.state.events k && ((tic % event.cycle) == 0)) _ e in
    let off : fires tic k event a.state ≡ false =
    and_more (is_on a.state.events k) ((tic % event.cycle) == 0) (holds event.condition a.state.memory) both.0 in
    rw off (events_idle tic (suc k) events a both.1)

pub threads_idle : (step : ℕ → Thread → State → State) (tic place : ℕ) (threads : List Thread) (s : State)
    → list_any (ends_at tic) threads ≡ false → each_thread (where_ends step tic) place threads s ≡ s
threads_idle step tic place [] s e = refl
threads_idle step tic place (thread ∷ threads) s e =
    let both = or_false (ends_at tic thread) _ e in
    rw (both.0, where_ends) (threads_idle step tic (place + 1) threads s both.1)

pub rows_idle : (tic k : ℕ) (groups : List Group) (s : State)
    → group_is_due tic k groups s ≡ false → rows tic k groups s ≡ record { state = s; writes = [] }
rows_idle tic k [] s e = refl
rows_idle tic k (group ∷ groups) s e =
    let both = or_false (is_on s.groups k && ((tic % group.cycle) == 0)) _ e in
    let off : writes_row tic k group s ≡ false = and_more (is_on s.groups k) ((tic % group.cycle) == 0) _ both.0 in
    let kept : row_kept tic k group s ≡ s = rw (off, none_right group.changes, row_kept) refl in
    let none : row_writes tic k group s ≡ [] = rw (off, row_writes) refl in
    let rest : rows tic (suc k) groups (row_kept tic k group s) ≡ record { state = s; writes = [] } =
    ap (λ (t : State). rows tic (suc k) groups t) kept ∙ rows_idle tic (suc k) groups s both.1 in
    λ i. record { state = (rest i).state; writes = none i ++ (rest i).writes }

pub must_idle : (p : Plan) (tic : ℕ) (s : State) → list_any (ends_at tic) (threads_beside p) ≡ false → must_finish p tic s ≡ s
must_idle p tic s h =
    ap (λ (r : State). each_thread (where_ends (take p) tic) 0 (threads_beside p) r)
    (threads_idle (λ place thread. publish p place thread tic) tic 0 (threads_beside p) s h)
    ∙ threads_idle (take p) tic 0 (threads_beside p) s h

pub jobs_idle : (p : Plan) (tic : ℕ) (s : State) → jobs_at p s.jobs tic ≡ [] → jobs_done p tic s ≡ s
jobs_idle p tic s none = ap (λ (ks : List ℕ). settled (after_jobs p (is_on s.jobs) tic ks s.memory) s) none

-- a tic after its events, and after its jobs
abbrev pub behind_jobs : Plan → ℕ → Asking → State → Ticked
behind_jobs p now b s =
    let recorded = rows now 0 p.groups s in
    let t = recorded.state in
    record { asking = record b { state = record t { tic = now + 1 } }; writes = recorded.writes }

-- an idle tic passes and does nothing else
pub tic_passes : (p : Plan) (a : Asking) → IsIdle p a.state → tic p a ≡ record { asking = later 1 a; writes = [] }
tic_passes p a i =
    let now = a.state.tic in
    let early : fire p now a ≡ a =
    ap (λ (b : Asking). events_done now 0 p.events b) (reads_idle now p.read_ats a i.reads)
    ∙ events_idle now 0 p.events a i.events in
    let still : jobs_done p now (must_finish p now a.state) ≡ a.state =
    ap (λ (s : State). jobs_done p now s) (must_idle p now a.state i.threads) ∙ jobs_idle p now a.state i.jobs in
    let rest = rows_idle now 0 p.groups a.state i.groups in
    ap (λ (b : Asking). behind_jobs p now b (jobs_done p now (must_finish p now b.state))) early
    ∙ ap (λ (s : State). behind_jobs p now a s) still
    ∙ (λ j. let r = rest j in record { asking = record a { state = record (r.state) { tic = now + 1 } }; writes = r.writes })

abbrev pub joined : Plan → ℕ → Ticked → Ticked
joined p count first =
    let others = tics p count first.asking in record { asking = others.asking; writes = first.writes ++ others.writes }

pub not_below : (n m : ℕ) → m ≤ n → nat_lt n m ≡ false
not_below n m h = grind arith

pub idle_tics_pass : IdleTicsPass
idle_tics_pass p a zero more fits idle =
    let none : zero + more ≡ more = omega arith in
    let same : a.state.tic ≡ a.state.tic + 0 = omega arith in
    λ i. tics p (none i) (record a { state = record (a.state) { tic = same i } })
idle_tics_pass p a (suc count) more fits idle =
    let one_more : suc count + more ≡ suc (count + more) = omega arith in
    let under : nat_lt a.state.tic a.state.limit ≡ true = lt-ltb _ _ (omega arith) in
    let same_now : a.state.tic + 0 ≡ a.state.tic = omega arith in
    let now : IsIdle p a.state = subst (λ (n : ℕ). IsIdle p (record (a.state) { tic = n })) same_now (idle 0 (omega arith)) in
    let first : tic_below_limit p a ≡ record { asking = later 1 a; writes = [] } =
    rw (under, tic_below_limit) (tic_passes p a now) in
    let shifted : (k : ℕ) → a.state.tic + suc k ≡ a.state.tic + 1 + k = λ k. omega arith in
    let others : tics p (count + more) (later 1 a) ≡ tics p more (later count (later 1 a)) =
    idle_tics_pass p (later 1 a) count more (omega arith)
    (λ k h. subst (λ (n : ℕ). IsIdle p (record (a.state) { tic = n })) (shifted k) (idle (suc k) (omega arith))) in
    ap (λ (n : ℕ). tics p n a) one_more
    ∙ ap (joined p (count + more)) first
    ∙ others
    ∙ (λ i. tics p more (record a { state = record (a.state) { tic = sym (shifted count) i } }))

pub limit_stops : LimitStops
limit_stops p a zero over = refl
limit_stops p a (suc count) over =
    let first : tic_below_limit p a ≡ record { asking = a; writes = [] } = rw (not_below a.state.tic a.state.limit over, tic_below_limit) refl in
    ap (joined p count) first ∙ limit_stops p a count over
