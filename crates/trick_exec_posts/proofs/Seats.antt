-- Stations at their places, and what their threads are given.
use Rattle.std.proofs.Common.{◌%◌, ◌≡◌, ◌≢◌, ◌∙◌, ℕ, ◌+◌, ◌<◌, ◌≤◌, ◌==◌, ℤ, Bool, true, false, not, cond, List, [], ◌∷◌, ◌++◌, Option, Some, None, ap, arith, length, refl, subst, sym, nat_lt}
use Rattle.std.proofs.lemmas.Bool.{eqb-true, not-false}
use Rattle.std.proofs.Common.{take as take_first}
use Rattle.std.proofs.lemmas.List.{get_or-map, get_or-set_same, get_or_default, length-map, take_more}
use Rattle.std.proofs.lemmas.List.Sums.{prefix_len_stops}
use Rattle.std.specs.List.{position, position_or_len, slice_index_or}
use Rattle.std.specs.Prelude.{map, slice_set}
use Rattle.trick_exec_posts.proofs.Flights.{as_many, can_start, goes_on}
use Rattle.trick_exec_posts.proofs.Threads.{AreFound, beside_found, beside_here, found_at}
use Rattle.trick_exec_posts.specs.Flight.{GoesWith, IsOver, work_at}
use Rattle.trick_exec_posts.specs.Stations.{AreStations, IsSeat, IsStation, record_of}
use Rattle.trick_exec_posts.specs.declared.station.Station.{Station}
use Rattle.trick_lang.specs.declared.cells.Cell.{Cell}
use Rattle.trick_lang.specs.declared.job.JobId.{JobId}
use Rattle.trick_lang.specs.declared.scalar.Scalar.{Scalar}
use Rattle.trick_model.proofs.Turns.{IsAt, publish_right, record_at, take_right}
use Rattle.trick_model.specs.Access.{scope}
use Rattle.trick_model.specs.Beside.{ends_at, find_thread, publish, take, taken_from}
use Rattle.trick_model.specs.Plan.{Plan, is_async, is_on, jobs_of, threads_beside}
use Rattle.trick_model.specs.PlanOf.{plan_of}
use Rattle.trick_model.specs.State.{State, nothing_taken, number_at, taken_at}
use Rattle.trick_base.specs.Time.{tic_limit}
use Rattle.trick_model.specs.ValidState.{IsRecord, IsSound, IsStateOf}
use Rattle.trick_model.specs.declared.plan.Plan.{Plan as PlanValue}
use Rattle.trick_model.specs.declared.taken.Taken.{Taken}
use Rattle.trick_model.specs.declared.thread.Process.{Process}
use Rattle.trick_model.specs.declared.thread.Process.TheVariants as process
use Rattle.trick_model.specs.declared.thread.Thread.{Thread}
use Rattle.trick_post_work.specs.Work.{CanStart, Started, no_thread}

-- ---- places

pub stations_many : (p : Plan) (stations : List Station) → AreStations p stations → length stations ≡ length (threads_beside p)
stations_many p stations are = sym (length-map stations (λ (s : Station). s.thread)) ∙ ap length are.threads

pub seat_of : (p : Plan) (stations : List Station) (place : ℕ) (station : Station) → AreStations p stations → place < length stations
    → station ≡ slice_index_or stations place station → IsSeat p place station
seat_of p stations place station are there is = record {
  there = subst (λ (n : ℕ). place < n) (stations_many p stations are) there;
  thread = ap (λ (s : Station). s.thread) is ∙ sym (get_or-map (λ (s : Station). s.thread) stations place station no_thread there)
      ∙ ap (λ (ts : List Thread). slice_index_or ts place no_thread) are.threads;
  right = subst (IsStation p) (sym is) (are.right place station there);
}

at_place : (p : Plan) (place : ℕ) (station : Station) → IsSeat p place station → IsAt p place station.thread
at_place p place station seat = (seat.there, λ d. get_or_default (threads_beside p) place d no_thread seat.there ∙ sym seat.thread)

more_threads : (stations : List Station) (station : Station)
    → map (λ (s : Station). s.thread) (stations ++ station ∷ []) ≡ map (λ (s : Station). s.thread) stations ++ station.thread ∷ []
more_threads [] station = refl
more_threads (s ∷ stations) station = ap (λ (ts : List Thread). s.thread ∷ ts) (more_threads stations station)

-- one station more
pub stations_more : (stations all : List Station) (station : Station) (threads : List Thread) (k : ℕ) (d : Thread)
    → all ≡ stations ++ station ∷ [] → k < length threads → station.thread ≡ slice_index_or threads k d
    → map (λ (s : Station). s.thread) stations ≡ take_first k threads → map (λ (s : Station). s.thread) all ≡ take_first (k + 1) threads
stations_more stations all station threads k d pushed there is so =
    ap (map (λ (s : Station). s.thread)) pushed ∙ more_threads stations station
    ∙ ap (λ (ts : List Thread). ts ++ station.thread ∷ []) so
    ∙ ap (λ (t : Thread). take_first k threads ++ t ∷ []) is
    ∙ sym (take_more threads k d there)

-- ---- what is given

map_both : {A B C : Type 0} (f : B → C) (g : A → B) (xs : List A) → map (λ (x : A). f (g x)) xs ≡ map f (map g xs)
map_both f g [] = refl
map_both f g (x ∷ xs) = ap (λ ys. f (g x) ∷ ys) (map_both f g xs)

given : List ℤ → List Bool → Taken
given numbers on = record { held = true; cells = numbers; on = record { on = on } }

pub record_is : (p : Plan) (station : Station) (s : State) → IsStation p station → record_of s.memory s.jobs station ≡ taken_from p station.thread s
unfolding given
record_is p station s right =
    let numbers : map (λ (cell : Cell). number_at s.memory cell.0) station.scope ≡ map (number_at s.memory) (scope p station.thread) =
    map_both (number_at s.memory) (λ (cell : Cell). cell.0) station.scope ∙ ap (map (number_at s.memory)) right.cells in
    let on : map (λ (job : JobId). is_on s.jobs job.0) station.jobs ≡ map (is_on s.jobs) (jobs_of p.jobs station.thread) =
    map_both (is_on s.jobs) (λ (job : JobId). job.0) station.jobs ∙ ap (map (is_on s.jobs)) right.jobs in
    ap (λ (ns : List ℤ). given ns (map (λ (job : JobId). is_on s.jobs job.0) station.jobs)) numbers
    ∙ ap (λ (bs : List Bool). given (map (number_at s.memory) (scope p station.thread)) bs) on

taken_right : (p : Plan) (place : ℕ) (station : Station) (s : State) → IsSeat p place station → IsStateOf p s → IsRecord p station.thread (taken_from p station.thread s)
taken_right p place station s seat good =
    let at = at_place p place station seat in
    let set : taken_at (take p place station.thread s) place ≡ taken_from p station.thread s =
    get_or-set_same s.taken place (taken_from p station.thread s) nothing_taken (subst (λ (n : ℕ). place < n) (sym (as_many p s good)) seat.there) in
    subst (IsRecord p station.thread) set (record_at p place station.thread (take p place station.thread s) at (take_right p place station.thread s at good))

pub start_right : (plan : PlanValue) (place tic : ℕ) (station : Station) (s : State) → IsSeat (plan_of plan) place station → IsStateOf (plan_of plan) s
    → CanStart (plan_of plan) station.thread.number (taken_from (plan_of plan) station.thread s) (work_at station.thread tic)
start_right plan place tic station s seat good =
    let p = plan_of plan in
    let taken = taken_from p station.thread s in
    subst (λ (t : Thread). CanStart p t.number taken (work_at t tic)) (sym seat.thread)
    (can_start p (beside_found plan) place tic taken seat.there (beside_here plan place no_thread seat.there) refl
    (subst (λ (t : Thread). IsRecord p t taken) seat.thread (taken_right p place station s seat good)))

-- what a valid state holds may be started again
pub held_right : (plan : PlanValue) (place tic : ℕ) (station : Station) (s : State) → IsSeat (plan_of plan) place station → IsStateOf (plan_of plan) s
    → (taken_at s place).held ≡ true → CanStart (plan_of plan) station.thread.number (taken_at s place) (work_at station.thread tic)
held_right plan place tic station s seat good held =
    let p = plan_of plan in
    let taken = taken_at s place in
    subst (λ (t : Thread). CanStart p t.number taken (work_at t tic)) (sym seat.thread)
    (can_start p (beside_found plan) place tic taken seat.there (beside_here plan place no_thread seat.there) held
    (subst (λ (t : Thread). IsRecord p t taken) seat.thread (record_at p place station.thread s (at_place p place station seat) good)))

-- ---- what goes on

pub publish_goes : {plan : PlanValue} {old : ℕ → Option Started} {tic place : ℕ} {s : State} {scalars : List Scalar} (station : Station)
    (new : ℕ → Option Started) (t : State) (more : List Scalar) → IsSound (plan_of plan) → tic ≤ tic_limit + 1
    → GoesWith plan old tic s scalars → IsSeat (plan_of plan) place station → t ≡ publish (plan_of plan) place station.thread tic s
    → t.taken ≡ slice_set s.taken place nothing_taken → more ≡ scalars
    → new station.thread.number ≡ None → ((n : ℕ) → n ≢ station.thread.number → new n ≡ old n)
    → GoesWith plan new tic t more
publish_goes {plan = plan} {tic = tic} {place = place} {s = s} station new t more sound fits goes seat is set types here others =
    let p = plan_of plan in
    goes_on new t more nothing_taken station.thread goes seat.there seat.thread
    (subst (IsStateOf p) (sym is)
    (publish_right p sound place station.thread tic s fits (record_at p place station.thread s (at_place p place station seat) goes.valid) goes.valid))
    set types here others

pub take_goes : {plan : PlanValue} {old : ℕ → Option Started} {tic place : ℕ} {s : State} {scalars : List Scalar} (station : Station)
    (new : ℕ → Option Started) (t : State) (more : List Scalar)
    → GoesWith plan old tic s scalars → IsSeat (plan_of plan) place station → t ≡ take (plan_of plan) place station.thread s → more ≡ scalars
    → new station.thread.number ≡ Some (record { taken = taken_from (plan_of plan) station.thread s; work = work_at station.thread tic })
    → ((n : ℕ) → n ≢ station.thread.number → new n ≡ old n)
    → GoesWith plan new tic t more
take_goes {plan = plan} {tic = tic} {place = place} {s = s} station new t more goes seat is types here others =
    let p = plan_of plan in
    goes_on new t more (taken_from p station.thread s) station.thread goes seat.there seat.thread
    (subst (IsStateOf p) (sym is) (take_right p place station.thread s (at_place p place station seat) goes.valid))
    (ap (λ (u : State). u.taken) is) types here others

-- ---- what is over

pub ends_over : (tic : ℕ) (thread : Thread) → ends_at tic thread ≡ true → tic ≤ tic_limit → IsOver thread.process thread.cycle tic
ends_over tic thread ends fits = by thread.process ends
  where
    by : (kind : Process)
        → (let e : Bool = elim kind [ process.Scheduled ↦ false | process.Async ↦ false | process.MustFinish ↦ (tic % thread.cycle) == 0 ] in e ≡ true)
        → IsOver kind thread.cycle tic
    by process.Scheduled e = cc e
    by process.Async e = cc e
    by process.MustFinish e = (eqb-true (tic % thread.cycle) 0 e, fits)

pub async_over : (kind : Process) (cycle tic : ℕ) → is_async kind ≡ true → IsOver kind cycle tic
async_over process.Scheduled cycle tic e = cc e
async_over process.Async cycle tic e = tt
async_over process.MustFinish cycle tic e = cc e

-- ---- finding a thread

is_of : ℕ → Station → Bool
is_of number station = station.thread.number == number

count_of : ℕ → List Station → ℕ
count_of number stations = position_or_len (λ (station : Station). station.thread.number == number) stations

-- the place that was found is one of the number
pub place_found : (p : Plan) (stations : List Station) (number place : ℕ) (d : Station) → AreFound (threads_beside p) → AreStations p stations
    → position (λ (station : Station). station.thread.number == number) stations ≡ Some place
    → (place < length stations) × (find_thread number (threads_beside p) ≡ Some (place, (slice_index_or stations place d).thread))
unfolding count_of
place_found p stations number place d found are is = by (nat_lt n (length stations)) refl is
  where
    n : ℕ
    n = count_of number stations

    by : (b : Bool) → nat_lt n (length stations) ≡ b → cond b (Some n) None ≡ Some place
        → (place < length stations) × (find_thread number (threads_beside p) ≡ Some (place, (slice_index_or stations place d).thread))
    by false e is = cc is
    by true e is =
        let same : n ≡ place = some_same n place is in
        let within : n < length stations = lt_of n (length stations) e in
        let there : place < length stations = subst (λ (k : ℕ). k < length stations) same within in
        let own : (slice_index_or stations place d).thread.number ≡ number =
        ap (λ (k : ℕ). (slice_index_or stations k d).thread.number) (sym same)
        ∙ eqb-true (slice_index_or stations n d).thread.number number
        (not-false ((slice_index_or stations n d).thread.number == number) (prefix_len_stops (λ (s : Station). not (s.thread.number == number)) stations d within)) in
        let thread : slice_index_or (threads_beside p) place no_thread ≡ (slice_index_or stations place d).thread =
        ap (λ (ts : List Thread). slice_index_or ts place no_thread) (sym are.threads)
        ∙ get_or-map (λ (s : Station). s.thread) stations place d no_thread there in (
          there,
          ap (λ (k : ℕ). find_thread k (threads_beside p)) (sym own ∙ ap (λ (t : Thread). t.number) (sym thread))
              ∙ found_at (threads_beside p) found place no_thread (subst (λ (k : ℕ). place < k) (stations_many p stations are) there)
              ∙ ap (λ (t : Thread). Some (place, t)) thread,
        )
      where
        some_same : (a b : ℕ) → Some a ≡ Some b → a ≡ b
        some_same a b e = cc e

        lt_of : (a b : ℕ) → nat_lt a b ≡ true → a < b
        lt_of a b e = grind (arith, e)
