-- Rounds that are published and that start.
use Rattle.std.proofs.Common.{◌≡◌, ◌∙◌, ℕ, suc, ◌+◌, ◌<◌, ◌==◌, Bool, true, false, not, cond, ◌&&◌, List, [], ◌∷◌, Option, Some, None, ap, arith, drop, length, refl, sym, nat_lt}
use Rattle.std.proofs.lemmas.Bool.{and_left, not-true}
use Rattle.std.proofs.lemmas.List.{drop_more}
use Rattle.std.proofs.lemmas.List.Sums.{prefix_len_passes}
use Rattle.std.specs.List.{position, position_or_len, slice_index_or}
use Rattle.std.specs.Prelude.{map}
use Rattle.trick_exec_posts.proofs.Seats.{place_found}
use Rattle.trick_exec_posts.proofs.Steps.{first_of, publish_none, second_of}
use Rattle.trick_exec_posts.proofs.Threads.{AreFound}
use Rattle.trick_exec_posts.specs.Stations.{AreStations}
use Rattle.trick_exec_posts.specs.declared.station.Station.{Station}
use Rattle.trick_model.specs.Beside.{find_thread, has_round, one_later, publish, publish_round, start_round, take}
use Rattle.trick_model.specs.Plan.{Plan, is_async, threads_beside}
use Rattle.trick_model.specs.State.{State, taken_at}
use Rattle.trick_model.specs.Turn.{publish_all}
use Rattle.trick_model.specs.declared.entry.Entry.{Entry}
use Rattle.trick_model.specs.declared.entry.Entry.TheVariants.{Join, Said, Leave, Publish}
use Rattle.trick_model.specs.declared.thread.Process.{Process}
use Rattle.trick_model.specs.declared.thread.Process.TheVariants as process
use Rattle.trick_model.specs.declared.thread.Thread.{Thread}

-- ---- entries one after another

entry_first : (p : Plan) (entry : Entry) (entries : List Entry) (s : State) → publish_all p (entry ∷ entries) s ≡ publish_all p entries (publish_all p (entry ∷ []) s)
entry_first p (Join number) entries s = refl
entry_first p (Said number line) entries s = refl
entry_first p (Leave number cause) entries s = refl
entry_first p (Publish thread) entries s = refl

pub one_entry : (p : Plan) (entries : List Entry) (k : ℕ) (d : Entry) (now next whole : State) → k < length entries
    → next ≡ publish_all p (slice_index_or entries k d ∷ []) now → publish_all p (drop k entries) now ≡ whole
    → publish_all p (drop (k + 1) entries) next ≡ whole
one_entry p entries k d now next whole there is left =
    ap (publish_all p (drop (k + 1) entries)) is
    ∙ sym (entry_first p (slice_index_or entries k d) (drop (k + 1) entries) now)
    ∙ sym (ap (λ (es : List Entry). publish_all p es now) (drop_more entries k d there)) ∙ left

-- ---- the round of a number

by_found : Plan → State → Option (ℕ × Thread) → State
by_found p s found = elim found [
  | None ↦ s
  | Some found ↦ elim (has_round s found.0 found.1) [ true ↦ publish p found.0 found.1 s.tic s | false ↦ s ]
]

pub round_none : (p : Plan) (number : ℕ) (s : State) → find_thread number (threads_beside p) ≡ None → s ≡ publish_round p number s
unfolding by_found
round_none p number s none = sym (ap (by_found p s) none)

in_round : (p : Plan) (place : ℕ) (thread : Thread) (s : State) → State
in_round p place thread s = elim (has_round s place thread) [ true ↦ publish p place thread s.tic s | false ↦ s ]

has : (a b : Bool) → a ≡ true → (a && b) ≡ b
has true b e = refl
has false b e = cc e

round_found : (p : Plan) (number place : ℕ) (thread : Thread) (s : State) → find_thread number (threads_beside p) ≡ Some (place, thread)
    → in_round p place thread s ≡ publish_round p number s
unfolding by_found in_round
round_found p number place thread s found = sym (ap (by_found p s) found)

pub round_other : (p : Plan) (number place : ℕ) (thread : Thread) (s : State) → find_thread number (threads_beside p) ≡ Some (place, thread)
    → is_async thread.process ≡ false → s ≡ publish_round p number s
unfolding in_round
round_other p number place thread s found goes =
    second_of (has_round s place thread) (publish p place thread s.tic s) s (and_left (is_async thread.process) (taken_at s place).held goes)
    ∙ round_found p number place thread s found

pub round_is : (p : Plan) (number place : ℕ) (thread : Thread) (s : State) → find_thread number (threads_beside p) ≡ Some (place, thread)
    → is_async thread.process ≡ true → publish p place thread s.tic s ≡ publish_round p number s
unfolding in_round
round_is p number place thread s found async = by (taken_at s place).held refl ∙ round_found p number place thread s found
  where
    by : (b : Bool) → (taken_at s place).held ≡ b → publish p place thread s.tic s ≡ in_round p place thread s
    by true e = first_of (has_round s place thread) (publish p place thread s.tic s) s (has (is_async thread.process) (taken_at s place).held async ∙ e)
    by false e =
        sym (publish_none p place thread s.tic s e)
        ∙ second_of (has_round s place thread) (publish p place thread s.tic s) s (has (is_async thread.process) (taken_at s place).held async ∙ e)

-- ---- a round that starts

other_kind : (kind : Process) (x y : State) → is_async kind ≡ false
    → x ≡ elim kind [ process.Scheduled ↦ x | process.MustFinish ↦ x | process.Async ↦ y ]
other_kind process.Scheduled x y e = refl
other_kind process.Async x y e = cc e
other_kind process.MustFinish x y e = refl

async_kind : (kind : Process) (x y : State) → is_async kind ≡ true
    → y ≡ elim kind [ process.Scheduled ↦ x | process.MustFinish ↦ x | process.Async ↦ y ]
async_kind process.Scheduled x y e = cc e
async_kind process.Async x y e = refl
async_kind process.MustFinish x y e = cc e

starts : Plan → ℕ → Thread → State → State
starts p place thread s = elim ((taken_at s place).held) [ true ↦ s | false ↦ take p place thread s ]

pub start_other : (p : Plan) (place : ℕ) (thread : Thread) (s : State) → is_async thread.process ≡ false → s ≡ start_round p place thread s
unfolding starts
start_other p place thread s e = other_kind thread.process s (starts p place thread s) e

pub start_held : (p : Plan) (place : ℕ) (thread : Thread) (s : State) → is_async thread.process ≡ true → (taken_at s place).held ≡ true
    → s ≡ start_round p place thread s
unfolding starts
start_held p place thread s e held =
    first_of (taken_at s place).held s (take p place thread s) held ∙ async_kind thread.process s (starts p place thread s) e

pub start_takes : (p : Plan) (place : ℕ) (thread : Thread) (s next : State) → is_async thread.process ≡ true → (taken_at s place).held ≡ false
    → next ≡ take p place thread s → next ≡ start_round p place thread s
unfolding starts
start_takes p place thread s next e none is =
    is ∙ second_of (taken_at s place).held s (take p place thread s) none ∙ async_kind thread.process s (starts p place thread s) e

-- ---- where no thread has the number

later : (b : Bool) (x : Option (ℕ × Thread)) (y : ℕ × Thread) → b ≡ false → x ≡ None
    → (let f : Option (ℕ × Thread) = elim b [ true ↦ Some y | false ↦ one_later x ] in f ≡ None)
later true x y e none = cc e
later false x y e none = ap one_later none

none_of : (number : ℕ) (stations : List Station)
    → ((k : ℕ) (d : Station) → k < length stations → ((slice_index_or stations k d).thread.number == number) ≡ false)
    → find_thread number (map (λ (station : Station). station.thread) stations) ≡ None
none_of number [] each = refl
none_of number (station ∷ stations) each =
    later (station.thread.number == number) (find_thread number (map (λ (s : Station). s.thread) stations)) (0, station.thread)
    (each 0 station (first stations)) (none_of number stations (λ k d less. each (suc k) d (more k stations less)))
  where
    first : (xs : List Station) → 0 < length (station ∷ xs)
    first xs = omega arith

    more : (k : ℕ) (xs : List Station) → k < length xs → suc k < length (station ∷ xs)
    more k xs less = omega (arith, less)

pub place_none : (p : Plan) (stations : List Station) (number : ℕ) → AreStations p stations
    → position (λ (station : Station). station.thread.number == number) stations ≡ None → find_thread number (threads_beside p) ≡ None
place_none p stations number are none =
    ap (find_thread number) (sym are.threads)
    ∙ none_of number stations (λ k d less. not-true ((slice_index_or stations k d).thread.number == number)
    (prefix_len_passes (λ (s : Station). not (s.thread.number == number)) stations k d (past k less)))
  where
    n : ℕ
    n = position_or_len (λ (s : Station). s.thread.number == number) stations

    by : (b : Bool) → nat_lt n (length stations) ≡ b → cond b (Some n) None ≡ None → (k : ℕ) → k < length stations → k < n
    by true e none k less = cc none
    by false e none k less = reach n (length stations) e k less
      where
        reach : (a b : ℕ) → nat_lt a b ≡ false → (k : ℕ) → k < b → k < a
        reach a b e k less = grind (arith, e, less)

    past : (k : ℕ) → k < length stations → k < n
    past k less = by (nat_lt n (length stations)) refl none k less

-- ---- where the thread was found

thread_found : (p : Plan) (stations : List Station) (number place : ℕ) (station : Station) → AreFound (threads_beside p) → AreStations p stations
    → position (λ (s : Station). s.thread.number == number) stations ≡ Some place → station ≡ slice_index_or stations place station
    → find_thread number (threads_beside p) ≡ Some (place, station.thread)
thread_found p stations number place station found are at is =
    (place_found p stations number place station found are at).1 ∙ ap (λ (s : Station). Some (place, s.thread)) (sym is)

pub round_at : (p : Plan) (stations : List Station) (number : ℕ) {place : ℕ} (station : Station) (s next : State) → AreFound (threads_beside p)
    → AreStations p stations → position (λ (s : Station). s.thread.number == number) stations ≡ Some place
    → station ≡ slice_index_or stations place station → is_async station.thread.process ≡ true
    → next ≡ publish p place station.thread s.tic s → next ≡ publish_round p number s
round_at p stations number {place = place} station s next found are at is async published =
    published ∙ round_is p number place station.thread s (thread_found p stations number place station found are at is) async

pub round_not : (p : Plan) (stations : List Station) (number : ℕ) {place : ℕ} (station : Station) (s : State) → AreFound (threads_beside p)
    → AreStations p stations → position (λ (s : Station). s.thread.number == number) stations ≡ Some place
    → station ≡ slice_index_or stations place station → is_async station.thread.process ≡ false → s ≡ publish_round p number s
round_not p stations number {place = place} station s found are at is goes =
    round_other p number place station.thread s (thread_found p stations number place station found are at is) goes
