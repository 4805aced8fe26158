-- What the rounds of threads add to a choice, and how long they wait.
use Rattle.std.proofs.Common.{◌≡◌, ◌∙◌, ℕ, suc, ◌+◌, ◌<◌, ◌≤◌, Bool, true, false, List, [], ◌∷◌, ◌++◌, Option, Some, None, ap, append-nil, append_assoc, arith, drop, inl, inr, length, length-set, refl, set, subst, sym, take}
use Rattle.std.proofs.Math.Seq.{take-suc}
use Rattle.std.proofs.lemmas.Bool.Decides.{nat_tests}
use Rattle.std.proofs.lemmas.Grind.{take-set_at}
use Rattle.std.proofs.lemmas.List.{drop-set-lt, drop_all, drop_more, get_or_default, length-take-le, take_all}
use Rattle.std.proofs.lemmas.List.Elements.{filter-append}
use Rattle.std.specs.List.{position, slice_index_or}
use Rattle.std.specs.Prelude.{◌⊎◌, ◌==◌, ◌&&◌, cond, min, nat_le, not}
use Rattle.trick_exec_posts.proofs.Seats.{place_found, seat_of}
use Rattle.trick_exec_posts.proofs.RoundLemmas.{place_none}
use Rattle.trick_exec_posts.proofs.Threads.{beside_found}
use Rattle.trick_exec_posts.specs.Flight.{GoesWith, thread_in}
use Rattle.trick_exec_posts.specs.Stations.{AreStations, IsSeat}
use Rattle.trick_exec_posts.specs.declared.station.Station.{Station}
use Rattle.trick_exec_frame.specs.Adds.{Adds, AreAsIs, answer_of, counted_of, polls_for}
use Rattle.trick_lang.specs.declared.scalar.Scalar.{Scalar}
use Rattle.trick_model.specs.Beside.{has_round, is_in_flight}
use Rattle.trick_model.specs.Plan.{Plan, threads_beside}
use Rattle.trick_model.specs.PlanOf.{plan_of}
use Rattle.trick_model.specs.State.{State}
use Rattle.trick_model.specs.Turn.{publishes, runs}
use Rattle.trick_model.specs.declared.entry.Entry.{Entry}
use Rattle.trick_model.specs.declared.entry.Entry.TheVariants.{Publish}
use Rattle.trick_model.specs.declared.plan.Plan.{Plan as PlanValue}
use Rattle.trick_model.specs.declared.thread.Thread.{Thread}
use Rattle.trick_post_work.specs.Polls.{Poll}
use Rattle.trick_post_work.specs.Work.{no_thread}
use Rattle.trick_post_work.specs.declared.posts.Posts.{Ghosts}
use Rattle.trick_exec_meaning.specs.Parts.{counting}
use Rattle.trick_exec_meaning.specs.Rounds.{Chooses, idle, is_published, not_yet, patience, ready, unasked, wait_at, waited_at, waited_from}

-- ---- rounds in flight

by_found : State → Option (ℕ × Thread) → Bool
by_found s found = elim found [ None ↦ false | Some found ↦ has_round s found.0 found.1 ]

pub flight_some : (plan : PlanValue) (stations : List Station) (number : ℕ) {place : ℕ} (station : Station) (s : State)
    → AreStations (plan_of plan) stations → position (λ (s : Station). s.thread.number == number) stations ≡ Some place
    → has_round s place (slice_index_or stations place station).thread ≡ is_in_flight (plan_of plan) s number
unfolding by_found
flight_some plan stations number {place = place} station s are at =
    let there = (place_found (plan_of plan) stations number place station (beside_found plan) are at).1 in
    sym (ap (by_found s) there)

pub flight_none : (plan : PlanValue) (stations : List Station) (number : ℕ) (s : State)
    → AreStations (plan_of plan) stations → position (λ (s : Station). s.thread.number == number) stations ≡ None
    → false ≡ is_in_flight (plan_of plan) s number
unfolding by_found
flight_none plan stations number s are none =
    let p = plan_of plan in
    sym (ap (by_found s) (place_none p stations number are none))

-- ---- posts as they were

pub as_is : {Q : Type 0} (posts : Ghosts Q) (q : Q) → AreAsIs posts q q
as_is posts q = record { plan = refl; in_flight = λ n. refl; late = at_most (posts.lateness q) }
  where
    at_most : (n : ℕ) → n ≤ n
    at_most n = omega arith

pub as_is_then : {Q : Type 0} {posts : Ghosts Q} {old mid new : Q} → AreAsIs posts old mid → AreAsIs posts mid new → AreAsIs posts old new
as_is_then {posts = posts} {old = old} {mid = mid} {new = new} one two = record {
  plan = two.plan ∙ one.plan;
  in_flight = λ n. two.in_flight n ∙ one.in_flight n;
  late = up (posts.lateness old) (posts.lateness mid) (posts.lateness new) one.late two.late;
}
  where
    up : (a b c : ℕ) → a ≤ b → b ≤ c → a ≤ c
    up a b c low high = omega (arith, low, high)

-- what is in flight goes with the same state
pub goes_as_is : {Q : Type 0} {posts : Ghosts Q} {old new : Q} (tic : ℕ) (s : State) (scalars : List Scalar) → AreAsIs posts old new
    → GoesWith (posts.plan old) (posts.in_flight old) tic s scalars → GoesWith (posts.plan new) (posts.in_flight new) tic s scalars
goes_as_is {posts = posts} {old = old} {new = new} tic s scalars same goes =
    subst (λ (plan : PlanValue). GoesWith plan (posts.in_flight new) tic s scalars) (sym same.plan)
    (record {
      valid = goes.valid;
      memory = goes.memory;
      tied = λ place there. same.in_flight (thread_in (plan_of (posts.plan old)) place).number ∙ goes.tied place there;
    })

-- ---- one thread

module _ {Q : Type 0} (posts : Ghosts Q) (s : State) (waits : List ℕ) (place : ℕ) (thread : Thread) where
  pub adds_idle : (q : Q) (before : List Entry) → posts.asked q [] q → has_round s place thread ≡ false → Adds posts s waits place thread q q before before
  adds_idle q before none idles = record {
    polls = [];
    asked = none;
    chooses = λ threads earlier many so. (subst (Chooses s waits (threads ++ thread ∷ []) before) (sym (append-nil earlier))
        (idle threads thread before earlier (ap (λ (n : ℕ). has_round s n thread) many ∙ idles) so));
  }

  polls_where : (waited : ℕ) (published b : Bool) → nat_le patience waited ≡ b
      → polls_for thread.number waited s.turn published
      ≡ (let l : List Poll = elim b [ true ↦ [] | false ↦ record { thread = thread.number; turn = s.turn; answer = answer_of published } ∷ [] ] in l)
  polls_where waited published b e = ap (λ (t : Bool). let l : List Poll = elim t [ true ↦ [] | false ↦ record { thread = thread.number; turn = s.turn; answer = answer_of published } ∷ [] ] in l) e

  long : (waited : ℕ) → nat_le patience waited ≡ true → patience ≤ waited
  long waited e = grind (arith, nat_tests)

  short : (waited : ℕ) → nat_le patience waited ≡ false → waited < patience
  short waited e = grind (arith, nat_tests)

  -- it is published, unasked or since it is ready
  pub adds_one : (old new : Q) (waited : ℕ) (before : List Entry) → waited ≡ wait_at waits place → has_round s place thread ≡ true
      → posts.asked old (polls_for thread.number waited s.turn true) new
      → Adds posts s waits place thread old new before (before ++ Publish thread.number ∷ [])
  adds_one old new waited before is flies asked = by (nat_le patience waited) refl
    where
      round_at : (threads : List Thread) → length threads ≡ place → has_round s (length threads) thread ≡ true
      round_at threads many = ap (λ (n : ℕ). has_round s n thread) many ∙ flies

      waited_is : (threads : List Thread) → length threads ≡ place → waited ≡ wait_at waits (length threads)
      waited_is threads many = is ∙ ap (wait_at waits) (sym many)

      by : (b : Bool) → nat_le patience waited ≡ b → Adds posts s waits place thread old new before (before ++ Publish thread.number ∷ [])
      by true e = record {
        polls = [];
        asked = subst (λ (l : List Poll). posts.asked old l new) (polls_where waited true true e) asked;
        chooses = λ threads earlier many so. (subst (Chooses s waits (threads ++ thread ∷ []) (before ++ Publish thread.number ∷ [])) (sym (append-nil earlier))
            (unasked threads thread before earlier (round_at threads many) (subst (λ (n : ℕ). patience ≤ n) (waited_is threads many) (long waited e)) so));
      }
      by false e = record {
        polls = record { thread = thread.number; turn = s.turn; answer = answer_of true } ∷ [];
        asked = subst (λ (l : List Poll). posts.asked old l new) (polls_where waited true false e) asked;
        chooses = λ threads earlier many so. (ready threads thread before earlier (round_at threads many)
            (subst (λ (n : ℕ). n < patience) (waited_is threads many) (short waited e)) so);
      }

  -- it is not ready
  pub adds_not : (old new : Q) (waited : ℕ) (before : List Entry) → waited ≡ wait_at waits place → has_round s place thread ≡ true
      → (patience ≤ waited → false ≡ true) → posts.asked old (polls_for thread.number waited s.turn false) new
      → Adds posts s waits place thread old new before before
  adds_not old new waited before is flies never asked = by (nat_le patience waited) refl
    where
      by : (b : Bool) → nat_le patience waited ≡ b → Adds posts s waits place thread old new before before
      by true e = let no = never (long waited e) in absurd (cc no)
      by false e = record {
        polls = record { thread = thread.number; turn = s.turn; answer = answer_of false } ∷ [];
        asked = subst (λ (l : List Poll). posts.asked old l new) (polls_where waited false false e) asked;
        chooses = λ threads earlier many so. (not_yet threads thread before earlier (ap (λ (n : ℕ). has_round s n thread) many ∙ flies)
            (subst (λ (n : ℕ). n < patience) (is ∙ ap (wait_at waits) (sym many)) (short waited e)) so);
      }

-- one thread more
pub chooses_more : {Q : Type 0} {posts : Ghosts Q} {s : State} {waits : List ℕ} {old mid new : Q} {before now : List Entry} (threads : List Thread) (place : ℕ) (thread : Thread) (polls : List Poll)
    → ((first second third : Q) (early late : List Poll) → posts.asked first early second → posts.asked second late third → posts.asked first (early ++ late) third)
    → place < length threads → thread ≡ slice_index_or threads place thread
    → posts.asked old polls mid → Chooses s waits (take place threads) before polls → Adds posts s waits place thread mid new before now
    → (all : List Poll) × posts.asked old all new × Chooses s waits (take (place + 1) threads) now all
chooses_more {s = s} {waits = waits} {old = old} {mid = mid} {new = new} {now = now} threads place thread polls join there is asked so adds =
    let next : take (place + 1) threads ≡ take place threads ++ thread ∷ [] =
    ap (λ (n : ℕ). take n threads) (sym (add-one_of place)) ∙ take-suc threads place thread there ∙ ap (λ (t : Thread). take place threads ++ t ∷ []) (sym is) in (
      polls ++ adds.polls,
      join old mid new polls adds.polls asked adds.asked,
      subst (λ (l : List Thread). Chooses s waits l now (polls ++ adds.polls)) (sym next)
          (adds.chooses (take place threads) polls (length-take-le place threads (under place (length threads) there)) so),
    )
  where
    add-one_of : (n : ℕ) → suc n ≡ n + 1
    add-one_of n = omega arith

    under : (n m : ℕ) → n < m → n ≤ m
    under n m l = omega (arith, l)

-- ---- publications that count

first_counts : (p : Plan) (s : State) (entry : Entry) (entries : List Entry) → counting p s (entry ∷ entries) ≡ counted_of p s entry ++ counting p s entries
first_counts p s entry entries = filter-append (publishes p s) (entry ∷ []) entries

pub counting_more : (p : Plan) (s : State) (entries : List Entry) (k : ℕ) (entry : Entry) (before now whole : List Entry) → k < length entries
    → entry ≡ slice_index_or entries k entry → now ≡ before ++ counted_of p s entry → before ++ counting p s (drop k entries) ≡ whole
    → now ++ counting p s (drop (k + 1) entries) ≡ whole
counting_more p s entries k entry before now whole there is adds left =
    ap (λ (es : List Entry). es ++ counting p s (drop (k + 1) entries)) adds
    ∙ append_assoc before (counted_of p s entry) (counting p s (drop (k + 1) entries))
    ∙ ap (λ (es : List Entry). before ++ es) (sym (first_counts p s entry (drop (k + 1) entries)))
    ∙ ap (λ (e : Entry). before ++ counting p s (e ∷ drop (k + 1) entries)) is
    ∙ ap (λ (es : List Entry). before ++ counting p s es) (sym (drop_more entries k entry there)) ∙ left

both_are : (a b c : Bool) → a ≡ true → b ≡ true → c ≡ b → (a && c) ≡ true
both_are true b c one two is = is ∙ two
both_are false b c one two is = cc one

pub counts : (p : Plan) (s : State) (number : ℕ) (entries : List Entry) → runs s ≡ true → is_in_flight p s number ≡ true
    → entries ++ Publish number ∷ [] ≡ entries ++ counted_of p s (Publish number)
counts p s number entries ran flies =
    ap (λ (b : Bool). entries ++ cond b (Publish number ∷ []) []) (sym (both_are (runs s) (is_in_flight p s number) (is_in_flight p s number) ran flies refl))

not_both : (a b : Bool) → (a ≡ false) ⊎ (b ≡ false) → (a && b) ≡ false
not_both true true (inl e) = cc e
not_both true true (inr e) = cc e
not_both true false e = refl
not_both false b e = refl

pub counts_not : (p : Plan) (s : State) (number : ℕ) (entries : List Entry) → (runs s ≡ false) ⊎ (is_in_flight p s number ≡ false)
    → entries ≡ entries ++ counted_of p s (Publish number)
counts_not p s number entries none =
    sym (ap (λ (b : Bool). entries ++ cond b (Publish number ∷ []) []) (not_both (runs s) (is_in_flight p s number) none) ∙ append-nil entries)

-- ---- how long rounds wait

same_place : (xs ys : List ℕ) (k : ℕ) → k < length xs → k < length ys → drop k xs ≡ drop k ys → wait_at xs k ≡ wait_at ys k
same_place xs ys k one two same =
    first_of (wait_at xs k) (wait_at ys k) (drop (k + 1) xs) (drop (k + 1) ys) (sym (drop_more xs k 0 one) ∙ same ∙ drop_more ys k 0 two)
  where
    first_of : (a b : ℕ) (xs ys : List ℕ) → a ∷ xs ≡ b ∷ ys → a ≡ b
    first_of a b xs ys e = cc e

-- what was waited so far, and what is left as it was
pub record Waiting (s : State) (published : List Entry) (threads : List Thread) (place : ℕ) (old new : List ℕ) : Type 0 where
  pub so_far : take place new ++ waited_from s old published place (drop place threads) ≡ waited_from s old published 0 threads
  pub left : drop place new ≡ drop place old
  pub as_many : length new ≡ length old

pub waits_more : (s : State) (published : List Entry) (threads : List Thread) (place : ℕ) (thread : Thread) (old new : List ℕ) (value : ℕ)
    → place < length threads → length old ≡ length threads → thread ≡ slice_index_or threads place thread
    → value ≡ waited_at s new published place thread → Waiting s published threads place old new
    → Waiting s published threads (place + 1) old (set new place value)
waits_more s published threads place thread old new value there many is value_is so =
    let within : place < length new = omega (arith, there, many, so.as_many) in
    let within_old : place < length old = omega (arith, there, many) in
    let same : waited_at s new published place thread ≡ waited_at s old published place thread =
    ap (λ (n : ℕ). let x : ℕ = elim (has_round s place thread && not (is_published thread.number published)) [ true ↦ min (n + 1) patience | false ↦ 0 ] in x)
    (same_place new old place within within_old so.left) in
    let next : waited_from s old published place (drop place threads) ≡ value ∷ waited_from s old published (place + 1) (drop (place + 1) threads) =
    ap (waited_from s old published place) (drop_more threads place thread there)
    ∙ ap (λ (t : Thread). waited_at s old published place t ∷ waited_from s old published (place + 1) (drop (place + 1) threads)) (sym is)
    ∙ ap (λ (n : ℕ). n ∷ waited_from s old published (place + 1) (drop (place + 1) threads)) (sym (value_is ∙ same)) in
    record {
      so_far = ap (λ (l : List ℕ). l ++ waited_from s old published (place + 1) (drop (place + 1) threads)) (take-set_at new place (place + 1) value refl within)
          ∙ append_assoc (take place new) (value ∷ []) (waited_from s old published (place + 1) (drop (place + 1) threads))
          ∙ ap (λ (l : List ℕ). take place new ++ l) (sym next) ∙ so.so_far;
      left = behind new old place value within within_old so.left;
      as_many = length-set new place value ∙ so.as_many;
    }
  where
    behind : (xs ys : List ℕ) (k v : ℕ) → k < length xs → k < length ys → drop k xs ≡ drop k ys → drop (k + 1) (set xs k v) ≡ drop (k + 1) ys
    behind xs ys k v one two same =
        drop-set-lt (k + 1) xs k v (up k)
        ∙ rest_of (slice_index_or xs k 0) (slice_index_or ys k 0) (drop (k + 1) xs) (drop (k + 1) ys) (sym (drop_more xs k 0 one) ∙ same ∙ drop_more ys k 0 two)
      where
        up : (n : ℕ) → n < n + 1
        up n = omega arith

        rest_of : (a b : ℕ) (xs ys : List ℕ) → a ∷ xs ≡ b ∷ ys → xs ≡ ys
        rest_of a b xs ys e = cc e

-- the thread of a station's place
pub thread_here : (p : Plan) (place : ℕ) (station : Station) → IsSeat p place station
    → station.thread ≡ slice_index_or (threads_beside p) place station.thread
thread_here p place station seat = seat.thread ∙ same_default (threads_beside p) place no_thread station.thread seat.there
  where
    same_default : (xs : List Thread) (k : ℕ) (a b : Thread) → k < length xs → slice_index_or xs k a ≡ slice_index_or xs k b
    same_default xs k a b there = get_or_default xs k a b there

-- the same, of the stations at a place
pub threads_here : (p : Plan) (stations : List Station) (place : ℕ) (d : Station) → AreStations p stations → place < length stations
    → (place < length (threads_beside p))
    × ((slice_index_or stations place d).thread ≡ slice_index_or (threads_beside p) place (slice_index_or stations place d).thread)
threads_here p stations place d are there =
    let station = slice_index_or stations place d in
    let seat : IsSeat p place station = seat_of p stations place station are there (get_or_default stations place d station there) in
    (seat.there, thread_here p place station seat)

pub waits_start : (s : State) (published : List Entry) (threads : List Thread) (waits : List ℕ) → Waiting s published threads 0 waits waits
waits_start s published threads waits = record { so_far = refl; left = refl; as_many = refl }

-- no place is left
pub waits_all : (s : State) (published : List Entry) (threads : List Thread) (place : ℕ) (old new : List ℕ) → length threads ≤ place
    → length old ≡ length threads → Waiting s published threads place old new → new ≡ waited_from s old published 0 threads
waits_all s published threads place old new passed many so =
    let none : drop place threads ≡ [] = drop_all place threads passed in
    let all : take place new ≡ new = take_all place new (omega (arith, passed, many, so.as_many)) in
    sym all ∙ sym (append-nil (take place new)) ∙ ap (λ (ts : List Thread). take place new ++ waited_from s old published place ts) (sym none) ∙ so.so_far
