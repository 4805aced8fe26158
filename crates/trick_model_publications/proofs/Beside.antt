-- Must-finish work on both sides, and what asynchronous threads do on one.
use Rattle.std.proofs.Common.{◌≡◌, ◌∙◌, ℕ, ◌+◌, ◌%◌, ◌==◌, ℤ, List, [], ◌∷◌, Bool, true, false, Option, Some, None, ap, arith, refl, subst, sym}
use Rattle.std.specs.Prelude.{slice_set}
use Rattle.trick_base.proofs.Truths.{first_holds}
use Rattle.trick_model.proofs.Turns.{FoundAt, IsAt, all_at, find_at}
use Rattle.trick_model.specs.Access.{may_write, scope}
use Rattle.trick_model.specs.Beside.{ends_at, find_thread, flag_in, has_round, held_work, must_finish, publish, publish_round, published, spread, start_round, take, taken_from, where_ends, work, zeros}
use Rattle.trick_model.specs.Plan.{Plan, is_async, jobs_of, threads_beside}
use Rattle.trick_model.specs.Running.{after_jobs, settled}
use Rattle.trick_model.specs.State.{State, nothing_taken, taken_at}
use Rattle.trick_model.specs.Turn.{publish_all, rounds}
use Rattle.trick_model.specs.declared.entry.Entry.{Entry}
use Rattle.trick_model.specs.declared.entry.Entry.TheVariants.{Join, Said, Leave, Publish}
use Rattle.trick_model.specs.declared.flags.Flags.{Flags}
use Rattle.trick_model.specs.declared.taken.Taken.{Taken}
use Rattle.trick_model.specs.declared.thread.Process.{Process}
use Rattle.trick_model.specs.declared.thread.Process.TheVariants as process
use Rattle.trick_model.specs.declared.thread.Thread.{Thread}
use Rattle.trick_model_publications.proofs.Jobs.{agree_jobs, round_reached, work_jobs}
use Rattle.trick_model_publications.proofs.Memories.{agree_reached, agree_refl, agree_replaced, agree_spread, one_length, set_lengths, set_one, set_pairs}
use Rattle.trick_model_publications.proofs.States.{AreAlike, AreRecordsAlike, AreTakenAt, Keeps, Suits, Work, alike_refl, alike_trans, both_threads, choose, one_threads, suits_own, with_work, worked}
use Rattle.trick_model_publications.proofs.Steady.{IsSteady}
use Rattle.trick_model_publications.specs.Publications.{AgreeOutside}

-- ---- must-finish threads

module _ (p : Plan) (steady : IsSteady p) where
  -- the held work of records that are alike
  held_agree : (thread : Thread) (on : Flags) (tic : ℕ) (one other : Taken) → AreRecordsAlike p thread one other
      → AgreeOutside p (held_work p thread on tic one).memory (held_work p thread on tic other).memory
  held_agree thread on tic one other h =
      let flags : Flags → ℕ → Bool = λ f. flag_in (jobs_of p.jobs thread) f.on in
      let start : List ℤ = spread (scope p thread) one.cells (zeros p) in
      let begin : List ℤ = spread (scope p thread) other.cells (zeros p) in
      subst (λ (f : Flags). AgreeOutside p (held_work p thread on tic one).memory (after_jobs p (flags f) tic (work p thread on tic) begin).memory) h.on
      (agree_jobs p steady (flags one.on) tic (work p thread on tic) start begin (work_jobs p thread on tic) h.cells)

  published_agree : (thread : Thread) (on : Flags) (tic : ℕ) (one other : Taken) (m n : List ℤ) → AreRecordsAlike p thread one other → AgreeOutside p m n
      → AgreeOutside p (published p thread on tic one m).memory (published p thread on tic other n).memory
  published_agree thread on tic one other m n h agree =
      agree_replaced p (may_write p (work p thread on tic)) (held_work p thread on tic one).memory (held_work p thread on tic other).memory m n
      (held_agree thread on tic one other h) agree

  no_records : (thread : Thread) → AreRecordsAlike p thread nothing_taken nothing_taken
  no_records thread = record { held = refl; on = refl; cells = agree_refl p (spread (scope p thread) [] (zeros p)) }

  -- the records of a thread on both sides
  records_at : (place : ℕ) (thread : Thread) (s : State) (v : Work) → IsAt p place thread → thread.process ≡ process.MustFinish
      → Suits p s.memory s.taken v → AreRecordsAlike p thread (taken_at s place) (taken_at (worked s v) place)
  records_at place thread s v at must h = h.taken_alike place thread at must

  -- by one test, whether the record is held
  by_held : (b c : Bool) (x y s t : State) → b ≡ c → AreAlike p x y → AreAlike p s t
      → AreAlike p (elim b [ true ↦ x | false ↦ s ]) (elim c [ true ↦ y | false ↦ t ])
  by_held b c x y s t e one other =
      subst (λ (d : Bool). AreAlike p (elim b [ true ↦ x | false ↦ s ]) (elim d [ true ↦ y | false ↦ t ])) e (choose p b x y s t (λ _. one) other)

  publish_keeps : (tic place : ℕ) (thread : Thread) → IsAt p place thread → thread.process ≡ process.MustFinish → Keeps p (publish p place thread tic)
  publish_keeps tic place thread at must s v h =
      let one = taken_at s place in
      let other = taken_at (worked s v) place in
      let records = records_at place thread s v at must h in
      let after = settled (published p thread s.jobs tic one s.memory) s in
      let later = settled (published p thread s.jobs tic other v.memory) (worked s v) in
      by_held one.held other.held (record after { taken = slice_set s.taken place nothing_taken }) (record later { taken = slice_set v.taken place nothing_taken })
      s (worked s v) records.held
      (record {
        work = record { memory = later.memory; taken = slice_set v.taken place nothing_taken; faults = later.faults };
        suits = record {
          memory_alike = published_agree thread s.jobs tic one other s.memory v.memory records h.memory_alike;
          many = set_lengths s.taken v.taken place nothing_taken nothing_taken h.many;
          taken_alike = set_pairs (AreTakenAt p) nothing_taken s.taken v.taken place nothing_taken nothing_taken h.many
              (λ t _ _. no_records t) h.taken_alike;
        };
        is = refl;
      })
      (with_work p s v h)

  -- a thread of a place is the one there
  same_thread : (place : ℕ) (thread other : Thread) → IsAt p place thread → IsAt p place other → thread ≡ other
  same_thread place thread other at also = sym (at.1 thread) ∙ also.1 thread

  taken_agree : (thread : Thread) (s : State) (v : Work) → Suits p s.memory s.taken v
      → AreRecordsAlike p thread (taken_from p thread s) (taken_from p thread (worked s v))
  taken_agree thread s v h = record {
    held = refl;
    on = refl;
    cells = agree_spread p s.memory v.memory (scope p thread) (zeros p) (zeros p) h.memory_alike (agree_refl p (zeros p));
  }

  take_keeps : (place : ℕ) (thread : Thread) → IsAt p place thread → Keeps p (take p place thread)
  take_keeps place thread at s v h = record {
    work = record { memory = v.memory; taken = slice_set v.taken place (taken_from p thread (worked s v)); faults = v.faults };
    suits = record {
      memory_alike = h.memory_alike;
      many = set_lengths s.taken v.taken place (taken_from p thread s) (taken_from p thread (worked s v)) h.many;
      taken_alike = set_pairs (AreTakenAt p) nothing_taken s.taken v.taken place (taken_from p thread s) (taken_from p thread (worked s v)) h.many
          (λ t also must. subst (λ (u : Thread). AreRecordsAlike p u (taken_from p thread s) (taken_from p thread (worked s v)))
          (same_thread place thread t at also) (taken_agree thread s v h)) h.taken_alike;
    };
    is = refl;
  }

  -- only a must-finish thread ends a cycle
  must_end : (tic : ℕ) (thread : Thread) → ends_at tic thread ≡ true → thread.process ≡ process.MustFinish
  must_end tic thread = by_process thread.process
    where
      by_process : (type : Process) → (elim type [
        | process.Scheduled ↦ false
        | process.Async ↦ false
        | process.MustFinish ↦ (tic % thread.cycle) == 0
      ]) ≡ true → type ≡ process.MustFinish
      by_process process.Scheduled h = cc h
      by_process process.Async h = cc h
      by_process process.MustFinish h = refl

  ends_keep : (step : ℕ → Thread → State → State) (tic : ℕ)
      → ((place : ℕ) (thread : Thread) → IsAt p place thread → thread.process ≡ process.MustFinish → Keeps p (step place thread))
      → (place : ℕ) (thread : Thread) → IsAt p place thread → Keeps p (where_ends step tic place thread)
  ends_keep step tic keeps place thread at s v h =
      choose p (ends_at tic thread) (step place thread s) (step place thread (worked s v)) s (worked s v)
      (λ ends. keeps place thread at (must_end tic thread ends) s v h) (with_work p s v h)

  pub must_alike : (tic : ℕ) (s t : State) → AreAlike p s t → AreAlike p (must_finish p tic s) (must_finish p tic t)
  must_alike tic s t h =
      both_threads p (where_ends (take p) tic) (ends_keep (take p) tic (λ place thread at must. take_keeps place thread at)) 0 (threads_beside p) _ _ (all_at p)
      (both_threads p (where_ends (λ place thread. publish p place thread tic) tic)
      (ends_keep (λ place thread. publish p place thread tic) tic (publish_keeps tic)) 0 (threads_beside p) s t (all_at p) h)

-- ---- asynchronous threads

module _ (p : Plan) where
  not_must : (type : Process) → is_async type ≡ true → type ≡ process.MustFinish → ⊥
  not_must process.Scheduled round must = cc round
  not_must process.MustFinish round must = cc round
  not_must process.Async round must =
      let e : true ≡ false = sym round ∙ ap is_async must in cc e

  -- the record of an asynchronous thread may be any other
  any_record : (place : ℕ) (thread : Thread) (one other : Taken) → IsAt p place thread → is_async thread.process ≡ true → AreTakenAt p place one other
  any_record place thread one other at round t also must =
      absurd (not_must thread.process round (ap (λ (u : Thread). u.process) (sym (at.1 thread) ∙ also.1 thread) ∙ must))

  publish_quiet : IsSteady p → (place : ℕ) (thread : Thread) (tic : ℕ) (s : State) → IsAt p place thread → is_async thread.process ≡ true
      → AreAlike p s (publish p place thread tic s)
  publish_quiet steady place thread tic s at round = by_held (taken_at s place).held
    where
      done : AreAlike p s (record (settled (published p thread s.jobs tic (taken_at s place) s.memory) s) { taken = slice_set s.taken place nothing_taken })
      done = record {
        work = record {
          memory = (published p thread s.jobs tic (taken_at s place) s.memory).memory;
          taken = slice_set s.taken place nothing_taken;
          faults = (settled (published p thread s.jobs tic (taken_at s place) s.memory) s).faults;
        };
        suits = record {
          memory_alike = agree_reached p (may_write p (work p thread s.jobs tic)) (held_work p thread s.jobs tic (taken_at s place)).memory s.memory
              (λ cell. round_reached p thread s.jobs tic cell (steady.processes place thread at) round);
          many = one_length s.taken place nothing_taken;
          taken_alike = set_one (AreTakenAt p) nothing_taken s.taken place nothing_taken
              (λ one. any_record place thread one nothing_taken at round) (suits_own p s.memory s.taken s.faults).taken_alike;
        };
        is = refl;
      }

      by_held : (b : Bool) → AreAlike p s (elim b [
        | true ↦ record (settled (published p thread s.jobs tic (taken_at s place) s.memory) s) { taken = slice_set s.taken place nothing_taken }
        | false ↦ s
      ])
      by_held true = done
      by_held false = alike_refl p s

-- one state that is alike, or the state itself
one_of : (p : Plan) (b : Bool) (s x : State) → (b ≡ true → AreAlike p s x) → AreAlike p s (elim b [ true ↦ x | false ↦ s ])
one_of p true s x h = h refl
one_of p false s x h = alike_refl p s

round_quiet : (p : Plan) → IsSteady p → (found : Option (ℕ × Thread)) (s : State) → FoundAt p 0 found → AreAlike p s (elim found [
  | None ↦ s
  | Some found ↦ elim (has_round s found.0 found.1) [ true ↦ publish p found.0 found.1 s.tic s | false ↦ s ]
])
round_quiet p steady None s at = alike_refl p s
round_quiet p steady (Some found) s at =
    let same : 0 + found.0 ≡ found.0 = omega arith in
    one_of p (has_round s found.0 found.1) s (publish p found.0 found.1 s.tic s)
    (λ there. publish_quiet p steady found.0 found.1 s.tic s (subst (λ (n : ℕ). IsAt p n found.1) same at)
    (first_holds (is_async found.1.process) (taken_at s found.0).held there))

-- Publications of rounds change nothing outside the reach.
pub publications_quiet : (p : Plan) → IsSteady p → (entries : List Entry) (s : State) → AreAlike p s (publish_all p entries s)
publications_quiet p steady [] s = alike_refl p s
publications_quiet p steady (Join number ∷ entries) s = publications_quiet p steady entries s
publications_quiet p steady (Said number line ∷ entries) s = publications_quiet p steady entries s
publications_quiet p steady (Leave number cause ∷ entries) s = publications_quiet p steady entries s
publications_quiet p steady (Publish thread ∷ entries) s =
    alike_trans p s (publish_round p thread s) (publish_all p entries (publish_round p thread s))
    (round_quiet p steady (find_thread thread (threads_beside p)) s (find_at p 0 thread (threads_beside p) (all_at p)))
    (publications_quiet p steady entries (publish_round p thread s))

start_quiet : (p : Plan) (place : ℕ) (thread : Thread) (s : State) → IsAt p place thread → AreAlike p s (start_round p place thread s)
start_quiet p place thread s at = by_process thread.process refl
  where
    taken : is_async thread.process ≡ true → AreAlike p s (take p place thread s)
    taken round = record {
      work = record { memory = s.memory; taken = slice_set s.taken place (taken_from p thread s); faults = s.faults };
      suits = record {
        memory_alike = agree_refl p s.memory;
        many = one_length s.taken place (taken_from p thread s);
        taken_alike = set_one (AreTakenAt p) nothing_taken s.taken place (taken_from p thread s)
            (λ one. any_record p place thread one (taken_from p thread s) at round) (suits_own p s.memory s.taken s.faults).taken_alike;
      };
      is = refl;
    }

    none_or : (b : Bool) (x : State) → AreAlike p s x → AreAlike p s (elim b [ true ↦ s | false ↦ x ])
    none_or true x h = alike_refl p s
    none_or false x h = h

    by_process : (type : Process) → thread.process ≡ type → AreAlike p s (elim type [
      | process.Scheduled ↦ s
      | process.MustFinish ↦ s
      | process.Async ↦ elim ((taken_at s place).held) [ true ↦ s | false ↦ take p place thread s ]
    ])
    by_process process.Scheduled e = alike_refl p s
    by_process process.MustFinish e = alike_refl p s
    by_process process.Async e = none_or (taken_at s place).held (take p place thread s) (taken (ap is_async e))

-- Rounds that are started change records of asynchronous threads alone.
pub rounds_quiet : (p : Plan) (ran : Bool) (s : State) → AreAlike p s (rounds p ran s)
rounds_quiet p false s = alike_refl p s
rounds_quiet p true s = one_threads p (start_round p) (start_quiet p) 0 (threads_beside p) s (all_at p)
