-- What a plan keeps of its threads.
use Rattle.std.proofs.Common.{rules, ◌≡◌, ℕ, zero, suc, ◌+◌, ◌≤◌, ◌<◌, ◌==◌, ◌||◌, Bool, true, false, nat_eq, nat_lt, nat_le, List, [], ◌∷◌, length, filter, cond, All, IsTrue, Option, Some, None, is_some, unwrap_or, slice_index_or, refl, sym, arith}
use Rattle.std.proofs.lemmas.Bool.{and_from, and_parts, eq-eqb, eqb-true, leb-true, lt-ltb, or_left, or_right}
use Rattle.std.proofs.lemmas.List.Elements.{filter_passes}
use Rattle.std.specs.List.{list_all, list_any}
use Rattle.std.specs.Option.{ForSome}
use Rattle.trick_lang.specs.Valid.{have_right_threads}
use Rattle.trick_lang.specs.declared.job.Job.{Job}
use Rattle.trick_model.specs.Plan.{has_job, has_thread}
use Rattle.trick_model.specs.Valid.{IsCycle, IsFrame, IsMainRight, is_there, rises, thread_numbers}
use Rattle.trick_model.specs.declared.thread.Process.{Process}
use Rattle.trick_model.specs.declared.thread.Process.TheVariants as process
use Rattle.trick_model.specs.declared.thread.Thread.{Thread}
use Rattle.trick_plan_settings.proofs.Order.{Each, all_each, each_all}
use Rattle.trick_plan_settings.specs.Threads.{AreThreads, HasCycle, thread_of, threads_from, threads_of}
use Rattle.trick_plan_settings.specs.declared.setting.Setting.{Setting}

other : (a b : ℕ) → nat_eq a b ≡ false → a ≡ b → ⊥
other a b e h = search rules

-- ---- filters

each_filter : {X : Type 0} (P : X → Type 0) (p : X → Bool) (xs : List X) → Each P xs → Each P (filter p xs)
each_filter P p [] h = tt
each_filter {X} P p (x ∷ xs) h = by (p x) (each_filter P p xs h.1)
  where
    by : (b : Bool) → Each P (filter p xs) → Each P (cond b (x ∷ filter p xs) (filter p xs))
    by true rest = (h.0, rest)
    by false rest = rest

-- each number is above those before it
abbrev Rise : List Thread → Type 0
Rise [] = Unit {0}
Rise (x ∷ xs) = Each (λ (thread : Thread). x.number < thread.number) xs × Rise xs

rise_filter : (p : Thread → Bool) (xs : List Thread) → Rise xs → Rise (filter p xs)
rise_filter p [] h = tt
rise_filter p (x ∷ xs) h = by (p x) (rise_filter p xs h.1)
  where
    by : (b : Bool) → Rise (filter p xs) → Rise (cond b (x ∷ filter p xs) (filter p xs))
    by true rest = (each_filter (λ (thread : Thread). x.number < thread.number) p xs h.0, rest)
    by false rest = rest

rises_of : (xs : List Thread) → Rise xs → rises (thread_numbers xs) ≡ true
rises_of [] h = refl
rises_of (x ∷ []) h = refl
rises_of (x ∷ y ∷ ys) h = and_from (nat_lt x.number y.number) (rises (thread_numbers (y ∷ ys))) (lt-ltb x.number y.number h.0.0) (rises_of (y ∷ ys) h.1)

-- ---- all numbers

module _ (frame : ℕ) where
  above : (m n : ℕ) (settings : List Setting) → m < n → Each (λ (thread : Thread). m < thread.number) (threads_from frame n settings)
  above m n [] h = tt
  above m n (s ∷ ss) h = (h, above m (suc n) ss (omega (arith, h)))

  rise_from : (n : ℕ) (settings : List Setting) → Rise (threads_from frame n settings)
  rise_from n [] = tt
  rise_from n (s ∷ ss) = (above n (suc n) ss (omega arith), rise_from (suc n) ss)

  limited : (n : ℕ) (settings : List Setting) → n + length settings ≤ 16 → Each (λ (thread : Thread). thread.number ≤ 15) (threads_from frame n settings)
  limited n [] h = tt
  limited n (s ∷ ss) h = (omega (arith, h), limited (suc n) ss (omega (arith, h)))

  scheduled : (o : Option Process) (c : Bool) → (IsTrue (is_some o || c) → ⊥) → unwrap_or o process.Scheduled ≡ process.Scheduled
  scheduled None c h = refl
  scheduled (Some x) c h = absurd (h refl)

  mains : (n : ℕ) (settings : List Setting) → Each IsMainRight (threads_from frame n settings)
  mains n [] = tt
  mains n (s ∷ ss) = (λ zero_is unnamed. scheduled s.process (is_some s.cycle) unnamed, mains (suc n) ss)

  cycle_of : (o : Option ℕ) → IsFrame frame → ForSome o IsCycle → IsCycle (unwrap_or o frame)
  cycle_of None f h = let few = f.in_range in record { some = f.some; in_range = omega (arith, few) }
  cycle_of (Some tics) f h = h tics refl

  cycles : (n : ℕ) (settings : List Setting) → IsFrame frame → Each HasCycle settings → Each (λ (thread : Thread). IsCycle thread.cycle) (threads_from frame n settings)
  cycles n [] f h = tt
  cycles n (s ∷ ss) f h = (cycle_of s.cycle f h.0, cycles (suc n) ss f h.1)

  -- the thread of a number that passes
  passing : (p : Thread → Bool) (t n : ℕ) (settings : List Setting) → n ≤ t → t < n + length settings → ((thread : Thread) → thread.number ≡ t → p thread ≡ true)
      → has_thread (filter p (threads_from frame n settings)) t ≡ true
  passing p t n [] low high passes = absurd (omega (arith, low, high))
  passing p t n (s ∷ ss) low high passes = by (nat_eq n t) refl (p x) refl (λ more. passing p t (suc n) ss more (omega (arith, high)) passes)
    where
      x : Thread
      x = thread_of frame n s

      rest : List Thread
      rest = filter p (threads_from frame (suc n) ss)

      by : (b : Bool) → nat_eq n t ≡ b → (c : Bool) → p (thread_of frame n s) ≡ c → (suc n ≤ t → has_thread (filter p (threads_from frame (suc n) ss)) t ≡ true)
          → has_thread (cond (p (thread_of frame n s)) (thread_of frame n s ∷ filter p (threads_from frame (suc n) ss)) (filter p (threads_from frame (suc n) ss))) t ≡ true
      by true e c f later = rw (passes (thread_of frame n s) (eqb-true n t e)) (or_left (nat_eq n t) (has_thread (filter p (threads_from frame (suc n) ss)) t) e)
      by false e true f later = rw f (or_right (nat_eq n t) (has_thread (filter p (threads_from frame (suc n) ss)) t) (later (behind e)))
        where
          behind : nat_eq n t ≡ false → suc n ≤ t
          behind g = let apart = other n t g in omega (arith, low, apart)
      by false e false f later = rw f (later (behind e))
        where
          behind : nat_eq n t ≡ false → suc n ≤ t
          behind g = let apart = other n t g in omega (arith, low, apart)

-- ---- jobs

some_job : (number : ℕ) (jobs : List Job) (k : ℕ) (d : Job) → k < length jobs → (slice_index_or jobs k d).thread ≡ number → list_any (λ (job : Job). job.thread == number) jobs ≡ true
some_job number [] k d lt e = absurd (omega (arith, lt))
some_job number (x ∷ xs) zero d lt e = or_left (x.thread == number) (list_any (λ (job : Job). job.thread == number) xs) (eq-eqb x.thread number e)
some_job number (x ∷ xs) (suc k) d lt e = or_right (x.thread == number) (list_any (λ (job : Job). job.thread == number) xs) (some_job number xs k d (omega (arith, lt)) e)

job_limit : (jobs : List Job) (k : ℕ) (d : Job) → k < length jobs → list_all (λ (job : Job). nat_le job.thread 15) jobs ≡ true → (slice_index_or jobs k d).thread ≤ 15
job_limit [] k d lt h = absurd (omega (arith, lt))
job_limit (x ∷ xs) zero d lt h = leb-true x.thread 15 (and_parts (nat_le x.thread 15) (list_all (λ (job : Job). nat_le job.thread 15) xs) h).0
job_limit (x ∷ xs) (suc k) d lt h = job_limit xs k d (omega (arith, lt)) (and_parts (nat_le x.thread 15) (list_all (λ (job : Job). nat_le job.thread 15) xs) h).1

module _ (jobs : List Job) (frame : ℕ) where
  main_there : (settings : List Setting) → 0 < length settings → has_thread (threads_of jobs frame settings) 0 ≡ true
  main_there [] h = absurd (omega (arith, h))
  main_there (s ∷ ss) h = refl

  there : (k : ℕ) (d : Job) → k < length jobs → (thread : Thread) → thread.number ≡ (slice_index_or jobs k d).thread → is_there jobs thread ≡ true
  there k d lt thread e =
      or_right (thread.number == 0) (thread.named || has_job jobs thread)
      (or_right thread.named (has_job jobs thread) (some_job thread.number jobs k d lt (sym e)))

  -- what the threads of a plan keep
  pub facts : (settings : List Setting) → IsFrame frame → length settings ≡ 16 → All HasCycle settings → IsTrue (have_right_threads jobs) → AreThreads jobs (threads_of jobs frame settings)
  facts settings f count h right =
      let p : Thread → Bool = is_there jobs in
      let all : List Thread = threads_from frame 0 settings in
      record {
        threads_rise = rises_of (filter p all) (rise_filter p all (rise_from frame 0 settings));
        thread_limit = each_all (λ (thread : Thread). thread.number ≤ 15) (filter p all)
            (each_filter (λ (thread : Thread). thread.number ≤ 15) p all (limited frame 0 settings (omega (arith, count))));
        main_thread = main_there settings (omega (arith, count));
        job_threads = λ k d lt.
            let limit = job_limit jobs k d lt right in
            passing frame p (slice_index_or jobs k d).thread 0 settings (omega arith) (omega (arith, limit, count)) (there k d lt);
        needed_threads = filter_passes p all;
        main_right = each_all IsMainRight (filter p all) (each_filter IsMainRight p all (mains frame 0 settings));
        thread_cycles = each_all (λ (thread : Thread). IsCycle thread.cycle) (filter p all)
            (each_filter (λ (thread : Thread). IsCycle thread.cycle) p all (cycles frame 0 settings f (all_each HasCycle settings h)));
      }
