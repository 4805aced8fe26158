-- States that are alike: the same but for asynchronous work. Each step of a turn keeps that.
use Rattle.std.proofs.Common.{◌≡◌, ◌∙◌, ℕ, ◌+◌, ℤ, List, [], ◌∷◌, length, Bool, true, false, refl, subst, sym}
use Rattle.std.specs.List.{slice_index_or}
use Rattle.trick_lang.specs.declared.class.Class.{Class}
use Rattle.trick_lang.specs.declared.class.Class.TheVariants as class
use Rattle.trick_model.proofs.Turns.{AreAt, IsAt}
use Rattle.trick_model.specs.Access.{scope}
use Rattle.trick_model.specs.Beside.{each_thread, spread, zeros}
use Rattle.trick_model.specs.Events.{enter_freeze, leave_freeze}
use Rattle.trick_model.specs.FaultList.{FaultList, with_faults}
use Rattle.trick_model.specs.Order.{jobs_in}
use Rattle.trick_model.specs.Plan.{Plan, is_on}
use Rattle.trick_model.specs.Running.{After, after_jobs, run_class, settled}
use Rattle.trick_model.specs.State.{State, nothing_taken}
use Rattle.trick_model.specs.declared.mode.Mode.{Mode}
use Rattle.trick_model.specs.declared.mode.Mode.TheVariants as mode
use Rattle.trick_model.specs.declared.taken.Taken.{Taken}
use Rattle.trick_model.specs.declared.thread.Process.TheVariants as process
use Rattle.trick_model.specs.declared.thread.Thread.{Thread}
use Rattle.trick_model_publications.proofs.Jobs.{IsJob, agree_jobs, class_jobs}
use Rattle.trick_model_publications.proofs.Members.{Every}
use Rattle.trick_model_publications.proofs.Memories.{Pairs, agree_refl, agree_sym, agree_trans}
use Rattle.trick_model_publications.proofs.Steady.{IsSteady}
use Rattle.trick_model_publications.specs.Publications.{AgreeOutside}

-- ---- what may differ

-- Both records of a thread are held or neither is, with the same flags, and their cells agree.
pub record AreRecordsAlike (p : Plan) (thread : Thread) (one other : Taken) : Type 0 where
  pub held : one.held ≡ other.held
  pub on : one.on ≡ other.on
  pub cells : AgreeOutside p (spread (scope p thread) one.cells (zeros p)) (spread (scope p thread) other.cells (zeros p))

-- It is so where the thread of the place is must-finish.
abbrev pub AreTakenAt : Plan → ℕ → Taken → Taken → Type 0
AreTakenAt p place one other =
    (thread : Thread) → IsAt p place thread → thread.process ≡ process.MustFinish → AreRecordsAlike p thread one other

-- what asynchronous work may change of a state
pub record Work : Type 0 where
  pub memory : List ℤ
  pub taken : List Taken
  pub faults : FaultList

-- a state with other work
abbrev pub worked : State → Work → State
worked s v = record s { memory = v.memory; taken = v.taken; faults = v.faults }

-- A memory and records are as those of the work but for what asynchronous threads reach.
pub record Suits (p : Plan) (memory : List ℤ) (taken : List Taken) (v : Work) : Type 0 where
  pub memory_alike : AgreeOutside p memory v.memory
  pub many : length taken ≡ length v.taken
  pub taken_alike : Pairs (AreTakenAt p) nothing_taken taken v.taken

-- Two states are the same but for such work.
pub record AreAlike (p : Plan) (s t : State) : Type 0 where
  pub work : Work
  pub suits : Suits p s.memory s.taken work
  pub is : worked s work ≡ t

-- ---- one state and others

records_refl : (p : Plan) (thread : Thread) (one : Taken) → AreRecordsAlike p thread one one
records_refl p thread one = record { held = refl; on = refl; cells = agree_refl p (spread (scope p thread) one.cells (zeros p)) }

records_sym : (p : Plan) (thread : Thread) (one other : Taken) → AreRecordsAlike p thread one other → AreRecordsAlike p thread other one
records_sym p thread one other h = record { held = sym h.held; on = sym h.on; cells = agree_sym p _ _ h.cells }

records_trans : (p : Plan) (thread : Thread) (one other third : Taken) → AreRecordsAlike p thread one other → AreRecordsAlike p thread other third
    → AreRecordsAlike p thread one third
records_trans p thread one other third h g = record {
  held = h.held ∙ g.held;
  on = h.on ∙ g.on;
  cells = agree_trans p _ _ _ h.cells g.cells;
}

-- the work of a state itself
abbrev own : State → Work
own s = record { memory = s.memory; taken = s.taken; faults = s.faults }

pub suits_own : (p : Plan) (memory : List ℤ) (taken : List Taken) (faults : FaultList)
    → Suits p memory taken (record { memory = memory; taken = taken; faults = faults })
suits_own p memory taken faults = record {
  memory_alike = agree_refl p memory;
  many = refl;
  taken_alike = λ place thread at must. records_refl p thread (slice_index_or taken place nothing_taken);
}

pub alike_refl : (p : Plan) (s : State) → AreAlike p s s
alike_refl p s = record { work = own s; suits = suits_own p s.memory s.taken s.faults; is = refl }

pub alike_sym : (p : Plan) (s t : State) → AreAlike p s t → AreAlike p t s
alike_sym p s t h = subst (λ (u : State). AreAlike p u s) h.is (record {
  work = own s;
  suits = record {
    memory_alike = agree_sym p s.memory h.work.memory h.suits.memory_alike;
    many = sym h.suits.many;
    taken_alike = λ place thread at must.
        records_sym p thread (slice_index_or s.taken place nothing_taken) (slice_index_or h.work.taken place nothing_taken)
        (h.suits.taken_alike place thread at must);
  };
  is = refl;
})

suits_trans : (p : Plan) (memory : List ℤ) (taken : List Taken) (v w : Work) → Suits p memory taken v → Suits p v.memory v.taken w → Suits p memory taken w
suits_trans p memory taken v w h g = record {
  memory_alike = agree_trans p memory v.memory w.memory h.memory_alike g.memory_alike;
  many = h.many ∙ g.many;
  taken_alike = λ place thread at must.
      records_trans p thread (slice_index_or taken place nothing_taken) (slice_index_or v.taken place nothing_taken)
      (slice_index_or w.taken place nothing_taken) (h.taken_alike place thread at must) (g.taken_alike place thread at must);
}

trans_worked : (p : Plan) (s u : State) (v : Work) → Suits p s.memory s.taken v → AreAlike p (worked s v) u → AreAlike p s u
trans_worked p s u v h g = record {
  work = g.work;
  suits = suits_trans p s.memory s.taken v g.work h g.suits;
  is = g.is;
}

pub alike_trans : (p : Plan) (s t u : State) → AreAlike p s t → AreAlike p t u → AreAlike p s u
alike_trans p s t u h g = trans_worked p s u h.work h.suits (subst (λ (x : State). AreAlike p x u) (sym h.is) g)

-- What holds of each state that differs by such work holds of one that is alike.
pub lift : (p : Plan) (P : State → Type 0) (s t : State) → AreAlike p s t → ((v : Work) → Suits p s.memory s.taken v → P (worked s v)) → P t
lift p P s t h step = subst P h.is (step h.work h.suits)

-- ---- steps

-- a step on both sides
abbrev pub Keeps : Plan → (State → State) → Type 0
Keeps p step = (s : State) (v : Work) → Suits p s.memory s.taken v → AreAlike p (step s) (step (worked s v))

pub both : (p : Plan) (step : State → State) → Keeps p step → (s t : State) → AreAlike p s t → AreAlike p (step s) (step t)
both p step keeps s t h = lift p (λ (u : State). AreAlike p (step s) (step u)) s t h (keeps s)

-- a choice of a step, by one test
pub choose : (p : Plan) (b : Bool) (x y s t : State) → (b ≡ true → AreAlike p x y) → AreAlike p s t
    → AreAlike p (elim b [ true ↦ x | false ↦ s ]) (elim b [ true ↦ y | false ↦ t ])
choose p true x y s t one other = one refl
choose p false x y s t one other = other

-- threads one after another, on both sides
pub both_threads : (p : Plan) (step : ℕ → Thread → State → State)
    → ((place : ℕ) (thread : Thread) → IsAt p place thread → Keeps p (step place thread))
    → (place : ℕ) (threads : List Thread) (s t : State) → AreAt p place threads → AreAlike p s t
    → AreAlike p (each_thread step place threads s) (each_thread step place threads t)
both_threads p step keeps place [] s t at h = h
both_threads p step keeps place (thread ∷ threads) s t at h =
    both_threads p step keeps (place + 1) threads (step place thread s) (step place thread t) at.1
    (both p (step place thread) (keeps place thread at.0) s t h)

-- threads one after another, on one side
pub one_threads : (p : Plan) (step : ℕ → Thread → State → State)
    → ((place : ℕ) (thread : Thread) (s : State) → IsAt p place thread → AreAlike p s (step place thread s))
    → (place : ℕ) (threads : List Thread) (s : State) → AreAt p place threads → AreAlike p s (each_thread step place threads s)
one_threads p step quiet place [] s at = alike_refl p s
one_threads p step quiet place (thread ∷ threads) s at =
    alike_trans p s (step place thread s) (each_thread step (place + 1) threads (step place thread s)) (quiet place thread s at.0)
    (one_threads p step quiet (place + 1) threads (step place thread s) at.1)

-- ---- jobs

-- what jobs come to is put into both
pub settled_alike : (p : Plan) (after other : After) (s : State) (v : Work) → AgreeOutside p after.memory other.memory → Suits p s.memory s.taken v
    → AreAlike p (settled after s) (settled other (worked s v))
settled_alike p after other s v agree h = record {
  work = record { memory = other.memory; taken = v.taken; faults = with_faults other.faults v.faults };
  suits = record { memory_alike = agree; many = h.many; taken_alike = h.taken_alike };
  is = refl;
}

-- jobs of the plan run, by flags and at a tic that both have
pub run_alike : (p : Plan) → IsSteady p → (tic : ℕ) (ks : List ℕ) → Every (IsJob p) ks → (s : State) (v : Work) → Suits p s.memory s.taken v
    → AreAlike p (settled (after_jobs p (is_on s.jobs) tic ks s.memory) s) (settled (after_jobs p (is_on s.jobs) tic ks v.memory) (worked s v))
run_alike p steady tic ks there s v h =
    settled_alike p (after_jobs p (is_on s.jobs) tic ks s.memory) (after_jobs p (is_on s.jobs) tic ks v.memory) s v
    (agree_jobs p steady (is_on s.jobs) tic ks s.memory v.memory there h.memory_alike) h

pub class_keeps : (p : Plan) → IsSteady p → (class : Class) → Keeps p (run_class p class)
class_keeps p steady class s v h = run_alike p steady s.tic (jobs_in p.jobs class) (class_jobs p class) s v h

-- the mode is set, and jobs run
pub mode_keeps : (p : Plan) → IsSteady p → (class : Class) (m : Mode) → Keeps p (λ (s : State). run_class p class (record s { mode = m }))
mode_keeps p steady class m s v h = class_keeps p steady class (record s { mode = m }) v h

by_mode : (p : Plan) (m : Mode) (x y s t : State) → AreAlike p x y → AreAlike p s t
    → AreAlike p (elim m [ mode.Run ↦ x | mode.Freeze ↦ s | mode.Shutdown ↦ s ]) (elim m [ mode.Run ↦ y | mode.Freeze ↦ t | mode.Shutdown ↦ t ])
by_mode p mode.Run x y s t one other = one
by_mode p mode.Freeze x y s t one other = other
by_mode p mode.Shutdown x y s t one other = other

by_freeze : (p : Plan) (m : Mode) (x y s t : State) → AreAlike p x y → AreAlike p s t
    → AreAlike p (elim m [ mode.Run ↦ s | mode.Freeze ↦ x | mode.Shutdown ↦ s ]) (elim m [ mode.Run ↦ t | mode.Freeze ↦ y | mode.Shutdown ↦ t ])
by_freeze p mode.Run x y s t one other = other
by_freeze p mode.Freeze x y s t one other = one
by_freeze p mode.Shutdown x y s t one other = other

-- the work suits the state itself
pub with_work : (p : Plan) (s : State) (v : Work) → Suits p s.memory s.taken v → AreAlike p s (worked s v)
with_work p s v h = record { work = v; suits = h; is = refl }

pub enter_keeps : (p : Plan) → IsSteady p → Keeps p (enter_freeze p)
enter_keeps p steady s v h = by_mode p s.mode _ _ s (worked s v) (mode_keeps p steady class.Freeze mode.Freeze s v h) (with_work p s v h)

pub leave_keeps : (p : Plan) → IsSteady p → Keeps p (leave_freeze p)
leave_keeps p steady s v h = by_freeze p s.mode _ _ s (worked s v) (mode_keeps p steady class.Unfreeze mode.Run s v h) (with_work p s v h)
