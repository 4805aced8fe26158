-- In a run frame the tic rises.
use Rattle.std.proofs.Common.{◌≡◌, ◌∙◌, ℕ, zero, suc, ◌+◌, ◌-◌, ◌*◌, ◌/◌, ◌<◌, ◌≤◌, List, [], ◌∷◌, Bool, true, false, Option, Some, None, ap, arith, nat_lt, refl, subst, sym}
use Rattle.std.proofs.Math.Nat.{lt-div-mul-add}
use Rattle.std.specs.List.{list_any}
use Rattle.trick_lang.specs.declared.class.Class.TheVariants as class
use Rattle.trick_model.specs.Beside.{each_thread, find_thread, has_round, publish, publish_round, start_round, take}
use Rattle.trick_model.specs.Events.{Asking}
use Rattle.trick_model.specs.Journal.{is_of_session}
use Rattle.trick_model.specs.Plan.{Plan, threads_beside}
use Rattle.trick_model.specs.Running.{run_class}
use Rattle.trick_model.specs.State.{State, World, taken_at}
use Rattle.trick_model.specs.Tic.{Ticked, tic, tic_below_limit, tics}
use Rattle.trick_model.specs.Time.{tics_left}
use Rattle.trick_model.specs.Turn.{Hearing, begun, checkpoint_jobs, counted, framed, frozen, heard, publish_all, rounds, runs, turn}
use Rattle.trick_model.specs.declared.entry.Entry.{Entry}
use Rattle.trick_model.specs.declared.entry.Entry.TheVariants.{Join, Said, Leave, Publish}
use Rattle.trick_model.specs.declared.mode.Mode.{Mode}
use Rattle.trick_model.specs.declared.mode.Mode.TheVariants as mode
use Rattle.trick_model.specs.declared.thread.Process.{Process}
use Rattle.trick_model.specs.declared.thread.Process.TheVariants as process
use Rattle.trick_model.specs.declared.thread.Thread.{Thread}

-- Two states have one tic and one limit.
pub record SameTic (s t : State) : Type 0 where
  pub tic : t.tic ≡ s.tic
  pub limit : t.limit ≡ s.limit

one_tic : (s : State) → SameTic s s
one_tic s = record { tic = refl; limit = refl }

then_tic : {s t u : State} → SameTic s t → SameTic t u → SameTic s u
then_tic one two = record { tic = two.tic ∙ one.tic; limit = two.limit ∙ one.limit }

-- either of two states
either : (b : Bool) (s one other : State) → SameTic s one → SameTic s other → (let t : State = elim b [ true ↦ one | false ↦ other ] in SameTic s t)
either true s one other first second = first
either false s one other first second = second

-- ---- threads

publish_tic : (p : Plan) (place : ℕ) (thread : Thread) (now : ℕ) (s : State) → SameTic s (publish p place thread now s)
publish_tic p place thread now s = either (taken_at s place).held s _ s (record { tic = refl; limit = refl }) (one_tic s)

each_tic : (step : ℕ → Thread → State → State) → ((place : ℕ) (thread : Thread) (s : State) → SameTic s (step place thread s))
    → (place : ℕ) (threads : List Thread) (s : State) → SameTic s (each_thread step place threads s)
each_tic step kept place [] s = one_tic s
each_tic step kept place (thread ∷ threads) s = then_tic (kept place thread s) (each_tic step kept (place + 1) threads (step place thread s))

start_tic : (p : Plan) (place : ℕ) (thread : Thread) (s : State) → SameTic s (start_round p place thread s)
start_tic p place thread s = by_process thread.process
  where
    by_process : (type : Process) → (let t : State = elim type [
      | process.Scheduled ↦ s
      | process.MustFinish ↦ s
      | process.Async ↦ elim ((taken_at s place).held) [ true ↦ s | false ↦ take p place thread s ]
    ] in SameTic s t)
    by_process process.Scheduled = one_tic s
    by_process process.MustFinish = one_tic s
    by_process process.Async = either (taken_at s place).held s s (take p place thread s) (one_tic s) (record { tic = refl; limit = refl })

rounds_tic : (p : Plan) (ran : Bool) (s : State) → SameTic s (rounds p ran s)
rounds_tic p false s = one_tic s
rounds_tic p true s = each_tic (start_round p) (start_tic p) 0 (threads_beside p) s

round_tic : (p : Plan) (number : ℕ) (s : State) → SameTic s (publish_round p number s)
round_tic p number s = by_place (find_thread number (threads_beside p))
  where
    by_place : (found : Option (ℕ × Thread)) → (let t : State = elim found [
      | None ↦ s
      | Some found ↦ elim (has_round s found.0 found.1) [ true ↦ publish p found.0 found.1 s.tic s | false ↦ s ]
    ] in SameTic s t)
    by_place None = one_tic s
    by_place (Some found) =
        either (has_round s found.0 found.1) s (publish p found.0 found.1 s.tic s) s (publish_tic p found.0 found.1 s.tic s) (one_tic s)

published_tic : (p : Plan) (entries : List Entry) (s : State) → SameTic s (publish_all p entries s)
published_tic p [] s = one_tic s
published_tic p (Join number ∷ entries) s = published_tic p entries s
published_tic p (Said number line ∷ entries) s = published_tic p entries s
published_tic p (Leave number cause ∷ entries) s = published_tic p entries s
published_tic p (Publish thread ∷ entries) s = then_tic (round_tic p thread s) (published_tic p entries (publish_round p thread s))

-- ---- what comes before and after the tics of a frame

frozen_tic : (p : Plan) (asked : Bool) (s : State) → SameTic s (frozen p asked s)
frozen_tic p false s = one_tic s
frozen_tic p true s = by_mode s.mode
  where
    by_mode : (m : Mode) → (let t : State = elim m [
      | mode.Run ↦ run_class p class.Freeze (record s { mode = mode.Freeze })
      | mode.Freeze ↦ s
      | mode.Shutdown ↦ s
    ] in SameTic s t)
    by_mode mode.Run = record { tic = refl; limit = refl }
    by_mode mode.Freeze = one_tic s
    by_mode mode.Shutdown = one_tic s

checkpoint_tic : (p : Plan) (asked : Bool) (s : State) → SameTic s (checkpoint_jobs p asked s)
checkpoint_tic p false s = one_tic s
checkpoint_tic p true s = record { tic = refl; limit = refl }

-- ---- tics

-- tics never go back
tics_later : (p : Plan) (count : ℕ) (a : Asking) → a.state.tic ≤ (tics p count a).asking.state.tic
tics_later p zero a = itself a.state.tic
  where
    itself : (n : ℕ) → n ≤ n
    itself n = omega arith
tics_later p (suc count) a =
    over a.state.tic (tic_below_limit p a).asking.state.tic (tics p count (tic_below_limit p a).asking).asking.state.tic
    (by_test (nat_lt a.state.tic a.state.limit)) (tics_later p count (tic_below_limit p a).asking)
  where
    over : (a b c : ℕ) → a ≤ b → b ≤ c → a ≤ c
    over a b c one two = omega (arith, one, two)

    rises : (n : ℕ) → n ≤ n + 1
    rises n = omega arith

    itself : (n : ℕ) → n ≤ n
    itself n = omega arith

    by_test : (b : Bool) → (let t : Ticked = elim b [ true ↦ tic p a | false ↦ record { asking = a; writes = [] } ] in a.state.tic ≤ t.asking.state.tic)
    by_test true = rises a.state.tic
    by_test false = itself a.state.tic

-- the first one below the limit is passed
tics_pass : (p : Plan) (count : ℕ) (a : Asking) → 0 < count → nat_lt a.state.tic a.state.limit ≡ true
    → a.state.tic < (tics p count a).asking.state.tic
tics_pass p zero a some below = absurd (none some)
  where
    none : 0 < 0 → ⊥
    none less = omega (arith, less)
tics_pass p (suc count) a some below =
    over a.state.tic (tic_below_limit p a).asking.state.tic (tics p count (tic_below_limit p a).asking).asking.state.tic
    (by_test (nat_lt a.state.tic a.state.limit) below) (tics_later p count (tic_below_limit p a).asking)
  where
    over : (a b c : ℕ) → a < b → b ≤ c → a < c
    over a b c one two = omega (arith, one, two)

    rises : (n : ℕ) → n < n + 1
    rises n = omega arith

    by_test : (b : Bool) → b ≡ true
        → (let t : Ticked = elim b [ true ↦ tic p a | false ↦ record { asking = a; writes = [] } ] in a.state.tic < t.asking.state.tic)
    by_test true e = rises a.state.tic
    by_test false e = cc e

-- a frame has a tic left at each of its tics
some_left : (p : Plan) (now : ℕ) → 1 ≤ p.frame → 0 < tics_left p now
some_left p now most = by p.frame most
  where
    by : (size : ℕ) → 1 ≤ size → 0 < (now / size + 1) * size - now
    by size most = let ends : now < now / size * size + size = lt-div-mul-add most in grind (arith, ends)

-- ---- the turn

-- a frame that runs passes a tic
framed_pass : (p : Plan) (entries : List Entry) (a : Asking) → 1 ≤ p.frame → nat_lt a.state.tic a.state.limit ≡ true
    → a.state.tic < (framed p true entries a).asking.state.tic
framed_pass p entries a most below =
    let published = published_tic p entries a.state in
    let top = run_class p class.TopOfFrame (publish_all p entries a.state) in
    let before = record a { state = top } in
    let ran = tics p (tics_left p top.tic) before in
    let bottom = run_class p class.EndOfFrame ran.asking.state in
    let frozen = frozen_tic p ran.asking.freeze bottom in
    let less : nat_lt top.tic top.limit ≡ true = ap (λ (n : ℕ). nat_lt n top.limit) published.tic ∙ ap (λ (n : ℕ). nat_lt a.state.tic n) published.limit ∙ below in
    let passed : top.tic < ran.asking.state.tic = tics_pass p (tics_left p top.tic) before (some_left p top.tic most) less in
    subst (λ (n : ℕ). a.state.tic < n) (sym frozen.tic) (subst (λ (n : ℕ). n < ran.asking.state.tic) published.tic passed)

-- without a join, a line or a leave nothing is heard
pub nothing_heard : (p : Plan) (entries : List Entry) (h : Hearing) → list_any is_of_session entries ≡ false → heard p entries h ≡ h
nothing_heard p [] h none = refl
nothing_heard p (Join number ∷ entries) h none = cc none
nothing_heard p (Said number line ∷ entries) h none = cc none
nothing_heard p (Leave number cause ∷ entries) h none = cc none
nothing_heard p (Publish thread ∷ entries) h none = nothing_heard p entries h none

-- the state after a turn, by how its entries were heard
state_after : Plan → List Entry → Bool → Asking → State
state_after p entries ran a =
    let asked = (framed p ran entries a).asking in counted (rounds p ran (checkpoint_jobs p asked.checkpoint asked.state))

rises_by : (p : Plan) (entries : List Entry) (ran : Bool) (a : Asking) → 1 ≤ p.frame → ran ≡ true → nat_lt a.state.tic a.state.limit ≡ true
    → a.state.tic < (state_after p entries ran a).tic
unfolding state_after
rises_by p entries true a most is below =
    let asked = (framed p true entries a).asking in
    let noted = checkpoint_tic p asked.checkpoint asked.state in
    let started = rounds_tic p true (checkpoint_jobs p asked.checkpoint asked.state) in
    subst (λ (n : ℕ). a.state.tic < n) (sym (started.tic ∙ noted.tic)) (framed_pass p entries a most below)
rises_by p entries false a most is below = cc is

-- the tic rises in a turn in which nothing is heard and the frame is one that runs
pub turn_rises : (p : Plan) (w : World) (entries : List Entry) → 1 ≤ p.frame → list_any is_of_session entries ≡ false → runs w.state ≡ true
    → nat_lt w.state.tic w.state.limit ≡ true → w.state.tic < (turn p w entries).world.state.tic
unfolding state_after
turn_rises p w entries most none ran below =
    subst (λ (h : Hearing). w.state.tic < (state_after p entries (runs h.asking.state) h.asking).tic)
    (sym (nothing_heard p entries (begun w) none)) (rises_by p entries (runs w.state) (begun w).asking most ran below)

-- in Freeze, where nothing is heard, a turn changes nothing but the count of turns
pub turn_stays : (p : Plan) (w : World) (entries : List Entry) → list_any is_of_session entries ≡ false → runs w.state ≡ false
    → (turn p w entries).world.state ≡ counted w.state
unfolding state_after
turn_stays p w entries none still =
    ap (λ (h : Hearing). state_after p entries (runs h.asking.state) h.asking) (nothing_heard p entries (begun w) none)
    ∙ ap (λ (b : Bool). state_after p entries b (begun w).asking) still
