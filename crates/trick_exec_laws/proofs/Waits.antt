-- A round that has waited long enough is published.
use Rattle.std.proofs.Common.{◌≡◌, ◌∙◌, ℕ, zero, suc, ◌+◌, ◌<◌, ◌≤◌, List, [], ◌∷◌, ◌++◌, Bool, true, false, not, ◌&&◌, ap, arith, length, length-append, refl, subst, sym, nat_lt}
use Rattle.std.proofs.lemmas.Bool.Decides.{nat_tests}
use Rattle.std.proofs.lemmas.Bool.{eq-eqb, or_left, or_right}
use Rattle.std.proofs.lemmas.List.{get_or_append_left, get_or_default, get_or_push}
use Rattle.std.proofs.lemmas.List.Folds.{list_any-append}
use Rattle.std.specs.List.{slice_index_or}
use Rattle.std.specs.Prelude.{◌||◌, cond, min, map}
use Rattle.trick_model.specs.Beside.{has_round}
use Rattle.trick_model.specs.Plan.{Plan, threads_beside}
use Rattle.trick_model.specs.Run.{after_turns}
use Rattle.trick_model.specs.State.{State, World}
use Rattle.trick_model.specs.Turn.{runs, turn}
use Rattle.trick_model.specs.declared.entry.Entry.{Entry}
use Rattle.trick_model.specs.declared.entry.Entry.TheVariants.{Publish}
use Rattle.trick_model.specs.declared.thread.Thread.{Thread}
use Rattle.trick_post_work.specs.Polls.{Poll}
use Rattle.trick_exec_laws.specs.Waiting.{NoneWaitsLonger, StaysUnpublished, is_left, is_run_frame, run_frames}
use Rattle.trick_exec_meaning.specs.Rounds.{AreChosen, Chooses, IsChosen, heard_state, idle, is_publication_of, is_published, no_turn, no_waits, none, not_yet, one_more, patience, publications, ready, unasked, wait_at, waited, waited_at, waited_from}

-- ---- a round that has waited long enough

-- publications stay where more are chosen
still_published : (number : ℕ) (entries : List Entry) (entry : Entry) → is_published number entries ≡ true → is_published number (entries ++ entry ∷ []) ≡ true
still_published number entries entry e =
    list_any-append (is_publication_of number) entries (entry ∷ [])
    ∙ or_left (is_published number entries) (is_published number (entry ∷ [])) e

now_published : (number : ℕ) (entries : List Entry) → is_published number (entries ++ Publish number ∷ []) ≡ true
now_published number entries =
    list_any-append (is_publication_of number) entries (Publish number ∷ [])
    ∙ or_right (is_published number entries) (is_published number (Publish number ∷ []))
    (ap (λ (b : Bool). b || false) (eq-eqb number number refl))

module _ (s : State) (waits : List ℕ) where
  Must : ℕ → List Thread → List Entry → Type 0
  Must place threads entries =
      (d : Thread) → place < length threads → has_round s place (slice_index_or threads place d) ≡ true → patience ≤ wait_at waits place
      → is_published (slice_index_or threads place d).number entries ≡ true

  -- one thread more, of which is known what it must
  must_more : (place : ℕ) (before : List Thread) (thread : Thread) (entries all : List Entry) → Must place before entries
      → ((number : ℕ) → is_published number entries ≡ true → is_published number all ≡ true)
      → (has_round s (length before) thread ≡ true → patience ≤ wait_at waits (length before) → is_published thread.number all ≡ true)
      → Must place (before ++ thread ∷ []) all
  unfolding Must
  must_more place before thread entries all so keep last d there round long = by (nat_lt place (length before)) refl
    where
      by : (b : Bool) → nat_lt place (length before) ≡ b → is_published (slice_index_or (before ++ thread ∷ []) place d).number all ≡ true
      by true e =
          let within : place < length before = grind (arith, nat_tests, e) in
          let same : slice_index_or (before ++ thread ∷ []) place d ≡ slice_index_or before place d = get_or_append_left before (thread ∷ []) d place within in
          subst (λ (t : Thread). is_published t.number all ≡ true) (sym same)
          (keep (slice_index_or before place d).number
          (so d within (subst (λ (t : Thread). has_round s place t ≡ true) same round) long))
      by false e =
          let at : length before ≡ place = last_place e there in
          let same : slice_index_or (before ++ thread ∷ []) place d ≡ thread = get_or_push before thread d place at in
          subst (λ (t : Thread). is_published t.number all ≡ true) (sym same)
          (last (subst (λ (n : ℕ). has_round s n thread ≡ true) (sym at) (subst (λ (t : Thread). has_round s place t ≡ true) same round))
          (subst (λ (n : ℕ). patience ≤ wait_at waits n) (sym at) long))
        where
          last_place : nat_lt place (length before) ≡ false → place < length (before ++ thread ∷ []) → length before ≡ place
          last_place e there = grind (arith, nat_tests, e, there, length-append before (thread ∷ []))

  never : (b : Bool) → b ≡ false → b ≡ true → ⊥
  never true e f = cc e
  never false e f = cc f

  too_long : (n : ℕ) → n < patience → patience ≤ n → ⊥
  too_long n short long = omega (arith, short, long)

  nowhere : (n : ℕ) → n < 0 → ⊥
  nowhere n there = omega (arith, there)

  must : (threads : List Thread) (entries : List Entry) (polls : List Poll) → Chooses s waits threads entries polls → (place : ℕ) → Must place threads entries
  unfolding Must
  must threads entries polls none place = λ d there round long. absurd (nowhere place there)
  must threads entries polls (idle before thread es earlier round so) place =
      must_more place before thread es es (must before es earlier so place) (λ number e. e)
      (λ flies long. absurd (never (has_round s (length before) thread) round flies))
  must threads entries polls (ready before thread es earlier round short so) place =
      must_more place before thread es (es ++ Publish thread.number ∷ []) (must before es earlier so place)
      (λ number e. still_published number es (Publish thread.number) e) (λ flies long. now_published thread.number es)
  must threads entries polls (not_yet before thread es earlier round short so) place =
      must_more place before thread es es (must before es earlier so place) (λ number e. e)
      (λ flies long. absurd (too_long (wait_at waits (length before)) short long))
  must threads entries polls (unasked before thread es earlier round long so) place =
      must_more place before thread es (es ++ Publish thread.number ∷ []) (must before es earlier so place)
      (λ number e. still_published number es (Publish thread.number) e) (λ flies longer. now_published thread.number es)

-- ---- how long a round has waited

none_waits : (threads : List Thread) (place : ℕ) → wait_at (map (λ (thread : Thread). 0) threads) place ≡ 0
none_waits [] place = refl
none_waits (thread ∷ threads) zero = refl
none_waits (thread ∷ threads) (suc place) = none_waits threads place

-- the wait of a place after a run frame
wait_here : (s : State) (waits : List ℕ) (entries : List Entry) (first : ℕ) (threads : List Thread) (place : ℕ) (d : Thread) → place < length threads
    → wait_at (waited_from s waits entries first threads) place ≡ waited_at s waits entries (first + place) (slice_index_or threads place d)
wait_here s waits entries first [] place d there = absurd (omega (arith, there))
wait_here s waits entries first (thread ∷ threads) zero d there =
    ap (λ (n : ℕ). waited_at s waits entries n thread) same
  where
    same : first ≡ first + 0
    same = omega arith
wait_here s waits entries first (thread ∷ threads) (suc place) d there =
    wait_here s waits entries (first + 1) threads place d (omega (arith, there))
    ∙ ap (λ (n : ℕ). waited_at s waits entries n (slice_index_or threads place d)) same
  where
    same : (first + 1) + place ≡ first + suc place
    same = omega arith

-- the same from the first place on
wait_at_place : (s : State) (waits : List ℕ) (entries : List Entry) (threads : List Thread) (place : ℕ) (d : Thread) → place < length threads
    → wait_at (waited_from s waits entries 0 threads) place ≡ waited_at s waits entries place (slice_index_or threads place d)
wait_at_place s waits entries threads place d there =
    wait_here s waits entries 0 threads place d there ∙ ap (λ (n : ℕ). waited_at s waits entries n (slice_index_or threads place d)) (from_zero place)
  where
    from_zero : (n : ℕ) → 0 + n ≡ n
    from_zero n = omega arith

module _ (p : Plan) (place : ℕ) (thread : Thread) where
  -- at how many run frames the round has stayed unpublished, after a turn more
  step : World → List Entry → ℕ → ℕ
  step w entries n = cond (is_run_frame p w entries) (cond (is_left p w entries place thread) (suc n) 0) n

  -- and after turns from a world on
  held_up : World → List (List Entry) → ℕ → ℕ
  held_up w [] n = n
  held_up w (entries ∷ lists) n = held_up (turn p w entries).world lists (step w entries n)

  -- At no turn it is more than a round may wait.
  Bounded : World → List (List Entry) → ℕ → Type 0
  Bounded w [] n = Unit {0}
  Bounded w (entries ∷ lists) n = (step w entries n ≤ patience) × Bounded (turn p w entries).world lists (step w entries n)

  held_more : (w : World) (lists : List (List Entry)) (entries : List Entry) (n : ℕ)
      → step (after_turns p w lists) entries (held_up w lists n) ≡ held_up w (lists ++ entries ∷ []) n
  unfolding held_up
  held_more w [] entries n = refl
  held_more w (first ∷ lists) entries n = held_more (turn p w first).world lists entries (step w first n)

  bounded_more : (w : World) (lists : List (List Entry)) (entries : List Entry) (n : ℕ) → Bounded w lists n
      → step (after_turns p w lists) entries (held_up w lists n) ≤ patience → Bounded w (lists ++ entries ∷ []) n
  unfolding held_up Bounded
  bounded_more w [] entries n so within = (within, tt)
  bounded_more w (first ∷ lists) entries n so within = (so.0, bounded_more (turn p w first).world lists entries (step w first n) so.1 within)

  -- what follows turns is bounded too
  bounded_behind : (w : World) (early late : List (List Entry)) (n : ℕ) → n ≤ patience → Bounded w (early ++ late) n
      → Bounded (after_turns p w early) late (held_up w early n) × (held_up w early n ≤ patience)
  unfolding held_up Bounded
  bounded_behind w [] late n low so = (so, low)
  bounded_behind w (first ∷ early) late n low so = bounded_behind (turn p w first).world early late (step w first n) so.0 so.1

  -- a stretch in which it stays unpublished
  stretch_bounded : (w : World) (stretch late : List (List Entry)) (n : ℕ) → n ≤ patience → Bounded w (stretch ++ late) n
      → StaysUnpublished p w stretch place thread → n + run_frames p w stretch ≤ patience
  unfolding Bounded step
  stretch_bounded w [] late n low so stays = none_more n low
    where
      none_more : (n : ℕ) → n ≤ patience → n + 0 ≤ patience
      none_more n low = omega (arith, low)
  stretch_bounded w (entries ∷ stretch) late n low so stays =
      by (λ k within left. stretch_bounded (turn p w entries).world stretch late k within left stays.1)
      (is_run_frame p w entries) (is_left p w entries place thread) stays.0 so.0 so.1
    where
      one : (n more : ℕ) → suc n + more ≤ patience → n + suc more ≤ patience
      one n more low = omega (arith, low)

      by : ((k : ℕ) → k ≤ patience → Bounded (turn p w entries).world (stretch ++ late) k → k + run_frames p (turn p w entries).world stretch ≤ patience)
          → (ran left : Bool) → (ran ≡ true → left ≡ true) → cond ran (cond left (suc n) 0) n ≤ patience
          → Bounded (turn p w entries).world (stretch ++ late) (cond ran (cond left (suc n) 0) n)
          → n + cond ran (suc (run_frames p (turn p w entries).world stretch)) (run_frames p (turn p w entries).world stretch) ≤ patience
      by later true true stays now so = one n (run_frames p (turn p w entries).world stretch) (later (suc n) now so)
      by later true false stays now so = let never = stays refl in absurd (cc never)
      by later false left stays now so = later n low so

  -- ---- chosen turns

  -- the wait of the place, and the bound
  record Waited (w : World) (lists : List (List Entry)) (waits : List ℕ) : Type 0 where
    is : wait_at waits place ≡ held_up w lists 0
    low : held_up w lists 0 ≤ patience
    bounded : Bounded w lists 0

  waited_none : (w : World) → Waited w [] (no_waits p)
  unfolding held_up Bounded
  waited_none w = record { is = none_waits (threads_beside p) place; low = low; bounded = tt }
    where
      low : 0 ≤ patience
      low = omega arith

  -- what one turn more makes of the wait
  waited_one : (w : World) (entries : List Entry) (waits : List ℕ) (polls : List Poll) (n : ℕ) → place < length (threads_beside p)
      → thread ≡ slice_index_or (threads_beside p) place thread
      → IsChosen p (heard_state p w entries) waits (publications entries) polls → wait_at waits place ≡ n → n ≤ patience
      → (wait_at (waited p (heard_state p w entries) waits (publications entries)) place ≡ step w entries n) × (step w entries n ≤ patience)
  unfolding step Must
  waited_one w entries waits polls n there here chosen is low = by (runs (heard_state p w entries)) chosen
    where
      counted : (flies out : Bool) → (flies ≡ true → patience ≤ n → out ≡ true)
          → ((let x : ℕ = elim (flies && not out) [ true ↦ min (wait_at waits place + 1) patience | false ↦ 0 ] in x) ≡ cond (flies && not out) (suc n) 0)
          × (cond (flies && not out) (suc n) 0 ≤ patience)
      counted true true forces = (refl, omega arith)
      counted true false forces = by_wait (nat_lt n patience) refl
        where
          more : n < patience → min (wait_at waits place + 1) patience ≡ suc n
          more short = ap (λ (k : ℕ). min (k + 1) patience) is ∙ up n short
            where
              up : (n : ℕ) → n < patience → min (n + 1) patience ≡ suc n
              up n short = grind (arith, nat_tests, short)

          by_wait : (b : Bool) → nat_lt n patience ≡ b → (min (wait_at waits place + 1) patience ≡ suc n) × (suc n ≤ patience)
          by_wait true e = let short : n < patience = grind (arith, nat_tests, e) in (more short, omega (arith, short))
          by_wait false e = let long : patience ≤ n = grind (arith, nat_tests, e) in let out = forces refl long in absurd (cc out)
      counted false out forces = (refl, omega arith)

      by : (ran : Bool) → (let T : Type 0 = elim ran [ true ↦ Chooses (heard_state p w entries) waits (threads_beside p) (publications entries) polls | false ↦ (publications entries ≡ []) × (polls ≡ []) ] in T)
          → (let waits_now : List ℕ = elim ran [ true ↦ waited_from (heard_state p w entries) waits (publications entries) 0 (threads_beside p) | false ↦ waits ] in
          wait_at waits_now place ≡ cond ran (cond (is_left p w entries place thread) (suc n) 0) n)
          × (cond ran (cond (is_left p w entries place thread) (suc n) 0) n ≤ patience)
      by true so =
          let pays = counted (has_round (heard_state p w entries) place thread) (is_published thread.number (publications entries))
          (λ flies long. (
          subst (λ (t : Thread). is_published t.number (publications entries) ≡ true) (sym here)
          (must (heard_state p w entries) waits (threads_beside p) (publications entries) polls so place thread there
          (subst (λ (t : Thread). has_round (heard_state p w entries) place t ≡ true) here flies)
          (subst (λ (k : ℕ). patience ≤ k) (sym is) long))
          )) in (
            wait_at_place (heard_state p w entries) waits (publications entries) (threads_beside p) place thread there
                ∙ ap (λ (t : Thread). waited_at (heard_state p w entries) waits (publications entries) place t) (sym here) ∙ pays.0,
            pays.1,
          )
      by false so = (is, low)

  waited_all : (w : World) (lists : List (List Entry)) (polls : List Poll) (waits : List ℕ) → place < length (threads_beside p)
      → thread ≡ slice_index_or (threads_beside p) place thread → AreChosen p w lists polls waits → Waited w lists waits
  waited_all w lists polls waits there here no_turn = waited_none w
  waited_all w lists polls waits there here (one_more early first more before entries so chosen) =
      let was = waited_all w early first before there here so in
      let now = waited_one (after_turns p w early) entries before more (held_up w early 0) there here chosen was.is was.low in
      record {
        is = now.0 ∙ held_more w early entries 0;
        low = subst (λ (k : ℕ). k ≤ patience) (held_more w early entries 0) now.1;
        bounded = bounded_more w early entries 0 was.bounded now.1;
      }

pub rounds_bounded : (p : Plan) (w : World) (lists : List (List Entry)) (polls : List Poll) (waits : List ℕ) → AreChosen p w lists polls waits → NoneWaitsLonger p w lists
rounds_bounded p w lists polls waits chosen early stretch late place d all there stays =
    let thread = slice_index_or (threads_beside p) place d in
    let so = waited_all p place thread w lists polls waits there (same_default (threads_beside p) place d there) chosen in
    let behind = bounded_behind p place thread w early (stretch ++ late) 0 (omega arith)
    (subst (λ (ls : List (List Entry)). Bounded p place thread w ls 0) all so.bounded) in
    let most = stretch_bounded p place thread (after_turns p w early) stretch late (held_up p place thread w early 0) behind.1 behind.0 stays in
    omega (arith, most)
  where
    same_default : (xs : List Thread) (k : ℕ) (d : Thread) → k < length xs → slice_index_or xs k d ≡ slice_index_or xs k (slice_index_or xs k d)
    same_default xs k d there = get_or_default xs k d (slice_index_or xs k d) there
