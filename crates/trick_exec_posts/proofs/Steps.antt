-- What the step of a thread makes of a state, and threads one after another.
use Rattle.std.proofs.Common.{◌≡◌, ◌≢◌, ◌∙◌, ℕ, ◌+◌, ◌<◌, ◌≤◌, ℤ, Bool, true, false, List, ap, drop, length, refl, sym}
use Rattle.std.proofs.lemmas.List.{drop_all, drop_more, get_or-set_other, get_or-set_same}
use Rattle.std.specs.List.{slice_index_or}
use Rattle.std.specs.Prelude.{slice_set}
use Rattle.trick_model.specs.Beside.{each_thread, ends_at, publish, published, take, taken_from, where_ends}
use Rattle.trick_model.specs.FaultList.{FaultList, with_faults}
use Rattle.trick_model.specs.Plan.{Plan}
use Rattle.trick_model.specs.Running.{After, settled}
use Rattle.trick_model.specs.State.{State, nothing_taken, taken_at}
use Rattle.trick_model.specs.declared.taken.Taken.{Taken}
use Rattle.trick_model.specs.declared.thread.Thread.{Thread}

-- a fact of a choice, from that of each side
pub either : (P : State → Type 0) (b : Bool) (x y : State) → (b ≡ true → P x) → (b ≡ false → P y) → P (elim b [ true ↦ x | false ↦ y ])
either P true x y one other = one refl
either P false x y one other = other refl

pub first_of : (b : Bool) (x y : State) → b ≡ true → x ≡ elim b [ true ↦ x | false ↦ y ]
first_of true x y e = refl
first_of false x y e = cc e

pub second_of : (b : Bool) (x y : State) → b ≡ false → y ≡ elim b [ true ↦ x | false ↦ y ]
second_of true x y e = cc e
second_of false x y e = refl

-- ---- publishing

-- the state after what was published
after_publish : ℕ → After → State → State
after_publish place after s = let done = settled after s in record done { taken = slice_set s.taken place nothing_taken }

-- where something is held
pub publish_held : (p : Plan) (place : ℕ) (thread : Thread) (tic : ℕ) (s : State) (after : After) (memory : List ℤ) (faults : FaultList) (taken : List Taken)
    → (taken_at s place).held ≡ true → after ≡ published p thread s.jobs tic (taken_at s place) s.memory
    → memory ≡ after.memory → faults ≡ with_faults after.faults s.faults → taken ≡ slice_set s.taken place nothing_taken
    → record s { memory = memory; faults = faults; taken = taken } ≡ publish p place thread tic s
unfolding after_publish
publish_held p place thread tic s after memory faults taken held is same more emptied =
    let own = published p thread s.jobs tic (taken_at s place) s.memory in
    ap (λ (m : List ℤ). record s { memory = m; faults = faults; taken = taken }) same
    ∙ ap (λ (f : FaultList). record s { memory = after.memory; faults = f; taken = taken }) more
    ∙ ap (λ (t : List Taken). record s { memory = after.memory; faults = with_faults after.faults s.faults; taken = t }) emptied
    ∙ ap (λ (a : After). after_publish place a s) is
    ∙ first_of (taken_at s place).held (after_publish place own s) s held

-- where nothing is held
pub publish_none : (p : Plan) (place : ℕ) (thread : Thread) (tic : ℕ) (s : State) → (taken_at s place).held ≡ false → s ≡ publish p place thread tic s
unfolding after_publish
publish_none p place thread tic s none =
    let own = published p thread s.jobs tic (taken_at s place) s.memory in
    second_of (taken_at s place).held (after_publish place own s) s none

-- A thread that has published holds nothing.
pub publish_empties : (p : Plan) (place : ℕ) (thread : Thread) (tic : ℕ) (s : State) → place < length s.taken
    → (taken_at (publish p place thread tic s) place).held ≡ false
unfolding after_publish
publish_empties p place thread tic s there =
    let own = published p thread s.jobs tic (taken_at s place) s.memory in
    either (λ (t : State). (taken_at t place).held ≡ false) (taken_at s place).held (after_publish place own s) s
    (λ held. ap (λ (t : Taken). t.held) (get_or-set_same s.taken place nothing_taken nothing_taken there)) (λ none. none)

-- The records of others stay.
pub publish_others : (p : Plan) (place other : ℕ) (thread : Thread) (tic : ℕ) (s : State) → other ≢ place
    → taken_at (publish p place thread tic s) other ≡ taken_at s other
unfolding after_publish
publish_others p place other thread tic s apart =
    let own = published p thread s.jobs tic (taken_at s place) s.memory in
    either (λ (t : State). taken_at t other ≡ taken_at s other) (taken_at s place).held (after_publish place own s) s
    (λ held. get_or-set_other s.taken place other nothing_taken nothing_taken apart) (λ none. refl)

pub publish_tic : (p : Plan) (place : ℕ) (thread : Thread) (tic : ℕ) (s : State) → (publish p place thread tic s).tic ≡ s.tic
unfolding after_publish
publish_tic p place thread tic s =
    let own = published p thread s.jobs tic (taken_at s place) s.memory in
    either (λ (t : State). t.tic ≡ s.tic) (taken_at s place).held (after_publish place own s) s (λ held. refl) (λ none. refl)

-- ---- taking

pub take_others : (p : Plan) (place other : ℕ) (thread : Thread) (s : State) → other ≢ place → taken_at (take p place thread s) other ≡ taken_at s other
take_others p place other thread s apart = get_or-set_other s.taken place other (taken_from p thread s) nothing_taken apart

-- ---- where cycles end

pub step_ends : (step : ℕ → Thread → State → State) (tic place : ℕ) (thread : Thread) (s next : State) → ends_at tic thread ≡ true
    → next ≡ step place thread s → next ≡ where_ends step tic place thread s
step_ends step tic place thread s next ends is = is ∙ first_of (ends_at tic thread) (step place thread s) s ends

pub step_goes : (step : ℕ → Thread → State → State) (tic place : ℕ) (thread : Thread) (s : State) → ends_at tic thread ≡ false
    → s ≡ where_ends step tic place thread s
step_goes step tic place thread s goes = second_of (ends_at tic thread) (step place thread s) s goes

-- ---- threads one after another

pub one_more : (step : ℕ → Thread → State → State) (threads : List Thread) (k : ℕ) (d : Thread) (now next whole : State) → k < length threads
    → next ≡ step k (slice_index_or threads k d) now → each_thread step k (drop k threads) now ≡ whole
    → each_thread step (k + 1) (drop (k + 1) threads) next ≡ whole
one_more step threads k d now next whole there is left =
    ap (each_thread step (k + 1) (drop (k + 1) threads)) is
    ∙ sym (ap (λ (ts : List Thread). each_thread step k ts now) (drop_more threads k d there)) ∙ left

pub none_left : (step : ℕ → Thread → State → State) (threads : List Thread) (k : ℕ) (now whole : State) → length threads ≤ k
    → each_thread step k (drop k threads) now ≡ whole → now ≡ whole
none_left step threads k now whole past left = sym (ap (λ (ts : List Thread). each_thread step k ts now) (drop_all k threads past)) ∙ left
