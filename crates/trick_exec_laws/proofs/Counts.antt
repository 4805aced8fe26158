-- As many rounds are left unpublished as polls found not ready.
use Rattle.std.proofs.Common.{◌≡◌, ◌∙◌, ℕ, suc, ◌+◌, ◌<◌, List, [], ◌∷◌, ◌++◌, Bool, true, false, not, ◌&&◌, ◌==◌, Option, Some, None, ap, append-nil, append_assoc, arith, cond, length, length-append, refl, subst, sym}
use Rattle.std.proofs.Math.Seq.{get_or-append_seam}
use Rattle.std.proofs.lemmas.Bool.Decides.{nat_tests}
use Rattle.std.proofs.lemmas.Bool.{and_left, eq-eqb, or_from, or_right}
use Rattle.std.proofs.lemmas.List.Folds.{list_any-append}
use Rattle.std.specs.List.{slice_index_or}
use Rattle.std.specs.Prelude.{◌||◌}
use Rattle.trick_exec_posts.proofs.Threads.{AreFound, beside_found, found_at}
use Rattle.trick_model.specs.Beside.{find_thread, has_round, one_later}
use Rattle.trick_model.specs.Plan.{Plan, threads_beside}
use Rattle.trick_model.specs.PlanOf.{plan_of}
use Rattle.trick_model.specs.Run.{after_turns}
use Rattle.trick_model.specs.State.{State, World}
use Rattle.trick_model.specs.Turn.{runs, turn}
use Rattle.trick_model.specs.declared.entry.Entry.{Entry}
use Rattle.trick_model.specs.declared.entry.Entry.TheVariants.{Publish}
use Rattle.trick_model.specs.declared.plan.Plan.{Plan as PlanValue}
use Rattle.trick_model.specs.declared.thread.Thread.{Thread}
use Rattle.trick_post_work.specs.Polls.{Poll, is_ready, not_ready}
use Rattle.trick_exec_laws.specs.Counted.{left_among, left_by, left_in}
use Rattle.trick_exec_meaning.specs.Rounds.{AreChosen, Chooses, IsChosen, heard_state, idle, is_publication_of, is_published, no_turn, none, not_yet, one_more, publications, ready, unasked}

-- ---- threads of other numbers

-- No thread has this number.
abbrev NotAmong : ℕ → List Thread → Type 0
NotAmong number [] = Unit {0}
NotAmong number (thread ∷ threads) = ((thread.number == number) ≡ false) × NotAmong number threads

abbrev place_or : ℕ → Option (ℕ × Thread) → ℕ
place_or n None = n
place_or n (Some found) = found.0

abbrev thread_or : Thread → Option (ℕ × Thread) → Thread
thread_or t None = t
thread_or t (Some found) = found.1

-- what is found one place later was found
later_found : (found : Option (ℕ × Thread)) (place : ℕ) (thread : Thread) → one_later found ≡ Some (suc place, thread) → found ≡ Some (place, thread)
later_found None place thread e = cc e
later_found (Some found) place thread e =
    ap (λ (n : ℕ). Some (n, found.1)) (same found.0 place (ap (place_or 0) e)) ∙ ap (λ (t : Thread). Some (place, t)) (ap (thread_or thread) e)
  where
    same : (a b : ℕ) → suc a ≡ suc b → a ≡ b
    same a b h = omega (arith, h)

behind_others : (number : ℕ) (before rest : List Thread) (thread : Thread) → find_thread number (before ++ thread ∷ rest) ≡ Some (length before, thread) → NotAmong number before
behind_others number [] rest thread e = tt
behind_others number (first ∷ before) rest thread e =
    by (λ later. behind_others number before rest thread later) (first.number == number) refl e
  where
    by : (find_thread number (before ++ thread ∷ rest) ≡ Some (length before, thread) → NotAmong number before)
        → (b : Bool) → (first.number == number) ≡ b
        → (let f : Option (ℕ × Thread) = elim b [ true ↦ Some (0, first) | false ↦ one_later (find_thread number (before ++ thread ∷ rest)) ] in f
        ≡ Some (length (first ∷ before), thread))
        → ((first.number == number) ≡ false) × NotAmong number before
    by more true e f = let zero_is : 0 ≡ length (first ∷ before) = ap (place_or 0) f in absurd (omega (arith, zero_is))
    by more false e f = (e, more (later_found (find_thread number (before ++ thread ∷ rest)) (length before) thread f))

early : (number : ℕ) (before : List Thread) (thread : Thread) → NotAmong number (before ++ thread ∷ []) → NotAmong number before
early number [] thread so = tt
early number (first ∷ before) thread so = (so.0, early number before thread so.1)

last : (number : ℕ) (before : List Thread) (thread : Thread) → NotAmong number (before ++ thread ∷ []) → (thread.number == number) ≡ false
last number [] thread so = so.0
last number (first ∷ before) thread so = last number before thread so.1

-- a publication of another thread more
one_other : (number : ℕ) (entries : List Entry) (thread : Thread) → is_published number entries ≡ false → (thread.number == number) ≡ false
    → is_published number (entries ++ Publish thread.number ∷ []) ≡ false
one_other number entries thread so other =
    list_any-append (is_publication_of number) entries (Publish thread.number ∷ [])
    ∙ or_from (is_published number entries) ((thread.number == number) || false) so (or_from (thread.number == number) false other refl)

-- what was chosen of threads publishes no other
not_published : (s : State) (waits : List ℕ) (number : ℕ) (threads : List Thread) (entries : List Entry) (polls : List Poll)
    → Chooses s waits threads entries polls → NotAmong number threads → is_published number entries ≡ false
not_published s waits number threads entries polls none apart = refl
not_published s waits number threads entries polls (idle before thread es earlier round so) apart =
    not_published s waits number before es earlier so (early number before thread apart)
not_published s waits number threads entries polls (ready before thread es earlier round short so) apart =
    one_other number es thread (not_published s waits number before es earlier so (early number before thread apart)) (last number before thread apart)
not_published s waits number threads entries polls (not_yet before thread es earlier round short so) apart =
    not_published s waits number before es earlier so (early number before thread apart)
not_published s waits number threads entries polls (unasked before thread es earlier round long so) apart =
    one_other number es thread (not_published s waits number before es earlier so (early number before thread apart)) (last number before thread apart)

-- ---- rounds that are left

or_same : (a b : Bool) → b ≡ false → (a || b) ≡ a
or_same true b e = refl
or_same false b e = e

-- a publication of another thread leaves the others as they were
left_same : (s : State) (entries : List Entry) (number place : ℕ) (threads : List Thread) → NotAmong number threads
    → left_among s (entries ++ Publish number ∷ []) place threads ≡ left_among s entries place threads
left_same s entries number place [] apart = refl
left_same s entries number place (thread ∷ threads) apart =
    let more = left_same s entries number (place + 1) threads apart.1 in
    let same : is_published thread.number (entries ++ Publish number ∷ []) ≡ is_published thread.number entries =
    list_any-append (is_publication_of thread.number) entries (Publish number ∷ [])
    ∙ or_same (is_published thread.number entries) ((number == thread.number) || false) (or_from (number == thread.number) false (turned thread.number number apart.0) refl) in
    ap (λ (b : Bool). cond (has_round s place thread && not b) (suc (left_among s (entries ++ Publish number ∷ []) (place + 1) threads))
    (left_among s (entries ++ Publish number ∷ []) (place + 1) threads)) same
    ∙ ap (λ (n : ℕ). cond (has_round s place thread && not (is_published thread.number entries)) (suc n) n) more
  where
    turned : (a b : ℕ) → (a == b) ≡ false → (b == a) ≡ false
    turned a b e = grind (arith, nat_tests, e)

-- one thread more
left_snoc : (s : State) (entries : List Entry) (place : ℕ) (threads : List Thread) (thread : Thread)
    → left_among s entries place (threads ++ thread ∷ [])
    ≡ left_among s entries place threads + cond (has_round s (place + length threads) thread && not (is_published thread.number entries)) 1 0
left_snoc s entries place [] thread =
    ap (λ (n : ℕ). cond (has_round s n thread && not (is_published thread.number entries)) 1 0) (at place)
    ∙ sym (from_zero (cond (has_round s (place + 0) thread && not (is_published thread.number entries)) 1 0))
  where
    at : (n : ℕ) → n ≡ n + 0
    at n = omega arith

    from_zero : (n : ℕ) → 0 + n ≡ n
    from_zero n = omega arith
left_snoc s entries place (first ∷ threads) thread =
    let more = left_snoc s entries (place + 1) threads thread in
    let same : (place + 1) + length threads ≡ place + length (first ∷ threads) = omega arith in
    ap (λ (n : ℕ). cond (has_round s place first && not (is_published first.number entries)) (suc n) n)
    (more ∙ ap (λ (n : ℕ). left_among s entries (place + 1) threads + cond (has_round s n thread && not (is_published thread.number entries)) 1 0) same)
    ∙ moved (has_round s place first && not (is_published first.number entries)) (left_among s entries (place + 1) threads)
    (cond (has_round s (place + length (first ∷ threads)) thread && not (is_published thread.number entries)) 1 0)
  where
    moved : (b : Bool) (n m : ℕ) → cond b (suc (n + m)) (n + m) ≡ cond b (suc n) n + m
    moved true n m = omega arith
    moved false n m = refl

ready_more : (early late : List Poll) → not_ready (early ++ late) ≡ not_ready early + not_ready late
ready_more [] late = from_zero (not_ready late)
  where
    from_zero : (n : ℕ) → n ≡ 0 + n
    from_zero n = omega arith
ready_more (poll ∷ early) late =
    ap (λ (n : ℕ). cond (is_ready poll.answer) n (suc n)) (ready_more early late)
    ∙ moved (is_ready poll.answer) (not_ready early) (not_ready late)
  where
    moved : (b : Bool) (n m : ℕ) → cond b (n + m) (suc (n + m)) ≡ cond b n (suc n) + m
    moved true n m = refl
    moved false n m = omega arith

no_more : (a b : Bool) → b ≡ true → (a && not b) ≡ false
no_more true true e = refl
no_more false b e = refl
no_more true false e = cc e

module _ (p : Plan) (found : AreFound (threads_beside p)) (s : State) (waits : List ℕ) where
  -- the numbers of the threads before one are others
  apart_of : (before rest : List Thread) (thread : Thread) → threads_beside p ≡ (before ++ thread ∷ []) ++ rest → NotAmong thread.number before
  apart_of before rest thread all =
      let is : threads_beside p ≡ before ++ thread ∷ rest = all ∙ append_assoc before (thread ∷ []) rest in
      let at : slice_index_or (threads_beside p) (length before) thread ≡ thread =
      ap (λ (ts : List Thread). slice_index_or ts (length before) thread) is ∙ get_or-append_seam before thread rest thread in
      let within : length before < length (threads_beside p) =
      subst (λ (ts : List Thread). length before < length ts) (sym is) (omega (arith, length-append before (thread ∷ rest))) in
      let here : find_thread thread.number (threads_beside p) ≡ Some (length before, thread) =
      subst (λ (t : Thread). find_thread t.number (threads_beside p) ≡ Some (length before, t)) at
      (found_at (threads_beside p) found (length before) thread within) in
      behind_others thread.number before rest thread (ap (find_thread thread.number) (sym is) ∙ here)

  -- one thread more, of which the round is left or not
  one_thread : (before : List Thread) (thread : Thread) (entries : List Entry) (n : ℕ) (b : Bool) → left_among s entries 0 before ≡ n
      → (has_round s (length before) thread && not (is_published thread.number entries)) ≡ b
      → left_among s entries 0 (before ++ thread ∷ []) ≡ n + cond b 1 0
  one_thread before thread entries n b so is =
      left_snoc s entries 0 before thread
      ∙ ap (λ (k : ℕ). left_among s entries 0 before + cond (has_round s k thread && not (is_published thread.number entries)) 1 0) (from_zero (length before))
      ∙ ap (λ (t : Bool). left_among s entries 0 before + cond t 1 0) is ∙ ap (λ (k : ℕ). k + cond b 1 0) so
    where
      from_zero : (n : ℕ) → 0 + n ≡ n
      from_zero n = omega arith

  -- the same where it is published
  one_published : (before : List Thread) (thread : Thread) (entries : List Entry) (n : ℕ) → NotAmong thread.number before → left_among s entries 0 before ≡ n
      → left_among s (entries ++ Publish thread.number ∷ []) 0 (before ++ thread ∷ []) ≡ n
  one_published before thread entries n apart so =
      one_thread before thread (entries ++ Publish thread.number ∷ []) n false (left_same s entries thread.number 0 before apart ∙ so)
      (no_more (has_round s (length before) thread) (is_published thread.number (entries ++ Publish thread.number ∷ [])) out)
      ∙ at n
    where
      at : (n : ℕ) → n + 0 ≡ n
      at n = omega arith

      out : is_published thread.number (entries ++ Publish thread.number ∷ []) ≡ true
      out =
          list_any-append (is_publication_of thread.number) entries (Publish thread.number ∷ [])
          ∙ or_right (is_published thread.number entries) ((thread.number == thread.number) || false)
          (ap (λ (b : Bool). b || false) (eq-eqb thread.number thread.number refl))

  left_chosen : (threads : List Thread) (entries : List Entry) (polls : List Poll) → Chooses s waits threads entries polls
      → (rest : List Thread) → threads_beside p ≡ threads ++ rest → left_among s entries 0 threads ≡ not_ready polls
  left_chosen threads entries polls none rest all = refl
  left_chosen threads entries polls (idle before thread es earlier round so) rest all =
      one_thread before thread es (not_ready earlier) false (left_chosen before es earlier so (thread ∷ rest) (all ∙ append_assoc before (thread ∷ []) rest))
      (and_left (has_round s (length before) thread) (not (is_published thread.number es)) round)
      ∙ none_more (not_ready earlier)
    where
      none_more : (n : ℕ) → n + 0 ≡ n
      none_more n = omega arith
  left_chosen threads entries polls (ready before thread es earlier round short so) rest all =
      one_published before thread es (not_ready earlier) (apart_of before rest thread all)
      (left_chosen before es earlier so (thread ∷ rest) (all ∙ append_assoc before (thread ∷ []) rest))
      ∙ none_more (not_ready earlier) ∙ sym (ready_more earlier _)
    where
      none_more : (n : ℕ) → n ≡ n + 0
      none_more n = omega arith
  left_chosen threads entries polls (not_yet before thread es earlier round short so) rest all =
      one_thread before thread es (not_ready earlier) true (left_chosen before es earlier so (thread ∷ rest) (all ∙ append_assoc before (thread ∷ []) rest))
      (both (has_round s (length before) thread) (is_published thread.number es) round
      (not_published s waits thread.number before es earlier so (apart_of before rest thread all)))
      ∙ sym (ready_more earlier _)
    where
      both : (a b : Bool) → a ≡ true → b ≡ false → (a && not b) ≡ true
      both true true e f = cc f
      both true false e f = refl
      both false b e f = cc e
  left_chosen threads entries polls (unasked before thread es earlier round long so) rest all =
      one_published before thread es (not_ready earlier) (apart_of before rest thread all)
      (left_chosen before es earlier so (thread ∷ rest) (all ∙ append_assoc before (thread ∷ []) rest))

-- ---- turns

left_turn : (p : Plan) → AreFound (threads_beside p) → (w : World) (entries : List Entry) (waits : List ℕ) (polls : List Poll)
    → IsChosen p (heard_state p w entries) waits (publications entries) polls → left_in p w entries ≡ not_ready polls
left_turn p found w entries waits polls chosen = by (runs (heard_state p w entries)) chosen
  where
    by : (b : Bool) → (let T : Type 0 = elim b [ true ↦ Chooses (heard_state p w entries) waits (threads_beside p) (publications entries) polls | false ↦ (publications entries ≡ []) × (polls ≡ []) ] in T)
        → cond b (left_among (heard_state p w entries) (publications entries) 0 (threads_beside p)) 0 ≡ not_ready polls
    by true so = left_chosen p found (heard_state p w entries) waits (threads_beside p) (publications entries) polls so [] (sym (append-nil (threads_beside p)))
    by false so = sym (ap not_ready so.1)

left_more : (p : Plan) (w : World) (lists : List (List Entry)) (entries : List Entry)
    → left_by p w (lists ++ entries ∷ []) ≡ left_by p w lists + left_in p (after_turns p w lists) entries
left_more p w [] entries = swapped (left_in p w entries)
  where
    swapped : (n : ℕ) → n + 0 ≡ 0 + n
    swapped n = omega arith
left_more p w (first ∷ lists) entries =
    ap (λ (n : ℕ). left_in p w first + n) (left_more p (turn p w first).world lists entries)
    ∙ moved (left_in p w first) (left_by p (turn p w first).world lists) (left_in p (after_turns p (turn p w first).world lists) entries)
  where
    moved : (a b c : ℕ) → a + (b + c) ≡ (a + b) + c
    moved a b c = omega arith

left_all : (p : Plan) → AreFound (threads_beside p) → (w : World) (lists : List (List Entry)) (polls : List Poll) (waits : List ℕ)
    → AreChosen p w lists polls waits → left_by p w lists ≡ not_ready polls
left_all p found w lists polls waits no_turn = refl
left_all p found w lists polls waits (one_more earlier first more before entries so chosen) =
    left_more p w earlier entries
    ∙ ap (λ (n : ℕ). n + left_in p (after_turns p w earlier) entries) (left_all p found w earlier first before so)
    ∙ ap (λ (n : ℕ). not_ready first + n) (left_turn p found (after_turns p w earlier) entries before more chosen)
    ∙ sym (ready_more first more)

pub left_counted : (plan : PlanValue) (w : World) (lists : List (List Entry)) (polls : List Poll) (waits : List ℕ)
    → AreChosen (plan_of plan) w lists polls waits → left_by (plan_of plan) w lists ≡ not_ready polls
left_counted plan w lists polls waits chosen = left_all (plan_of plan) (beside_found plan) w lists polls waits chosen
