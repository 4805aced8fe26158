-- A run without entries, whose posts are always ready, publishes every round in flight at each run frame.
use Rattle.std.proofs.Common.{◌≡◌, ◌∙◌, List, [], ◌∷◌, ◌++◌, Bool, true, false, not, ◌&&◌, Option, Some, None, ap, append-nil, append_assoc, arith, length, length-append, refl, subst, sym}
use Rattle.std.proofs.Math.Seq.{get_or-append_seam}
use Rattle.std.proofs.lemmas.Bool.{or_from}
use Rattle.std.specs.List.{list_any, slice_index_or}
use Rattle.std.specs.Prelude.{◌||◌, ◌<◌, ℕ, filter, nat_le}
use Rattle.trick_exec_posts.proofs.Threads.{AreFound, found_at}
use Rattle.trick_model.specs.Beside.{find_thread, has_round, is_in_flight}
use Rattle.trick_model.specs.Journal.{is_of_session}
use Rattle.trick_model.specs.Plan.{Plan, threads_beside}
use Rattle.trick_model.specs.Run.{AreSerial, after_turns, all_published, goes_on, has_session_entry, is_over, is_shut, serial_entries}
use Rattle.trick_model.specs.Session.{staying}
use Rattle.trick_model.specs.State.{State, World}
use Rattle.trick_model.specs.Turn.{Hearing, begun, is_frozen, runs, turn}
use Rattle.trick_model.specs.declared.entry.Entry.{Entry}
use Rattle.trick_model.specs.declared.entry.Entry.TheVariants.{Join, Said, Leave, Publish}
use Rattle.trick_model.specs.declared.thread.Thread.{Thread}
use Rattle.trick_post_trays.specs.Posting.{AllReady}
use Rattle.trick_post_work.specs.Polls.{Poll}
use Rattle.trick_exec_meaning.proofs.Goes.{has_one}
use Rattle.trick_exec_meaning.proofs.Idle.{heard_nothing}
use Rattle.trick_exec_meaning.specs.Answers.{answers}
use Rattle.trick_exec_meaning.specs.Rounds.{AreChosen, Chooses, IsChosen, heard_state, idle, no_turn, none, not_yet, one_more, publications, ready, unasked}
use Rattle.trick_exec_sources.specs.Turns.{Answer, AreSilent, has_line}

-- ---- what a silent source gave

no_lines : (entries : List Entry) → filter is_of_session entries ≡ [] → list_any is_of_session entries ≡ false
no_lines [] e = refl
no_lines (Join session ∷ entries) e = cc e
no_lines (Said session line ∷ entries) e = cc e
no_lines (Leave session cause ∷ entries) e = cc e
no_lines (Publish thread ∷ entries) e = no_lines entries e

first_of : (a b : Bool) → (a || b) ≡ false → a ≡ false
first_of true b e = cc e
first_of false b e = refl

second_of : (a b : Bool) → (a || b) ≡ false → b ≡ false
second_of true b e = cc e
second_of false b e = e

-- a source that gave nothing gave no join, no line and no leave
pub given_silent : (p : Plan) (w : World) (lists : List (List Entry)) (last : List Answer) → AreSilent (answers false p w lists ++ last)
    → has_session_entry lists ≡ false
given_silent p w [] last so = refl
given_silent p w (entries ∷ lists) last so =
    or_from (list_any is_of_session entries) (has_session_entry lists) (no_lines entries so.0)
    (given_silent p (turn p w entries).world lists last so.1)

-- all entries are publications then
only_published : (entries : List Entry) → list_any is_of_session entries ≡ false → publications entries ≡ entries
only_published [] e = refl
only_published (Join session ∷ entries) e = cc e
only_published (Said session line ∷ entries) e = cc e
only_published (Leave session cause ∷ entries) e = cc e
only_published (Publish thread ∷ entries) e = ap (λ (es : List Entry). Publish thread ∷ es) (only_published entries e)

-- ---- what was chosen by polls that were ready

ready_early : (early late : List Poll) → AllReady (early ++ late) → AllReady early
ready_early [] late all = tt
ready_early (poll ∷ early) late all = (all.0, ready_early early late all.1)

ready_late : (early late : List Poll) → AllReady (early ++ late) → AllReady late
ready_late [] late all = all
ready_late (poll ∷ early) late all = ready_late early late all.1

by_found : State → Option (ℕ × Thread) → Bool
by_found s found = elim found [ None ↦ false | Some found ↦ has_round s found.0 found.1 ]

choose : Bool → ℕ → List Entry → List Entry
choose b number more = elim b [ true ↦ Publish number ∷ more | false ↦ more ]

chosen_one : (b : Bool) (number : ℕ) (more : List Entry) → b ≡ true → choose b number more ≡ Publish number ∷ more
unfolding choose
chosen_one true number more e = refl
chosen_one false number more e = cc e

chosen_not : (b : Bool) (number : ℕ) (more : List Entry) → b ≡ false → choose b number more ≡ more
unfolding choose
chosen_not true number more e = cc e
chosen_not false number more e = refl

module _ (p : Plan) (found : AreFound (threads_beside p)) (s : State) where
  -- the round of the thread after these
  flies : (before rest : List Thread) (thread : Thread) → threads_beside p ≡ before ++ thread ∷ rest
      → is_in_flight p s thread.number ≡ has_round s (length before) thread
  unfolding by_found
  flies before rest thread all =
      let at : slice_index_or (threads_beside p) (length before) thread ≡ thread =
      ap (λ (ts : List Thread). slice_index_or ts (length before) thread) all ∙ get_or-append_seam before thread rest thread in
      let within : length before < length (threads_beside p) = there in
      let here : find_thread thread.number (threads_beside p) ≡ Some (length before, thread) =
      subst (λ (t : Thread). find_thread t.number (threads_beside p) ≡ Some (length before, t)) at
      (found_at (threads_beside p) found (length before) thread within) in
      ap (by_found s) here
    where
      there : length before < length (threads_beside p)
      there = subst (λ (ts : List Thread). length before < length ts) (sym all) (omega (arith, length-append before (thread ∷ rest)))

  more_of : (before rest : List Thread) (thread : Thread) → threads_beside p ≡ (before ++ thread ∷ []) ++ rest
      → threads_beside p ≡ before ++ thread ∷ rest
  more_of before rest thread all = all ∙ append_assoc before (thread ∷ []) rest

  -- the publication of one thread more
  one_published : (before rest : List Thread) (thread : Thread) (entries : List Entry) → threads_beside p ≡ (before ++ thread ∷ []) ++ rest
      → has_round s (length before) thread ≡ true
      → entries ++ all_published p (thread ∷ rest) s ≡ all_published p (threads_beside p) s
      → (entries ++ Publish thread.number ∷ []) ++ all_published p rest s ≡ all_published p (threads_beside p) s
  unfolding choose
  one_published before rest thread entries all round so =
      append_assoc entries (Publish thread.number ∷ []) (all_published p rest s)
      ∙ ap (λ (es : List Entry). entries ++ es)
      (sym (chosen_one (is_in_flight p s thread.number) thread.number (all_published p rest s) (flies before rest thread (more_of before rest thread all) ∙ round)))
      ∙ so

  none_published : (before rest : List Thread) (thread : Thread) (entries : List Entry) → threads_beside p ≡ (before ++ thread ∷ []) ++ rest
      → has_round s (length before) thread ≡ false
      → entries ++ all_published p (thread ∷ rest) s ≡ all_published p (threads_beside p) s
      → entries ++ all_published p rest s ≡ all_published p (threads_beside p) s
  unfolding choose
  none_published before rest thread entries all round so =
      ap (λ (es : List Entry). entries ++ es)
      (sym (chosen_not (is_in_flight p s thread.number) thread.number (all_published p rest s) (flies before rest thread (more_of before rest thread all) ∙ round)))
      ∙ so

  -- where all polls were ready, all rounds in flight are published
  all_chosen : (waits : List ℕ) (threads : List Thread) (entries : List Entry) (polls : List Poll) → Chooses s waits threads entries polls → AllReady polls
      → (rest : List Thread) → threads_beside p ≡ threads ++ rest → entries ++ all_published p rest s ≡ all_published p (threads_beside p) s
  all_chosen waits threads entries polls none all rest is = ap (λ (ts : List Thread). all_published p ts s) (sym is)
  all_chosen waits threads entries polls (idle before thread es earlier round so) all rest is =
      none_published before rest thread es is round
      (all_chosen waits before es earlier so all (thread ∷ rest) (more_of before rest thread is))
  all_chosen waits threads entries polls (ready before thread es earlier round short so) all rest is =
      one_published before rest thread es is round
      (all_chosen waits before es earlier so (ready_early earlier _ all) (thread ∷ rest) (more_of before rest thread is))
  all_chosen waits threads entries polls (not_yet before thread es earlier round short so) all rest is =
      let never = (ready_late earlier _ all).0 in absurd (cc never)
  all_chosen waits threads entries polls (unasked before thread es earlier round long so) all rest is =
      one_published before rest thread es is round
      (all_chosen waits before es earlier so all (thread ∷ rest) (more_of before rest thread is))

-- ---- the turns of such a run

-- the entries of one turn
turn_serial : (p : Plan) → AreFound (threads_beside p) → (w : World) (entries : List Entry) (waits : List ℕ) (polls : List Poll)
    → list_any is_of_session entries ≡ false → IsChosen p (heard_state p w entries) waits (publications entries) polls → AllReady polls
    → entries ≡ serial_entries p w.state
turn_serial p found w entries waits polls silent chosen all =
    by (runs w.state) (subst (λ (es : List Entry). IsChosen p w.state waits es polls) (only_published entries silent)
    (subst (λ (h : Hearing). IsChosen p h.asking.state waits (publications entries) polls) (heard_nothing p entries (begun w) silent) chosen))
  where
    by : (b : Bool) → (let T : Type 0 = elim b [ true ↦ Chooses w.state waits (threads_beside p) entries polls | false ↦ (entries ≡ []) × (polls ≡ []) ] in T)
        → entries ≡ (let es : List Entry = elim b [ true ↦ all_published p (threads_beside p) w.state | false ↦ [] ] in es)
    by true so =
        sym (append-nil entries)
        ∙ all_chosen p found w.state waits (threads_beside p) entries polls so all [] (sym (append-nil (threads_beside p)))
    by false so = so.0

pub serial_more : (p : Plan) (w : World) (lists : List (List Entry)) (entries : List Entry) → AreSerial p w lists
    → entries ≡ serial_entries p (after_turns p w lists).state → AreSerial p w (lists ++ entries ∷ [])
serial_more p w [] entries so is = (is, tt)
serial_more p w (first ∷ lists) entries so is = (so.0, serial_more p (turn p w first).world lists entries so.1 is)

-- lists without a join, a line or a leave, and the last of them
pub silent_parts : (early : List (List Entry)) (entries : List Entry) → has_session_entry (early ++ entries ∷ []) ≡ false
    → (has_session_entry early ≡ false) × (has_line entries ≡ false)
silent_parts early entries silent =
    let any : (has_session_entry early || (has_line entries || false)) ≡ false = sym (has_one early entries) ∙ silent in (
      first_of (has_session_entry early) (has_line entries || false) any,
      first_of (has_line entries) false (second_of (has_session_entry early) (has_line entries || false) any),
    )

-- where all polls were ready, and no join, line or leave was given, the lists are those without clients
pub all_serial : (p : Plan) → AreFound (threads_beside p) → (w : World) (lists : List (List Entry)) (polls : List Poll) (waits : List ℕ)
    → AreChosen p w lists polls waits → has_session_entry lists ≡ false → AllReady polls → AreSerial p w lists
all_serial p found w lists polls waits no_turn silent all = tt
all_serial p found w lists polls waits (one_more early first more before entries so chosen) silent all =
    let none = silent_parts early entries silent in
    serial_more p w early entries
    (all_serial p found w early first before so none.0 (ready_early first more all))
    (turn_serial p found (after_turns p w early) entries before more none.1 chosen (ready_late first more all))

-- no session joins
pub no_sessions_after : (p : Plan) (w : World) (lists : List (List Entry)) → has_session_entry lists ≡ false → w.sessions ≡ []
    → (after_turns p w lists).sessions ≡ []
no_sessions_after p w [] silent empty = empty
no_sessions_after p w (entries ∷ lists) silent empty =
    let lines : list_any is_of_session entries ≡ false = first_of (list_any is_of_session entries) (has_session_entry lists) silent in
    no_sessions_after p (turn p w entries).world lists (second_of (list_any is_of_session entries) (has_session_entry lists) silent)
    (ap (λ (h : Hearing). staying h.sessions) (heard_nothing p entries (begun w) lines) ∙ ap staying empty)

-- ---- another last turn

-- the publications of a turn without clients are no lines
published_silent : (p : Plan) (s : State) (threads : List Thread) → has_line (all_published p threads s) ≡ false
published_silent p s [] = refl
published_silent p s (thread ∷ threads) = by (is_in_flight p s thread.number) (published_silent p s threads)
  where
    by : (b : Bool) → has_line (all_published p threads s) ≡ false
        → has_line (let es : List Entry = elim b [ true ↦ Publish thread.number ∷ all_published p threads s | false ↦ all_published p threads s ] in es) ≡ false
    by true quiet = quiet
    by false quiet = quiet

pub serial_silent : (p : Plan) (s : State) → has_line (serial_entries p s) ≡ false
serial_silent p s = by (runs s)
  where
    by : (b : Bool) → has_line (let es : List Entry = elim b [ true ↦ all_published p (threads_beside p) s | false ↦ [] ] in es) ≡ false
    by true = published_silent p s (threads_beside p)
    by false = refl

-- whether a run goes on by turns looks at no publication
pub goes_same : (p : Plan) (w : World) (lists : List (List Entry)) (entries other : List Entry) → has_line entries ≡ false → has_line other ≡ false
    → goes_on p w (lists ++ entries ∷ []) ≡ goes_on p w (lists ++ other ∷ [])
goes_same p w [] entries other quiet still =
    ap (λ (b : Bool). not (is_shut w.state.mode || (nat_le w.state.limit w.state.tic || (is_frozen w.state.mode && not (b || false)))) && true) (quiet ∙ sym still)
goes_same p w (first ∷ lists) entries other quiet still =
    let next = (turn p w first).world in
    let same : has_session_entry ((first ∷ lists) ++ entries ∷ []) ≡ has_session_entry ((first ∷ lists) ++ other ∷ []) =
    has_one (first ∷ lists) entries ∙ ap (λ (b : Bool). has_session_entry (first ∷ lists) || (b || false)) (quiet ∙ sym still) ∙ sym (has_one (first ∷ lists) other) in
    ap (λ (b : Bool). not (is_shut w.state.mode || (nat_le w.state.limit w.state.tic || (is_frozen w.state.mode && not b))) && goes_on p next (lists ++ entries ∷ [])) same
    ∙ ap (λ (b : Bool). not (is_over w.state ((first ∷ lists) ++ other ∷ [])) && b) (goes_same p next lists entries other quiet still)
