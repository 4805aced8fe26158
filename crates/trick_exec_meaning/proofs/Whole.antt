-- A run: its first files, its turns, and its last files.
use Rattle.std.proofs.Common.{◌≡◌, ◌∙◌, ℕ, List, [], ◌++◌, Bool, true, false, Err, IsOk, Some, None, ap, append-nil, append_assoc, arith, inl, inr, refl, subst, sym}
use Rattle.std.proofs.lemmas.Bool.Decides.{nat_tests}
use Rattle.std.specs.FinMap.{get}
use Rattle.std.specs.Prelude.{◌≢◌, ◌==◌, cond, Option, Result, IsErrOf, IsTrue}
use Rattle.trick_base.proofs.ContentLemmas.{get-all_written}
use Rattle.trick_base.specs.Content.{content}
use Rattle.trick_base.specs.Files.{Files, Write, all_written}
use Rattle.trick_model.specs.Files.{end_writes, run_writes, start_writes, turns_said, turns_writes}
use Rattle.trick_model.specs.Plan.{Plan}
use Rattle.trick_model.specs.Run.{final, is_over, opened, shut}
use Rattle.trick_model.specs.Session.{Message}
use Rattle.trick_model.specs.State.{State, World}
use Rattle.trick_model.specs.declared.entry.Entry.{Entry}
use Rattle.trick_outside.proofs.DoesLemmas.{does_fail, does_ok, does_then}
use Rattle.trick_outside.proofs.WriteLemmas.{does_all}
use Rattle.trick_outside.specs.Calls.{Call}
use Rattle.trick_outside.specs.Does.{Does}
use Rattle.trick_outside.specs.declared.shelf.Shelf.{Ghosts}
use Rattle.trick_outside.specs.declared.stop.Stop.TheVariants.{Shelf}
use Rattle.trick_outside.specs.declared.stop.Stop.{Stop}
use Rattle.trick_exec_meaning.proofs.DidLemmas.{did_err, did_none, did_of, did_then}
use Rattle.trick_exec_meaning.proofs.Ending.{asks_behind}
use Rattle.trick_exec_meaning.proofs.Goes.{follows_lasts, goes_paid}
use Rattle.trick_exec_meaning.proofs.Going.{Laws, PollsJoin, asks_nothing}
use Rattle.trick_exec_meaning.proofs.StopLemmas.{chose_behind, chose_from, parts_of, stops_behind}
use Rattle.trick_exec_tic.proofs.Doing.{fine}
use Rattle.trick_exec_tic.proofs.StepLemmas.{all_done, steps_of-append, writes_of-steps_of}
use Rattle.trick_exec_meaning.specs.Answers.{answers}
use Rattle.trick_exec_meaning.specs.Follows.{EndsElsewhere}
use Rattle.trick_exec_meaning.specs.Goes.{left_of}
use Rattle.trick_exec_meaning.specs.Hosts.{Hosts, Place, at}
use Rattle.trick_exec_meaning.specs.Over.{AreOver, AreShort, AreStopped}
use Rattle.trick_exec_meaning.specs.Chosen.{AreAsked, ChoseTo, of_all}
use Rattle.trick_exec_meaning.specs.Rounds.{AreChosen, no_turn, no_waits}
use Rattle.trick_exec_meaning.specs.Ran.{Missed, Ran, Stopped, last_answer, writes_so_far}
use Rattle.trick_exec_meaning.specs.Stops as place
use Rattle.trick_exec_meaning.specs.Stops.{StopsAt}
use Rattle.trick_exec_tic.specs.Steps.{steps_of}
use Rattle.trick_exec_sources.specs.Turns.{Answer, EndsAt, Told}

-- the calls of a run, part by part
whole : (p : Plan) (s : State) (lists : List (List Entry))
    → steps_of (run_writes p s lists)
    ≡ steps_of (start_writes p s.turn) ++ (steps_of (turns_writes p (opened s) lists) ++ steps_of (end_writes p (final p s lists)))
whole p s lists =
    let first = start_writes p s.turn in
    let turns = turns_writes p (opened s) lists in
    let last = end_writes p (final p s lists) in
    steps_of-append (first ++ turns) last
    ∙ ap (λ c. c ++ steps_of last) (steps_of-append first turns)
    ∙ append_assoc (steps_of first) (steps_of turns) (steps_of last)

-- what the shelf holds of writes that were done, where it tells
files_made : {S T : Type 0} {shelf : Ghosts S} {old new : S} {result : Result T Stop} (writes : List Write)
    → Does shelf old new result (steps_of writes) → IsOk result → (before : Files) → shelf.holds old ≡ Some before
    → (now : Files) × (shelf.holds new ≡ Some now) × ((name : List ℕ) → get now name ≡ content name writes (get before name))
files_made writes did ok before told = (
  all_written writes before,
  does_all did (all_done writes) ok before told ∙ ap (λ (w : List Write). Some (all_written w before)) (writes_of-steps_of writes),
  λ name. get-all_written name writes before,
)

same_turn : (told : Told) (turn : ℕ) → EndsAt turn (Some told) None → turn ≡ told.end
same_turn told turn ends = by (turn == told.end) refl ends
  where
    meets : (turn == told.end) ≡ true → turn ≡ told.end
    meets e = grind (arith, nat_tests)

    by : (b : Bool) → (turn == told.end) ≡ b → (let o : Option (ℕ × ℕ) = None in o ≡ cond b None (Some (told.end, turn))) → turn ≡ told.end
    by true e same = meets e
    by false e same = cc

abbrev numbers : Option (ℕ × ℕ) → ℕ × ℕ
numbers None = (0, 0)
numbers (Some x) = x

other_turn : (told : Told) (turn kept given : ℕ) → EndsAt turn (Some told) (Some (kept, given)) → (kept ≡ told.end) × (turn ≢ told.end) × (given ≡ turn)
other_turn told turn kept given ends = by (turn == told.end) refl ends
  where
    differs : (turn == told.end) ≡ false → turn ≢ told.end
    differs e = grind (arith, nat_tests)

    by : (b : Bool) → (turn == told.end) ≡ b → (let o : Option (ℕ × ℕ) = Some (kept, given) in o ≡ cond b None (Some (told.end, turn)))
        → (kept ≡ told.end) × (turn ≢ told.end) × (given ≡ turn)
    by true e same = cc
    by false e same = (ap (λ o. (numbers o).0) same, differs e, ap (λ o. (numbers o).1) same)

module _ {S U M Q : Type 0} (h : Hosts S U M Q) (laws : Laws h) (p : Plan) (start : State) where
  -- the last answers, and then nothing more
  last_given : (mid over end : U) (last : List Answer) → h.turns.went mid last [] over → h.turns.went over [] [] end
      → h.turns.went mid last [] end
  last_given mid over end last step went =
      subst (λ (a : List Answer). h.turns.went mid a [] end) (append-nil last) (laws.turns mid over end last [] [] [] step went)

  -- all of a run
  pub ran : {A B : Type 0} {old : Place S U Q} {mid new : S} {end : U} {over : Place S U Q} {begun : Result A Stop} {ended : Result B Stop} {w : World} {lists : List (List Entry)}
      (last : State) → Does h.shelf old.shelf mid begun (steps_of (start_writes p start.turn)) → IsOk begun
      → AreOver h p start (at mid old.turns old.posts) over w lists
      → h.turns.went over.turns [] [] end → EndsAt w.state.turn (h.turns.journal over.turns) None
      → last ≡ shut p w.state → Does h.shelf over.shelf new ended (steps_of (end_writes p last)) → IsOk ended
      → Ran h p start lists old (at new end over.posts)
  ran {old = old} {mid = mid} {new = new} {end = end} {over = over} {w = w} {lists = lists} last begun ok turns went ends is ended all =
      let d = h.turns.decided old.turns in
      let final_is : last ≡ final p start lists = is ∙ ap (λ (v : World). shut p v.state) turns.is in
      let wrote : Does h.shelf over.shelf new fine (steps_of (end_writes p (final p start lists))) =
      subst (λ (s : State). Does h.shelf over.shelf new fine (steps_of (end_writes p s))) final_is (does_ok (tt {0}) ended all) in
      let did : Does h.shelf old.shelf new fine (steps_of (run_writes p start lists)) =
      subst (λ calls. Does h.shelf old.shelf new fine calls) (sym (whole p start lists))
      (does_then laws.shelf begun ok (does_then laws.shelf turns.does refl wrote)) in
      let given = answers d p (opened start) lists ++ last_answer w in
      let said = turns_said p (opened start) lists in
      record {
        fits = turns.fits;
        done = record {
          step = subst (λ (v : World). h.turns.went old.turns (answers d p (opened start) lists ++ last_answer v) said end) turns.is
              (subst (λ (a : List Answer). h.turns.went old.turns a said end) (append-nil given)
              (subst (λ (m : List Message). h.turns.went old.turns (given ++ []) m end) (append-nil said)
              (laws.turns old.turns over.turns end given [] said [] turns.done.step went)));
          handed = (let so = turns.done.handed in (
            so.0,
            so.1,
            subst (λ (v : World). h.turns.went so.0 (last_answer v) [] end) turns.is
                (last_given so.0 over.turns end (last_answer w) so.2 went),
          ));
          rules = turns.done.rules;
          asks = turns.done.asks;
        };
        told = λ decides told tells. (let so = turns.told decides told tells in (
          so.0,
          follows_lasts p (opened start) told lists so.0 (subst (λ (v : World). IsTrue (is_over v.state (left_of lists told.lists))) turns.is so.1),
          ap (λ (v : World). v.state.turn) (sym turns.is)
              ∙ same_turn (record told { lists = left_of lists told.lists }) w.state.turn (subst (λ (o : Option Told). EndsAt w.state.turn o None) so.2 ends),
        ));
        does = did;
        files = λ before holds. files_made (run_writes p start lists) did refl before holds;
      }

  -- ---- a stop

  -- before the first turn nothing is chosen
  none_chosen : (d : Bool) (q : Q) → h.posts.asked q [] q → AreAsked h.posts d p start [] q q
  none_chosen d q unasked =
      asks_nothing h.posts d q (λ polls. (waits : List ℕ) × AreChosen p (opened start) [] polls waits) unasked (no_waits p, no_turn)

  -- it stopped before its first turn
  pub stopped_first : {A T : Type 0} {old : Place S U Q} {new : S} {begun : Result A Stop} (result : Result T Stop) (e f : Stop)
      → h.turns.went old.turns [] [] old.turns → h.posts.asked old.posts [] old.posts
      → Does h.shelf old.shelf new begun (steps_of (start_writes p start.turn)) → begun ≡ Err e → result ≡ Err f → f ≡ e
      → Stopped h p start [] old (at new old.turns old.posts) result
  stopped_first {old = old} result e f nothing unasked did at_first is same =
      let rest = steps_of (turns_writes p (opened start) []) ++ steps_of (end_writes p (final p start [])) in
      let all = did_of (sym (whole p start [])) (did_err result e f rest did at_first is same) in
      record {
        owed = false;
        goes = refl;
        follows = λ decides told tells. tt;
        rules = refl;
        does = all.0;
        last = [];
        asked = inl refl;
        sent = [];
        unsent = [];
        handed = refl;
        step = nothing;
        stops = subst (λ (calls : List Call). StopsAt p start (start_writes p start.turn) [] calls []) (sym all.1) (place.before did.calls did.part);
        owes = λ e. cc e;
        chose = of_all [] all.0.calls (none_chosen (h.turns.decided old.turns) old.posts unasked);
      }

  -- there was no memory for what it keeps
  pub stopped_at_once : {T : Type 0} (old : Place S U Q) (result : Result T Stop) → h.shelf.called old.shelf [] old.shelf
      → h.turns.went old.turns [] [] old.turns → h.posts.asked old.posts [] old.posts → (IsOk result → ⊥) → (IsErrOf result Shelf → ⊥) → Stopped h p start [] old old result
  stopped_at_once old result called nothing unasked not_done never =
      let none = did_none old.shelf result (steps_of (run_writes p start [])) called not_done never in
      record {
        owed = false;
        goes = refl;
        follows = λ decides told tells. tt;
        rules = refl;
        does = none.0;
        last = [];
        asked = inl refl;
        sent = [];
        unsent = [];
        handed = refl;
        step = nothing;
        stops = subst (λ (calls : List Call). StopsAt p start (start_writes p start.turn) [] calls []) (sym none.1) (place.before [] tt);
        owes = λ e. cc e;
        chose = of_all [] none.0.calls (none_chosen (h.turns.decided old.turns) old.posts unasked);
      }

  -- it stopped in its turns
  pub stopped_in_turns : {A T V : Type 0} {old : Place S U Q} {mid : S} {now : Place S U Q} {begun : Result A Stop} {first : Result T Stop} {lists : List (List Entry)}
      (result : Result V Stop) (e f : Stop) → Does h.shelf old.shelf mid begun (steps_of (start_writes p start.turn)) → IsOk begun
      → AreStopped h p start lists (at mid old.turns old.posts) now first → first ≡ Err e → result ≡ Err f → f ≡ e
      → Stopped h p start lists old now result
  stopped_in_turns {old = old} {now = now} {lists = lists} result e f begun ok turns at_first is same =
      let head = start_writes p start.turn in
      let failed = did_err result e f (steps_of (end_writes p (final p start lists))) turns.does at_first is same in
      let all = did_of (sym (whole p start lists)) (did_then laws.shelf begun ok failed.0) in
      let calls_are = sym (all.1 ∙ ap (λ (calls : List Call). steps_of head ++ calls) failed.1) in
      record {
        owed = turns.owed;
        goes = turns.goes;
        follows = turns.follows;
        rules = turns.rules;
        does = all.0;
        last = [];
        asked = inl refl;
        sent = turns.sent;
        unsent = turns.unsent;
        handed = turns.handed;
        step = subst (λ (a : List Answer). h.turns.went old.turns a turns.sent now.turns)
            (sym (append-nil (answers (h.turns.decided old.turns) p (opened start) lists))) turns.step;
        stops = subst (λ (calls : List Call). StopsAt p start head lists calls turns.sent) calls_are (stops_behind head turns.stops);
        owes = turns.owes;
        chose = subst (λ (calls : List Call). ChoseTo h.posts (h.turns.decided old.turns) p start head old.posts now.posts lists calls) calls_are
            (chose_behind head turns.chose);
      }

  -- it was over, and stopped among its last files
  pub stopped_at_end : {A B T : Type 0} {old : Place S U Q} {mid new : S} {end : U} {over : Place S U Q} {begun : Result A Stop} {ended : Result B Stop} {w : World} {lists : List (List Entry)}
      (result : Result T Stop) (e f : Stop) (last : State) → Does h.shelf old.shelf mid begun (steps_of (start_writes p start.turn)) → IsOk begun
      → AreOver h p start (at mid old.turns old.posts) over w lists
      → h.turns.went over.turns [] [] end
      → last ≡ shut p w.state → Does h.shelf over.shelf new ended (steps_of (end_writes p last)) → ended ≡ Err e → result ≡ Err f → f ≡ e
      → Stopped h p start lists old (at new end over.posts) result
  stopped_at_end {old = old} {new = new} {end = end} {over = over} {ended = ended} {w = w} {lists = lists} result e f last begun ok turns went is did at_end fails same =
      let d = h.turns.decided old.turns in
      let said = turns_said p (opened start) lists in
      let final_is : last ≡ final p start lists = is ∙ ap (λ (v : World). shut p v.state) turns.is in
      let wrote : Does h.shelf over.shelf new result (steps_of (end_writes p (final p start lists))) =
      subst (λ (s : State). Does h.shelf over.shelf new result (steps_of (end_writes p s))) final_is (does_fail result e f did at_end fails same) in
      let head = start_writes p start.turn in
      let writes = turns_writes p (opened start) lists in
      let late = did_then laws.shelf turns.does refl wrote in
      let all = did_of (sym (whole p start lists)) (did_then laws.shelf begun ok late.0) in
      record {
        owed = false;
        goes = goes_paid p (opened start) lists ∙ turns.fits.goes;
        follows = λ decides told tells. (turns.told decides told tells).0;
        rules = turns.done.rules;
        does = all.0;
        last = last_answer w;
        asked = inr (ap (λ (v : World). last_answer v) turns.is);
        sent = said;
        unsent = [];
        handed = sym (append-nil said);
        step = subst (λ (a : List Answer). h.turns.went old.turns a said end) (append-nil (answers d p (opened start) lists ++ last_answer w))
            (subst (λ (m : List Message). h.turns.went old.turns ((answers d p (opened start) lists ++ last_answer w) ++ []) m end) (append-nil said)
            (laws.turns old.turns over.turns end (answers d p (opened start) lists ++ last_answer w) [] said [] turns.done.step went));
        stops = subst (λ (calls : List Call). StopsAt p start head lists calls said)
            (parts_of head writes wrote.calls ∙ sym (all.1 ∙ ap (λ (calls : List Call). steps_of head ++ calls) late.1))
            (place.at_end lists wrote.calls turns.fits wrote.part);
        owes = λ e. cc e;
        chose = of_all lists all.0.calls turns.done.asks;
      }

  -- ---- a journal that has another end

  -- what was written by then
  so_far : {A B : Type 0} {old mid new : S} {begun : Result A Stop} {turned : Result B Stop} (lists : List (List Entry))
      → Does h.shelf old mid begun (steps_of (start_writes p start.turn)) → IsOk begun
      → Does h.shelf mid new turned (steps_of (turns_writes p (opened start) lists)) → IsOk turned
      → Does h.shelf old new fine (steps_of (writes_so_far p start lists))
  so_far {old = old} {new = new} lists begun ok turned all =
      let first = start_writes p start.turn in
      let turns = turns_writes p (opened start) lists in
      subst (λ calls. Does h.shelf old new fine calls) (sym (steps_of-append first turns))
      (does_then laws.shelf begun ok (does_ok (tt {0}) turned all))

  -- the run was over at another turn
  pub missed_over : {A : Type 0} {old : Place S U Q} {mid : S} {end : U} {over : Place S U Q} {begun : Result A Stop} {w : World} {lists : List (List Entry)} (kept given : ℕ)
      → Does h.shelf old.shelf mid begun (steps_of (start_writes p start.turn)) → IsOk begun
      → AreOver h p start (at mid old.turns old.posts) over w lists
      → h.turns.went over.turns [] [] end → EndsAt w.state.turn (h.turns.journal over.turns) (Some (kept, given))
      → Missed h p start lists old (at over.shelf end over.posts) kept given
  missed_over {old = old} {mid = mid} {end = end} {over = over} {w = w} {lists = lists} kept given begun ok turns went ends =
      let d = h.turns.decided old.turns in
      let last = last_answer w in
      let all = answers d p (opened start) lists ++ last in
      let said = turns_said p (opened start) lists in
      let did = so_far lists begun ok turns.does refl in
      record {
        tells = λ none. subst (λ (o : Option Told). EndsAt w.state.turn o (Some (kept, given)) → ⊥) (sym (turns.untold none)) (λ e. cc) ends;
        told = λ decides told tells. (
            let so = turns.told decides told tells in
            let left = left_of lists told.lists in
            let numbers = other_turn (record told { lists = left }) w.state.turn kept given (subst (λ (o : Option Told). EndsAt w.state.turn o (Some (kept, given))) so.2 ends) in
            (so.0, numbers.0, subst (λ (v : World). EndsElsewhere told v.state left given) turns.is (inl (so.1, numbers.1, numbers.2)))
            );
        last = last;
        asked = inr (ap (λ (v : World). last_answer v) turns.is);
        done = record {
          step = subst (λ (a : List Answer). h.turns.went old.turns a said end) (append-nil all)
              (subst (λ (m : List Message). h.turns.went old.turns (all ++ []) m end) (append-nil said)
              (laws.turns old.turns over.turns end all [] said [] turns.done.step went));
          handed = (let so = turns.done.handed in (so.0, so.1, last_given so.0 over.turns end last so.2 went));
          rules = turns.done.rules;
          asks = turns.done.asks;
        };
        does = did;
        files = λ before holds. files_made (writes_so_far p start lists) did refl before holds;
      }

  -- the journal ended, and the run goes on
  pub missed_short : {A : Type 0} {old : Place S U Q} {mid : S} {now : Place S U Q} {begun : Result A Stop} {w : World} {lists : List (List Entry)} (kept given : ℕ)
      → Does h.shelf old.shelf mid begun (steps_of (start_writes p start.turn)) → IsOk begun
      → AreShort h p start (at mid old.turns old.posts) now w kept given lists
      → Missed h p start lists old now kept given
  missed_short {lists = lists} kept given begun ok turns =
      let did = so_far lists begun ok turns.does refl in
      record {
        tells = turns.tells;
        told = λ decides told tells. (
            let so = turns.told decides told tells in
            (so.0, so.1, subst (λ (v : World). EndsElsewhere told v.state (left_of lists told.lists) given) turns.is so.2)
            );
        last = [];
        asked = inl refl;
        done = record { step = turns.done.step; handed = turns.done.handed; rules = turns.done.rules; asks = turns.done.asks };
        does = did;
        files = λ before holds. files_made (writes_so_far p start lists) did refl before holds;
      }

-- ---- posts that were handed what a state holds, before the first turn

pub started : {S U M Q : Type 0} {h : Hosts S U M Q} {p : Plan} {s : State} {lists : List (List Entry)} {new : Place S U Q} (shelf : S) (turns : U) (old mid : Q)
    → PollsJoin h.posts → h.posts.asked old [] mid → Ran h p s lists (at shelf turns mid) new → Ran h p s lists (at shelf turns old) new
started {h = h} {p = p} {s = s} {lists = lists} {new = new} shelf turns old mid join first so = record {
  fits = so.fits;
  done = record {
    step = so.done.step;
    handed = so.done.handed;
    rules = so.done.rules;
    asks = asks_behind h.posts join (h.turns.decided turns) (λ polls. (waits : List ℕ) × AreChosen p (opened s) lists polls waits) old mid new.posts first so.done.asks;
  };
  told = so.told;
  does = so.does;
  files = so.files;
}

pub missed_started : {S U M Q : Type 0} {h : Hosts S U M Q} {p : Plan} {s : State} {lists : List (List Entry)} {new : Place S U Q} {kept given : ℕ} (shelf : S) (turns : U) (old mid : Q)
    → PollsJoin h.posts → h.posts.asked old [] mid → Missed h p s lists (at shelf turns mid) new kept given → Missed h p s lists (at shelf turns old) new kept given
missed_started {h = h} {p = p} {s = s} {lists = lists} {new = new} shelf turns old mid join first so = record {
  tells = so.tells;
  told = so.told;
  last = so.last;
  asked = so.asked;
  done = record {
    step = so.done.step;
    handed = so.done.handed;
    rules = so.done.rules;
    asks = asks_behind h.posts join (h.turns.decided turns) (λ polls. (waits : List ℕ) × AreChosen p (opened s) lists polls waits) old mid new.posts first so.done.asks;
  };
  does = so.does;
  files = so.files;
}

pub stopped_started : {S U M Q T : Type 0} {h : Hosts S U M Q} {p : Plan} {s : State} {lists : List (List Entry)} {new : Place S U Q} {result : Result T Stop} (shelf : S) (turns : U) (old mid : Q)
    → PollsJoin h.posts → h.posts.asked old [] mid → Stopped h p s lists (at shelf turns mid) new result → Stopped h p s lists (at shelf turns old) new result
stopped_started {h = h} {p = p} {s = s} shelf turns old mid join first so = record {
  owed = so.owed;
  goes = so.goes;
  follows = so.follows;
  rules = so.rules;
  does = so.does;
  last = so.last;
  asked = so.asked;
  sent = so.sent;
  unsent = so.unsent;
  handed = so.handed;
  step = so.step;
  stops = so.stops;
  owes = so.owes;
  chose = chose_from old (λ now early. asks_behind h.posts join (h.turns.decided turns)
      (λ polls. (waits : List ℕ) × AreChosen p (opened s) early polls waits) old mid now first) so.chose;
}
