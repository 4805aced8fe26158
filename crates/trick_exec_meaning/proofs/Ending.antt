-- The turns of a run are over, or stop.
use Rattle.std.proofs.Common.{◌≡◌, ◌∙◌, ℕ, ◌≤◌, List, [], ◌∷◌, ◌++◌, Bool, true, false, not, ◌&&◌, Err, IsOk, Some, None, ap, append-nil, append_assoc, arith, inl, inr, refl, subst, sym}
use Rattle.std.proofs.lemmas.Bool.Decides.{nat_tests}
use Rattle.std.specs.Prelude.{◌⊎◌, ◌||◌, ◌+◌, max, Result, IsErrOf, nat_le, nat_lt}
use Rattle.trick_model.specs.Files.{turns_said, turns_writes}
use Rattle.trick_model.specs.Plan.{Plan}
use Rattle.trick_model.specs.Run.{after_turns, goes_on, has_session_entry, is_over, is_shut, opened}
use Rattle.trick_model.specs.Session.{Message}
use Rattle.trick_model.specs.State.{State, World}
use Rattle.trick_model.specs.Turn.{is_frozen, turn}
use Rattle.trick_model.specs.declared.entry.Entry.{Entry}
use Rattle.trick_model.specs.declared.mode.Mode.{Mode}
use Rattle.trick_model.specs.declared.mode.Mode.TheVariants as mode
use Rattle.trick_outside.specs.Calls.{Call}
use Rattle.trick_outside.specs.Does.{IsPartOf}
use Rattle.trick_outside.specs.declared.stop.Stop.{Stop}
use Rattle.trick_outside.specs.declared.stop.Stop.TheVariants.{Shelf}
use Rattle.trick_post_work.specs.Polls.{Poll}
use Rattle.trick_post_work.specs.declared.posts.Posts.{Ghosts as PostsGhosts}
use Rattle.trick_exec_meaning.proofs.DidLemmas.{did_as, did_fail}
use Rattle.trick_exec_meaning.proofs.Goes.{given_lines, goes_given, goes_paid, goes_yet, paid_over}
use Rattle.trick_exec_meaning.proofs.Going.{Gave, IsGoing, Laws, PollsJoin, asks_more, chosen_more, did_more, rest_more, said_more, step_more}
use Rattle.trick_exec_meaning.proofs.Successions.{succession_more}
use Rattle.trick_exec_meaning.specs.Answers.{answers, given, no_more}
use Rattle.trick_exec_meaning.specs.Chosen.{ChoseTo, but_last, of_all}
use Rattle.trick_exec_meaning.specs.Goes.{goes_owing, left_of}
use Rattle.trick_exec_meaning.specs.Hosts.{Hosts, Place, at}
use Rattle.trick_exec_meaning.specs.Over.{AreOver, AreShort, AreStopped}
use Rattle.trick_exec_meaning.specs.Ran.{last_answer}
use Rattle.trick_exec_meaning.specs.Rounds.{AreChosen, IsChosen, heard_state, publications, waited}
use Rattle.trick_exec_meaning.specs.Stops.{StopsAt, StopsInTurn, between, in_turn}
use Rattle.trick_exec_meaning.specs.Turned.{Asks, Turned, line_notes}
use Rattle.trick_exec_tic.specs.Steps.{steps_of}
use Rattle.trick_exec_sources.specs.Turns.{Answer, Told, no_sessions, owes_after}

-- ---- what was chosen where a turn stopped

asks_so : {Q : Type 0} (posts : PostsGhosts Q) (decides : Bool) (old new : Q) (P R : List Poll → Type 0) → ((polls : List Poll) → P polls → R polls)
    → Asks decides posts.asked P old new → Asks decides posts.asked R old new
asks_so posts true old new P R so asks = asks
asks_so posts false old new P R so (polls, asked, is) = (polls, asked, so polls is)

chose_in : {S U M Q : Type 0} (h : Hosts S U M Q) (laws : Laws h) (p : Plan) (start : State) (d : Bool) (old mid new : Q) (w : World) (waits : List ℕ)
    (lists : List (List Entry)) (entries : List Entry) (calls : List Call) → w ≡ after_turns p (opened start) lists
    → Asks d h.posts.asked (λ polls. AreChosen p (opened start) lists polls waits) old mid
    → (Asks d h.posts.asked (IsChosen p (heard_state p w entries) waits (publications entries)) mid new
    ⊎ IsPartOf calls (steps_of (line_notes w.state.turn (turn p w entries))))
    → ChoseTo h.posts d p start [] old new (lists ++ entries ∷ []) (steps_of (turns_writes p (opened start) lists) ++ calls)
chose_in h laws p start d old mid new w waits lists entries calls is asks (inl more) =
    of_all (lists ++ entries ∷ []) (steps_of (turns_writes p (opened start) lists) ++ calls)
    (asks_more h.posts laws.posts d old mid new (λ polls. AreChosen p (opened start) lists polls waits)
    (IsChosen p (heard_state p w entries) waits (publications entries))
    (λ polls. (waits : List ℕ) × AreChosen p (opened start) (lists ++ entries ∷ []) polls waits)
    (λ early late one two. (waited p (heard_state p w entries) waits (publications entries), chosen_more h laws p start w waits lists entries is early late one two))
    asks more)
chose_in h laws p start d old mid new w waits lists entries calls is asks (inr part) =
    but_last lists entries calls mid
    (asks_so h.posts d old mid (λ polls. AreChosen p (opened start) lists polls waits)
    (λ polls. (waits : List ℕ) × AreChosen p (opened start) lists polls waits) (λ polls is. (waits, is)) asks)
    (subst (λ (v : World). IsPartOf calls (steps_of (line_notes v.state.turn (turn p v entries)))) is part)

-- ---- how a run is over

-- it is over without asking
over_by : (shut out frozen has : Bool) → (shut || out) ≡ true → (shut || (out || (frozen && not has))) ≡ true
over_by true out frozen has e = refl
over_by false true frozen has e = refl
over_by false false frozen has e = cc e

-- it is over since no line comes any more
over_frozen : (shut out frozen has : Bool) → frozen ≡ true → has ≡ false → (shut || (out || (frozen && not has))) ≡ true
over_frozen true out frozen has f e = refl
over_frozen false true frozen has f e = refl
over_frozen false false true false f e = refl
over_frozen false false true true f e = cc e
over_frozen false false false has f e = cc f

-- what is over without asking gets no answer
not_below : (limit tic : ℕ) → nat_le limit tic ≡ true → nat_lt tic limit ≡ false
not_below limit tic e = grind (arith, nat_tests)

below : (limit tic : ℕ) → nat_le limit tic ≡ false → nat_lt tic limit ≡ true
below limit tic e = grind (arith, nat_tests)

no_answer : (w : World) → (is_shut w.state.mode || nat_le w.state.limit w.state.tic) ≡ true → last_answer w ≡ []
no_answer w e = ap (λ (b : Bool). let answer : List Answer = elim b [ true ↦ no_more w | false ↦ [] ] in answer)
    (by w.state.mode w.state.limit w.state.tic e)
  where
    by : (m : Mode) (limit tic : ℕ) → (is_shut m || nat_le limit tic) ≡ true → (is_frozen m && nat_lt tic limit) ≡ false
    by mode.Run limit tic e = refl
    by mode.Freeze limit tic e = not_below limit tic e
    by mode.Shutdown limit tic e = refl

one_answer : (w : World) → is_frozen w.state.mode ≡ true → nat_le w.state.limit w.state.tic ≡ false → last_answer w ≡ no_more w
one_answer w frozen out = ap (λ (b : Bool). let answer : List Answer = elim b [ true ↦ no_more w | false ↦ [] ] in answer)
    (ap (λ (b : Bool). b && nat_lt w.state.tic w.state.limit) frozen ∙ below w.state.limit w.state.tic out)

module _ {S U M Q : Type 0} (h : Hosts S U M Q) (laws : Laws h) (p : Plan) (start : State) where
  -- nothing is owed and the run is over under every journal that is told
  over : {old now : Place S U Q} {w : World} {waits : List ℕ} {lists : List (List Entry)} (end : U) (last : List Answer)
      → IsGoing h p start old now w waits lists → h.turns.owes now.turns ≡ false → is_over w.state [] ≡ true → last_answer w ≡ last
      → h.turns.went now.turns last [] end → (h.turns.journal now.turns ≡ None → h.turns.journal end ≡ None)
      → (h.turns.decided old.turns ≡ true → (told : Told) → h.turns.journal old.turns ≡ Some told
      → (is_over w.state (left_of lists told.lists) ≡ true) × (h.turns.journal end ≡ Some (record told { lists = left_of lists told.lists })))
      → AreOver h p start old (at now.shelf end now.posts) w lists
  over {old = old} {now = now} {w = w} {waits = waits} {lists = lists} end last so paid ended answer went untold told =
      let d = h.turns.decided old.turns in
      let goes : goes_on p (opened start) lists ≡ true =
      sym (ap (λ (b : Bool). goes_owing b p (opened start) lists) paid ∙ goes_paid p (opened start) lists) ∙ so.goes in
      record {
        fits = record { goes = goes; over = sym (ap (λ (v : World). is_over v.state []) so.is) ∙ ended };
        is = so.is;
        does = so.does;
        done = record {
          step = subst (λ (l : List Answer). h.turns.went old.turns (answers d p (opened start) lists ++ l) (turns_said p (opened start) lists) end) (sym answer)
              (subst (λ (said : List Message). h.turns.went old.turns (answers d p (opened start) lists ++ last) said end) (append-nil (turns_said p (opened start) lists))
              (laws.turns old.turns now.turns end (answers d p (opened start) lists) last (turns_said p (opened start) lists) [] so.step went));
          handed = (now.turns, so.handed, subst (λ (l : List Answer). h.turns.went now.turns l [] end) (sym answer) went);
          rules = so.rules;
          asks = asks_so h.posts d old.posts now.posts (λ polls. AreChosen p (opened start) lists polls waits)
              (λ polls. (waits : List ℕ) × AreChosen p (opened start) lists polls waits) (λ polls is. (waits, is)) so.asks;
        };
        untold = λ none. untold (so.untold none);
        told = λ decides tells is. (let left = told decides tells is in ((so.rest decides tells is).0, left.0, left.1));
      }

  -- it is over without asking
  pub over_unasked : {old now : Place S U Q} {w : World} {waits : List ℕ} {lists : List (List Entry)}
      → h.turns.went now.turns [] [] now.turns
      → IsGoing h p start old now w waits lists → (is_shut w.state.mode || nat_le w.state.limit w.state.tic) ≡ true
      → AreOver h p start old now w lists
  over_unasked {old = old} {now = now} {w = w} {lists = lists} nothing so ended =
      let s = w.state in
      over now.turns [] so (paid_over (h.turns.owes now.turns) s so.owing ended)
      (over_by (is_shut s.mode) (nat_le s.limit s.tic) (is_frozen s.mode) false ended)
      (no_answer w ended) nothing (λ none. none)
      (λ decides told is. (
        over_by (is_shut s.mode) (nat_le s.limit s.tic) (is_frozen s.mode) (has_session_entry (left_of lists told.lists)) ended,
        (so.rest decides told is).1,
      ))

  -- no line comes any more
  pub over_asked : {old now : Place S U Q} {w : World} {waits : List ℕ} {lists : List (List Entry)} (end : U)
      → IsGoing h p start old now w waits lists → nat_le w.state.limit w.state.tic ≡ false
      → is_frozen w.state.mode ≡ true → h.turns.owes now.turns ≡ false → h.turns.went now.turns (no_more w) [] end
      → (h.turns.journal now.turns ≡ None → h.turns.journal end ≡ None)
      → ((told : Told) → h.turns.journal now.turns ≡ Some told → (has_session_entry told.lists ≡ false) × (h.turns.journal end ≡ Some told))
      → AreOver h p start old (at now.shelf end now.posts) w lists
  over_asked {old = old} {now = now} {w = w} {lists = lists} end so out frozen paid went untold told =
      let s = w.state in
      over end (no_more w) so paid (over_frozen (is_shut s.mode) (nat_le s.limit s.tic) (is_frozen s.mode) false frozen refl)
      (one_answer w frozen out) went untold
      (λ decides tells is. (let left = told (record tells { lists = left_of lists tells.lists }) (so.rest decides tells is).1 in
      (over_frozen (is_shut s.mode) (nat_le s.limit s.tic) (is_frozen s.mode) (has_session_entry (left_of lists tells.lists)) frozen left.0, left.1)))

  -- ---- a stop

  -- it stopped between two turns, as for want of memory
  pub stops_between : {T : Type 0} {old now : Place S U Q} {w : World} {waits : List ℕ} {lists : List (List Entry)} (result : Result T Stop) (end : U)
      → IsGoing h p start old now w waits lists → h.turns.went now.turns [] [] end → (IsOk result → ⊥) → (IsErrOf result Shelf → ⊥)
      → AreStopped h p start lists old (at now.shelf end now.posts) result
  stops_between {old = old} {now = now} {waits = waits} {lists = lists} result end so went never clean =
      let d = h.turns.decided old.turns in
      let said = turns_said p (opened start) lists in
      let shown = answers d p (opened start) lists in
      let all = did_as result so.does (λ ok. refl) (λ f. absurd (clean f)) (λ f. cc) in
      record {
        owed = h.turns.owes now.turns;
        goes = so.goes;
        follows = λ decides told is. (so.rest decides told is).0;
        rules = so.rules;
        does = all.0;
        sent = said;
        unsent = [];
        handed = sym (append-nil said);
        step = subst (λ (a : List Answer). h.turns.went old.turns a said end) (append-nil shown)
            (subst (λ (s : List Message). h.turns.went old.turns (shown ++ []) s end) (append-nil said)
            (laws.turns old.turns now.turns end shown [] said [] so.step went));
        stops = subst (λ (calls : List Call). StopsAt p start [] lists calls said) (sym (all.1 ∙ so.does.whole refl)) (between lists);
        owes = λ e. (now.turns, so.step, e);
        chose = of_all lists all.0.calls (asks_so h.posts d old.posts now.posts (λ polls. AreChosen p (opened start) lists polls waits)
            (λ polls. (waits : List ℕ) × AreChosen p (opened start) lists polls waits) (λ polls is. (waits, is)) so.asks);
      }

  -- it stopped in a turn
  pub stops_in : {T V : Type 0} {old mid new : Place S U Q} {first : Result T Stop} {w : World} {waits : List ℕ} {lists : List (List Entry)}
      (result : Result V Stop) (e f : Stop) (entries : List Entry) (gave : U)
      → IsGoing h p start old mid w waits lists → is_shut w.state.mode ≡ false → nat_le w.state.limit w.state.tic ≡ false
      → Gave h.turns w (given (h.turns.decided old.turns) entries) mid.turns gave
      → (did : Turned h p w entries (at mid.shelf gave mid.posts) new first)
      → (Asks (h.turns.decided old.turns) h.posts.asked (IsChosen p (heard_state p w entries) waits (publications entries)) mid.posts new.posts
      ⊎ IsPartOf did.does.calls (steps_of (line_notes w.state.turn (turn p w entries))))
      → first ≡ Err e → result ≡ Err f → f ≡ e
      → AreStopped h p start (lists ++ entries ∷ []) old new result
  stops_in {old = old} {mid = mid} {new = new} {w = w} {waits = waits} {lists = lists} result e f entries gave so alive below gives did chose at_first is same =
      let d = h.turns.decided old.turns in
      let early = turns_said p (opened start) lists in
      let list = given d entries in
      let owed = h.turns.owes mid.turns in
      let begun = steps_of (turns_writes p (opened start) lists) in
      let failed = did_fail result e f did.does at_first is same in
      let made = did_more h laws p start w lists entries so.is so.does failed.0 in
      let place : StopsInTurn p w entries did.does.calls did.says.sent =
      record { part = did.does.part; rest = did.says.rest; front = did.says.all; prompt = did.prompt } in
      let step = step_more h laws p start d old.turns mid.turns gave new.turns w lists entries did.says.sent so.is so.step gives.step did.says.step in
      let calls_are : begun ++ did.does.calls ≡ made.0.calls = sym (made.1 ∙ ap (λ (calls : List Call). begun ++ calls) failed.1) in
      record {
        owed = owes_after w.state.mode list owed;
        goes = goes_given p (opened start) w lists entries list owed (owes_after w.state.mode list owed) so.is so.goes alive below (given_lines d entries) refl;
        follows = λ decides told tells. (rest_more h laws p start old.turns mid.turns gave gave w lists entries so.is alive below so.rest gives refl decides told tells).0;
        rules = succession_more d lists entries no_sessions (h.turns.sessions mid.turns) so.rules so.sessions gives.may;
        does = made.0;
        sent = early ++ did.says.sent;
        unsent = did.says.rest;
        handed = said_more h laws p start w lists entries so.is ∙ ap (λ more. early ++ more) did.says.all ∙ sym (append_assoc early did.says.sent did.says.rest);
        step = step;
        stops = subst (λ (calls : List Call). StopsAt p start [] (lists ++ entries ∷ []) calls (early ++ did.says.sent)) calls_are
            (in_turn lists entries did.does.calls did.says.sent (subst (λ (v : World). StopsInTurn p v entries did.does.calls did.says.sent) so.is place));
        owes = λ e. (new.turns, step, did.says.kept.owes ∙ gives.owes ∙ e);
        chose = subst (λ (calls : List Call). ChoseTo h.posts d p start [] old.posts new.posts (lists ++ entries ∷ []) calls) calls_are
            (chose_in h laws p start d old.posts mid.posts new.posts w waits lists entries did.does.calls so.is so.asks chose);
      }

  -- the journal ends before the run does
  pub ends_short : {old now : Place S U Q} {w : World} {waits : List ℕ} {lists : List (List Entry)} (end : U) (kept given : ℕ)
      → IsGoing h p start old now w waits lists → is_shut w.state.mode ≡ false → nat_le w.state.limit w.state.tic ≡ false
      → h.turns.went now.turns [] [] end → (h.turns.journal now.turns ≡ None → ⊥)
      → ((told : Told) → h.turns.journal now.turns ≡ Some told
      → (kept ≡ told.end) × (given ≡ max (told.end + 1) w.state.turn) × (told.end ≤ w.state.turn)
      × (is_frozen w.state.mode ≡ true → has_session_entry told.lists ≡ true))
      → AreShort h p start old (at now.shelf end now.posts) w kept given lists
  ends_short {old = old} {now = now} {w = w} {waits = waits} {lists = lists} end kept given so alive below went tells told =
      let d = h.turns.decided old.turns in
      let said = turns_said p (opened start) lists in
      record {
        is = so.is;
        does = so.does;
        done = record {
          step = subst (λ (m : List Message). h.turns.went old.turns (answers d p (opened start) lists ++ []) m end) (append-nil said)
              (laws.turns old.turns now.turns end (answers d p (opened start) lists) [] said [] so.step went);
          handed = (now.turns, so.handed, went);
          rules = so.rules;
          asks = asks_so h.posts d old.posts now.posts (λ polls. AreChosen p (opened start) lists polls waits)
              (λ polls. (waits : List ℕ) × AreChosen p (opened start) lists polls waits) (λ polls is. (waits, is)) so.asks;
        };
        tells = λ none. tells (so.untold none);
        told = λ decides journal is. (
            let left = left_of lists journal.lists in
            let rest = so.rest decides journal is in
            let short = told (record journal { lists = left }) rest.1 in
            let yet = goes_yet (is_shut w.state.mode) (nat_le w.state.limit w.state.tic) (is_frozen w.state.mode) (has_session_entry left) alive below short.3 in
            (rest.0, short.0, inr (yet, short.2, short.1))
            );
      }

-- ---- posts that were asked nothing before

pub asks_behind : {Q : Type 0} (posts : PostsGhosts Q) → PollsJoin posts → (decides : Bool) (P : List Poll → Type 0) (old mid new : Q)
    → posts.asked old [] mid → Asks decides posts.asked P mid new → Asks decides posts.asked P old new
asks_behind posts join true P old mid new first asks = join old mid new [] [] first asks
asks_behind posts join false P old mid new first (polls, asked, is) = (polls, join old mid new [] polls first asked, is)
