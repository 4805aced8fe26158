-- What a run did whose source gave nothing and whose posts were always ready.
use Rattle.std.proofs.Common.{◌≡◌, ◌∙◌, List, [], ◌∷◌, ◌++◌, Bool, Ok, Err, false, ap, append_assoc, inl, refl, subst, sym}
use Rattle.std.proofs.lemmas.Bool.{false_from_ne_true}
use Rattle.std.specs.Prelude.{ℕ, ℤ, IsTrue, Result}
use Rattle.trick_base.proofs.Results.{not_ok}
use Rattle.trick_exec.specs.Ended.{IsRun}
use Rattle.trick_exec.specs.declared.ended.Ended.TheVariants as ended
use Rattle.trick_exec.specs.declared.ended.Ended.{Ended as EndedValue}
use Rattle.trick_base.specs.Files.{Write}
use Rattle.trick_model.specs.Files.{end_writes, note, run_writes, start_writes, turn_writes, turns_said, turns_writes}
use Rattle.trick_model.specs.Laws.{RunsJoin}
use Rattle.trick_model.specs.Plan.{Plan, threads_beside}
use Rattle.trick_model.specs.PlanOf.{plan_of}
use Rattle.trick_model.specs.Run.{AreSerial, after_turns, final, goes_on, has_session_entry, opened, serial_entries}
use Rattle.trick_model.specs.Session.{Message}
use Rattle.trick_model.specs.State.{State, World}
use Rattle.trick_model.specs.Turn.{begun, heard, turn}
use Rattle.trick_model.specs.declared.entry.Entry.{Entry}
use Rattle.trick_model.specs.declared.plan.Plan.{Plan as PlanValue}
use Rattle.trick_model.specs.declared.session.Session.{Session}
use Rattle.trick_outside.proofs.CallLemmas.{not_both, part_of_early, part_of_late}
use Rattle.trick_outside.proofs.DoesLemmas.{does_ok}
use Rattle.trick_outside.specs.Calls.{Call}
use Rattle.trick_outside.specs.Does.{IsPartOf}
use Rattle.trick_outside.specs.declared.stop.Stop.{Stop}
use Rattle.trick_post_work.specs.Polls.{Poll}
use Rattle.trick_post_work.specs.declared.posts.Posts.{Ghosts as PostsGhosts}
use Rattle.trick_post_trays.specs.Posting.{AllReady}
use Rattle.trick_exec.proofs.Own.{all_serial, given_silent, goes_same, no_sessions_after, serial_more, serial_silent, silent_parts}
use Rattle.trick_exec.specs.Own.{AreAlone, IsAlone, RunsAs, RunsOwn}
use Rattle.trick_exec_meaning.proofs.Goes.{goes_paid}
use Rattle.trick_exec_meaning.proofs.Going.{writes_one}
use Rattle.trick_exec_meaning.proofs.PartLemmas.{no_line}
use Rattle.trick_exec_posts.proofs.Threads.{AreFound, beside_found}
use Rattle.trick_exec_meaning.specs.Answers.{answers}
use Rattle.trick_exec_meaning.specs.Chosen.{AreAsked, ChoseTo, but_last, of_all}
use Rattle.trick_exec_meaning.specs.Goes.{goes_owing}
use Rattle.trick_exec_meaning.specs.Hosts.{Hosts, Place}
use Rattle.trick_exec_meaning.specs.Ran.{last_answer}
use Rattle.trick_exec_meaning.specs.Rounds.{AreChosen}
use Rattle.trick_exec_meaning.specs.Stops.{StopsAt, StopsInTurn, in_turn}
use Rattle.trick_exec_meaning.specs.Turned.{Asks, line_notes}
use Rattle.trick_exec_tic.proofs.StepLemmas.{steps_of-append}
use Rattle.trick_exec_tic.specs.Steps.{steps_of}
use Rattle.trick_exec_sources.specs.Turns.{Answer, AreSilent, has_line}

module _ {S U M Q : Type 0} (h : Hosts S U M Q) (p : Plan) (s : State) (old new : Place S U Q) (alone : IsAlone h old new) where
  -- no join, line or leave was given
  silent : (lists : List (List Entry)) (last : List Answer) (messages : List Message)
      → h.turns.went old.turns (answers (h.turns.decided old.turns) p (opened s) lists ++ last) messages new.turns → has_session_entry lists ≡ false
  silent lists last messages went =
      given_silent p (opened s) lists last
      (subst (λ (b : Bool). AreSilent (answers b p (opened s) lists ++ last)) alone.undecided (alone.silent _ messages went))

pub own_run : {S U M Q D : Type 0} (h : Hosts S U M Q) (numbers : D → List ℤ) (plan : PlanValue) (s : State) (old new : Place S U Q) (result : Result (EndedValue D) Stop)
    → IsAlone h old new → IsRun h numbers (plan_of plan) s old new result → RunsOwn h.shelf numbers (plan_of plan) s old.shelf new.shelf result
own_run h numbers plan s old new (Ok (ended.Done world)) alone (lists, ran, is) =
    let p = plan_of plan in
    let none = silent h p s old new alone lists (last_answer (after_turns p (opened s) lists)) _ ran.done.step in
    let asks = subst (λ (b : Bool). Asks b h.posts.asked (λ polls. (waits : List ℕ) × AreChosen p (opened s) lists polls waits) old.posts new.posts)
    alone.undecided ran.done.asks in
    let serial : AreSerial p (opened s) lists =
    all_serial p (beside_found plan) (opened s) lists asks.0 asks.2.0 asks.2.1 none (alone.ready asks.0 asks.1) in (
      lists,
      record {
        goes = ran.fits.goes;
        published = serial;
        does = does_ok (ended.Done world) ran.does refl;
        stops = λ never. absurd (never refl);
        own = λ ok. record { fits = ran.fits; published = serial };
        files = λ ok before told. ran.files before told;
      },
      is ∙ ap (λ (sessions : List Session). let last : World = record { state = final p s lists; sessions = sessions } in last)
          (no_sessions_after p (opened s) lists none refl),
    )
own_run h numbers plan s old new (Ok (ended.Length kept given)) alone (lists, missed) = missed.tells alone.untold
own_run h numbers plan s old new (Err e) alone (lists, stopped) =
    (lists, silent h (plan_of plan) s old new alone lists stopped.last stopped.sent stopped.step, stopped.does)

-- ---- a run that stopped

-- no call is a part of none
no_part : (part : List Call) → IsPartOf part [] → part ≡ []
no_part [] none = refl
no_part (call ∷ part) none = absurd none

-- a turn without a line notes none
none_noted : (p : Plan) (w : World) (entries : List Entry) (part : List Call) → has_line entries ≡ false
    → IsPartOf part (steps_of (line_notes w.state.turn (turn p w entries))) → part ≡ []
none_noted p w entries part none is =
    no_part part (subst (λ (es : List Entry). IsPartOf part (steps_of (note w.state.turn es))) (no_line p (heard p entries (begun w)).asking.state entries none) is)

-- what was written before a turn is a part of a run with it
part_before : RunsJoin → (p : Plan) (s : State) (lists : List (List Entry)) (entries : List Entry) (part : List Call) → part ≡ []
    → IsPartOf (steps_of (start_writes p s.turn ++ turns_writes p (opened s) lists) ++ part) (steps_of (run_writes p s (lists ++ entries ∷ [])))
part_before join p s lists entries part none =
    let w = after_turns p (opened s) lists in
    let head = start_writes p s.turn in
    let early = turns_writes p (opened s) lists in
    let more = turn_writes w.state.turn (turn p w entries) in
    let all = lists ++ entries ∷ [] in
    let last = end_writes p (final p s all) in
    let same : steps_of (run_writes p s all) ≡ (steps_of (head ++ early) ++ steps_of more) ++ steps_of last =
    steps_of-append (head ++ turns_writes p (opened s) all) last
    ∙ ap (λ (writes : List Write). steps_of (head ++ writes) ++ steps_of last) (writes_one join p (opened s) lists entries)
    ∙ ap (λ (writes : List Write). steps_of writes ++ steps_of last) (sym (append_assoc head early more))
    ∙ ap (λ (calls : List Call). calls ++ steps_of last) (steps_of-append (head ++ early) more) in
    subst (λ (calls : List Call). IsPartOf (steps_of (head ++ early) ++ part) calls) (sym same)
    (part_of_early (steps_of (head ++ early) ++ part) (steps_of (head ++ early) ++ steps_of more) (steps_of last)
    (part_of_late (steps_of (head ++ early)) part (steps_of more) (subst (λ (calls : List Call). IsPartOf calls (steps_of more)) (sym none) tt)))

-- Lists without clients of which these calls are a part.
record AreOfAlone (p : Plan) (s : State) (calls : List Call) : Type 0 where
  pub lists : List (List Entry)
  pub goes : IsTrue (goes_on p (opened s) lists)
  pub published : AreSerial p (opened s) lists
  pub part : IsPartOf calls (steps_of (run_writes p s lists))
  pub stops : (said : List Message) × StopsAt p s (start_writes p s.turn) lists calls said

-- a turn in which nothing was done stopped at its beginning
stops_before : (p : Plan) (s : State) (lists : List (List Entry)) (entries : List Entry) (part : List Call) → part ≡ []
    → (said : List Message)
    × StopsAt p s (start_writes p s.turn) (lists ++ entries ∷ []) (steps_of (start_writes p s.turn ++ turns_writes p (opened s) lists) ++ part) said
stops_before p s lists entries part none =
    let w = after_turns p (opened s) lists in
    let so : StopsInTurn p w entries part [] = record {
      part = subst (λ (calls : List Call). IsPartOf calls (steps_of (turn_writes w.state.turn (turn p w entries)))) (sym none) tt;
      rest = (turn p w entries).said;
      front = refl;
      prompt = inl refl;
    } in
    (turns_said p (opened s) lists ++ [], in_turn lists entries part [] so)

module _ {Q : Type 0} (posts : PostsGhosts Q) (p : Plan) (found : AreFound (threads_beside p)) (s : State)
    (ready : (old new : Q) (polls : List Poll) → posts.asked old polls new → AllReady polls) where
  serial_of : (d : Bool) (lists : List (List Entry)) (old new : Q) → d ≡ false → has_session_entry lists ≡ false → AreAsked posts d p s lists old new
      → AreSerial p (opened s) lists
  serial_of d lists old new undecided silent asked =
      let asks = subst (λ (b : Bool). Asks b posts.asked (λ polls. (waits : List ℕ) × AreChosen p (opened s) lists polls waits) old new) undecided asked in
      all_serial p found (opened s) lists asks.0 asks.2.0 asks.2.1 silent (ready old new asks.0 asks.1)

  -- a run that stopped did a part of the one without clients
  alone_of : (d : Bool) (old new : Q) (lists : List (List Entry)) (calls : List Call) (sent : List Message) → RunsJoin → d ≡ false
      → ChoseTo posts d p s (start_writes p s.turn) old new lists calls → StopsAt p s (start_writes p s.turn) lists calls sent
      → has_session_entry lists ≡ false → IsTrue (goes_on p (opened s) lists) → IsPartOf calls (steps_of (run_writes p s lists)) → AreOfAlone p s calls
  alone_of d old new _ _ sent join undecided (of_all lists calls asked) stops quiet goes part = record {
    lists = lists;
    goes = goes;
    published = serial_of d lists old new undecided quiet asked;
    part = part;
    stops = (sent, stops);
  }
  alone_of d old new _ _ sent join undecided (but_last early entries late mid asked is) stops quiet goes part =
      let w = after_turns p (opened s) early in
      let none = silent_parts early entries quiet in
      let nothing = none_noted p w entries late none.1 is in
      let more = serial_entries p w.state in
      record {
        lists = early ++ more ∷ [];
        goes = sym (goes_same p (opened s) early entries more none.1 (serial_silent p w.state)) ∙ goes;
        published = serial_more p (opened s) early more (serial_of d early old mid undecided none.0 asked) refl;
        part = part_before join p s early more late nothing;
        stops = stops_before p s early more late nothing;
      }

-- hosts that are alone at whatever moment
alone_at : {S U M Q : Type 0} (h : Hosts S U M Q) (old new : Place S U Q) → AreAlone h → IsAlone h old new
alone_at h old new alone = record {
  silent = λ answers messages went. alone.silent old.turns new.turns answers messages went;
  undecided = alone.undecided old.turns;
  untold = alone.untold old.turns;
  ready = λ polls asked. alone.ready old.posts new.posts polls asked;
}

pub alone_run : {S U M Q D : Type 0} (h : Hosts S U M Q) (numbers : D → List ℤ) → RunsJoin → (plan : PlanValue) (s : State) (old new : Place S U Q) (result : Result (EndedValue D) Stop)
    → AreAlone h → IsRun h numbers (plan_of plan) s old new result → RunsAs h.shelf numbers (plan_of plan) s old.shelf new.shelf result
alone_run {D = D} h numbers join plan s old new (Ok (ended.Done world)) alone run =
    let result : Result (EndedValue D) Stop = Ok (ended.Done world) in
    own_run h numbers plan s old new result (alone_at h old new alone) run
alone_run h numbers join plan s old new (Ok (ended.Length kept given)) alone (lists, missed) = missed.tells (alone.untold old.turns)
alone_run {D = D} h numbers join plan s old new (Err e) alone (lists, stopped) =
    let p = plan_of plan in
    let result : Result (EndedValue D) Stop = Err e in
    let none = silent h p s old new (alone_at h old new alone) lists stopped.last stopped.sent stopped.step in
    let paid : stopped.owed ≡ false = false_from_ne_true stopped.owed (λ owed. let held = stopped.owes owed in not_both (h.turns.owes held.0) (alone.paid held.0) held.2) in
    let goes : IsTrue (goes_on p (opened s) lists) =
    sym (ap (λ (b : Bool). goes_owing b p (opened s) lists) paid ∙ goes_paid p (opened s) lists) ∙ stopped.goes in
    let so = alone_of h.posts p (beside_found plan) s alone.ready (h.turns.decided old.turns) old.posts new.posts lists stopped.does.calls stopped.sent join
    (alone.undecided old.turns) stopped.chose stopped.stops none goes stopped.does.part in (
      so.lists,
      record {
        goes = so.goes;
        published = so.published;
        does = record {
          calls = stopped.does.calls;
          went = stopped.does.went;
          part = so.part;
          whole = λ ok. absurd (not_ok result e refl ok);
          failed = stopped.does.failed;
          fault = stopped.does.fault;
          ends = stopped.does.ends;
        };
        stops = λ never. so.stops;
        own = λ ok. absurd (not_ok result e refl ok);
        files = λ ok. absurd (not_ok result e refl ok);
      },
    )
