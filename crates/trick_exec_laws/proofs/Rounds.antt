-- In a run of a plan without asynchronous threads nothing is asked for, so that its posts are as good as such that are
-- always ready.
use Rattle.std.proofs.Common.{◌≡◌, ◌∙◌, ℕ, ℤ, Bool, true, false, ◌&&◌, List, [], ◌∷◌, ◌++◌, Ok, Err, ap, refl, subst, sym}
use Rattle.std.proofs.lemmas.Bool.{or_parts}
use Rattle.std.proofs.lemmas.List.Folds.{list_any-append}
use Rattle.std.proofs.lemmas.Map.Views.{any-filter_same}
use Rattle.std.specs.List.{list_any}
use Rattle.std.specs.Prelude.{Result}
use Rattle.trick_base.specs.Files.{Write}
use Rattle.trick_exec.proofs.OwnRuns.{alone_run, own_run}
use Rattle.trick_exec.specs.Ended.{IsRun}
use Rattle.trick_exec.specs.Own.{AreAlone, IsAlone, RunsAs, RunsOwn}
use Rattle.trick_exec.specs.declared.ended.Ended.TheVariants as ended
use Rattle.trick_exec.specs.declared.ended.Ended.{Ended as EndedValue}
use Rattle.trick_model.specs.Beside.{has_round}
use Rattle.trick_model.specs.Laws.{RunsJoin}
use Rattle.trick_model.specs.Plan.{Plan, is_async, is_beside, threads_beside}
use Rattle.trick_model.specs.PlanOf.{plan_of}
use Rattle.trick_model.specs.Run.{after_turns, opened}
use Rattle.trick_model.specs.State.{State, World, taken_at}
use Rattle.trick_model.specs.Turn.{runs}
use Rattle.trick_model.specs.declared.entry.Entry.{Entry}
use Rattle.trick_model.specs.declared.plan.Plan.{Plan as PlanValue}
use Rattle.trick_model.specs.declared.thread.Process.TheVariants as process
use Rattle.trick_model.specs.declared.thread.Process.{Process}
use Rattle.trick_model.specs.declared.thread.Thread.{Thread}
use Rattle.trick_post_trays.specs.Posting.{AllReady}
use Rattle.trick_outside.specs.Calls.{Call}
use Rattle.trick_outside.specs.declared.stop.Stop.{Stop}
use Rattle.trick_post_work.specs.Polls.{Poll}
use Rattle.trick_post_work.specs.declared.posts.Posts.{Ghosts as PostsGhosts}
use Rattle.trick_exec_laws.specs.Rounds.{GaveNothing, GivesNothing, has_async}
use Rattle.trick_exec_meaning.specs.Chosen.{AreAsked, ChoseTo, but_last, of_all}
use Rattle.trick_exec_meaning.specs.Hosts.{Hosts, Place}
use Rattle.trick_exec_meaning.specs.Ran.{AreDone, Missed, Ran, Stopped}
use Rattle.trick_exec_meaning.specs.Rounds.{AreChosen, Chooses, IsChosen, heard_state, idle, no_turn, none, not_yet, one_more, publications, ready, unasked}
use Rattle.trick_exec_sources.specs.Turns.{Answer}

-- ---- no thread beside the tics has rounds

-- some thread among these is asynchronous
any_async : List Thread → Bool
any_async threads = list_any (λ (thread : Thread). is_async thread.process) threads

-- an asynchronous thread works beside the tics
async_beside : (kind : Process) → is_async kind ≡ true → is_beside kind ≡ true
async_beside process.Scheduled is = cc is
async_beside process.Async is = refl
async_beside process.MustFinish is = refl

none_beside : (p : Plan) → has_async p ≡ false → any_async (threads_beside p) ≡ false
unfolding any_async
none_beside p lacks =
    any-filter_same (λ (thread : Thread). is_async thread.process) (λ (thread : Thread). is_beside thread.process) true
    (λ thread is. async_beside thread.process is) p.threads
    ∙ lacks

-- threads without an asynchronous one, and the last of them
parts : (before : List Thread) (thread : Thread) → any_async (before ++ thread ∷ []) ≡ false
    → (any_async before ≡ false) × (is_async thread.process ≡ false)
unfolding any_async
parts before thread lacks =
    let both = or_parts (any_async before) (any_async (thread ∷ []))
    (sym (list_any-append (λ (other : Thread). is_async other.process) before (thread ∷ [])) ∙ lacks) in
    (both.0, (or_parts (is_async thread.process) false both.1).0)

-- a thread that is not asynchronous has no round
no_round : (s : State) (place : ℕ) (thread : Thread) → is_async thread.process ≡ false → has_round s place thread ≡ true → ⊥
no_round s place thread not_async round = by (is_async thread.process) not_async round
  where
    by : (b : Bool) → b ≡ false → (b && (taken_at s place).held) ≡ true → ⊥
    by true is so = cc is
    by false is so = cc so

-- ---- nothing is asked for

none_asked : (s : State) (waits : List ℕ) (threads : List Thread) (entries : List Entry) (polls : List Poll) → Chooses s waits threads entries polls
    → any_async threads ≡ false → polls ≡ []
none_asked s waits threads entries polls none lacks = refl
none_asked s waits threads entries polls (idle before thread es earlier round so) lacks = none_asked s waits before es earlier so (parts before thread lacks).0
none_asked s waits threads entries polls (ready before thread es earlier round short so) lacks =
    absurd (no_round s _ thread (parts before thread lacks).1 round)
none_asked s waits threads entries polls (not_yet before thread es earlier round short so) lacks =
    absurd (no_round s _ thread (parts before thread lacks).1 round)
none_asked s waits threads entries polls (unasked before thread es earlier round long so) lacks =
    absurd (no_round s _ thread (parts before thread lacks).1 round)

none_in_turn : (p : Plan) (s : State) (waits : List ℕ) (entries : List Entry) (polls : List Poll) → has_async p ≡ false → IsChosen p s waits entries polls
    → polls ≡ []
none_in_turn p s waits entries polls lacks chosen = by (runs s) chosen
  where
    by : (b : Bool) → (let T : Type 0 = elim b [ true ↦ Chooses s waits (threads_beside p) entries polls | false ↦ (entries ≡ []) × (polls ≡ []) ] in T) → polls ≡ []
    by true so = none_asked s waits (threads_beside p) entries polls so (none_beside p lacks)
    by false so = so.1

no_polls : (p : Plan) (w : World) (lists : List (List Entry)) (polls : List Poll) (waits : List ℕ) → has_async p ≡ false → AreChosen p w lists polls waits
    → polls ≡ []
no_polls p w lists polls waits lacks no_turn = refl
no_polls p w lists polls waits lacks (one_more early first more before entries so chosen) =
    ap (λ (ps : List Poll). ps ++ more) (no_polls p w early first before lacks so)
    ∙ none_in_turn p (heard_state p (after_turns p w early) entries) before (publications entries) more lacks chosen

-- ---- the same run with posts that are always ready

-- posts of which only what was ready was asked
ready_posts : {Q : Type 0} → PostsGhosts Q → PostsGhosts Q
ready_posts posts = record {
  plan = posts.plan;
  in_flight = posts.in_flight;
  lateness = posts.lateness;
  asked = λ old polls new. posts.asked old polls new × AllReady polls;
}

ready_hosts : {S U M Q : Type 0} → Hosts S U M Q → Hosts S U M Q
ready_hosts h = record { shelf = h.shelf; turns = h.turns; posts = ready_posts h.posts }

module _ {Q : Type 0} (posts : PostsGhosts Q) (p : Plan) (lacks : has_async p ≡ false) (s : State) where
  asks_ready : (d : Bool) (lists : List (List Entry)) (old new : Q) → AreAsked posts d p s lists old new → AreAsked (ready_posts posts) d p s lists old new
  unfolding ready_posts
  asks_ready true lists old new asked = (asked, tt)
  asks_ready false lists old new (polls, asked, chosen) =
      (polls, (asked, subst AllReady (sym (no_polls p (opened s) lists polls chosen.0 lacks chosen.1)) tt), chosen)

  chose_ready : (d : Bool) (head : List Write) (old new : Q) (lists : List (List Entry)) (calls : List Call) → ChoseTo posts d p s head old new lists calls
      → ChoseTo (ready_posts posts) d p s head old new lists calls
  chose_ready d head old new _ _ (of_all lists calls asked) = of_all lists calls (asks_ready d lists old new asked)
  chose_ready d head old new _ _ (but_last early entries late mid asked is) = but_last early entries late mid (asks_ready d early old mid asked) is

module _ {S U M Q : Type 0} (h : Hosts S U M Q) (p : Plan) (lacks : has_async p ≡ false) (s : State) (lists : List (List Entry)) (old new : Place S U Q) where
  done_ready : (last : List Answer) → AreDone h p s lists last old new → AreDone (ready_hosts h) p s lists last old new
  unfolding ready_hosts
  done_ready last done = record {
    step = done.step;
    handed = done.handed;
    rules = done.rules;
    asks = asks_ready h.posts p lacks s (h.turns.decided old.turns) lists old.posts new.posts done.asks;
  }

  ran_ready : Ran h p s lists old new → Ran (ready_hosts h) p s lists old new
  unfolding ready_hosts
  ran_ready ran = record {
    fits = ran.fits;
    done = done_ready _ ran.done;
    told = ran.told;
    does = ran.does;
    files = ran.files;
  }

  missed_ready : (kept given : ℕ) → Missed h p s lists old new kept given → Missed (ready_hosts h) p s lists old new kept given
  unfolding ready_hosts
  missed_ready kept given missed = record {
    tells = missed.tells;
    told = missed.told;
    last = missed.last;
    asked = missed.asked;
    done = done_ready missed.last missed.done;
    does = missed.does;
    files = missed.files;
  }

  stopped_ready : {T : Type 0} (result : Result T Stop) → Stopped h p s lists old new result → Stopped (ready_hosts h) p s lists old new result
  unfolding ready_hosts
  stopped_ready result stopped = record {
    owed = stopped.owed;
    goes = stopped.goes;
    follows = stopped.follows;
    rules = stopped.rules;
    does = stopped.does;
    last = stopped.last;
    asked = stopped.asked;
    sent = stopped.sent;
    unsent = stopped.unsent;
    handed = stopped.handed;
    step = stopped.step;
    stops = stopped.stops;
    owes = stopped.owes;
    chose = chose_ready h.posts p lacks s (h.turns.decided old.turns) _ old.posts new.posts lists stopped.does.calls stopped.chose;
  }

run_ready : {S U M Q D : Type 0} (h : Hosts S U M Q) (numbers : D → List ℤ) (p : Plan) → has_async p ≡ false → (s : State) (old new : Place S U Q)
    (result : Result (EndedValue D) Stop) → IsRun h numbers p s old new result → IsRun (ready_hosts h) numbers p s old new result
run_ready h numbers p lacks s old new (Ok (ended.Done world)) (lists, ran, is) = (lists, ran_ready h p lacks s lists old new ran, is)
run_ready h numbers p lacks s old new (Ok (ended.Length kept given)) (lists, missed) = (lists, missed_ready h p lacks s lists old new kept given missed)
run_ready h numbers p lacks s old new (Err e) (lists, stopped) = (lists, stopped_ready h p lacks s lists old new _ stopped)

-- ---- what such a run is

ready_once : {S U M Q : Type 0} (h : Hosts S U M Q) (old new : Place S U Q) → GaveNothing h.turns old.turns new.turns → IsAlone (ready_hosts h) old new
unfolding ready_hosts ready_posts
ready_once h old new source = record {
  silent = source.silent;
  undecided = source.undecided;
  untold = source.untold;
  ready = λ polls asked. asked.1;
}

ready_always : {S U M Q : Type 0} (h : Hosts S U M Q) → GivesNothing h.turns → AreAlone (ready_hosts h)
unfolding ready_hosts ready_posts
ready_always h source = record {
  silent = λ old new answers messages went. (source.gave old new).silent answers messages went;
  undecided = λ turns. (source.gave turns turns).undecided;
  untold = λ turns. (source.gave turns turns).untold;
  paid = source.paid;
  ready = λ old new polls asked. asked.1;
}

module _ {S U M Q D : Type 0} (h : Hosts S U M Q) (numbers : D → List ℤ) (plan : PlanValue) (lacks : has_async (plan_of plan) ≡ false) (s : State)
    (old new : Place S U Q) (result : Result (EndedValue D) Stop) (run : IsRun h numbers (plan_of plan) s old new result) where
  pub own_without_rounds : GaveNothing h.turns old.turns new.turns → RunsOwn h.shelf numbers (plan_of plan) s old.shelf new.shelf result
  unfolding ready_hosts
  own_without_rounds source =
      own_run (ready_hosts h) numbers plan s old new result (ready_once h old new source) (run_ready h numbers (plan_of plan) lacks s old new result run)

  pub alone_without_rounds : RunsJoin → GivesNothing h.turns → RunsAs h.shelf numbers (plan_of plan) s old.shelf new.shelf result
  unfolding ready_hosts
  alone_without_rounds join source =
      alone_run (ready_hosts h) numbers join plan s old new result (ready_always h source) (run_ready h numbers (plan_of plan) lacks s old new result run)
