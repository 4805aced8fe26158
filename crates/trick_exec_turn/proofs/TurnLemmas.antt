-- A turn of the code comes to what it is to come to.
use Rattle.std.proofs.Common.{◌≡◌, ◌∙◌, ℕ, ℤ, List, [], ◌++◌, length, Bool, true, false, Err, Ok, ap, append-nil, arith, drop, inl, inr, refl, subst, sym, take}
use Rattle.std.proofs.lemmas.List.{drop_all, take_all}
use Rattle.std.specs.Prelude.{◌⊎◌, All, IfOk, IsTrue, Option, Result, cond}
use Rattle.trick_base.proofs.Results.{not_ok}
use Rattle.trick_exec_posts.specs.Flight.{GoesWith, IsInFlight}
use Rattle.trick_exec_turn.proofs.LineLemmas.{after_lines, entries_given, lines_come, publications_are}
use Rattle.trick_exec_turn.proofs.SessionLemmas.{AreAlong, all_entries, along_all, along_starts, joins_rise, known_after, replies_reach}
use Rattle.trick_exec_turn.specs.CameTo.{CameTo, HasGiven}
use Rattle.trick_exec_turn.specs.Known.{AreKnown}
use Rattle.trick_exec_turn.specs.Worlds.{world_of}
use Rattle.trick_model.specs.declared.world.World.{World as WorldValue}
use Rattle.trick_exec_entries.specs.Sessions.{AreHeard, numbers_of}
use Rattle.trick_phase_jobs.specs.Belongs.{IsMemoryOf}
use Rattle.trick_lang.specs.declared.scalar.Scalar.{Scalar}
use Rattle.trick_model.proofs.Turns.{heard_right}
use Rattle.trick_model.specs.Files.{note}
use Rattle.trick_model.specs.Journal.{is_entry}
use Rattle.trick_model.specs.Plan.{Plan}
use Rattle.trick_model.specs.PlanOf.{plan_of}
use Rattle.trick_model.specs.Session.{Message, staying}
use Rattle.trick_model.specs.State.{State, World, seen}
use Rattle.trick_model.specs.Turn.{Hearing, begun, heard, replies, turn}
use Rattle.trick_model.specs.ValidState.{IsSound, IsStateOf}
use Rattle.trick_model.specs.declared.entry.Entry.{Entry}
use Rattle.trick_model.specs.declared.plan.Plan.{Plan as PlanValue}
use Rattle.trick_model.specs.declared.session.Session.{Session}
use Rattle.trick_model.specs.declared.taken.Taken.{Taken}
use Rattle.trick_outside.specs.Does.{Does, IsPartOf}
use Rattle.trick_outside.specs.declared.stop.Stop.{Stop}
use Rattle.trick_post_work.specs.Polls.{Poll}
use Rattle.trick_post_work.specs.Work.{Started}
use Rattle.trick_post_work.specs.declared.posts.Posts.{Ghosts as PostsGhosts}
use Rattle.trick_exec_meaning.proofs.Going.{Laws, PollsJoin}
use Rattle.trick_exec_meaning.proofs.PartLemmas.{IsMade, heard_apart, turn_made}
use Rattle.trick_exec_meaning.proofs.Times.{heard_time}
use Rattle.trick_exec_meaning.proofs.TurnedLemmas.{turned_lines}
use Rattle.trick_exec_meaning.specs.Answers.{given}
use Rattle.trick_exec_meaning.specs.Hosts.{Hosts, Place, at}
use Rattle.trick_exec_meaning.specs.Parts.{AreApart}
use Rattle.trick_exec_meaning.specs.Rounds.{IsChosen, heard_state, publications, waited}
use Rattle.trick_exec_meaning.specs.Turned.{Asks, Turned, line_notes}
use Rattle.trick_exec_tic.specs.Steps.{steps_of}
use Rattle.trick_exec_sources.specs.Turns.{Sessions, after_entries, has_line, in_next, is_among, may_all_come}

-- ---- small facts

-- the two parts of a list, as they are called
pub apart_of : (list front back lines tail : List Entry) → lines ≡ front → tail ≡ back → AreApart list front back → AreApart list lines tail
apart_of list front back lines tail one two apart =
    subst (λ (t : List Entry). AreApart list lines t) (sym two) (subst (λ (l : List Entry). AreApart list l back) (sym one) apart)

-- what was written through a slice
pub written_back : (len : ℕ) (new old : List ℕ) → len ≡ length old → length new ≡ length old → take len (new ++ drop (length new) old) ≡ new
written_back len new old is same =
    ap (λ (l : List ℕ). take len (new ++ l)) (drop_all (length new) old (omega (arith, same)))
    ∙ ap (take len) (append-nil new) ∙ take_all len new (omega (arith, is, same))

if_not : {T : Type 0} (P : T → Type 0) (result : Result T Stop) (e : Stop) → result ≡ Err e → IfOk result P
if_not P (Ok x) e is = cc
if_not P (Err f) e is = tt

-- the world that a result has, by its state and its sessions
pub worlds_so : {D : Type 0} (numbers : D → List ℤ) (result : Result (WorldValue D) Stop) (w : World) {s : State} {sessions : List Session}
    → IfOk result (λ after. seen numbers after.state ≡ s) → IfOk result (λ after. after.sessions.items ≡ sessions)
    → s ≡ w.state → sessions ≡ w.sessions → IfOk result (λ after. world_of numbers after ≡ w)
worlds_so numbers (Ok last) w state there one two = λ i. record { state = (state ∙ one) i; sessions = (there ∙ two) i }
worlds_so numbers (Err e) w state there one two = tt

-- posts of which nothing more is asked
pub asks_quiet : {Q : Type 0} (posts : PostsGhosts Q) → PollsJoin posts → (decides : Bool) (P : List Poll → Type 0) (old mid new : Q)
    → Asks decides posts.asked P old mid → posts.asked mid [] new → Asks decides posts.asked P old new
asks_quiet posts join true P old mid new asks more = join old mid new [] [] asks more
asks_quiet posts join false P old mid new (polls, asked, is) more =
    (polls, subst (λ (l : List Poll). posts.asked old l new) (append-nil polls) (join old mid new polls [] asked more), is)

-- what is in flight goes with the state after its lines were heard
pub heard_goes : (plan : PlanValue) (in_flight : ℕ → Option Started) (w : World) (lines : List Entry) (s : State) (old new : List Scalar) → IsSound (plan_of plan)
    → s ≡ heard_state (plan_of plan) w lines → IsMemoryOf plan.program s.memory new
    → GoesWith plan in_flight w.state.tic w.state old → GoesWith plan in_flight s.tic s new
heard_goes plan in_flight w lines s old new sound is memory goes =
    let p = plan_of plan in
    let time = heard_time p lines (begun w) in
    record {
      valid = subst (IsStateOf p) (sym is) (heard_right p sound lines (begun w) goes.valid);
      memory = memory;
      tied = subst (λ (taken : List Taken). IsInFlight p in_flight s.tic taken) (sym (ap (λ (t : State). t.taken) is ∙ time.taken))
          (subst (λ (tic : ℕ). IsInFlight p in_flight tic w.state.taken) (sym (ap (λ (t : State). t.tic) is ∙ time.tic)) goes.tied);
    }

-- posts were asked, in other words
asks_as : {Q : Type 0} (posts : PostsGhosts Q) (decides : Bool) (old new : Q) (p : Plan) (s t : State) (waits : List ℕ) (published chosen tail : List Entry)
    → t ≡ s → published ≡ cond decides tail chosen → Asks decides posts.asked (IsChosen p t waits chosen) old new
    → Asks decides posts.asked (IsChosen p s waits published) old new
asks_as posts true old new p s t waits published chosen tail same is asks = asks
asks_as posts false old new p s t waits published chosen tail same is (polls, asked, so) =
    (polls, asked, subst (λ (es : List Entry). IsChosen p s waits es polls) (sym is) (subst (λ (x : State). IsChosen p x waits chosen polls) same so))

-- posts were asked for the rounds of their plan
pub asks_of : {Q : Type 0} (posts : PostsGhosts Q) (decides : Bool) (plan : PlanValue) (s : State) (kept waits : List ℕ) (chosen : List Entry) (old new : Q)
    → posts.plan old ≡ plan → kept ≡ waits → Asks decides posts.asked (IsChosen (plan_of (posts.plan old)) s kept chosen) old new
    → Asks decides posts.asked (IsChosen (plan_of plan) s waits chosen) old new
asks_of posts decides plan s kept waits chosen old new is same asks =
    subst (λ (x : PlanValue). Asks decides posts.asked (IsChosen (plan_of x) s waits chosen) old new) is
    (subst (λ (l : List ℕ). Asks decides posts.asked (IsChosen (plan_of (posts.plan old)) s l chosen) old new) same asks)

-- ---- a turn with its list

module _ (p : Plan) (decides : Bool) (w : World) (list lines tail : List Entry) (now : Sessions) (has : HasGiven p decides w list now)
    (apart : AreApart list lines tail) where
  begins : AreAlong (in_next has.known) w.sessions
  begins = along_starts p has.known w.sessions has.are

  come : may_all_come lines (in_next has.known) ≡ true
  come = lines_come list lines tail (in_next has.known) apart has.may

  known_now : now ≡ after_entries lines (in_next has.known)
  known_now = has.after ∙ after_lines list lines tail (in_next has.known) apart

  pub line_entries : All (λ (entry : Entry). IsTrue (is_entry entry)) lines
  line_entries = all_entries lines (in_next has.known) come

  pub line_sessions : AreHeard p w.sessions lines
  line_sessions = record { right = has.are.right; rising = joins_rise lines (in_next has.known) (numbers_of w.sessions) come has.are.rising has.are.below }

  along : AreAlong (after_entries lines (in_next has.known)) (heard p lines (begun w)).sessions
  along = along_all p lines (in_next has.known) (begun w) come begins

  pub line_replies : (said : List Message) → said ≡ replies p lines (begun w) → All (λ (message : Message). IsTrue (is_among message.0 now.reached)) said
  line_replies said is =
      subst (λ (s : Sessions). All (λ (message : Message). IsTrue (is_among message.0 s.reached)) said) (sym known_now)
      (subst (λ (ms : List Message). All (λ (message : Message). IsTrue (is_among message.0 (after_entries lines (in_next has.known)).reached)) ms) (sym is)
      (replies_reach p lines (in_next has.known) (begun w) come begins))

  pub line_reached : (h : Hearing) → h ≡ heard p lines (begun w) → numbers_of h.sessions ≡ now.reached
  line_reached h is = ap (λ (g : Hearing). numbers_of g.sessions) is ∙ along.reached ∙ ap (λ (s : Sessions). s.reached) (sym known_now)

  pub line_known : (h : Hearing) (after : Sessions) (ss : List Session) → h ≡ heard p lines (begun w) → after ≡ now → ss ≡ staying h.sessions
      → AreHeard p h.sessions [] → AreKnown p after ss
  line_known h after ss is same stays right =
      subst (λ (l : List Session). AreKnown p after l) (sym stays)
      (subst (λ (s : Sessions). AreKnown p s (staying h.sessions)) (sym (same ∙ known_now))
      (known_after p (after_entries lines (in_next has.known)) h.sessions
      (subst (λ (g : Hearing). AreAlong (after_entries lines (in_next has.known)) g.sessions) (sym is) along) right.right))

  -- the entries of the turn, with publications that were chosen
  abbrev pub entries_of : List Entry → List Entry
  entries_of chosen = lines ++ cond decides tail chosen

  pub parts : (chosen : List Entry) → has_line chosen ≡ false
      → AreApart (lines ++ cond decides tail chosen) lines (cond decides tail chosen) × (given decides (lines ++ cond decides tail chosen) ≡ list)
  parts chosen silent = entries_given decides list lines tail chosen apart silent has.silent

  pub made : (chosen : List Entry) (h : Hearing) → has_line chosen ≡ false → h ≡ heard p lines (begun w)
      → IsMade p w (lines ++ cond decides tail chosen) lines (cond decides tail chosen) h
  made chosen h silent is = turn_made p w (lines ++ cond decides tail chosen) lines (cond decides tail chosen) h (parts chosen silent).0 is

  -- the state after the entries were heard is that after the lines were
  same_heard : (chosen : List Entry) → has_line chosen ≡ false → heard_state p w (lines ++ cond decides tail chosen) ≡ heard_state p w lines
  same_heard chosen silent = ap (λ (h : Hearing). h.asking.state) (heard_apart p (lines ++ cond decides tail chosen) lines (cond decides tail chosen) (begun w) (parts chosen silent).0)

  same_published : (chosen : List Entry) → has_line chosen ≡ false → publications (lines ++ cond decides tail chosen) ≡ cond decides tail chosen
  same_published chosen silent = publications_are (lines ++ cond decides tail chosen) lines (cond decides tail chosen) (parts chosen silent).0

  -- it stopped
  came_not : {S U M Q D : Type 0} {h : Hosts S U M Q} {numbers : D → List ℤ} {waits after : List ℕ} {old new : Place S U Q} (chosen : List Entry)
      (result : Result (WorldValue D) Stop) (e : Stop) → has_line chosen ≡ false → (turned : Turned h p w (lines ++ cond decides tail chosen) old new result) → result ≡ Err e
      → (Asks decides h.posts.asked (IsChosen p (heard_state p w (lines ++ cond decides tail chosen)) waits (publications (lines ++ cond decides tail chosen))) old.posts new.posts
      ⊎ IsPartOf turned.does.calls (steps_of (line_notes w.state.turn (turn p w (lines ++ cond decides tail chosen)))))
      → CameTo h numbers p decides w list waits after old new result
  came_not {numbers = numbers} chosen result e silent turned is chose = record {
    entries = lines ++ cond decides tail chosen;
    gave = (parts chosen silent).1;
    turned = turned;
    world = if_not (λ after. world_of numbers after ≡ (turn p w (lines ++ cond decides tail chosen)).world) result e is;
    asks = λ ok. absurd (not_ok result e is ok);
    chose = chose;
    waited_so = λ ok. absurd (not_ok result e is ok);
  }

  -- it stopped before its publications were chosen
  pub came_short : {S U M Q D : Type 0} (h : Hosts S U M Q) (laws : Laws h) {numbers : D → List ℤ} {waits after : List ℕ} {old : Place S U Q} {new : S} {posts : Q} (hearing : Hearing)
      (result : Result (WorldValue D) Stop) (e : Stop) → hearing ≡ heard p lines (begun w) → h.turns.went old.turns [] [] old.turns → result ≡ Err e
      → Does h.shelf old.shelf new result (steps_of (note w.state.turn lines))
      → CameTo h numbers p decides w list waits after old (at new old.turns posts) result
  came_short h laws hearing result e heard_is none is did =
      let short = turned_lines h laws p w (lines ++ cond decides tail []) lines (cond decides tail []) hearing (made [] hearing refl heard_is) result e none is did in
      came_not [] result e refl short.0 is (inr short.1)

  -- its publications were chosen
  chosen_so : {Q : Type 0} (posts : PostsGhosts Q) (join : PollsJoin posts) (waits : List ℕ) (chosen : List Entry) (hearing : Hearing) (old mid new : Q)
      → has_line chosen ≡ false → hearing ≡ heard p lines (begun w)
      → Asks decides posts.asked (IsChosen p hearing.asking.state waits chosen) old mid → posts.asked mid [] new
      → Asks decides posts.asked (IsChosen p (heard_state p w (lines ++ cond decides tail chosen)) waits (publications (lines ++ cond decides tail chosen))) old new
  chosen_so posts join waits chosen hearing old mid new silent is asks quiet =
      let entries = lines ++ cond decides tail chosen in
      asks_as posts decides old new p (heard_state p w entries) hearing.asking.state waits (publications entries) chosen tail
      (ap (λ (g : Hearing). g.asking.state) is ∙ sym (same_heard chosen silent))
      (same_published chosen silent) (asks_quiet posts join decides (IsChosen p hearing.asking.state waits chosen) old mid new asks quiet)

  -- it stopped when they were
  pub came_late : {S U M Q D : Type 0} (h : Hosts S U M Q) {numbers : D → List ℤ} {waits after : List ℕ} {old new : Place S U Q} {mid : Q} (chosen : List Entry)
      (result : Result (WorldValue D) Stop) (e : Stop) (hearing : Hearing) → PollsJoin h.posts → has_line chosen ≡ false → hearing ≡ heard p lines (begun w)
      → Turned h p w (lines ++ cond decides tail chosen) old new result → result ≡ Err e
      → Asks decides h.posts.asked (IsChosen p hearing.asking.state waits chosen) old.posts mid → h.posts.asked mid [] new.posts
      → CameTo h numbers p decides w list waits after old new result
  came_late h {waits = waits} {old = old} {new = new} {mid = mid} chosen result e hearing join silent is turned at asks quiet =
      came_not chosen result e silent turned at (inl (chosen_so h.posts join waits chosen hearing old.posts mid new.posts silent is asks quiet))

  -- it took its course
  came : {S U M Q D : Type 0} (h : Hosts S U M Q) (numbers : D → List ℤ) {waits after : List ℕ} {old new : Place S U Q} {mid : Q} (chosen : List Entry)
      (last : WorldValue D) (hearing : Hearing) → PollsJoin h.posts → has_line chosen ≡ false → hearing ≡ heard p lines (begun w)
      → Turned h p w (lines ++ cond decides tail chosen) old new (Ok last)
      → world_of numbers last ≡ (turn p w (lines ++ cond decides tail chosen)).world
      → Asks decides h.posts.asked (IsChosen p hearing.asking.state waits chosen) old.posts mid → h.posts.asked mid [] new.posts
      → (decides ≡ false → after ≡ waited p hearing.asking.state waits chosen)
      → CameTo h numbers p decides w list waits after old new (Ok last)
  came h numbers {waits = waits} {after = after} {old = old} {new = new} {mid = mid} chosen last hearing join silent is turned world asks quiet counts =
      let entries = lines ++ cond decides tail chosen in
      let state : hearing.asking.state ≡ heard_state p w entries = ap (λ (g : Hearing). g.asking.state) is ∙ sym (same_heard chosen silent) in
      let all = chosen_so h.posts join waits chosen hearing old.posts mid new.posts silent is asks quiet in
      record {
        entries = entries;
        gave = (parts chosen silent).1;
        turned = turned;
        world = world;
        asks = λ ok. all;
        chose = inl all;
        waited_so = λ ok none. (counts none ∙ ap (λ (s : State). waited p s waits chosen) state
            ∙ ap (waited p (heard_state p w entries) waits) (sym (same_published chosen silent ∙ ap (λ (b : Bool). cond b tail chosen) none)));
      }

  -- it took its course, or stopped on it
  pub came_so : {S U M Q D : Type 0} (h : Hosts S U M Q) (numbers : D → List ℤ) {waits after : List ℕ} {old new : Place S U Q} {mid : Q} (chosen : List Entry)
      (result : Result (WorldValue D) Stop) (hearing : Hearing) → PollsJoin h.posts → has_line chosen ≡ false → hearing ≡ heard p lines (begun w)
      → Turned h p w (lines ++ cond decides tail chosen) old new result
      → IfOk result (λ last. world_of numbers last ≡ (turn p w (lines ++ cond decides tail chosen)).world)
      → Asks decides h.posts.asked (IsChosen p hearing.asking.state waits chosen) old.posts mid → h.posts.asked mid [] new.posts
      → (decides ≡ false → after ≡ waited p hearing.asking.state waits chosen)
      → CameTo h numbers p decides w list waits after old new result
  came_so h numbers chosen (Ok last) hearing join silent is turned world asks quiet counts =
      came h numbers chosen last hearing join silent is turned world asks quiet counts
  came_so h numbers chosen (Err e) hearing join silent is turned world asks quiet counts =
      came_late h chosen (Err e) e hearing join silent is turned refl asks quiet
