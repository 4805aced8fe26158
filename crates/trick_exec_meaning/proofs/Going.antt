-- Turns, one after another.
use Rattle.std.proofs.Common.{◌≡◌, ◌∙◌, ℕ, ◌<◌, List, [], ◌∷◌, ◌++◌, Bool, true, false, IsOk, None, Some, ap, append-nil, refl, subst, sym}
use Rattle.std.specs.Prelude.{Result, IsErrOf, map, nat_le, not, IsTrue}
use Rattle.trick_model.specs.Files.{turn_writes, turns_said, turns_writes}
use Rattle.trick_model.specs.Laws.{RunsJoin}
use Rattle.trick_model.specs.Plan.{Plan}
use Rattle.trick_model.specs.Run.{after_turns, has_session_entry, is_over, is_shut, next_of, opened}
use Rattle.trick_model.specs.Session.{Message}
use Rattle.trick_model.specs.State.{State, World}
use Rattle.trick_model.specs.Turn.{is_frozen, turn}
use Rattle.trick_model.specs.declared.entry.Entry.{Entry}
use Rattle.trick_outside.proofs.DoesLemmas.{Joins, does_nothing, does_ok}
use Rattle.trick_outside.specs.Does.{Does}
use Rattle.trick_outside.specs.declared.stop.Stop.TheVariants.{Shelf}
use Rattle.trick_outside.specs.declared.stop.Stop.{Stop}
use Rattle.trick_post_work.specs.Polls.{Poll}
use Rattle.trick_post_work.specs.declared.posts.Posts.{Ghosts as PostsGhosts}
use Rattle.trick_exec_meaning.proofs.DidLemmas.{did_of, did_then}
use Rattle.trick_exec_meaning.proofs.Goes.{follows_more, given_lines, goes_given, goes_yet, left_more}
use Rattle.trick_exec_meaning.proofs.Idle.{waits_more}
use Rattle.trick_exec_meaning.proofs.Successions.{sessions_more, succession_more}
use Rattle.trick_exec_tic.proofs.Doing.{fine}
use Rattle.trick_exec_tic.proofs.StepLemmas.{steps_of-append}
use Rattle.trick_exec_meaning.specs.Answers.{IsSuccession, answers, given, list_answer}
use Rattle.trick_exec_meaning.specs.Follows.{Follows}
use Rattle.trick_exec_meaning.specs.Goes.{Waits, goes_owing, left_of}
use Rattle.trick_exec_meaning.specs.Hosts.{Hosts, Place, at}
use Rattle.trick_exec_meaning.specs.Ran as ran
use Rattle.trick_exec_meaning.specs.Ran.{Handed}
use Rattle.trick_exec_meaning.specs.Rounds.{AreChosen, IsChosen, no_turn, one_more, heard_state, no_waits, publications, waited}
use Rattle.trick_exec_tic.specs.Steps.{steps_of}
use Rattle.trick_exec_meaning.specs.Turned.{Asks, Turned}
use Rattle.trick_exec_sources.specs.Turns.{Answer, Told, after_entries, after_lists, behind, has_line, in_next, may_all_come, no_sessions, owes_after}
use Rattle.trick_exec_sources.specs.declared.turns.Turns.{Ghosts as TurnsGhosts}

pub never_err : IsErrOf fine Shelf → ⊥
never_err f = cc

-- ---- what joins

-- the law `went_join` of a source
abbrev pub TurnsJoin : {U M : Type 0} → TurnsGhosts U M → Type 0
TurnsJoin {U = U} turns = (first second third : U) (early late : List Answer) (some more : List Message)
    → turns.went first early some second → turns.went second late more third → turns.went first (early ++ late) (some ++ more) third

-- the law `asked_join` of posts
abbrev pub PollsJoin : {Q : Type 0} → PostsGhosts Q → Type 0
PollsJoin {Q = Q} posts = (first second third : Q) (early late : List Poll)
    → posts.asked first early second → posts.asked second late third → posts.asked first (early ++ late) third

-- the laws of the three, and that runs join
pub record Laws {S U M Q : Type 0} (h : Hosts S U M Q) : Type 0 where
  pub shelf : Joins h.shelf
  pub turns : TurnsJoin h.turns
  pub posts : PollsJoin h.posts
  pub runs : RunsJoin

-- ---- one turn more

pub writes_one : RunsJoin → (p : Plan) (w : World) (lists : List (List Entry)) (entries : List Entry)
    → (let now = after_turns p w lists in turns_writes p w (lists ++ entries ∷ []) ≡ turns_writes p w lists ++ turn_writes now.state.turn (turn p now entries))
writes_one join p w lists entries =
    let now = after_turns p w lists in
    join.writes p w lists (entries ∷ []) ∙ ap (λ more. turns_writes p w lists ++ more) (append-nil (turn_writes now.state.turn (turn p now entries)))

said_one : RunsJoin → (p : Plan) (w : World) (lists : List (List Entry)) (entries : List Entry)
    → turns_said p w (lists ++ entries ∷ []) ≡ turns_said p w lists ++ (turn p (after_turns p w lists) entries).said
said_one join p w lists entries =
    join.said p w lists (entries ∷ []) ∙ ap (λ more. turns_said p w lists ++ more) (append-nil (turn p (after_turns p w lists) entries).said)

answers_one : (decides : Bool) (p : Plan) (w : World) (lists : List (List Entry)) (entries : List Entry)
    → answers decides p w (lists ++ entries ∷ []) ≡ answers decides p w lists ++ list_answer decides (after_turns p w lists) entries
answers_one decides p w [] entries = refl
answers_one decides p w (first ∷ lists) entries =
    ap (λ more. list_answer decides w first ++ more) (answers_one decides p (turn p w first).world lists entries)

-- posts were asked for a turn more
pub asks_more : {Q : Type 0} (posts : PostsGhosts Q) (join : PollsJoin posts) (decides : Bool) (old mid new : Q) (P R V : List Poll → Type 0)
    → ((early late : List Poll) → P early → R late → V (early ++ late))
    → Asks decides posts.asked P old mid → Asks decides posts.asked R mid new → Asks decides posts.asked V old new
asks_more posts join true old mid new P R V both early late = join old mid new [] [] early late
asks_more posts join false old mid new P R V both (polls, early, one) (more, late, two) =
    (polls ++ more, join old mid new polls more early late, both polls more one two)

-- A source gave a list for a world's turn.
pub record Gave {U M : Type 0} (turns : TurnsGhosts U M) (w : World) (list : List Entry) (old now : U) : Type 0 where
  pub step : turns.went old (record { turn = w.state.turn; mode = w.state.mode; sessions = w.sessions; list = Some list } ∷ []) [] now
  pub owes : turns.owes now ≡ owes_after w.state.mode list (turns.owes old)
  pub told : (told : Told) → turns.journal old ≡ Some told
      → (list ≡ next_of told.lists) × (w.state.turn < told.end) × (is_frozen w.state.mode ≡ true → has_session_entry told.lists ≡ true)
      × (turns.journal now ≡ Some (behind told))
  pub untold : turns.journal old ≡ None → turns.journal now ≡ None
  pub decided : turns.decided now ≡ turns.decided old
  pub may : IsTrue (may_all_come list (in_next (turns.sessions old)))
  pub sessions : turns.sessions now ≡ after_entries list (in_next (turns.sessions old))

-- What is left of a journal that is told, where turns were given these lists.
abbrev pub TellsRest : {U M : Type 0} → TurnsGhosts U M → Plan → World → U → U → List (List Entry) → Type 0
TellsRest turns p w old now lists = turns.decided old ≡ true → (told : Told) → turns.journal old ≡ Some told
    → Follows p w told lists × (turns.journal now ≡ Some (record told { lists = left_of lists told.lists }))

-- So many turns were done, and all is well.
pub record IsGoing {S U M Q : Type 0} (h : Hosts S U M Q) (p : Plan) (start : State) (old now : Place S U Q)
    (w : World) (waits : List ℕ) (lists : List (List Entry)) : Type 0 where
  pub goes : IsTrue (goes_owing (h.turns.owes now.turns) p (opened start) lists)
  pub owing : Waits (h.turns.owes now.turns) w.state
  pub rest : TellsRest h.turns p (opened start) old.turns now.turns lists
  pub untold : h.turns.journal old.turns ≡ None → h.turns.journal now.turns ≡ None
  pub is : w ≡ after_turns p (opened start) lists
  pub does : Does h.shelf old.shelf now.shelf fine (steps_of (turns_writes p (opened start) lists))
  pub step : h.turns.went old.turns (answers (h.turns.decided old.turns) p (opened start) lists)
      (turns_said p (opened start) lists) now.turns
  pub handed : Handed h.turns (h.turns.decided old.turns) p (opened start) lists old.turns now.turns
  pub rules : IsSuccession (h.turns.decided old.turns) lists
  pub sessions : h.turns.sessions now.turns ≡ after_lists (map (given (h.turns.decided old.turns)) lists) no_sessions
  pub asks : Asks (h.turns.decided old.turns) h.posts.asked (λ polls. AreChosen p (opened start) lists polls waits) old.posts now.posts
  pub decided : h.turns.decided now.turns ≡ h.turns.decided old.turns

-- no turn was done
pub asks_nothing : {Q : Type 0} (posts : PostsGhosts Q) (decides : Bool) (q : Q) (P : List Poll → Type 0) → posts.asked q [] q → P []
    → Asks decides posts.asked P q q
asks_nothing posts true q P none start = none
asks_nothing posts false q P none start = ([], none, start)

pub going_starts : {S U M Q : Type 0} (h : Hosts S U M Q) (p : Plan) (start : State) (one : Place S U Q)
    → h.shelf.called one.shelf [] one.shelf → h.turns.went one.turns [] [] one.turns → h.posts.asked one.posts [] one.posts
    → h.turns.owes one.turns ≡ false → h.turns.sessions one.turns ≡ no_sessions → IsGoing h p start one one (opened start) (no_waits p) []
going_starts h p start one called went asked paid unknown = record {
  goes = refl;
  owing = λ e. cc;
  rest = λ decides told is. (tt, is);
  untold = λ none. none;
  is = refl;
  does = does_nothing one.shelf fine called never_err;
  step = went;
  handed = ran.no_turn one.turns;
  rules = refl;
  sessions = unknown;
  asks = asks_nothing h.posts (h.turns.decided one.turns) one.posts (λ polls. AreChosen p (opened start) [] polls (no_waits p)) asked no_turn;
  decided = refl;
}

module _ {S U M Q : Type 0} (h : Hosts S U M Q) (laws : Laws h) (p : Plan) (start : State) where
  -- a source that gave one list more
  pub step_more : (decides : Bool) (before mid gave now : U) (w : World) (lists : List (List Entry)) (entries : List Entry) (said : List Message)
      → w ≡ after_turns p (opened start) lists
      → h.turns.went before (answers decides p (opened start) lists) (turns_said p (opened start) lists) mid
      → h.turns.went mid (list_answer decides w entries) [] gave → h.turns.went gave [] said now
      → h.turns.went before (answers decides p (opened start) (lists ++ entries ∷ [])) (turns_said p (opened start) lists ++ said) now
  step_more decides before mid gave now w lists entries said is step answer talk =
      let early = answers decides p (opened start) lists in
      let all = turns_said p (opened start) lists in
      subst (λ a. h.turns.went before a (all ++ said) now)
      (ap (λ (v : World). early ++ list_answer decides v entries) is ∙ sym (answers_one decides p (opened start) lists entries))
      (laws.turns before mid now early (list_answer decides w entries) all said step
      (laws.turns mid gave now (list_answer decides w entries) [] [] said answer talk))

  -- a source that gave one list more, and was handed the messages of its turn
  handed_more : (decides : Bool) (before mid gave now : U) (w : World) (lists : List (List Entry)) (entries : List Entry)
      → w ≡ after_turns p (opened start) lists → Handed h.turns decides p (opened start) lists before mid
      → h.turns.went mid (list_answer decides w entries) [] gave → h.turns.went gave [] (turn p w entries).said now
      → Handed h.turns decides p (opened start) (lists ++ entries ∷ []) before now
  handed_more decides before mid gave now w lists entries is handed answer talk =
      ran.one_more lists entries before mid gave now handed
      (subst (λ (v : World). h.turns.went mid (list_answer decides v entries) [] gave) is answer)
      (subst (λ (v : World). h.turns.went gave [] (turn p v entries).said now) is talk)

  pub said_more : (w : World) (lists : List (List Entry)) (entries : List Entry) → w ≡ after_turns p (opened start) lists
      → turns_said p (opened start) (lists ++ entries ∷ []) ≡ turns_said p (opened start) lists ++ (turn p w entries).said
  said_more w lists entries is =
      said_one laws.runs p (opened start) lists entries
      ∙ ap (λ (v : World). turns_said p (opened start) lists ++ (turn p v entries).said) (sym is)

  pub did_more : {T : Type 0} {old mid new : S} {result : Result T Stop} (w : World) (lists : List (List Entry)) (entries : List Entry)
      → w ≡ after_turns p (opened start) lists
      → Does h.shelf old mid fine (steps_of (turns_writes p (opened start) lists))
      → (more : Does h.shelf mid new result (steps_of (turn_writes w.state.turn (turn p w entries))))
      → (does : Does h.shelf old new result (steps_of (turns_writes p (opened start) (lists ++ entries ∷ []))))
      × (does.calls ≡ steps_of (turns_writes p (opened start) lists) ++ more.calls)
  did_more w lists entries is did more =
      let early = turns_writes p (opened start) lists in
      let step = turn_writes w.state.turn (turn p w entries) in
      did_of
      (sym (steps_of-append early step)
      ∙ ap (λ (v : World). steps_of (early ++ turn_writes v.state.turn (turn p v entries))) is
      ∙ sym (ap steps_of (writes_one laws.runs p (opened start) lists entries)))
      (did_then laws.shelf did refl more)

  pub rest_more : (old mid gave now : U) (w : World) (lists : List (List Entry)) (entries : List Entry)
      → w ≡ after_turns p (opened start) lists → is_shut w.state.mode ≡ false → nat_le w.state.limit w.state.tic ≡ false
      → TellsRest h.turns p (opened start) old mid lists → Gave h.turns w (given (h.turns.decided old) entries) mid gave
      → h.turns.journal now ≡ h.turns.journal gave → TellsRest h.turns p (opened start) old now (lists ++ entries ∷ [])
  rest_more old mid gave now w lists entries is alive below rest gives kept decides told tells =
      let so = rest decides told tells in
      let left = left_of lists told.lists in
      let next = gives.told (record told { lists = left }) so.1 in
      let same : entries ≡ next_of left = sym (ap (λ (b : Bool). given b entries) decides) ∙ next.0 in
      let yet : IsTrue (not (is_over w.state left)) =
      goes_yet (is_shut w.state.mode) (nat_le w.state.limit w.state.tic) (is_frozen w.state.mode) (has_session_entry left) alive below next.2 in (
        follows_more p (opened start) told lists entries so.0 same
            (subst (λ (v : World). v.state.turn < told.end) is next.1)
            (subst (λ (v : World). IsTrue (not (is_over v.state left))) is yet),
        kept ∙ next.3 ∙ ap (λ (ls : List (List Entry)). Some (record told { lists = ls })) (sym (left_more lists told.lists entries)),
      )

  pub chosen_more : (w : World) (waits : List ℕ) (lists : List (List Entry)) (entries : List Entry) → w ≡ after_turns p (opened start) lists
      → (early late : List Poll) → AreChosen p (opened start) lists early waits → IsChosen p (heard_state p w entries) waits (publications entries) late
      → AreChosen p (opened start) (lists ++ entries ∷ []) (early ++ late) (waited p (heard_state p w entries) waits (publications entries))
  chosen_more w waits lists entries is early late chosen more =
      subst (λ (v : World). AreChosen p (opened start) (lists ++ entries ∷ []) (early ++ late) (waited p (heard_state p v entries) waits (publications entries))) (sym is)
      (one_more lists early late waits entries chosen (subst (λ (v : World). IsChosen p (heard_state p v entries) waits (publications entries) late) is more))

  -- a turn more was done
  pub going_more : {T : Type 0} {old mid new : Place S U Q} {first : Result T Stop} (w after : World) (waits now : List ℕ) (lists : List (List Entry)) (entries : List Entry) (gave : U)
      → IsGoing h p start old mid w waits lists → is_shut w.state.mode ≡ false → nat_le w.state.limit w.state.tic ≡ false → w.state.tic < w.state.limit
      → Gave h.turns w (given (h.turns.decided old.turns) entries) mid.turns gave
      → Turned h p w entries (at mid.shelf gave mid.posts) new first → IsOk first
      → Asks (h.turns.decided old.turns) h.posts.asked (IsChosen p (heard_state p w entries) waits (publications entries)) mid.posts new.posts
      → after ≡ (turn p w entries).world → now ≡ waited p (heard_state p w entries) waits (publications entries)
      → IsGoing h p start old new after now (lists ++ entries ∷ [])
  going_more {old = old} {mid = mid} {new = new} w after waits now lists entries gave so alive below less gives did ok asks is counts =
      let d = h.turns.decided old.turns in
      let owed = h.turns.owes mid.turns in
      let list = given d entries in
      let same : has_line list ≡ has_line entries = given_lines d entries in
      let owes : h.turns.owes new.turns ≡ owes_after w.state.mode list owed = did.says.kept.owes ∙ gives.owes in
      let all : (turn p w entries).said ≡ did.says.sent = did.says.all ∙ ap (λ more. did.says.sent ++ more) (did.says.whole ok) ∙ append-nil did.says.sent in
      let early = turns_said p (opened start) lists in
      record {
        goes = goes_given p (opened start) w lists entries list owed (h.turns.owes new.turns) so.is so.goes alive below same owes;
        owing = subst (λ (b : Bool). Waits b after.state) (sym owes)
            (subst (λ (v : World). Waits (owes_after w.state.mode list owed) v.state) (sym is) (waits_more p w entries list owed same so.owing less));
        untold = λ silent. did.says.kept.journal ∙ gives.untold (so.untold silent);
        rest = rest_more old.turns mid.turns gave new.turns w lists entries so.is alive below so.rest gives did.says.kept.journal;
        is = is ∙ ap (λ (v : World). (turn p v entries).world) so.is ∙ sym (laws.runs.worlds p (opened start) lists (entries ∷ []));
        does = (did_more w lists entries so.is so.does (does_ok (tt {0}) did.does ok)).0;
        step = subst (λ (said : List Message). h.turns.went old.turns (answers d p (opened start) (lists ++ entries ∷ [])) said new.turns)
            (ap (λ more. early ++ more) (sym all) ∙ sym (said_more w lists entries so.is))
            (step_more d old.turns mid.turns gave new.turns w lists entries did.says.sent so.is so.step gives.step did.says.step);
        handed = handed_more d old.turns mid.turns gave new.turns w lists entries so.is so.handed gives.step
            (subst (λ (said : List Message). h.turns.went gave [] said new.turns) (sym all) did.says.step);
        rules = succession_more d lists entries no_sessions (h.turns.sessions mid.turns) so.rules so.sessions gives.may;
        sessions = did.says.kept.sessions ∙ gives.sessions ∙ sessions_more d lists entries no_sessions (h.turns.sessions mid.turns) so.sessions;
        asks = asks_more h.posts laws.posts d old.posts mid.posts new.posts (λ polls. AreChosen p (opened start) lists polls waits)
            (IsChosen p (heard_state p w entries) waits (publications entries)) (λ polls. AreChosen p (opened start) (lists ++ entries ∷ []) polls now)
            (λ early late one two. subst (AreChosen p (opened start) (lists ++ entries ∷ []) (early ++ late)) (sym counts) (chosen_more w waits lists entries so.is early late one two))
            so.asks asks;
        decided = did.says.kept.decided ∙ gives.decided ∙ so.decided;
      }
