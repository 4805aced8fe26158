-- A turn without entries in which nothing is done but that time passes.
use Rattle.std.proofs.Common.{◌≡◌, ◌∙◌, ℕ, ℤ, List, [], ◌∷◌, Bool, true, false, Ok, ap, inl, length, refl, subst, sym}
use Rattle.trick_exec_turn.specs.CameTo.{CameTo}
use Rattle.trick_exec_turn.specs.Known.{AreKnown}
use Rattle.trick_exec_turn.specs.Worlds.{world_of}
use Rattle.trick_model.specs.declared.world.World.{World as WorldValue}
use Rattle.std.specs.Prelude.{Result}
use Rattle.trick_model.specs.Files.{turn_writes}
use Rattle.trick_model.specs.Plan.{Plan, threads_beside}
use Rattle.trick_model.specs.Run.{opened}
use Rattle.trick_model.specs.State.{State, World, seen}
use Rattle.trick_model.specs.Turn.{runs, turn}
use Rattle.trick_model.specs.declared.entry.Entry.{Entry}
use Rattle.trick_model.specs.declared.session.Session.{Session}
use Rattle.trick_model.specs.declared.thread.Thread.{Thread}
use Rattle.trick_outside.proofs.DoesLemmas.{does_nothing, does_ok}
use Rattle.trick_outside.specs.Calls.{Call}
use Rattle.trick_outside.specs.Does.{Does}
use Rattle.trick_outside.specs.declared.stop.Stop.{Stop}
use Rattle.trick_exec_frame.specs.Pass.{passed, unasked}
use Rattle.trick_post_work.specs.Polls.{Poll}
use Rattle.trick_exec_meaning.specs.Answers.{given}
use Rattle.trick_exec_meaning.specs.Hosts.{Hosts, Place}
use Rattle.trick_exec_meaning.specs.Rounds.{Chooses, IsChosen, none, waited, waited_from}
use Rattle.trick_exec_meaning.specs.Turned.{Asks}
use Rattle.trick_exec_tic.proofs.Doing.{fine}
use Rattle.trick_exec_tic.specs.Steps.{steps_of}
use Rattle.trick_exec_sources.specs.Turns.{Sessions, in_next}

given_none : (decides : Bool) → given decides [] ≡ []
given_none true = refl
given_none false = refl

no_items : (xs : List ℕ) → length xs ≡ 0 → [] ≡ xs
no_items [] e = refl
no_items (x ∷ xs) e = cc

-- where no thread works beside the tics, nothing is chosen
nothing_chosen : State → List ℕ → List Thread → Bool → Type 0
nothing_chosen s waits threads b =
    let entries : List Entry = [] in
    let polls : List Poll = [] in
    elim b as (λ x. Type 0) [ true ↦ Chooses s waits threads entries polls | false ↦ (entries ≡ []) × (polls ≡ []) ]

all_chosen : (s : State) (waits : List ℕ) (threads : List Thread) (b : Bool) → threads ≡ [] → nothing_chosen s waits threads b
unfolding nothing_chosen
all_chosen s waits threads true alone = subst (λ (ts : List Thread). Chooses s waits ts [] []) (sym alone) none
all_chosen s waits threads false alone = (refl, refl)

none_chosen : (p : Plan) (s : State) (waits : List ℕ) → threads_beside p ≡ [] → IsChosen p s waits [] []
unfolding nothing_chosen
none_chosen p s waits alone = all_chosen s waits (threads_beside p) (runs s) alone

none_waits : (p : Plan) (s : State) (waits : List ℕ) → threads_beside p ≡ [] → length waits ≡ length (threads_beside p) → waits ≡ waited p s waits []
none_waits p s waits alone many = go (runs s) refl
  where
    empty : [] ≡ waits
    empty = no_items waits (many ∙ ap length alone)

    no_thread : waits ≡ waited_from s waits [] 0 (threads_beside p)
    no_thread = sym empty ∙ ap (waited_from s waits [] 0) (sym alone)

    go : (b : Bool) → runs s ≡ b → waits ≡ waited p s waits []
    go true e = no_thread ∙ ap (λ (b : Bool). elim b [ true ↦ waited_from s waits [] 0 (threads_beside p) | false ↦ waits ]) (sym e)
    go false e = ap (λ (b : Bool). elim b [ true ↦ waited_from s waits [] 0 (threads_beside p) | false ↦ waits ]) (sym e)

none_asked : {Q : Type 0} (asked : Q → List Poll → Q → Type 0) (decides : Bool) (p : Plan) (s : State) (waits : List ℕ) (post : Q)
    → threads_beside p ≡ [] → asked post [] post → Asks decides asked (IsChosen p s waits []) post post
none_asked asked true p s waits post alone quiet = quiet
none_asked asked false p s waits post alone quiet = ([], quiet, none_chosen p s waits alone)

idle_came : {S U M Q D : Type 0} (h : Hosts S U M Q) (numbers : D → List ℤ) (p : Plan) (decides : Bool) (s : State) (waits : List ℕ) (host : Place S U Q) (after : WorldValue D)
    → h.shelf.called host.shelf [] host.shelf → h.turns.went host.turns [] [] host.turns → h.posts.asked host.posts [] host.posts
    → threads_beside p ≡ [] → length waits ≡ length (threads_beside p) → seen numbers after.state ≡ (passed p [] (unasked s)).state
    → (passed p [] (unasked s)).writes ≡ [] → after.sessions.items ≡ [] → CameTo h numbers p decides (opened s) [] waits waits host host (Ok after)
idle_came h numbers p decides s waits host after called went asked alone many state writes gone =
    let nothing : [] ≡ steps_of (turn_writes s.turn (turn p (opened s) [])) = ap steps_of (sym writes) in
    let did : Does h.shelf host.shelf host.shelf fine (steps_of (turn_writes s.turn (turn p (opened s) []))) =
    subst (λ (calls : List Call). Does h.shelf host.shelf host.shelf fine calls) nothing (does_nothing host.shelf fine called (λ f. cc)) in
    record {
      entries = [];
      gave = given_none decides;
      turned = record {
        does = does_ok after did refl;
        says = record { sent = []; rest = []; all = refl; whole = λ ok. refl; step = went; kept = record { owes = refl; journal = refl; decided = refl; sessions = refl } };
        prompt = inl refl;
      };
      world = λ i. record { state = state i; sessions = gone i };
      asks = λ ok. none_asked h.posts.asked decides p s waits host.posts alone asked;
      chose = inl (none_asked h.posts.asked decides p s waits host.posts alone asked);
      waited_so = λ ok no. none_waits p s waits alone many;
    }

-- the turn of a world, where it was given no entry and has no session
pub idle_turn : {S U M Q D : Type 0} (h : Hosts S U M Q) (numbers : D → List ℤ) (p : Plan) (decides : Bool) (before after : WorldValue D) (waits : List ℕ) (host : Place S U Q)
    → h.shelf.called host.shelf [] host.shelf → h.turns.went host.turns [] [] host.turns → h.posts.asked host.posts [] host.posts
    → before.sessions.items ≡ [] → after.sessions ≡ before.sessions → threads_beside p ≡ [] → length waits ≡ length (threads_beside p)
    → seen numbers after.state ≡ (passed p [] (unasked (seen numbers before.state))).state → (passed p [] (unasked (seen numbers before.state))).writes ≡ []
    → CameTo h numbers p decides (world_of numbers before) [] waits waits host host (Ok after)
idle_turn {D = D} h numbers p decides before after waits host called went asked gone kept alone many state writes =
    let s : State = seen numbers before.state in
    let result : Result (WorldValue D) Stop = Ok after in
    let same : opened s ≡ world_of numbers before = λ i. record { state = s; sessions = sym gone i } in
    subst (λ (w : World). CameTo h numbers p decides w [] waits waits host host result) same
    (idle_came h numbers p decides s waits host after called went asked alone many state writes (ap (λ v. v.items) kept ∙ gone))

-- its sessions are those that the source knows
pub idle_known : (p : Plan) (known now : Sessions) (before after : List Session) → AreKnown p known before → now ≡ in_next known → after ≡ before
    → AreKnown p now after
idle_known p known now before after are is same =
    subst (λ (ss : List Session). AreKnown p now ss) (sym same)
    (subst (λ (s : Sessions). AreKnown p s before) (sym is)
    (record { live = are.live; rising = are.rising; below = are.below; right = are.right; awake = are.awake }))
