-- The turns of a run, as the code does them.
use Rattle.std.proofs.Common.{◌≡◌, ◌∙◌, ℕ, ℤ, ◌<◌, List, [], ◌∷◌, ◌++◌, Bool, true, false, Err, None, Ok, Some, Vec, Global, ap, arith, inl, inr, length, refl, subst, sym}
use Rattle.std.proofs.lemmas.Bool.Decides.{nat_tests}
use Rattle.std.proofs.lemmas.List.Elements.{All-nil}
use Rattle.std.specs.Prelude.{◌⊎◌, Option, Result, nat_le}
use Rattle.trick_exec_turn.specs.CameTo.{CameTo}
use Rattle.trick_exec_turn.specs.Known.{AreKnown}
use Rattle.trick_exec_turn.specs.Worlds.{world_of}
use Rattle.trick_model.specs.declared.world.World.{World as WorldValue}
use Rattle.trick_model.specs.Plan.{Plan}
use Rattle.trick_model.specs.Run.{is_shut}
use Rattle.trick_model.specs.State.{State, World}
use Rattle.trick_model.specs.Turn.{turn}
use Rattle.trick_model.specs.declared.entry.Entry.{Entry}
use Rattle.trick_model.specs.declared.session.Session.{Session}
use Rattle.trick_outside.specs.Does.{IsPartOf}
use Rattle.trick_outside.specs.declared.stop.Stop.{Stop}
use Rattle.trick_post_work.specs.declared.posts.Posts.{Ghosts as PostsGhosts}
use Rattle.trick_exec_meaning.proofs.Ending.{stops_in}
use Rattle.trick_exec_meaning.proofs.Going.{Gave, IsGoing, Laws, going_more}
use Rattle.trick_exec_meaning.specs.Answers.{given}
use Rattle.trick_exec_meaning.specs.Hosts.{Hosts, Place, at}
use Rattle.trick_exec_meaning.specs.Over.{AreStopped}
use Rattle.trick_exec_meaning.specs.Rounds.{IsChosen, heard_state, publications, waited}
use Rattle.trick_exec_meaning.specs.Turned.{Asks, line_notes}
use Rattle.trick_session.specs.Kept.{IsSession}
use Rattle.trick_exec_tic.specs.Steps.{steps_of}
use Rattle.trick_exec_sources.specs.Turns.{Gives, GoesOn, Pays, Sessions, Told, answered, no_sessions}
use Rattle.trick_exec_sources.specs.declared.turns.Next.TheVariants as next
use Rattle.trick_exec_sources.specs.declared.turns.Turns.{Ghosts as TurnsGhosts}

-- So many turns were done, with the waits that the code keeps.
pub record IsUnder {S U M Q : Type 0} (h : Hosts S U M Q) (p : Plan) (start : State) (old now : Place S U Q) (w : World) (kept : List ℕ) : Type 0 where
  pub lists : List (List Entry)
  pub waits : List ℕ
  pub going : IsGoing h p start old now w waits lists
  pub same : h.turns.decided old.turns ≡ false → kept ≡ waits

asks_in : {Q : Type 0} (posts : PostsGhosts Q) (d : Bool) (p : Plan) (s : State) (kept waits : List ℕ) (published : List Entry) (old new : Q)
    → (d ≡ false → kept ≡ waits) → Asks d posts.asked (IsChosen p s kept published) old new → Asks d posts.asked (IsChosen p s waits published) old new
asks_in posts true p s kept waits published old new same asks = asks
asks_in posts false p s kept waits published old new same asks =
    subst (λ (l : List ℕ). Asks false posts.asked (IsChosen p s l published) old new) (same refl) asks

chose_as : {Q : Type 0} (posts : PostsGhosts Q) (decides d : Bool) (p : Plan) (s : State) (kept waits : List ℕ) (published : List Entry) (old new : Q) {P : Type 0}
    → decides ≡ d → (d ≡ false → kept ≡ waits) → Asks decides posts.asked (IsChosen p s kept published) old new ⊎ P
    → Asks d posts.asked (IsChosen p s waits published) old new ⊎ P
chose_as posts decides d p s kept waits published old new is same (inl asks) =
    inl (asks_in posts d p s kept waits published old new same
    (subst (λ (b : Bool). Asks b posts.asked (IsChosen p s kept published) old new) is asks))
chose_as posts decides d p s kept waits published old new is same (inr other) = inr other

pub gave_as : {U M : Type 0} {turns : TurnsGhosts U M} {w : World} {list other : List Entry} {old now : U} → list ≡ other → Gave turns w list old now → Gave turns w other old now
gave_as {turns = turns} {w = w} {old = old} {now = now} same gave = subst (λ (l : List Entry). Gave turns w l old now) same gave

-- an answer that was given where these sessions are there
pub step_as : {U M : Type 0} (turns : TurnsGhosts U M) (w : World) (live : List Session) (list : Option (List Entry)) (old now : U) → live ≡ w.sessions
    → turns.went old (record { turn = w.state.turn; mode = w.state.mode; sessions = live; list = list } ∷ []) [] now
    → turns.went old (record { turn = w.state.turn; mode = w.state.mode; sessions = w.sessions; list = list } ∷ []) [] now
step_as turns w live list old now same step =
    subst (λ (there : List Session). turns.went old (record { turn = w.state.turn; mode = w.state.mode; sessions = there; list = list } ∷ []) [] now) same step

-- what a source gave that answered a list, where these sessions are there
pub gave_list : {U M : Type 0} (turns : TurnsGhosts U M) (w : World) (live : List Session) (list : Vec Entry Global) (old now : U) → live ≡ w.sessions
    → turns.went old (answered w.state live (next.Entries list)) [] now → Pays w.state (next.Entries list) (turns.owes old) (turns.owes now)
    → Gives w.state (turns.journal old) (next.Entries list) (turns.journal now)
    → GoesOn (turns.decided old) (turns.sessions old) (next.Entries list) (turns.sessions now) → turns.decided now ≡ turns.decided old
    → Gave turns w list.items old now
gave_list turns w live list old now there step pays gives rules decides =
    let told_of = λ (o : Option Told) (is : turns.journal old ≡ o).
    subst (λ (x : Option Told). Gives w.state x (next.Entries list) (turns.journal now)) is gives in
    record {
      step = step_as turns w live (Some list.items) old now there step;
      owes = pays;
      told = λ told is. told_of (Some told) is;
      untold = λ none. told_of None none;
      decided = decides;
      may = rules.0;
      sessions = rules.1;
    }

-- what a source gave that answered nothing: an empty list
pub gave_nothing : {U M : Type 0} (turns : TurnsGhosts U M) (w : World) (live : List Session) (old now : U) → live ≡ w.sessions
    → turns.went old (answered w.state live next.Nothing) [] now → Pays w.state next.Nothing (turns.owes old) (turns.owes now)
    → Gives w.state (turns.journal old) next.Nothing (turns.journal now)
    → GoesOn (turns.decided old) (turns.sessions old) next.Nothing (turns.sessions now) → turns.decided now ≡ turns.decided old
    → Gave turns w [] old now
gave_nothing turns w live old now there step pays gives rules decides =
    let told_of = λ (o : Option Told) (is : turns.journal old ≡ o).
    subst (λ (x : Option Told). Gives w.state x next.Nothing (turns.journal now)) is gives in
    record {
      step = step_as turns w live (Some []) old now there step;
      owes = pays;
      told = λ told is. told_of (Some told) is;
      untold = λ none. told_of None none;
      decided = decides;
      may = refl;
      sessions = rules;
    }

-- the same turn, of the same world
pub came_as : {S U M Q D : Type 0} {h : Hosts S U M Q} {numbers : D → List ℤ} {p : Plan} {decides : Bool} {list : List Entry} {kept now : List ℕ} {old new : Place S U Q}
    {result : Result (WorldValue D) Stop} (one other : WorldValue D) → one ≡ other
    → CameTo h numbers p decides (world_of numbers one) list kept now old new result → CameTo h numbers p decides (world_of numbers other) list kept now old new result
came_as {D = D} {h = h} {numbers = numbers} {p = p} {decides = decides} {list = list} {kept = kept} {now = now} {old = old} {new = new} {result = result} one other same came =
    subst (λ (v : WorldValue D). CameTo h numbers p decides (world_of numbers v) list kept now old new result) same came

module _ {S U M Q D : Type 0} (h : Hosts S U M Q) (laws : Laws h) (numbers : D → List ℤ) (p : Plan) (start : State) where
  pub under_more : {old mid new : Place S U Q} {w : World} {kept now : List ℕ} {decides : Bool} {list : List Entry} {gave : U} (after : WorldValue D)
      → IsUnder h p start old mid w kept → decides ≡ h.turns.decided old.turns
      → is_shut w.state.mode ≡ false → nat_le w.state.limit w.state.tic ≡ false → Gave h.turns w list mid.turns gave
      → CameTo h numbers p decides w list kept now (at mid.shelf gave mid.posts) new (Ok after)
      → IsUnder h p start old new (world_of numbers after) now
  under_more {old = old} {mid = mid} {new = new} {w = w} {kept = kept} {now = now} {decides = decides} {list = list} {gave = gave} after so is alive below gives came =
      let d = h.turns.decided old.turns in
      let entries = came.entries in
      let hs = heard_state p w entries in
      let given_is : list ≡ given d entries = sym came.gave ∙ ap (λ (b : Bool). given b entries) is in
      record {
        lists = so.lists ++ entries ∷ [];
        waits = waited p hs so.waits (publications entries);
        going = going_more h laws p start w (world_of numbers after) so.waits (waited p hs so.waits (publications entries)) so.lists entries gave so.going alive below
            (less w.state.limit w.state.tic below) (gave_as given_is gives) came.turned refl
            (asks_in h.posts d p hs kept so.waits (publications entries) mid.posts new.posts so.same
            (subst (λ (b : Bool). Asks b h.posts.asked (IsChosen p hs kept (publications entries)) mid.posts new.posts) is (came.asks refl)))
            came.world refl;
        same = λ none. came.waited_so refl (is ∙ none) ∙ ap (λ (l : List ℕ). waited p hs l (publications entries)) (so.same none);
      }
    where
      less : (limit tic : ℕ) → nat_le limit tic ≡ false → tic < limit
      less limit tic e = grind (arith, nat_tests)

  pub under_stops : {V : Type 0} {old mid new : Place S U Q} {w : World} {kept now : List ℕ} {decides : Bool} {list : List Entry} {gave : U} {first : Result (WorldValue D) Stop}
      (result : Result V Stop) (e f : Stop)
      → IsUnder h p start old mid w kept → decides ≡ h.turns.decided old.turns
      → is_shut w.state.mode ≡ false → nat_le w.state.limit w.state.tic ≡ false → Gave h.turns w list mid.turns gave
      → CameTo h numbers p decides w list kept now (at mid.shelf gave mid.posts) new first → first ≡ Err e → result ≡ Err f → f ≡ e
      → (lists : List (List Entry)) × AreStopped h p start lists old new result
  under_stops {old = old} {mid = mid} {new = new} {w = w} {kept = kept} {decides = decides} {list = list} {gave = gave} result e f so is alive below gives came at_first fails same =
      let d = h.turns.decided old.turns in
      let entries = came.entries in
      let given_is : list ≡ given d entries = sym came.gave ∙ ap (λ (b : Bool). given b entries) is in
      (so.lists ++ entries ∷ [], stops_in h laws p start result e f entries gave so.going alive below (gave_as given_is gives) came.turned chose at_first fails same)
    where
      hs : State
      hs = heard_state p w came.entries

      chose : Asks (h.turns.decided old.turns) h.posts.asked (IsChosen p hs so.waits (publications came.entries)) mid.posts new.posts
          ⊎ IsPartOf came.turned.does.calls (steps_of (line_notes w.state.turn (turn p w came.entries)))
      chose = chose_as h.posts decides (h.turns.decided old.turns) p hs kept so.waits (publications came.entries) mid.posts new.posts is so.same came.chose

-- no session is there yet
pub none_known : (p : Plan) (ss : List Session) (known : Sessions) → ss ≡ [] → known ≡ no_sessions → AreKnown p known ss
none_known p ss known none is =
    subst (λ (l : List Session). AreKnown p known l) (sym none)
    (subst (λ (s : Sessions). AreKnown p s []) (sym is)
    (record { live = refl; rising = refl; below = tt; right = All-nil (IsSession (length p.names)); awake = All-nil (λ (s : Session). s.leaving ≡ false) }))
