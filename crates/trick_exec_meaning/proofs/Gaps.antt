-- Turns in Freeze that are given no entry raise the count alone.
use Rattle.std.proofs.Common.{◌≡◌, ◌∙◌, ℕ, ◌+◌, ◌/◌, suc, ◌<◌, ◌≤◌, List, [], ◌∷◌, ◌++◌, Bool, true, false, Option, ap, arith, inl, refl, subst, sym}
use Rattle.std.proofs.lemmas.Bool.Decides.{nat_tests}
use Rattle.std.proofs.lemmas.List.Elements.{All-cons, All-head, All-nil, All-tail}
use Rattle.std.proofs.Math.Nat.{min-eq_left, min-eq_right}
use Rattle.std.specs.Prelude.{◌&&◌, ◌||◌, not, All, cond, min, nat_le, nat_lt}
use Rattle.trick_model.specs.Files.{turn_writes}
use Rattle.trick_model.specs.Plan.{Plan, threads_beside}
use Rattle.trick_model.specs.Run.{is_shut}
use Rattle.trick_model.specs.Session.{Message, is_empty, passes_multiple, sample, samples, staying}
use Rattle.trick_model.specs.State.{State, World}
use Rattle.trick_model.specs.Time.{last_turn}
use Rattle.trick_model.specs.Turn.{Turned as TurnedOf, begun, checkpoint_jobs, checkpoint_writes, counted, framed, heard, is_frozen, rounds, runs, turn}
use Rattle.trick_model.specs.declared.entry.Entry.{Entry}
use Rattle.trick_model.specs.declared.session.Session.{Session}
use Rattle.trick_model.specs.declared.mode.Mode.TheVariants as mode
use Rattle.trick_model.specs.declared.mode.Mode.{Mode}
use Rattle.trick_outside.proofs.DoesLemmas.{does_nothing}
use Rattle.trick_outside.specs.Does.{Does}
use Rattle.trick_post_work.specs.Polls.{Poll}
use Rattle.trick_post_work.specs.declared.posts.Posts.{Ghosts as PostsGhosts}
use Rattle.trick_exec_meaning.proofs.Going.{Gave, IsGoing, Laws, going_more, never_err}
use Rattle.trick_exec_meaning.specs.Answers.{given}
use Rattle.trick_exec_meaning.specs.Hosts.{Hosts, Place, at}
use Rattle.trick_exec_meaning.specs.Rounds.{Chooses, IsChosen, waited, waited_from}
use Rattle.trick_exec_meaning.specs.Turned.{Asks, Turned}
use Rattle.trick_exec_tic.proofs.Doing.{fine}
use Rattle.trick_exec_tic.specs.Steps.{steps_of}
use Rattle.trick_exec_sources.specs.Gap as gap
use Rattle.trick_exec_sources.specs.Gap.{Gap, GivesNone, TellsNone}
use Rattle.trick_exec_sources.specs.Turns.{Told}
use Rattle.trick_exec_sources.specs.declared.turns.Turns.{Ghosts as TurnsGhosts}

-- No sample of these sessions was asked for, and none is leaving.
pub record AreStill (sessions : List Session) : Type 0 where
  pub awake : All (λ (session : Session). session.leaving ≡ false) sessions
  pub unasked : All (λ (session : Session). session.send ≡ false) sessions

still_rest : (s : Session) (ss : List Session) → AreStill (s ∷ ss) → AreStill ss
still_rest s ss still = record {
  awake = All-tail (λ (session : Session). session.leaving ≡ false) s ss still.awake;
  unasked = All-tail (λ (session : Session). session.send ≡ false) s ss still.unasked;
}

still_stay : (ss : List Session) → AreStill ss → staying ss ≡ ss
still_stay [] still = refl
still_stay (s ∷ ss) still =
    let awake = All-head (λ (session : Session). session.leaving ≡ false) s ss still.awake in
    let unasked = All-head (λ (session : Session). session.send ≡ false) s ss still.unasked in
    ap (λ (b : Bool). let l : List Session = elim b [ true ↦ staying ss | false ↦ record s { send = false } ∷ staying ss ] in l) awake
    ∙ (λ i. record s { send = sym unasked i } ∷ staying ss)
    ∙ ap (λ (rest : List Session). s ∷ rest) (still_stay ss (still_rest s ss still))

none_passed : (cycle tic : ℕ) → passes_multiple cycle tic tic ≡ false
none_passed cycle tic = go (tic / cycle)
  where
    go : (n : ℕ) → nat_lt n n ≡ false
    go n = grind (arith, nat_tests)

none_sampled : (send paused leaving passes empty : Bool) → send ≡ false → passes ≡ false
    → ((send || (not paused && (not leaving && passes))) && not empty) ≡ false
none_sampled true paused leaving passes empty e f = cc e
none_sampled false paused leaving true empty e f = cc f
none_sampled false true leaving false empty e f = refl
none_sampled false false true false empty e f = refl
none_sampled false false false false empty e f = refl

still_samples : (s : State) (ss : List Session) → AreStill ss → samples s.tic s ss ≡ []
still_samples s [] still = refl
still_samples s (session ∷ ss) still =
    let unasked = All-head (λ (other : Session). other.send ≡ false) session ss still.unasked in
    ap (λ (b : Bool). let l : List Message = elim b [
      | true ↦ (session.number, sample s.memory session) ∷ samples s.tic s ss
      | false ↦ samples s.tic s ss
    ] in l)
    (none_sampled session.send session.paused session.leaving (passes_multiple session.cycle s.tic s.tic) (is_empty session.variables)
    unasked (none_passed session.cycle s.tic))
    ∙ still_samples s ss (still_rest session ss still)

-- what such a turn comes to
abbrev still_turn : World → TurnedOf
still_turn w = record { world = record w { state = counted w.state }; noted = []; writes = []; said = [] }

turn_by : (p : Plan) (w : World) → Bool → TurnedOf
turn_by p w b =
    let ran = framed p b [] (begun w).asking in
    let s = counted (rounds p b (checkpoint_jobs p ran.asking.checkpoint ran.asking.state)) in
    record {
      world = record { state = s; sessions = staying w.sessions };
      noted = [];
      writes = ran.writes ++ checkpoint_writes p ran.asking.checkpoint s;
      said = samples w.state.tic s w.sessions;
    }

pub frozen_turn : (p : Plan) (w : World) → is_frozen w.state.mode ≡ true → AreStill w.sessions → turn p w [] ≡ still_turn w
unfolding turn_by
frozen_turn p w frozen still =
    ap (turn_by p w) (ap (λ (b : Bool). cond b false (nat_lt w.state.tic w.state.limit)) frozen)
    ∙ (λ i. record {
      world = record { state = counted w.state; sessions = still_stay w.sessions still i };
      noted = [];
      writes = [];
      said = still_samples (counted w.state) w.sessions still i;
    })

-- ---- one such turn more

frozen_alive : (m : Mode) → is_frozen m ≡ true → is_shut m ≡ false
frozen_alive mode.Run e = cc
frozen_alive mode.Freeze e = refl
frozen_alive mode.Shutdown e = cc

never_runs : (s : State) → is_frozen s.mode ≡ true → runs s ≡ false
never_runs s frozen = ap (λ (b : Bool). cond b false (nat_lt s.tic s.limit)) frozen

given_none : (decides : Bool) → [] ≡ given decides []
given_none true = refl
given_none false = refl

chosen_by : (p : Plan) (s : State) (waits : List ℕ) (b : Bool) → Type 0
chosen_by p s waits b =
    let entries : List Entry = [] in
    let polls : List Poll = [] in
    elim b as (λ x. Type 0) [ true ↦ Chooses s waits (threads_beside p) entries polls | false ↦ (entries ≡ []) × (polls ≡ []) ]

none_chosen : (p : Plan) (s : State) (waits : List ℕ) → runs s ≡ false → IsChosen p s waits [] []
unfolding chosen_by
none_chosen p s waits e = subst (chosen_by p s waits) (sym e) (refl, refl)

none_asked : {Q : Type 0} (posts : PostsGhosts Q) (decides : Bool) (p : Plan) (s : State) (waits : List ℕ) (q : Q) → runs s ≡ false
    → posts.asked q [] q → Asks decides posts.asked (IsChosen p s waits []) q q
none_asked posts true p s waits q e asked = asked
none_asked posts false p s waits q e asked = ([], asked, none_chosen p s waits e)

none_waits : (p : Plan) (s : State) (waits : List ℕ) → runs s ≡ false → waits ≡ waited p s waits []
none_waits p s waits e = ap (λ (b : Bool). let l : List ℕ = elim b [ true ↦ waited_from s waits [] 0 (threads_beside p) | false ↦ waits ] in l) (sym e)

-- a world of these sessions
abbrev pub with_sessions : List Session → State → World
with_sessions live s = record { state = s; sessions = live }

-- so many turns later, and else the same
abbrev pub later : ℕ → World → World
later turns w = record w { state = record (w.state) { turn = min (w.state.turn + turns) last_turn } }

-- a turn that was counted, and then so many more
count_more : (turn turns : ℕ) → min (min (turn + 1) last_turn + turns) last_turn ≡ min (turn + suc turns) last_turn
count_more turn turns = go (nat_le (turn + 1) last_turn) refl
  where
    go : (b : Bool) → nat_le (turn + 1) last_turn ≡ b → min (min (turn + 1) last_turn + turns) last_turn ≡ min (turn + suc turns) last_turn
    go true e =
        let below : turn + 1 ≤ last_turn = grind (arith, nat_tests) in
        let sum : (turn + 1) + turns ≡ turn + suc turns = omega arith in
        ap (λ (n : ℕ). min (n + turns) last_turn) (min-eq_left below) ∙ ap (λ (n : ℕ). min n last_turn) sum
    go false e =
        let above : last_turn ≤ turn + 1 = grind (arith, nat_tests) in
        let more : last_turn ≤ last_turn + turns = omega arith in
        let over : last_turn ≤ turn + suc turns = omega (arith, above) in
        ap (λ (n : ℕ). min (n + turns) last_turn) (min-eq_right above) ∙ min-eq_right more ∙ sym (min-eq_right over)

-- A source gave a turn of sessions no entry.
abbrev pub GivesTurn : {U M : Type 0} → TurnsGhosts U M → List Session → State → U → U → Type 0
GivesTurn turns live s old new =
    GivesNone turns.went turns.owes turns.journal turns.decided turns.sessions live s old new

-- Of these three nothing is asked from a moment to itself.
pub record AreQuiet {S U M Q : Type 0} (h : Hosts S U M Q) : Type 0 where
  pub shelf : (s : S) → h.shelf.called s [] s
  pub turns : (u : U) → h.turns.went u [] [] u
  pub posts : (q : Q) → h.posts.asked q [] q

module _ {S U M Q : Type 0} (h : Hosts S U M Q) (laws : Laws h) (quiet : AreQuiet h) (p : Plan) (start : State) where
  gave_none : (w : World) (old gave : U) → GivesTurn h.turns w.sessions w.state old gave → Gave h.turns w [] old gave
  gave_none w old gave gives = record {
    step = gives.step;
    owes = gives.owed ∙ sym (ap (λ (b : Bool). cond b true (h.turns.owes old)) gives.frozen);
    told = λ told is.
        let so = subst (λ (o : Option Told). TellsNone w.state o (h.turns.journal gave)) is gives.told in (sym so.0, so.1, λ frozen. so.2, so.3);
    untold = λ none. absurd (subst (λ (o : Option Told). TellsNone w.state o (h.turns.journal gave)) none gives.told);
    decided = gives.decides;
    may = refl;
    sessions = gives.there;
  }

  did_none : (w : World) (shelf : S) (gave : U) (posts : Q) → is_frozen w.state.mode ≡ true → AreStill w.sessions
      → Turned {T = Unit {0}} h p w [] (at shelf gave posts) (at shelf gave posts) fine
  did_none w shelf gave posts frozen still =
      let is = frozen_turn p w frozen still in
      record {
        does = subst (λ (t : TurnedOf). Does {T = Unit {0}} h.shelf shelf shelf fine (steps_of (turn_writes w.state.turn t))) (sym is)
            (does_nothing shelf fine (quiet.shelf shelf) never_err);
        says = record {
          sent = [];
          rest = [];
          all = ap (λ (t : TurnedOf). t.said) is;
          whole = λ ok. refl;
          step = quiet.turns gave;
          kept = record { owes = refl; journal = refl; decided = refl; sessions = refl };
        };
        prompt = inl refl;
      }

  going_still : {old mid : Place S U Q} (w : World) (waits : List ℕ) (lists : List (List Entry)) (gave : U)
      → IsGoing h p start old mid w waits lists → nat_le w.state.limit w.state.tic ≡ false → AreStill w.sessions
      → GivesTurn h.turns w.sessions w.state mid.turns gave
      → IsGoing h p start old (at mid.shelf gave mid.posts) (record w { state = counted w.state }) waits (lists ++ [] ∷ [])
  going_still {old = old} {mid = mid} w waits lists gave so below still gives =
      let d = h.turns.decided old.turns in
      let frozen = gives.frozen in
      let none : List Entry = [] in
      going_more h laws p start w (record w { state = counted w.state }) waits waits lists none gave so (frozen_alive w.state.mode frozen) below
      (less w.state.limit w.state.tic below)
      (subst (λ (l : List Entry). Gave h.turns w l mid.turns gave) (given_none d) (gave_none w mid.turns gave gives))
      (did_none w mid.shelf gave mid.posts frozen still) refl
      (none_asked h.posts d p w.state waits mid.posts (never_runs w.state frozen) (quiet.posts mid.posts))
      (ap (λ (t : TurnedOf). t.world) (sym (frozen_turn p w frozen still))) (none_waits p w.state waits (never_runs w.state frozen))
    where
      less : (limit tic : ℕ) → nat_le limit tic ≡ false → tic < limit
      less limit tic e = grind (arith, nat_tests)

  -- all turns of a gap
  pub going_gap : (live : List Session) (s : State) {old mid : Place S U Q} (waits : List ℕ) (lists : List (List Entry)) (turns : ℕ) (now : U)
      → IsGoing h p start old mid (with_sessions live s) waits lists → nat_le s.limit s.tic ≡ false → AreStill live
      → Gap (GivesTurn h.turns live) s turns mid.turns now
      → (more : List (List Entry)) × IsGoing h p start old (at mid.shelf now mid.posts) (later turns (with_sessions live s)) waits more
  going_gap live _ waits lists _ now so below still (gap.last s old new gives) =
      (lists ++ [] ∷ [], going_still (with_sessions live s) waits lists now so below still gives)
  going_gap live _ {old = first} {mid = mid} waits lists _ now so below still (gap.more s turns old next new gives rest) =
      let last = going_gap live (counted s) {mid = at mid.shelf next mid.posts} waits (lists ++ [] ∷ []) turns now
      (going_still (with_sessions live s) waits lists next so below still gives) below still rest in (
        last.0,
        subst (λ (n : ℕ). IsGoing h p start first (at mid.shelf now mid.posts) (with_sessions live (record s { turn = n })) waits last.0)
            (count_more s.turn turns) last.1,
      )

-- ---- sessions after a turn

staying_still : (ss : List Session) → AreStill (staying ss)
staying_still [] = record { awake = All-nil (λ (s : Session). s.leaving ≡ false); unasked = All-nil (λ (s : Session). s.send ≡ false) }
staying_still (s ∷ ss) = go s.leaving refl (staying_still ss)
  where
    go : (b : Bool) → s.leaving ≡ b → AreStill (staying ss) → AreStill (elim b [ true ↦ staying ss | false ↦ record s { send = false } ∷ staying ss ])
    go true e rest = rest
    go false e rest =
        let one : Session = record s { send = false } in
        record {
          awake = All-cons (λ (other : Session). other.leaving ≡ false) one (staying ss) e rest.awake;
          unasked = All-cons (λ (other : Session). other.send ≡ false) one (staying ss) refl rest.unasked;
        }

-- no session is there
pub none_still : (ss : List Session) → ss ≡ [] → AreStill ss
none_still ss none = subst AreStill (sym none) (staying_still [])

-- the sessions of a world after a turn
pub turn_still : (p : Plan) (w : World) (entries : List Entry) (ss : List Session) → ss ≡ (turn p w entries).world.sessions → AreStill ss
turn_still p w entries ss is = subst AreStill (sym is) (staying_still (heard p entries (begun w)).sessions)
