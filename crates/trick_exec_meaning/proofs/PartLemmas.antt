-- The parts of a turn make it.
use Rattle.std.proofs.Common.{◌≡◌, ◌∙◌, List, [], ◌∷◌, ◌++◌, Bool, true, false, not, ap, append-nil, append_assoc, refl, sym}
use Rattle.std.proofs.lemmas.List.Elements.{filter-append}
use Rattle.std.specs.List.{list_any}
use Rattle.std.specs.Prelude.{◌||◌, cond, filter}
use Rattle.trick_lang.specs.declared.class.Class.TheVariants as class
use Rattle.trick_model.specs.Events.{Asking}
use Rattle.trick_model.specs.Journal.{is_of_session}
use Rattle.trick_model.specs.Plan.{Plan}
use Rattle.trick_model.specs.Session.{Message, samples, staying}
use Rattle.trick_model.specs.State.{State, World}
use Rattle.trick_model.specs.Running.{run_class}
use Rattle.trick_model.specs.Tic.{Ticked, frame}
use Rattle.trick_model.specs.Turn.{Hearing, begun, checkpoint_jobs, checkpoint_writes, counted, framed, frozen, hear, heard, noted, publish_all, publishes, replies, reply, rounds, runs, turn}
use Rattle.trick_model.specs.declared.entry.Entry.{Entry}
use Rattle.trick_model.specs.declared.entry.Entry.TheVariants.{Join, Said, Leave, Publish}
use Rattle.trick_exec_meaning.proofs.Idle.{heard_nothing}
use Rattle.trick_exec_meaning.specs.Parts.{AreApart, counting, state_after, writes_after}
use Rattle.trick_exec_sources.specs.Turns.{has_line}

-- ---- lines and publications

heard_append : (p : Plan) (early late : List Entry) (h : Hearing) → heard p (early ++ late) h ≡ heard p late (heard p early h)
heard_append p [] late h = refl
heard_append p (entry ∷ early) late h = heard_append p early late (hear p entry h)

replies_append : (p : Plan) (early late : List Entry) (h : Hearing) → replies p (early ++ late) h ≡ replies p early h ++ replies p late (heard p early h)
replies_append p [] late h = refl
replies_append p (entry ∷ early) late h =
    ap (λ (m : List Message). reply p entry h ++ m) (replies_append p early late (hear p entry h))
    ∙ sym (append_assoc (reply p entry h) (replies p early (hear p entry h)) (replies p late (heard p early (hear p entry h))))

no_replies : (p : Plan) (entries : List Entry) (h : Hearing) → has_line entries ≡ false → replies p entries h ≡ []
no_replies p [] h none = refl
no_replies p (Join number ∷ entries) h none = cc
no_replies p (Said number line ∷ entries) h none = cc
no_replies p (Leave number cause ∷ entries) h none = cc
no_replies p (Publish thread ∷ entries) h none = no_replies p entries h none

pub heard_apart : (p : Plan) (entries lines publications : List Entry) (h : Hearing) → AreApart entries lines publications → heard p entries h ≡ heard p lines h
heard_apart p entries lines publications h apart =
    ap (λ (es : List Entry). heard p es h) apart.all ∙ heard_append p lines publications h
    ∙ heard_nothing p publications (heard p lines h) apart.no_line

replies_apart : (p : Plan) (entries lines publications : List Entry) (h : Hearing) → AreApart entries lines publications → replies p entries h ≡ replies p lines h
replies_apart p entries lines publications h apart =
    ap (λ (es : List Entry). replies p es h) apart.all ∙ replies_append p lines publications h
    ∙ ap (λ (m : List Message). replies p lines h ++ m) (no_replies p publications (heard p lines h) apart.no_line)
    ∙ append-nil (replies p lines h)

-- lines publish nothing
published_append : (p : Plan) (lines publications : List Entry) (s : State) → list_any (λ (entry : Entry). not (is_of_session entry)) lines ≡ false
    → publish_all p (lines ++ publications) s ≡ publish_all p publications s
published_append p [] publications s none = refl
published_append p (Join number ∷ lines) publications s none = published_append p lines publications s none
published_append p (Said number line ∷ lines) publications s none = published_append p lines publications s none
published_append p (Leave number cause ∷ lines) publications s none = published_append p lines publications s none
published_append p (Publish thread ∷ lines) publications s none = cc

-- a run frame after its publications
abbrev run_from : Plan → State → Asking → Ticked
run_from p s a =
    let top = run_class p class.TopOfFrame s in
    let ran = frame p (record a { state = top }) in
    let bottom = run_class p class.EndOfFrame ran.asking.state in
    record { asking = record (ran.asking) { state = frozen p ran.asking.freeze bottom }; writes = ran.writes }

framed_apart : (p : Plan) (ran : Bool) (lines publications : List Entry) (a : Asking) → list_any (λ (entry : Entry). not (is_of_session entry)) lines ≡ false
    → framed p ran (lines ++ publications) a ≡ framed p ran publications a
framed_apart p false lines publications a none = refl
framed_apart p true lines publications a none = ap (λ (s : State). run_from p s a) (published_append p lines publications a.state none)

-- ---- what is noted

-- of lines all are noted, as lines
lines_noted : (p : Plan) (s : State) (lines : List Entry) → list_any (λ (entry : Entry). not (is_of_session entry)) lines ≡ false
    → filter is_of_session (noted p s lines) ≡ lines
lines_noted p s [] none = refl
lines_noted p s (Join number ∷ lines) none = ap (λ (es : List Entry). Join number ∷ es) (lines_noted p s lines none)
lines_noted p s (Said number line ∷ lines) none = ap (λ (es : List Entry). Said number line ∷ es) (lines_noted p s lines none)
lines_noted p s (Leave number cause ∷ lines) none = ap (λ (es : List Entry). Leave number cause ∷ es) (lines_noted p s lines none)
lines_noted p s (Publish thread ∷ lines) none = cc

no_publication : (p : Plan) (s : State) (lines : List Entry) → list_any (λ (entry : Entry). not (is_of_session entry)) lines ≡ false
    → filter (λ (entry : Entry). not (is_of_session entry)) (noted p s lines) ≡ []
no_publication p s [] none = refl
no_publication p s (Join number ∷ lines) none = no_publication p s lines none
no_publication p s (Said number line ∷ lines) none = no_publication p s lines none
no_publication p s (Leave number cause ∷ lines) none = no_publication p s lines none
no_publication p s (Publish thread ∷ lines) none = cc

pub no_line : (p : Plan) (s : State) (entries : List Entry) → has_line entries ≡ false → filter is_of_session (noted p s entries) ≡ []
no_line p s [] none = refl
no_line p s (Join number ∷ entries) none = cc
no_line p s (Said number line ∷ entries) none = cc
no_line p s (Leave number cause ∷ entries) none = cc
no_line p s (Publish thread ∷ entries) none = by (publishes p s (Publish thread)) (no_line p s entries none)
  where
    by : (b : Bool) → filter is_of_session (noted p s entries) ≡ [] → filter is_of_session (cond b (Publish thread ∷ noted p s entries) (noted p s entries)) ≡ []
    by true e = e
    by false e = e

publications_noted : (p : Plan) (s : State) (entries : List Entry) → has_line entries ≡ false
    → filter (λ (entry : Entry). not (is_of_session entry)) (noted p s entries) ≡ counting p s entries
publications_noted p s [] none = refl
publications_noted p s (Join number ∷ entries) none = cc
publications_noted p s (Said number line ∷ entries) none = cc
publications_noted p s (Leave number cause ∷ entries) none = cc
publications_noted p s (Publish thread ∷ entries) none = by (publishes p s (Publish thread)) (publications_noted p s entries none)
  where
    by : (b : Bool) → filter (λ (entry : Entry). not (is_of_session entry)) (noted p s entries) ≡ counting p s entries
        → filter (λ (entry : Entry). not (is_of_session entry)) (cond b (Publish thread ∷ noted p s entries) (noted p s entries))
        ≡ cond b (Publish thread ∷ counting p s entries) (counting p s entries)
    by true e = ap (λ (es : List Entry). Publish thread ∷ es) e
    by false e = e

noted_append : (p : Plan) (s : State) (early late : List Entry) → noted p s (early ++ late) ≡ noted p s early ++ noted p s late
noted_append p s early late = filter-append (λ (entry : Entry). is_of_session entry || publishes p s entry) early late

pub lines_of : (p : Plan) (s : State) (entries lines publications : List Entry) → AreApart entries lines publications
    → filter is_of_session (noted p s entries) ≡ lines
lines_of p s entries lines publications apart =
    ap (λ (es : List Entry). filter is_of_session (noted p s es)) apart.all
    ∙ ap (filter is_of_session) (noted_append p s lines publications)
    ∙ filter-append is_of_session (noted p s lines) (noted p s publications)
    ∙ ap (λ (es : List Entry). es ++ filter is_of_session (noted p s publications)) (lines_noted p s lines apart.no_publication)
    ∙ ap (λ (es : List Entry). lines ++ es) (no_line p s publications apart.no_line)
    ∙ append-nil lines

pub publications_of : (p : Plan) (s : State) (entries lines publications : List Entry) → AreApart entries lines publications
    → filter (λ (entry : Entry). not (is_of_session entry)) (noted p s entries) ≡ counting p s publications
publications_of p s entries lines publications apart =
    let test = λ (entry : Entry). not (is_of_session entry) in
    ap (λ (es : List Entry). filter test (noted p s es)) apart.all
    ∙ ap (filter test) (noted_append p s lines publications)
    ∙ filter-append test (noted p s lines) (noted p s publications)
    ∙ ap (λ (es : List Entry). es ++ filter test (noted p s publications)) (no_publication p s lines apart.no_publication)
    ∙ publications_noted p s publications apart.no_line

-- ---- the turn

-- What a turn comes to, by its parts: the state in it after its lines were heard is given.
pub record IsMade (p : Plan) (w : World) (entries lines publications : List Entry) (h : Hearing) : Type 0 where
  pub state : (turn p w entries).world.state ≡ state_after p publications h.asking
  pub sessions : (turn p w entries).world.sessions ≡ staying h.sessions
  pub noted_lines : filter is_of_session (turn p w entries).noted ≡ lines
  pub noted_publications : filter (λ (entry : Entry). not (is_of_session entry)) (turn p w entries).noted ≡ counting p h.asking.state publications
  pub writes : (turn p w entries).writes ≡ writes_after p publications h.asking
  pub said : (turn p w entries).said ≡ replies p lines (begun w) ++ samples w.state.tic (state_after p publications h.asking) h.sessions

-- the state and the writes of a turn whose entries were heard, which publishes these
same_rest : (p : Plan) (lines publications : List Entry) (a : Asking) → list_any (λ (entry : Entry). not (is_of_session entry)) lines ≡ false
    → (state_after p (lines ++ publications) a ≡ state_after p publications a) × (writes_after p (lines ++ publications) a ≡ writes_after p publications a)
same_rest p lines publications a none =
    let same = framed_apart p (runs a.state) lines publications a none in
    let state = λ (ran : Ticked). let asked = ran.asking in counted (rounds p (runs a.state) (checkpoint_jobs p asked.checkpoint asked.state)) in
    (ap state same, ap (λ (ran : Ticked). ran.writes ++ checkpoint_writes p (ran.asking).checkpoint (state ran)) same)

pub turn_made : (p : Plan) (w : World) (entries lines publications : List Entry) (h : Hearing) → AreApart entries lines publications
    → h ≡ heard p lines (begun w) → IsMade p w entries lines publications h
turn_made p w entries lines publications h apart is =
    let same : heard p entries (begun w) ≡ h = heard_apart p entries lines publications (begun w) apart ∙ sym is in
    let rest = same_rest p lines publications h.asking apart.no_publication in
    let state : (turn p w entries).world.state ≡ state_after p publications h.asking =
    ap (λ (g : Hearing). state_after p entries g.asking) same ∙ ap (λ (es : List Entry). state_after p es h.asking) apart.all ∙ rest.0 in
    record {
      state = state;
      sessions = ap (λ (g : Hearing). staying g.sessions) same;
      noted_lines = ap (λ (g : Hearing). filter is_of_session (noted p g.asking.state entries)) same ∙ lines_of p h.asking.state entries lines publications apart;
      noted_publications = ap (λ (g : Hearing). filter (λ (entry : Entry). not (is_of_session entry)) (noted p g.asking.state entries)) same
          ∙ publications_of p h.asking.state entries lines publications apart;
      writes = ap (λ (g : Hearing). writes_after p entries g.asking) same ∙ ap (λ (es : List Entry). writes_after p es h.asking) apart.all ∙ rest.1;
      said = ap (λ (m : List Message). m ++ samples w.state.tic (turn p w entries).world.state (heard p entries (begun w)).sessions) (replies_apart p entries lines publications (begun w) apart)
          ∙ ap (λ (s : State). replies p lines (begun w) ++ samples w.state.tic s (heard p entries (begun w)).sessions) state
          ∙ ap (λ (g : Hearing). replies p lines (begun w) ++ samples w.state.tic (state_after p publications h.asking) g.sessions) same;
    }
