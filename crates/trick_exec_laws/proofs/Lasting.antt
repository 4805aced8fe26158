-- Frozen frames without lines do nothing, and a run under lists goes on after their turns.
use Rattle.std.proofs.Common.{◌≡◌, ◌∙◌, ℕ, List, [], ◌∷◌, ◌++◌, Bool, true, false, not, ◌&&◌, ap, append-nil, append_assoc, arith, refl, sym}
use Rattle.std.proofs.lemmas.Bool.{and_parts, or_parts}
use Rattle.std.proofs.lemmas.Bool.Decides.{nat_tests}
use Rattle.std.specs.List.{list_any}
use Rattle.std.specs.Prelude.{◌||◌, ◌/◌, IsTrue, cond, filter, nat_le, nat_lt}
use Rattle.trick_base.specs.Files.{Write}
use Rattle.trick_model.specs.Events.{Asking}
use Rattle.trick_model.specs.Files.{note, turn_writes, turns_said, turns_writes}
use Rattle.trick_model.specs.Journal.{is_of_session}
use Rattle.trick_model.specs.Plan.{Plan}
use Rattle.trick_model.specs.Run.{Lasts, has_session_entry, is_shut, on, over}
use Rattle.trick_model.specs.Session.{Message, is_empty, is_sampled, passes_multiple, sample, samples, staying}
use Rattle.trick_model.specs.State.{State, World}
use Rattle.trick_model.specs.Turn.{Hearing, begun, checkpoint_jobs, checkpoint_writes, counted, framed, heard, is_frozen, noted, replies, rounds, runs, turn}
use Rattle.trick_model.specs.declared.entry.Entry.{Entry}
use Rattle.trick_model.specs.declared.entry.Entry.TheVariants.{Join, Said, Leave, Publish}
use Rattle.trick_model.specs.declared.session.Session.{Session}
use Rattle.trick_exec_meaning.proofs.Idle.{heard_nothing, idle_turn}
use Rattle.trick_exec_meaning.specs.Goes.{goes_owing, is_over_owing}

-- ---- turns before the run was over

-- A world is not shut, and is below its limit.
abbrev pub IsOn : World → Type 0
IsOn w = (is_shut w.state.mode || nat_le w.state.limit w.state.tic) ≡ false

-- So is the world before each of these turns.
abbrev pub AllOn : Plan → World → List (List Entry) → Type 0
AllOn p w [] = Unit {0}
AllOn p w (entries ∷ lists) = IsOn w × AllOn p (turn p w entries).world lists

on_by : (shut out frozen : Bool) → not (shut || (out || frozen)) ≡ true → (shut || out) ≡ false
on_by true out frozen e = cc e
on_by false true frozen e = cc e
on_by false false frozen e = refl

goes_on_here : (p : Plan) (w : World) (owed : Bool) (entries : List Entry) (lists : List (List Entry)) → IsTrue (goes_owing owed p w (entries ∷ lists))
    → IsOn w × IsTrue (goes_owing owed p (turn p w entries).world lists)
goes_on_here p w owed entries lists goes =
    let parts = and_parts (not (is_over_owing owed w.state (entries ∷ lists))) (goes_owing owed p (turn p w entries).world lists) goes in
    (on_by (is_shut w.state.mode) (nat_le w.state.limit w.state.tic) (is_frozen w.state.mode && not (owed || has_session_entry (entries ∷ lists))) parts.0, parts.1)

pub all_on : (p : Plan) (w : World) (owed : Bool) (lists : List (List Entry)) → IsTrue (goes_owing owed p w lists) → AllOn p w lists
all_on p w owed [] goes = tt
all_on p w owed (entries ∷ lists) goes =
    let parts = goes_on_here p w owed entries lists goes in (parts.0, all_on p (turn p w entries).world owed lists parts.1)

-- ---- the run under these lines

none_noted : (p : Plan) (s : State) (entries : List Entry) → runs s ≡ false → list_any is_of_session entries ≡ false → noted p s entries ≡ []
none_noted p s [] still none = refl
none_noted p s (Join session ∷ entries) still none = cc none
none_noted p s (Said session line ∷ entries) still none = cc none
none_noted p s (Leave session cause ∷ entries) still none = cc none
none_noted p s (Publish thread ∷ entries) still none =
    ap (λ (b : Bool). cond b (Publish thread ∷ noted p s entries) (noted p s entries)) (counts_not (runs s) _ still)
    ∙ none_noted p s entries still none
  where
    counts_not : (a b : Bool) → a ≡ false → (a && b) ≡ false
    counts_not true b e = cc e
    counts_not false b e = refl

-- the rows and the checkpoint of a turn whose entries were heard
rest_of_turn : Plan → List Entry → Bool → Asking → List Write
rest_of_turn p entries ran a =
    let t = framed p ran entries a in
    let asked = t.asking in
    t.writes ++ checkpoint_writes p asked.checkpoint (counted (rounds p ran (checkpoint_jobs p asked.checkpoint asked.state)))

-- what a turn writes, by how its entries were heard
writes_by : Plan → ℕ → List Entry → Hearing → List Write
writes_by p number entries h =
    note number (filter is_of_session (noted p h.asking.state entries))
    ++ note number (filter (λ (entry : Entry). not (is_of_session entry)) (noted p h.asking.state entries))
    ++ rest_of_turn p entries (runs h.asking.state) h.asking

idle_writes : (p : Plan) (w : World) (entries : List Entry) → is_frozen w.state.mode ≡ true → list_any is_of_session entries ≡ false
    → turn_writes w.state.turn (turn p w entries) ≡ []
unfolding rest_of_turn writes_by
idle_writes p w entries frozen none =
    let number = w.state.turn in
    let still : runs w.state ≡ false = ap (λ (b : Bool). cond b false (nat_lt w.state.tic w.state.limit)) frozen in
    ap (writes_by p number entries) (heard_nothing p entries (begun w) none)
    ∙ ap (λ (es : List Entry). note number (filter is_of_session es) ++ note number (filter (λ (entry : Entry). not (is_of_session entry)) es)
    ++ rest_of_turn p entries (runs w.state) (begun w).asking) (none_noted p w.state entries still none)
    ∙ ap (λ (b : Bool). rest_of_turn p entries b (begun w).asking) still

all_idle : (p : Plan) (w : World) (lists : List (List Entry)) → is_frozen w.state.mode ≡ true → has_session_entry lists ≡ false → turns_writes p w lists ≡ []
all_idle p w [] frozen none = refl
all_idle p w (entries ∷ lists) frozen none =
    let parts = or_parts (list_any is_of_session entries) (has_session_entry lists) none in
    ap (λ (ws : List Write). ws ++ turns_writes p (turn p w entries).world lists) (idle_writes p w entries frozen parts.0)
    ∙ all_idle p (turn p w entries).world lists (ap (λ (s : State). is_frozen s.mode) (idle_turn p w entries parts.0 frozen) ∙ frozen) parts.1

-- ---- what such frames say

-- No session has asked for a sample.
abbrev pub NoneAsks : List Session → Type 0
NoneAsks [] = Unit {0}
NoneAsks (session ∷ sessions) = (session.send ≡ false) × NoneAsks sessions

-- after a turn none has
staying_none : (sessions : List Session) → NoneAsks (staying sessions)
staying_none [] = tt
staying_none (session ∷ sessions) = by (session.leaving) (staying_none sessions)
  where
    by : (b : Bool) → NoneAsks (staying sessions)
        → (let stay : List Session = elim b [ true ↦ staying sessions | false ↦ record session { send = false } ∷ staying sessions ] in NoneAsks stay)
    by true none = none
    by false none = (refl, none)

unasked : (send paused leaving passes empty : Bool) → send ≡ false → passes ≡ false
    → ((send || (not paused && (not leaving && passes))) && not empty) ≡ false
unasked true paused leaving passes empty asks moved = cc asks
unasked false true leaving passes empty asks moved = refl
unasked false false true passes empty asks moved = refl
unasked false false false true empty asks moved = cc moved
unasked false false false false empty asks moved = refl

not_below : (n : ℕ) → nat_lt n n ≡ false
not_below n = grind (arith, nat_tests)

-- where the tic stands still, no sample is due that none asked for
no_samples : (from : ℕ) (s : State) (sessions : List Session) → s.tic ≡ from → NoneAsks sessions → samples from s sessions ≡ []
no_samples from s [] same none = refl
no_samples from s (session ∷ sessions) same none =
    by (is_sampled from s.tic session)
    (unasked session.send session.paused session.leaving (passes_multiple session.cycle from s.tic) (is_empty session.variables) none.0
    (ap (λ (to : ℕ). nat_lt (from / session.cycle) (to / session.cycle)) same ∙ not_below (from / session.cycle)))
    (no_samples from s sessions same none.1)
  where
    by : (b : Bool) → b ≡ false → samples from s sessions ≡ []
        → (let said : List Message = elim b [ true ↦ (session.number, sample s.memory session) ∷ samples from s sessions | false ↦ samples from s sessions ] in said ≡ [])
    by true due so = cc due
    by false due so = so

no_replies : (p : Plan) (entries : List Entry) (h : Hearing) → list_any is_of_session entries ≡ false → replies p entries h ≡ []
no_replies p [] h none = refl
no_replies p (Join session ∷ entries) h none = cc none
no_replies p (Said session line ∷ entries) h none = cc none
no_replies p (Leave session cause ∷ entries) h none = cc none
no_replies p (Publish thread ∷ entries) h none = no_replies p entries h none

idle_said : (p : Plan) (w : World) (entries : List Entry) → is_frozen w.state.mode ≡ true → list_any is_of_session entries ≡ false → NoneAsks w.sessions
    → (turn p w entries).said ≡ []
idle_said p w entries frozen none asks =
    let s = (turn p w entries).world.state in
    ap (λ (said : List Message). said ++ samples w.state.tic s (heard p entries (begun w)).sessions) (no_replies p entries (begun w) none)
    ∙ ap (λ (h : Hearing). samples w.state.tic s h.sessions) (heard_nothing p entries (begun w) none)
    ∙ no_samples w.state.tic s w.sessions (ap (λ (t : State). t.tic) (idle_turn p w entries none frozen)) asks

all_quiet : (p : Plan) (w : World) (lists : List (List Entry)) → is_frozen w.state.mode ≡ true → has_session_entry lists ≡ false → NoneAsks w.sessions
    → turns_said p w lists ≡ []
all_quiet p w [] frozen none asks = refl
all_quiet p w (entries ∷ lists) frozen none asks =
    let parts = or_parts (list_any is_of_session entries) (has_session_entry lists) none in
    ap (λ (said : List Message). said ++ turns_said p (turn p w entries).world lists) (idle_said p w entries frozen parts.0 asks)
    ∙ all_quiet p (turn p w entries).world lists (ap (λ (s : State). is_frozen s.mode) (idle_turn p w entries parts.0 frozen) ∙ frozen) parts.1
    (staying_none (heard p entries (begun w)).sessions)

-- ---- the run under lists goes on after their turns

-- where a world that is on is over, it is frozen, and no line is left
over_frozen : (shut out frozen has : Bool) → (shut || out) ≡ false → (shut || (out || (frozen && not has))) ≡ true → (frozen ≡ true) × (has ≡ false)
over_frozen true out frozen has e so = cc e
over_frozen false true frozen has e so = cc e
over_frozen false false true true e so = cc so
over_frozen false false true false e so = (refl, refl)
over_frozen false false false has e so = cc so

-- a run under lists writes what their turns write, and more
pub lasts_front : (p : Plan) (w : World) (cut more : List (List Entry)) (end : World) → AllOn p w cut → Lasts p w cut more end
    → (rest : List Write) × (turns_writes p w more ≡ turns_writes p w cut ++ rest)
lasts_front p w [] more end goes lasts = (turns_writes p w more, refl)
lasts_front p w (entries ∷ cut) more end goes (over is) =
    let parts = over_frozen (is_shut w.state.mode) (nat_le w.state.limit w.state.tic) (is_frozen w.state.mode) (has_session_entry (entries ∷ cut)) goes.0 is in
    ([], sym (all_idle p w (entries ∷ cut) parts.0 parts.1) ∙ sym (append-nil (turns_writes p w (entries ∷ cut))))
lasts_front p w (entries ∷ cut) more end goes (on {lists = lists} is later) =
    let so = lasts_front p (turn p w entries).world cut lists end goes.1 later in
    let first = turn_writes w.state.turn (turn p w entries) in
    (so.0, ap (λ (ws : List Write). first ++ ws) so.1 ∙ sym (append_assoc first (turns_writes p (turn p w entries).world cut) so.0))

-- it says what their turns say, and more
pub lasts_said : (p : Plan) (w : World) (cut more : List (List Entry)) (end : World) → AllOn p w cut → NoneAsks w.sessions → Lasts p w cut more end
    → (rest : List Message) × (turns_said p w more ≡ turns_said p w cut ++ rest)
lasts_said p w [] more end goes asks lasts = (turns_said p w more, refl)
lasts_said p w (entries ∷ cut) more end goes asks (over is) =
    let parts = over_frozen (is_shut w.state.mode) (nat_le w.state.limit w.state.tic) (is_frozen w.state.mode) (has_session_entry (entries ∷ cut)) goes.0 is in
    ([], sym (all_quiet p w (entries ∷ cut) parts.0 parts.1 asks) ∙ sym (append-nil (turns_said p w (entries ∷ cut))))
lasts_said p w (entries ∷ cut) more end goes asks (on {lists = lists} is later) =
    let so = lasts_said p (turn p w entries).world cut lists end goes.1 (staying_none (heard p entries (begun w)).sessions) later in
    let first = (turn p w entries).said in
    (so.0, ap (λ (said : List Message). first ++ said) so.1 ∙ sym (append_assoc first (turns_said p (turn p w entries).world cut) so.0))
