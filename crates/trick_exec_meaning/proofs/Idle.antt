-- A turn in Freeze without a line changes nothing but the count of turns.
use Rattle.std.proofs.Common.{◌≡◌, ◌∙◌, ◌<◌, List, [], ◌∷◌, Bool, true, false, ap, inl, inr, refl, subst, sym}
use Rattle.std.specs.Prelude.{◌⊎◌, cond, nat_lt, IsTrue}
use Rattle.trick_model.specs.Events.{Asking}
use Rattle.trick_model.specs.Plan.{Plan}
use Rattle.trick_model.specs.State.{State, World}
use Rattle.trick_model.specs.Turn.{Hearing, begun, checkpoint_jobs, counted, framed, heard, is_frozen, rounds, runs, turn}
use Rattle.trick_model.specs.declared.entry.Entry.{Entry}
use Rattle.trick_model.specs.declared.entry.Entry.TheVariants.{Join, Said, Leave, Publish}
use Rattle.trick_exec_meaning.specs.Goes.{Waits}
use Rattle.trick_exec_sources.specs.Turns.{has_line, owes_after}

-- without a line nothing is heard
pub heard_nothing : (p : Plan) (entries : List Entry) (h : Hearing) → has_line entries ≡ false → heard p entries h ≡ h
heard_nothing p [] h none = refl
heard_nothing p (Join number ∷ entries) h none = cc
heard_nothing p (Said number line ∷ entries) h none = cc
heard_nothing p (Leave number cause ∷ entries) h none = cc
heard_nothing p (Publish thread ∷ entries) h none = heard_nothing p entries h none

-- the state after a turn whose entries were heard
state_after : Plan → List Entry → Bool → Asking → State
state_after p entries ran a =
    let asked = (framed p ran entries a).asking in counted (rounds p ran (checkpoint_jobs p asked.checkpoint asked.state))

pub idle_turn : (p : Plan) (w : World) (entries : List Entry) → has_line entries ≡ false → IsTrue (is_frozen w.state.mode)
    → (turn p w entries).world.state ≡ counted w.state
idle_turn p w entries none frozen =
    let still : runs w.state ≡ false = ap (λ (b : Bool). cond b false (nat_lt w.state.tic w.state.limit)) frozen in
    ap (λ (h : Hearing). counted (rounds p (runs h.asking.state) (checkpoint_jobs p (framed p (runs h.asking.state) entries h.asking).asking.checkpoint (framed p (runs h.asking.state) entries h.asking).asking.state))) (heard_nothing p entries (begun w) none)
    ∙ ap (λ (b : Bool). counted (rounds p b (checkpoint_jobs p (framed p b entries (begun w).asking).asking.checkpoint (framed p b entries (begun w).asking).asking.state))) still

-- an entry that is owed after a list was owed before it, or the list was given in Freeze
owed_after : (line frozen owed : Bool) → cond line false (cond frozen true owed) ≡ true → (line ≡ false) × ((frozen ≡ true) ⊎ (owed ≡ true))
owed_after true frozen owed e = cc e
owed_after false true owed e = (refl, inl refl)
owed_after false false owed e = (refl, inr e)

frozen_by : (s : State) (owed : Bool) → Waits owed s → (is_frozen s.mode ≡ true) ⊎ (owed ≡ true) → is_frozen s.mode ≡ true
frozen_by s owed waits (inl e) = e
frozen_by s owed waits (inr e) = (waits e).0

-- what waits goes on to wait
pub waits_more : (p : Plan) (w : World) (entries list : List Entry) (owed : Bool) → has_line list ≡ has_line entries → Waits owed w.state → w.state.tic < w.state.limit
    → Waits (owes_after w.state.mode list owed) (turn p w entries).world.state
waits_more p w entries list owed same waits less e =
    let parts = owed_after (has_line list) (is_frozen w.state.mode) owed e in
    let frozen = frozen_by w.state owed waits parts.1 in
    subst (λ (s : State). IsTrue (is_frozen s.mode) × (s.tic < s.limit)) (sym (idle_turn p w entries (sym same ∙ parts.0) frozen)) (frozen, less)
