-- What turns write makes no log and no journal anew.
use Rattle.std.proofs.Common.{◌≡◌, ℕ, zero, suc, List, [], ◌∷◌, ◌++◌, Bool, true, false, not, nat_lt}
use Rattle.std.specs.Prelude.{filter}
use Rattle.trick_base.specs.Content.{same_name, IsKept}
use Rattle.trick_base.specs.Files.{Write}
use Rattle.trick_lang.specs.declared.class.Class.TheVariants as class
use Rattle.trick_model.specs.Events.{Asking}
use Rattle.trick_model.specs.Files.{note, turn_writes, turns_writes}
use Rattle.trick_model.specs.Journal.{is_of_session}
use Rattle.trick_model.specs.Plan.{Plan}
use Rattle.trick_model.specs.Records.{row_kept, row_writes, rows, writes_row}
use Rattle.trick_model.specs.Running.{run_class}
use Rattle.trick_model.specs.State.{State, World}
use Rattle.trick_model.specs.Tic.{Ticked, tic, tic_below_limit, tics}
use Rattle.trick_model.specs.Time.{tics_left}
use Rattle.trick_model.specs.Turn.{begun, checkpoint_jobs, checkpoint_name, checkpoint_writes, counted, framed, heard, publish_all, rounds, runs, turn}
use Rattle.trick_model.specs.declared.entry.Entry.{Entry}
use Rattle.trick_model.specs.declared.group.Group.{Group}
use Rattle.trick_model_remainder.proofs.Contents.{kept_append}

-- A name is that of no checkpoint of a turn.
abbrev pub IsNoCheckpoint : List ℕ → Type 0
IsNoCheckpoint name = (turn : ℕ) → same_name name (checkpoint_name turn) ≡ false

pub note_kept : (name : List ℕ) (turn : ℕ) (entries : List Entry) → IsKept name (note turn entries)
note_kept name turn [] = tt
note_kept name turn (entry ∷ entries) = tt

row_by : (b : Bool) (name : List ℕ) (write : Write) → IsKept name (write ∷ []) → (let w : List Write = elim b [ true ↦ write ∷ [] | false ↦ [] ] in IsKept name w)
row_by true name write kept = kept
row_by false name write kept = tt

rows_kept : (name : List ℕ) (t k : ℕ) (groups : List Group) (s : State) → IsKept name (rows t k groups s).writes
rows_kept name t k [] s = tt
rows_kept name t k (group ∷ groups) s =
    kept_append name (row_writes t k group s) (rows t (suc k) groups (row_kept t k group s)).writes
    (row_by (writes_row t k group s) name _ tt) (rows_kept name t (suc k) groups (row_kept t k group s))

tic_by : (b : Bool) (name : List ℕ) (one other : Ticked) → IsKept name one.writes → IsKept name other.writes
    → (let t : Ticked = elim b [ true ↦ one | false ↦ other ] in IsKept name t.writes)
tic_by true name one other kept also = kept
tic_by false name one other kept also = also

tics_kept : (name : List ℕ) (p : Plan) (count : ℕ) (a : Asking) → IsKept name (tics p count a).writes
tics_kept name p zero a = tt
tics_kept name p (suc count) a =
    kept_append name (tic_below_limit p a).writes (tics p count (tic_below_limit p a).asking).writes
    (tic_by (nat_lt a.state.tic a.state.limit) name (tic p a) (record { asking = a; writes = [] }) (rows_kept name _ 0 p.groups _) tt)
    (tics_kept name p count (tic_below_limit p a).asking)

framed_kept : (name : List ℕ) (p : Plan) (b : Bool) (entries : List Entry) (a : Asking) → IsKept name (framed p b entries a).writes
framed_kept name p false entries a = tt
framed_kept name p true entries a =
    let top : Asking = record a { state = run_class p class.TopOfFrame (publish_all p entries a.state) } in
    tics_kept name p (tics_left p top.state.tic) top

checkpoint_kept : (name : List ℕ) (p : Plan) (b : Bool) (s : State) → IsNoCheckpoint name → IsKept name (checkpoint_writes p b s)
checkpoint_kept name p false s none = tt
checkpoint_kept name p true s none = (none s.turn, tt)

turn_kept : (name : List ℕ) (p : Plan) (w : World) (entries : List Entry) (number : ℕ) → IsNoCheckpoint name
    → IsKept name (turn_writes number (turn p w entries))
turn_kept name p w entries number none =
    let t = turn p w entries in
    let a = (heard p entries (begun w)).asking in
    let ran = framed p (runs a.state) entries a in
    let asked = ran.asking in
    let s = counted (rounds p (runs a.state) (checkpoint_jobs p asked.checkpoint asked.state)) in
    kept_append name
    (note number (filter is_of_session t.noted) ++ note number (filter (λ entry. not (is_of_session entry)) t.noted)) t.writes
    (kept_append name (note number (filter is_of_session t.noted)) (note number (filter (λ entry. not (is_of_session entry)) t.noted))
    (note_kept name number (filter is_of_session t.noted)) (note_kept name number (filter (λ entry. not (is_of_session entry)) t.noted)))
    (kept_append name ran.writes (checkpoint_writes p asked.checkpoint s) (framed_kept name p (runs a.state) entries a)
    (checkpoint_kept name p asked.checkpoint s none))

pub turns_kept : (name : List ℕ) (p : Plan) (w : World) (lists : List (List Entry)) → IsNoCheckpoint name → IsKept name (turns_writes p w lists)
turns_kept name p w [] none = tt
turns_kept name p w (entries ∷ lists) none =
    kept_append name (turn_writes w.state.turn (turn p w entries)) (turns_writes p (turn p w entries).world lists)
    (turn_kept name p w entries w.state.turn none) (turns_kept name p (turn p w entries).world lists none)
