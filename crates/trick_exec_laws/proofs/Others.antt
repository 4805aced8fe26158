-- What turns write of names that are no log and no checkpoint.
use Rattle.std.proofs.Common.{◌≡◌, ℕ, zero, suc, List, [], ◌∷◌, Bool, true, false, nat_lt}
use Rattle.std.specs.Prelude.{flat_map}
use Rattle.trick_base.specs.Content.{same_name}
use Rattle.trick_base.specs.Files.{Write}
use Rattle.trick_lang.specs.declared.class.Class.TheVariants as class
use Rattle.trick_model.specs.Events.{Asking}
use Rattle.trick_model.specs.Plan.{Plan}
use Rattle.trick_model.specs.Records.{header, log_name, row_kept, row_writes, rows, writes_row}
use Rattle.trick_model.specs.Running.{run_class}
use Rattle.trick_model.specs.State.{State, World}
use Rattle.trick_model.specs.Tic.{Ticked, tic, tic_below_limit, tics}
use Rattle.trick_model.specs.Time.{tics_left}
use Rattle.trick_model.specs.Turn.{begun, checkpoint_jobs, checkpoint_name, checkpoint_writes, counted, file_writes, framed, heard, publish_all, rounds, runs, turn}
use Rattle.trick_model.specs.declared.entry.Entry.{Entry}
use Rattle.trick_model.specs.declared.group.Group.{Group}
use Rattle.trick_exec_laws.proofs.Fronts.{NoneOf, none_append}

-- A name is that of no log.
abbrev pub IsNoLog : List ℕ → Type 0
IsNoLog name = (group : Group) → same_name name (log_name group) ≡ false

row_none : (b : Bool) (name : List ℕ) (write : Write) → NoneOf name (write ∷ []) → (let ws : List Write = elim b [ true ↦ write ∷ [] | false ↦ [] ] in NoneOf name ws)
row_none true name write none = none
row_none false name write none = tt

rows_none : (name : List ℕ) → IsNoLog name → (t k : ℕ) (groups : List Group) (s : State) → NoneOf name (rows t k groups s).writes
rows_none name other t k [] s = tt
rows_none name other t k (group ∷ groups) s =
    none_append name (row_writes t k group s) (rows t (suc k) groups (row_kept t k group s)).writes
    (row_none (writes_row t k group s) name _ (other group, tt)) (rows_none name other t (suc k) groups (row_kept t k group s))

tic_none : (b : Bool) (name : List ℕ) (one two : Ticked) → NoneOf name one.writes → NoneOf name two.writes
    → (let t : Ticked = elim b [ true ↦ one | false ↦ two ] in NoneOf name t.writes)
tic_none true name one two first second = first
tic_none false name one two first second = second

tics_none : (name : List ℕ) → IsNoLog name → (p : Plan) (count : ℕ) (a : Asking) → NoneOf name (tics p count a).writes
tics_none name other p zero a = tt
tics_none name other p (suc count) a =
    none_append name (tic_below_limit p a).writes (tics p count (tic_below_limit p a).asking).writes
    (tic_none (nat_lt a.state.tic a.state.limit) name (tic p a) (record { asking = a; writes = [] }) (rows_none name other _ 0 p.groups _) tt)
    (tics_none name other p count (tic_below_limit p a).asking)

-- what a frame writes is rows
pub framed_none : (name : List ℕ) → IsNoLog name → (p : Plan) (b : Bool) (entries : List Entry) (a : Asking) → NoneOf name (framed p b entries a).writes
framed_none name other p false entries a = tt
framed_none name other p true entries a =
    let top : Asking = record a { state = run_class p class.TopOfFrame (publish_all p entries a.state) } in
    tics_none name other p (tics_left p top.state.tic) top

checkpoint_none : (name : List ℕ) (p : Plan) (b : Bool) (s : State) → same_name name (checkpoint_name s.turn) ≡ false → NoneOf name (checkpoint_writes p b s)
checkpoint_none name p false s other = tt
checkpoint_none name p true s other = (other, (other, tt))

-- What a turn writes after its notes is rows and a checkpoint.
pub rest_none : (name : List ℕ) → IsNoLog name → (p : Plan) (w : World) (entries : List Entry)
    → same_name name (checkpoint_name (turn p w entries).world.state.turn) ≡ false → NoneOf name (turn p w entries).writes
rest_none name no_log p w entries other =
    let a = (heard p entries (begun w)).asking in
    let ran = framed p (runs a.state) entries a in
    let asked = ran.asking in
    let s = counted (rounds p (runs a.state) (checkpoint_jobs p asked.checkpoint asked.state)) in
    none_append name ran.writes (checkpoint_writes p asked.checkpoint s)
    (framed_none name no_log p (runs a.state) entries a) (checkpoint_none name p asked.checkpoint s other)

-- the headers of logs
pub headers_none : (name : List ℕ) → IsNoLog name → (p : Plan) (groups : List Group)
    → NoneOf name (flat_map (λ (group : Group). file_writes (log_name group) (header p group)) groups)
headers_none name other p [] = tt
headers_none name other p (group ∷ groups) = (other group, (other group, headers_none name other p groups))
