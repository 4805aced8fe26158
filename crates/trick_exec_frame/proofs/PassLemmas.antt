-- The parts of a turn whose entries were heard make it.
use Rattle.std.proofs.Common.{◌≡◌, ◌∙◌, List, [], ◌++◌, Bool, Ok, Err, IsOk, ap, subst, sym}
use Rattle.std.specs.Prelude.{Result, IsErrOf}
use Rattle.trick_lang.specs.declared.class.Class.TheVariants as class
use Rattle.trick_model.specs.Events.{Asking}
use Rattle.trick_model.specs.Plan.{Plan}
use Rattle.trick_model.specs.Running.{run_class}
use Rattle.trick_model.specs.State.{State}
use Rattle.trick_model.specs.Tic.{frame}
use Rattle.trick_model.specs.Turn.{checkpoint_jobs, checkpoint_writes, counted, framed, frozen, publish_all, rounds, run_frame, runs}
use Rattle.trick_model.specs.declared.entry.Entry.{Entry}
use Rattle.trick_outside.proofs.DoesLemmas.{Joins, does_err, does_none, does_ok, does_then}
use Rattle.trick_outside.specs.Calls.{Call}
use Rattle.trick_outside.specs.Does.{Does}
use Rattle.trick_outside.specs.declared.shelf.Shelf.{Ghosts}
use Rattle.trick_outside.specs.declared.stop.Stop.TheVariants.{Shelf}
use Rattle.trick_outside.specs.declared.stop.Stop.{Stop}
use Rattle.trick_exec_frame.specs.Pass.{Passed, passed}
use Rattle.trick_exec_tic.proofs.StepLemmas.{steps_of-append}
use Rattle.trick_exec_tic.specs.Steps.{steps_of}

-- ---- a run frame

module _ (p : Plan) (entries : List Entry) (a ran : Asking) (top bottom last : State)
    (first : top ≡ run_class p class.TopOfFrame (publish_all p entries a.state)) (tics : ran ≡ (frame p (record a { state = top })).asking)
    (end : bottom ≡ run_class p class.EndOfFrame ran.state) (freeze : last ≡ frozen p ran.freeze bottom) where
  pub frame_asking : record ran { state = last } ≡ (run_frame p entries a).asking
  frame_asking =
      ap (λ (s : State). record ran { state = s }) (freeze ∙ ap (frozen p ran.freeze) end)
      ∙ ap (λ (r : Asking). record r { state = frozen p r.freeze (run_class p class.EndOfFrame r.state) })
      (tics ∙ ap (λ (s : State). (frame p (record a { state = s })).asking) first)

pub frame_writes : (p : Plan) (entries : List Entry) (a : Asking) (top : State) → top ≡ run_class p class.TopOfFrame (publish_all p entries a.state)
    → (frame p (record a { state = top })).writes ≡ (run_frame p entries a).writes
frame_writes p entries a top first = ap (λ (s : State). (frame p (record a { state = s })).writes) first

-- ---- a turn after its entries

-- a state with what is written of it
abbrev with_checkpoint : Plan → Bool → State → Passed
with_checkpoint p asked s = record { state = s; writes = checkpoint_writes p asked s }

-- what follows a frame
abbrev behind_frame : Plan → Bool → Asking → Passed
behind_frame p ran after = with_checkpoint p after.checkpoint (counted (rounds p ran (checkpoint_jobs p after.checkpoint after.state)))

module _ (p : Plan) (entries : List Entry) (a ran : Asking) (jobs started last : State)
    (frame_is : ran ≡ (framed p (runs a.state) entries a).asking) (checked : jobs ≡ checkpoint_jobs p ran.checkpoint ran.state)
    (start : started ≡ rounds p (runs a.state) jobs) (count : last ≡ counted started) where
  pass_is : with_checkpoint p ran.checkpoint last ≡ behind_frame p (runs a.state) (framed p (runs a.state) entries a).asking
  pass_is =
      ap (with_checkpoint p ran.checkpoint) (count ∙ ap counted (start ∙ ap (rounds p (runs a.state)) checked))
      ∙ ap (behind_frame p (runs a.state)) frame_is

  pub pass_state : last ≡ (passed p entries a).state
  pass_state = ap (λ (r : Passed). r.state) pass_is

  pub pass_steps : steps_of (framed p (runs a.state) entries a).writes ++ steps_of (checkpoint_writes p ran.checkpoint last)
      ≡ steps_of (passed p entries a).writes
  pass_steps =
      sym (steps_of-append (framed p (runs a.state) entries a).writes (checkpoint_writes p ran.checkpoint last))
      ∙ ap (λ (r : Passed). steps_of ((framed p (runs a.state) entries a).writes ++ r.writes)) pass_is

-- the same calls, in other words, where all is done
pub with_steps : {S T U : Type 0} {shelf : Ghosts S} {old new : S} {first : Result T Stop} (calls steps : List Call) (value : U)
    → calls ≡ steps → Does shelf old new first calls → IsOk first → Does {T = U} shelf old new (Ok value) steps
with_steps {U = U} {shelf = shelf} {old = old} {new = new} calls steps value same did ok =
    let result : Result U Stop = Ok value in
    subst (λ (c : List Call). Does shelf old new result c) same (does_ok value did ok)

-- what is written after a frame
left_steps : (p : Plan) (entries : List Entry) (a : Asking) → List Call
left_steps p entries a =
    let after = (framed p (runs a.state) entries a).asking in
    steps_of (checkpoint_writes p after.checkpoint (counted (rounds p (runs a.state) (checkpoint_jobs p after.checkpoint after.state))))

in_two : (p : Plan) (entries : List Entry) (a : Asking)
    → steps_of (passed p entries a).writes ≡ steps_of (framed p (runs a.state) entries a).writes ++ left_steps p entries a
unfolding left_steps
in_two p entries a =
    let after = (framed p (runs a.state) entries a).asking in
    steps_of-append (framed p (runs a.state) entries a).writes
    (checkpoint_writes p after.checkpoint (counted (rounds p (runs a.state) (checkpoint_jobs p after.checkpoint after.state))))

-- the frame stopped
pub pass_stops : {S T U : Type 0} {shelf : Ghosts S} {old new : S} {first : Result T Stop} (p : Plan) (entries : List Entry) (a : Asking) (result : Result U Stop) (e f : Stop)
    → Does shelf old new first (steps_of (framed p (runs a.state) entries a).writes) → first ≡ Err e → result ≡ Err f → f ≡ e
    → Does shelf old new result (steps_of (passed p entries a).writes)
pass_stops {shelf = shelf} {old = old} {new = new} p entries a result e f did at is same =
    subst (λ (calls : List Call). Does shelf old new result calls) (sym (in_two p entries a))
    (does_err result e f (left_steps p entries a) did at is same)

-- there was no memory for a round
pub pass_wants : {S T U : Type 0} {shelf : Ghosts S} {old new : S} {first : Result T Stop} (p : Plan) (entries : List Entry) (a : Asking) (result : Result U Stop)
    → Joins shelf → Does shelf old new first (steps_of (framed p (runs a.state) entries a).writes) → IsOk first → shelf.called new [] new
    → (IsOk result → ⊥) → (IsErrOf result Shelf → ⊥) → Does shelf old new result (steps_of (passed p entries a).writes)
pass_wants {shelf = shelf} {old = old} {new = new} p entries a result join did ok none not_done never =
    subst (λ (calls : List Call). Does shelf old new result calls) (sym (in_two p entries a))
    (does_then join did ok (does_none new result (left_steps p entries a) none not_done never))
