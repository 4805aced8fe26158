-- How a command goes with an accepted plan.
use Rattle.std.proofs.Common.{◌≡◌, ◌≢◌, ◌∙◌, ℕ, List, [], Ok, Err, None, Option, Some, refl, sym, subst, ap, inl, inr}
use Rattle.std.proofs.lemmas.Bool.{false_from_ne_true}
use Rattle.std.specs.Prelude.{◌⊎◌, Result}
use Rattle.trick_chkpt_lines.specs.CheckpointLines.{checkpoint}
use Rattle.trick_codes.specs.Loads.{Refuses}
use Rattle.trick_codes.specs.declared.load_fault.LoadFault.TheVariants as load_fault
use Rattle.trick_codes.specs.declared.load_fault.LoadFault.{LoadFault}
use Rattle.trick_model.specs.PlanOf.{plan_of}
use Rattle.trick_model.specs.State.{State}
use Rattle.trick_model.specs.declared.plan.Plan.{Plan}
use Rattle.trick_outside.proofs.DoesLemmas.{went_none}
use Rattle.trick_outside.specs.Calls.{fails}
use Rattle.trick_outside.specs.declared.shelf.Shelf.{Ghosts}
use Rattle.trick_outside.specs.declared.stop.Stop.TheVariants as stop
use Rattle.trick_outside.specs.declared.stop.Stop.{Stop}
use Rattle.trick_top_refusals.specs.Checkpoint.{checkpoint_line}
use Rattle.trick_chkpt_state.specs.Loaded.{IsCheckpointOf}
use Rattle.trick_exec_alone.specs.Serial.{RunsSerially, summary_of}
use Rattle.trick_exec_alone.specs.declared.summary.Summary.{Summary}
use Rattle.trick_top_alone.proofs.JoinLemmas.{none_join}
use Rattle.trick_top_alone.specs.Acts.{Acts, HasActed, StopsWith, accepted_verdict, checked, ended_verdict, last_state, listed, listed_verdict}
use Rattle.trick_top_alone.specs.Acts.{no_memory, no_memory_to_write, not_written, ran, run_steps, unloaded}
use Rattle.trick_top_alone.specs.First.{IsFirst, IsLoadedFrom}
use Rattle.trick_top_alone.specs.Runs.{IsUnderWay}
use Rattle.trick_top_alone.specs.Verdict.{Ended as EndedBy, OutOfMemory, TextRefused, Verdict, run_verdict, unloaded_verdict}
use Rattle.trick_top_alone.specs.Aims as aim
use Rattle.trick_top_alone.specs.Aims.{Aim}

-- it ended without a call of the shelf
pub acted_quiet : {S : Type 0} {shelf : Ghosts S} (s : S) (plan : Plan) (from journal : Option (List ℕ)) (t : Aim) (verdict : Verdict) → shelf.called s [] s
    → Acts plan from journal t [] verdict → HasActed shelf s s plan from journal t verdict
acted_quiet s plan from journal t verdict none is = record { calls = []; went = went_none s none; acts = is }

-- there was no memory before the shelf was called
pub acted_no_memory : {S : Type 0} {shelf : Ghosts S} (s : S) (plan : Plan) (from journal : Option (List ℕ)) (t : Aim) → shelf.called s [] s
    → HasActed shelf s s plan from journal t OutOfMemory
acted_no_memory s plan from journal t none = acted_quiet s plan from journal t OutOfMemory none no_memory

-- the plan that was looked at is this one
module _ {S : Type 0} {shelf : Ghosts S} (s : S) (plan shown : Plan) (from journal : Option (List ℕ)) (verdict : Verdict) (none : shelf.called s [] s) (same : shown ≡ plan) where
  pub acted_checked : (t : Aim) → t ≡ aim.Check → verdict ≡ accepted_verdict shown → HasActed shelf s s plan from journal t verdict
  acted_checked t check is =
      let now : verdict ≡ accepted_verdict plan = is ∙ ap accepted_verdict same in
      acted_quiet s plan from journal t verdict none (rw (check, now) checked)

  pub acted_listed : (t : Aim) → t ≡ aim.List → (verdict ≡ listed_verdict shown) ⊎ (verdict ≡ OutOfMemory) → HasActed shelf s s plan from journal t verdict
  acted_listed t list (inl is) =
      let now : verdict ≡ listed_verdict plan = is ∙ ap listed_verdict same in
      acted_quiet s plan from journal t verdict none (rw (list, now) listed)
  acted_listed t list (inr is) = acted_quiet s plan from journal t verdict none (rw is no_memory)

module _ {S : Type 0} {shelf : Ghosts S} {old new : S} (plan : Plan) (from : Option (List ℕ)) (first : State) (starts : IsFirst plan from first) where
  under_way : {result : Result Summary Stop} → (runs : RunsSerially shelf (plan_of plan) first old new result) → IsUnderWay plan None first runs.lists
  under_way runs = record { goes = runs.runs.goes; published = runs.runs.published }

  -- how it stopped
  stopped_so : {e : Stop} (runs : RunsSerially shelf (plan_of plan) first old new (Err e)) → StopsWith plan first runs.lists runs.runs.does.calls
  stopped_so runs = let stops = runs.runs.stops (λ ok. cc) in record { part = runs.runs.does.part; said = stops.0; stops = stops.1 }

  -- no session joins in a run without clients
  alone : {result : Result Summary Stop} (runs : RunsSerially shelf (plan_of plan) first old new result) → Acts plan from None aim.Run (run_steps plan first runs.lists) (ended_verdict plan first runs.lists)
      → Acts plan from None aim.Run (run_steps plan first runs.lists) (EndedBy (summary_of (last_state plan first runs.lists)) 0)
  alone runs acts =
      subst (λ n. Acts plan from None aim.Run (run_steps plan first runs.lists) (EndedBy (summary_of (last_state plan first runs.lists)) n)) (none_join (plan_of plan) _ runs.lists runs.runs.published) acts

  -- a run without clients from this state
  pub acted_run : (result : Result Summary Stop) → RunsSerially shelf (plan_of plan) first old new result → HasActed shelf old new plan from None aim.Run (run_verdict result)
  acted_run (Ok ended) runs = record {
    calls = runs.runs.does.calls;
    went = runs.runs.does.went;
    acts = rw (runs.runs.does.whole refl, runs.ended) (alone runs (ran first runs.lists starts (runs.runs.own refl)));
  }
  acted_run (Err stop.Shelf) runs = record {
    calls = runs.runs.does.calls;
    went = runs.runs.does.went;
    acts = not_written first runs.lists starts (under_way runs) (stopped_so runs) (runs.runs.does.failed refl);
  }
  acted_run (Err stop.Memory) runs = record {
    calls = runs.runs.does.calls;
    went = runs.runs.does.went;
    acts = no_memory_to_write first runs.lists starts (under_way runs) (stopped_so runs) (false_from_ne_true (fails runs.runs.does.calls) (λ e. (let fault = runs.runs.does.fault e in cc)));
  }

-- a text that is no checkpoint
module _ {S : Type 0} {shelf : Ghosts S} (s : S) (none : shelf.called s [] s) (plan : Plan) (text : List ℕ) (journal : Option (List ℕ)) where
  refused : (why : LoadFault) → why ≢ load_fault.OutOfMemory → Refuses (checkpoint plan) text why → ((t : State) → IsCheckpointOf plan text t → why ≡ load_fault.OutOfMemory)
      → HasActed shelf s s plan (Some text) journal aim.Run (TextRefused (checkpoint_line why))
  refused why known refuses same =
      acted_quiet s plan (Some text) journal aim.Run (TextRefused (checkpoint_line why)) none
      (unloaded refl (record { refused = refuses; known = known; none = λ t is. known (same t is) }))

  told : (why : LoadFault) → Refuses (checkpoint plan) text why → ((t : State) → IsCheckpointOf plan text t → why ≡ load_fault.OutOfMemory)
      → HasActed shelf s s plan (Some text) journal aim.Run (unloaded_verdict why)
  told load_fault.OutOfMemory refuses same = acted_quiet s plan (Some text) journal aim.Run OutOfMemory none no_memory
  told (load_fault.BadLine line) refuses same = refused (load_fault.BadLine line) (λ e. cc) refuses same
  told (load_fault.WrongPlan line) refuses same = refused (load_fault.WrongPlan line) (λ e. cc) refuses same
  told (load_fault.OutOfRange line) refuses same = refused (load_fault.OutOfRange line) (λ e. cc) refuses same
  told (load_fault.Truncated at) refuses same = refused (load_fault.Truncated at) (λ e. cc) refuses same
  told (load_fault.Trailing at) refuses same = refused (load_fault.Trailing at) (λ e. cc) refuses same

  pub acted_unloaded : (why : LoadFault) (verdict : Verdict) → (verdict ≡ unloaded_verdict why) ⊎ (verdict ≡ OutOfMemory) → Refuses (checkpoint plan) text why
      → ((t : State) → IsCheckpointOf plan text t → why ≡ load_fault.OutOfMemory) → HasActed shelf s s plan (Some text) journal aim.Run verdict
  acted_unloaded why verdict (inl is) refuses same = rw is (told why refuses same)
  acted_unloaded why verdict (inr is) refuses same = rw is (acted_quiet s plan (Some text) journal aim.Run OutOfMemory none no_memory)

-- the state that was loaded is the only one
pub loaded_from : (plan : Plan) (text : List ℕ) (s : State) → IsCheckpointOf plan text s → ((other : State) → IsCheckpointOf plan text other → s ≡ other) → IsLoadedFrom plan text s
loaded_from plan text s is same = record { is = is; only = λ other also. sym (same other also) }
