-- How a run goes under a journal.
use Rattle.std.proofs.Common.{◌≡◌, ◌≢◌, ℕ, Bool, true, false, List, [], Ok, Err, Option, Some, refl, inl, inr}
use Rattle.std.proofs.lemmas.Bool.{false_from_ne_true}
use Rattle.std.specs.Prelude.{◌⊎◌, Result}
use Rattle.trick_journal.specs.Refusals.{IsRefused}
use Rattle.trick_journal.specs.declared.journal_fault.JournalFault.TheVariants as fault
use Rattle.trick_journal.specs.declared.journal_fault.JournalFault.{JournalFault}
use Rattle.trick_journal.specs.Facts.{RefusedIsNone}
use Rattle.trick_lang.specs.declared.class.Class.TheVariants as class
use Rattle.trick_model.specs.Plan.{Plan as PlanSeen}
use Rattle.trick_model.specs.PlanOf.{plan_of}
use Rattle.trick_model.specs.Run.{empty, frozen_at_start, start, with_assigns}
use Rattle.trick_model.specs.Running.{run_class}
use Rattle.trick_model.specs.State.{State}
use Rattle.trick_model.specs.declared.journal.Journal.{Journal}
use Rattle.trick_model.specs.declared.plan.Plan.{Plan}
use Rattle.trick_outside.specs.Calls.{fails}
use Rattle.trick_outside.specs.declared.shelf.Shelf.{Ghosts}
use Rattle.trick_outside.specs.declared.stop.Stop.TheVariants as stop
use Rattle.trick_outside.specs.declared.stop.Stop.{Stop}
use Rattle.trick_top_refusals.specs.Journal.{journal_line}
use Rattle.trick_exec_alone.specs.Replay.{RunsReplay, lists_for}
use Rattle.trick_exec_alone.specs.declared.replayed.Replayed.TheVariants as replayed
use Rattle.trick_exec_alone.specs.declared.replayed.Replayed.{Replayed}
use Rattle.trick_top_alone.proofs.ActedLemmas.{acted_quiet}
use Rattle.trick_top_alone.specs.Acts.{HasActed, misfits, no_journal, no_memory, no_memory_to_write, not_written, ran}
use Rattle.trick_top_alone.specs.First.{IsFirst}
use Rattle.trick_top_alone.specs.Runs.{IsJournalFor}
use Rattle.trick_top_alone.specs.Verdict.{OutOfMemory, TextRefused, Verdict, replay_verdict, unread_verdict}
use Rattle.trick_top_alone.specs.Aims as aim

-- a run that starts anew starts at turn 0
pub turn_of_start : (p : PlanSeen) → (start p).turn ≡ 0
turn_of_start p = go p.frozen
  where
    go : (b : Bool) → (frozen_at_start p b (run_class p class.Initialization (with_assigns p (run_class p class.DefaultData (empty p))))).turn ≡ 0
    go true = refl
    go false = refl

-- from this state
module _ (plan : Plan) (from : Option (List ℕ)) (first : State) (starts : IsFirst plan from first) (text : List ℕ) where
  -- under the journal of the text
  module _ {S : Type 0} {shelf : Ghosts S} {old new : S} (journal : Journal) (is : IsJournalFor plan first text journal) where
    pub acted_replay : (result : Result Replayed Stop) → RunsReplay shelf (plan_of plan) first journal old new result → HasActed shelf old new plan from (Some text) aim.Run (replay_verdict result)
    acted_replay (Ok (replayed.Ended ended joins)) runs = record {
      calls = runs.does.calls;
      went = runs.does.went;
      acts = rw (runs.does.whole refl, runs.ended_so, runs.joins_so)
          (ran first (lists_for journal first) starts (record { journal = journal; is = is; fits = runs.fits; are = refl }));
    }
    acted_replay (Ok (replayed.Length kept given)) runs = record {
      calls = runs.does.calls;
      went = runs.does.went;
      acts = rw (runs.does.whole refl, runs.kept_so, runs.given_so) (misfits first journal starts refl (record { is = is; misfit = runs.misfit }));
    }
    acted_replay (Err stop.Shelf) runs = record {
      calls = runs.does.calls;
      went = runs.does.went;
      acts = not_written first runs.lists starts (record { journal = journal; is = is; follows = runs.follows }) (record { part = runs.does.part; said = runs.stops.0; stops = runs.stops.1 }) (runs.does.failed refl);
    }
    acted_replay (Err stop.Memory) runs = record {
      calls = runs.does.calls;
      went = runs.does.went;
      acts = no_memory_to_write first runs.lists starts (record { journal = journal; is = is; follows = runs.follows }) (record { part = runs.does.part; said = runs.stops.0; stops = runs.stops.1 })
          (false_from_ne_true (fails runs.does.calls) (λ e. (let fault = runs.does.fault e in cc)));
    }

  -- the text is no journal
  module _ {S : Type 0} {shelf : Ghosts S} (s : S) (none : shelf.called s [] s) (apart : RefusedIsNone) where
    refused : (why : JournalFault) → why ≢ fault.OutOfMemory → IsRefused (plan_of plan) first.turn text why
        → HasActed shelf s s plan from (Some text) aim.Run (TextRefused (journal_line why))
    refused why known refuses =
        acted_quiet s plan from (Some text) aim.Run (TextRefused (journal_line why)) none
        (no_journal first starts refl
        (record { refused = refuses; known = known; none = λ journal is. apart (plan_of plan) first.turn text why journal refuses known is }))

    told : (why : JournalFault) → IsRefused (plan_of plan) first.turn text why → HasActed shelf s s plan from (Some text) aim.Run (unread_verdict why)
    told fault.OutOfMemory refuses = acted_quiet s plan from (Some text) aim.Run OutOfMemory none no_memory
    told (fault.BadLine line) refuses = refused (fault.BadLine line) (λ e. cc) refuses
    told (fault.NotRising line) refuses = refused (fault.NotRising line) (λ e. cc) refuses
    told (fault.NotJoined line) refuses = refused (fault.NotJoined line) (λ e. cc) refuses
    told (fault.NotAsync line) refuses = refused (fault.NotAsync line) (λ e. cc) refuses
    told (fault.NoEnd line) refuses = refused (fault.NoEnd line) (λ e. cc) refuses

    pub acted_unread : (why : JournalFault) (verdict : Verdict) → (verdict ≡ unread_verdict why) ⊎ (verdict ≡ OutOfMemory) → IsRefused (plan_of plan) first.turn text why
        → HasActed shelf s s plan from (Some text) aim.Run verdict
    acted_unread why verdict (inl is) refuses = rw is (told why refuses)
    acted_unread why verdict (inr is) refuses = rw is (acted_quiet s plan from (Some text) aim.Run OutOfMemory none no_memory)
