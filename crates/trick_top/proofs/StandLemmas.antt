-- What stands of a run.
use Rattle.std.proofs.Common.{ℕ, List, [], Ok, Err, inl, inr}
use Rattle.std.specs.Prelude.{Result}
use Rattle.trick_serve_headline.specs.Stopped.{FrontsAreSent}
use Rattle.trick_model.specs.PlanOf.{plan_of}
use Rattle.trick_outside.proofs.DoesLemmas.{Joins}
use Rattle.trick_outside.specs.declared.sink.Sink as sink
use Rattle.trick_outside.specs.declared.stop.Stop.{Stop}
use Rattle.trick_exec_alone.specs.declared.summary.Summary.{Summary}
use Rattle.trick_serve.specs.Served.{HasServedRun}
use Rattle.trick_serve.specs.Serving.{Moment, Outside, moment}
use Rattle.trick_top.proofs.RowLemmas.{Ran, found_same, row_cases}
use Rattle.trick_top.specs.Answers.{AnswersRun}
use Rattle.trick_top.specs.Stands.{StandsServed, done, not_begun, stopped}

module _ {F D I O S K : Type 0} {o : Outside F D I O S} {failures : D → ℕ} {sink : sink.Ghosts K} {words : List (List ℕ)} {old new : Moment F D S}
    {before now : K} {status : ℕ} (fronts : FrontsAreSent o.clients) where
  ran_stands : Ran o failures sink words old new before now status → StandsServed o words old new
  ran_stands ran = by ran.served.ended ran.served.run
    where
      by : (ended : Result Summary Stop) → HasServedRun o (plan_of ran.plan) ran.first (moment ran.mid old.door old.spawner) new ran.served.sessions ended
          → StandsServed o words old new
      by (Ok ended) (lists, run, is, joined) = done ran.plan ran.first lists (record { mid = ran.mid; begins = ran.begins; served = run.whole })
      by (Err e) (lists, run) =
          stopped ran.plan ran.first lists
          (record {
            mid = ran.mid;
            begins = ran.begins;
            sent = run.sent;
            leaves = λ files told.
                let left = run.left files (found_same {shelf = o.shelf} ran.begins.found files told) in
                (left.0, left.1, fronts (plan_of ran.plan) ran.first lists run.sent files left.0 old.door new.door left.2 run.clients);
          })

  pub stands : ((s : F) → o.shelf.called s [] s) → Joins o.shelf → AnswersRun o failures sink words old new before now status → StandsServed o words old new
  stands none join row = elim (row_cases o failures sink words old new before now status none join row) [
    | inl early ↦ not_begun early.holds early.door early.spawner
    | inr ran ↦ ran_stands ran
  ]
