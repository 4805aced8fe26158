-- What a take answers and adds.
use Rattle.std.proofs.Common.{◌≡◌, ◌∙◌, ℕ, true, Option, Some, None, List, ◌++◌, refl, sym, ap, subst}
use Rattle.std.specs.Option.{IfSome, MatchOption, option_map}
use Rattle.trick_phase_board.proofs.Calls.{ready_there}
use Rattle.trick_phase_board.specs.Answers.{IsFilledBy, IsReadyOn}
use Rattle.trick_phase_board.specs.Board.{IsBoardOf, Opened, stepped, tic_at}
use Rattle.trick_eval.specs.Bench.{BenchView, IsFilled, the_job}
use Rattle.trick_hall_kept.proofs.Boards.{both_open, closed_in, goes_on_in, if_open, is_open, not_shut_in, same_hall}
use Rattle.trick_hall_kept.proofs.Entries.{stands_more, stands_same}
use Rattle.trick_hall_kept.proofs.Stepping.{Steps, steps_on}
use Rattle.trick_hall_kept.specs.Answers.{TakesAt, TakesIn, TriesTake, told_by_take}
use Rattle.trick_hall_kept.specs.HallView.{HallView}
use Rattle.trick_hall_kept.specs.Histories.{after}
use Rattle.trick_hall_kept.specs.Kept.{TakesFrom}
use Rattle.trick_hall_kept.specs.Standing.{StandsAt}
use Rattle.trick_hall_kept.specs.declared.answers.HandTook.{HandTook}
use Rattle.trick_hall_kept.specs.declared.answers.HandTook.TheVariants as taken
use Rattle.trick_hall_kept.specs.declared.entry.Entry.{Entry}
use Rattle.trick_hall_kept.specs.declared.entry.Entry.TheVariants.{Take}
use Rattle.trick_lang.specs.Effect.{reads}
use Rattle.trick_lang.specs.declared.job.JobId.{JobId}
use Rattle.trick_model.specs.Acceptance.{IsAccepted}
use Rattle.trick_model.specs.PlanOf.{plan_of}
use Rattle.trick_model.specs.declared.plan.Plan.{Plan as PlanValue}
use Rattle.trick_phase.proofs.Follows.{Laws, ready_follows, right_tic}
use Rattle.trick_phase_schedules.specs.declared.step.Step.TheVariants.{Take as TakeOf}
use Rattle.trick_turn.specs.Views.{entries_told}
use Rattle.trick_turn.specs.declared.pass.Pass.{Pass}

module _ (plan : PlanValue) (thread : ℕ) (old new : HallView) (was bench : BenchView) where
  -- the bench is filled with the job, as an open board with this phase fills it
  abbrev Fills : ℕ → Opened → Type 0
  Fills phase o = IsFilledBy phase (reads plan.program (the_job bench.job)) o.progress.memory was bench (the_job bench.job)

  pub takes_in : (log : List Entry) (r : HandTook) → StandsAt plan old log → TakesFrom plan thread old new was bench r
      → (r ≡ taken.Took → IfSome old.board.opened (Fills old.board.phase)) → TakesIn plan thread log was bench r
  takes_in log taken.Took stands t fills =
      let at_phase = subst (λ (n : ℕ). IfSome old.board.opened (Fills n)) stands.state.phase_is (fills refl) in
      goes_on_in plan log old _ stands.state t.0 (both_open old.board.opened (λ o ready filled. (ready, filled)) t.2 at_phase)
  takes_in log (taken.NotYet job waits_for) stands t fills = (t.2, goes_on_in plan log old _ stands.state t.0.0 t.0.2)
  takes_in log taken.ThreadDone stands t fills = (t.2, goes_on_in plan log old _ stands.state t.0.0 t.0.2)
  takes_in log taken.Shut stands t fills = (t.2, not_shut_in plan log old true stands.state t.0)
  takes_in log (taken.Closed phase) stands t fills = (t.2, closed_in plan log old phase stands.state t.0.0 t.0.1 t.0.2)
  takes_in log (taken.Busy found) stands t fills = absurd t

  -- the job of the bench, which an open board filled
  filled_job : (opened : Option Opened) (P : Opened → Type 0) (phase : ℕ) → MatchOption opened ⊥ P → IfSome opened (Fills phase) → bench.job ≡ Some (the_job bench.job)
  filled_job None P phase open_ fills = absurd open_
  filled_job (Some o) P phase open_ fills = ap (λ (b : BenchView). b.job) fills.bench

  pub takes_filled : (r : HandTook) → IsBoardOf plan old.board → TakesFrom plan thread old new was bench r → (r ≡ taken.Took → IfSome old.board.opened (Fills old.board.phase)) → r ≡ taken.Took
      → IsFilled plan.program bench
  takes_filled r belongs takes fills is =
      let t = subst (TakesFrom plan thread old new was bench) is takes in (
        filled_job old.board.opened _ old.board.phase t.2 (fills is),
        ready_there old.board.opened plan thread (the_job bench.job) (is_open _ old.board.opened t.2) belongs.opened (if_open (λ o. IsReadyOn (tic_at plan o) o.progress.stages thread (the_job bench.job).0) old.board.opened t.2),
      )

  pub takes_on : Laws → ∥ IsAccepted (plan_of plan) ∥₁ → (log : List Entry) (seat : ℕ) (r : HandTook) → StandsAt plan old log → TakesFrom plan thread old new was bench r
      → (r ≡ taken.Took → IfSome old.board.opened (λ o. new.board ≡ stepped plan old.board o (TakeOf (the_job bench.job))))
      → (r ≡ taken.Took → IfSome old.board.opened (Fills old.board.phase)) → IsBoardOf plan new.board
      → StandsAt plan new (log ++ entries_told (told_by_take seat bench.job r))
  takes_on laws accepted log seat taken.Took stands t takes fills belongs =
      let job = the_job bench.job in
      let steps : MatchOption old.board.opened ⊥ (Steps plan old.board new.board (TakeOf job)) = both_open old.board.opened (λ o ready is. record {
        follows = λ before told. ready_follows (tic_at plan o) (right_tic laws plan o.on o.tic accepted) before o.progress.stages told thread job ready;
        stepped_is = is;
      }) t.2 (takes refl) in
      let s = steps_on laws plan accepted (after log) old new (TakeOf job) stands.state steps belongs (t.1 ∙ sym t.0) in
      subst (λ (k : Option JobId). StandsAt plan new (log ++ entries_told (option_map (Take seat) k))) (sym (filled_job old.board.opened _ old.board.phase t.2 (fills refl)))
      (stands_more plan old new log (Take seat job) stands (record { may = s.may; state = s.state }))
  takes_on laws accepted log seat (taken.NotYet job waits_for) stands t takes fills belongs = stands_same plan old new log stands (same_hall old new t.0.0 t.0.1 t.1)
  takes_on laws accepted log seat taken.ThreadDone stands t takes fills belongs = stands_same plan old new log stands (same_hall old new t.0.0 t.0.1 t.1)
  takes_on laws accepted log seat taken.Shut stands t takes fills belongs = stands_same plan old new log stands t.1
  takes_on laws accepted log seat (taken.Closed phase) stands t takes fills belongs = stands_same plan old new log stands t.1
  takes_on laws accepted log seat (taken.Busy found) stands t takes fills belongs = absurd t

-- a take that had the turn is one that waited
pub tried_take : {B : Type 0} (plan : PlanValue) (thread : ℕ) (p q : Pass B Entry) (was bench : BenchView) (r : HandTook) → TakesAt plan thread p q was bench r → TriesTake plan thread p q was bench r
tried_take plan thread p q was bench taken.Took t = t
tried_take plan thread p q was bench (taken.NotYet job waits_for) t = t
tried_take plan thread p q was bench taken.ThreadDone t = t
tried_take plan thread p q was bench taken.Shut t = t
tried_take plan thread p q was bench (taken.Closed phase) t = t
tried_take plan thread p q was bench (taken.Busy found) t = absurd t.answers
