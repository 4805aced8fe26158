-- What a commit answers and adds.
use Rattle.std.proofs.Common.{◌≡◌, ◌∙◌, ℕ, false, true, Option, Some, List, ◌++◌, refl, sym, subst}
use Rattle.std.specs.Option.{IfSome, MatchOption, option_map}
use Rattle.trick_phase_board.specs.Board.{IsBoardOf, stepped, tic_at}
use Rattle.trick_phase_board.specs.declared.answers.Commit.{Commit as BoardCommit}
use Rattle.trick_phase_board.specs.declared.answers.Commit.TheVariants as commit
use Rattle.trick_eval.specs.Bench.{BenchView, the_job}
use Rattle.trick_hall_kept.proofs.Boards.{both_open, closed_in, goes_on_in, not_shut_in, same_hall}
use Rattle.trick_hall_kept.proofs.Entries.{stands_more, stands_same}
use Rattle.trick_hall_kept.proofs.Stepping.{Steps, steps_on}
use Rattle.trick_hall_kept.specs.Answers.{CommitsAt, CommitsIn, GoesOnIn, MayAnswer, TriesCommit, told_by_commit}
use Rattle.trick_hall_kept.specs.HallView.{HallView}
use Rattle.trick_hall_kept.specs.Histories.{after}
use Rattle.trick_hall_kept.specs.Kept.{CommitsTo}
use Rattle.trick_hall_kept.specs.Standing.{StandsAt}
use Rattle.trick_hall_kept.specs.declared.answers.HandCommit.{HandCommit}
use Rattle.trick_hall_kept.specs.declared.answers.HandCommit.TheVariants as committed
use Rattle.trick_hall_kept.specs.declared.entry.Entry.{Entry}
use Rattle.trick_hall_kept.specs.declared.entry.Entry.TheVariants.{Commit}
use Rattle.trick_lang.specs.declared.job.JobId.{JobId}
use Rattle.trick_model.specs.Acceptance.{IsAccepted}
use Rattle.trick_model.specs.PlanOf.{plan_of}
use Rattle.trick_model.specs.declared.plan.Plan.{Plan as PlanValue}
use Rattle.trick_phase.proofs.Follows.{Laws, flies_follows, right_tic}
use Rattle.trick_phase_schedules.specs.declared.step.Step.TheVariants.{Commit as CommitOf}
use Rattle.trick_turn.specs.Views.{entries_told}
use Rattle.trick_turn.specs.declared.pass.Pass.{Pass}

module _ (plan : PlanValue) (old new : HallView) (was bench : BenchView) where
  answer_in : (log : List Entry) (answer : BoardCommit) → StandsAt plan old log → old.shut ≡ false → MatchOption old.board.opened ⊥ (MayAnswer plan old.board.phase was answer)
      → GoesOnIn plan log (MayAnswer plan (after log).phase was answer)
  answer_in log answer stands off answers =
      goes_on_in plan log old _ stands.state off (subst (λ (n : ℕ). MatchOption old.board.opened ⊥ (MayAnswer plan n was answer)) stands.state.phase_is answers)

  pub commits_in : (log : List Entry) (r : HandCommit) → StandsAt plan old log → CommitsTo plan old new was bench r → CommitsIn plan log was bench r
  commits_in log committed.Committed stands t = (t.1, answer_in log commit.Committed stands t.0.0 t.0.2)
  commits_in log (committed.Stale cell kept given) stands t = (t.2, answer_in log (commit.Stale cell kept given) stands t.0.0 t.0.2)
  commits_in log (committed.Gone phase given) stands t = (t.2, answer_in log (commit.Gone phase given) stands t.0.0 t.0.2)
  commits_in log (committed.NotTaken job) stands t = (t.2, answer_in log (commit.NotTaken job) stands t.0.0 t.0.2)
  commits_in log committed.Shut stands t = (t.2, not_shut_in plan log old true stands.state t.0)
  commits_in log (committed.Closed phase) stands t = (t.2, closed_in plan log old phase stands.state t.0.0 t.0.1 t.0.2)
  commits_in log (committed.Busy found) stands t = absurd t

  pub commits_on : Laws → ∥ IsAccepted (plan_of plan) ∥₁ → was.job ≡ Some (the_job was.job) → (log : List Entry) (seat : ℕ) (r : HandCommit) → StandsAt plan old log
      → CommitsTo plan old new was bench r
      → (r ≡ committed.Committed → IfSome old.board.opened (λ o. new.board ≡ stepped plan old.board o (CommitOf (the_job was.job)))) → IsBoardOf plan new.board
      → StandsAt plan new (log ++ entries_told (told_by_commit seat was.job r))
  commits_on laws accepted has log seat committed.Committed stands t commits belongs =
      let job = the_job was.job in
      let steps : MatchOption old.board.opened ⊥ (Steps plan old.board new.board (CommitOf job)) = both_open old.board.opened (λ o may is. record {
        follows = λ before told. flies_follows (tic_at plan o) (right_tic laws plan o.on o.tic accepted) before o.progress.stages told job may.1;
        stepped_is = is;
      }) t.0.2 (commits refl) in
      let s = steps_on laws plan accepted (after log) old new (CommitOf job) stands.state steps belongs (t.0.1 ∙ sym t.0.0) in
      subst (λ (k : Option JobId). StandsAt plan new (log ++ entries_told (option_map (Commit seat) k))) (sym has)
      (stands_more plan old new log (Commit seat job) stands (record { may = s.may; state = s.state }))
  commits_on laws accepted has log seat (committed.Stale cell kept given) stands t commits belongs = stands_same plan old new log stands (same_hall old new t.0.0 t.0.1 t.1)
  commits_on laws accepted has log seat (committed.Gone phase given) stands t commits belongs = stands_same plan old new log stands (same_hall old new t.0.0 t.0.1 t.1)
  commits_on laws accepted has log seat (committed.NotTaken job) stands t commits belongs = stands_same plan old new log stands (same_hall old new t.0.0 t.0.1 t.1)
  commits_on laws accepted has log seat committed.Shut stands t commits belongs = stands_same plan old new log stands t.1
  commits_on laws accepted has log seat (committed.Closed phase) stands t commits belongs = stands_same plan old new log stands t.1
  commits_on laws accepted has log seat (committed.Busy found) stands t commits belongs = absurd t

-- a commit that had the turn is one that waited
pub tried_commit : {B : Type 0} (plan : PlanValue) (p q : Pass B Entry) (was bench : BenchView) (r : HandCommit) → CommitsAt plan p q was bench r → TriesCommit plan p q was bench r
tried_commit plan p q was bench committed.Committed t = t
tried_commit plan p q was bench (committed.Stale cell kept given) t = t
tried_commit plan p q was bench (committed.Gone phase given) t = t
tried_commit plan p q was bench (committed.NotTaken job) t = t
tried_commit plan p q was bench committed.Shut t = t
tried_commit plan p q was bench (committed.Closed phase) t = t
tried_commit plan p q was bench (committed.Busy found) t = absurd t.answers
