-- What a turn's end adds to the history: p is the pass before the turn, t while it has the turn, and q after it.
use Rattle.std.proofs.Common.{◌≡◌, ◌∙◌, ℕ, ℤ, Bool, true, false, List, Option, Some, None, [], ◌∷◌, ◌++◌, ap, sym, subst, append-nil, append_assoc}
use mathlib.Core.List.{IsPrefix}
use Rattle.std.specs.Option.{IfSome, option_map}
use Rattle.trick_hall_kept.specs.Answers.{ClosesAt, ClosesIn, CommitsAt, CommitsIn, TakesAt, TakesIn, close_if, job_committed, job_taken, told_by_close, told_by_commit, told_by_take}
use Rattle.trick_hall_kept.specs.HallView.{HallView}
use Rattle.trick_hall_kept.specs.Histories.{IsLegal, Opening, fresh, seat_of}
use Rattle.trick_hall_kept.specs.Standing.{StandsAt}
use Rattle.trick_hall_kept.specs.Telling.{HasAdded, HasLooked, HasTold}
use Rattle.trick_hall_kept.specs.declared.answers.HandCommit.{HandCommit}
use Rattle.trick_hall_kept.specs.declared.answers.HandTook.{HandTook}
use Rattle.trick_hall_kept.specs.declared.entry.Entry.{Entry}
use Rattle.trick_hall_kept.specs.declared.entry.Entry.TheVariants.{Commit, Take}
use Rattle.trick_phase_board.specs.declared.answers.Closed.{Closed}
use Rattle.trick_eval.specs.Bench.{BenchView}
use Rattle.trick_lang.specs.declared.job.JobId.{JobId}
use Rattle.trick_model.specs.FaultList.{FaultList}
use Rattle.trick_model.specs.declared.plan.Plan.{Plan as PlanValue}
use Rattle.trick_turn.specs.Passes.{Claims, Releases, Waits, number_of, seen}
use Rattle.trick_turn.specs.Views.{entries_told}
use Rattle.trick_turn.specs.declared.pass.Pass.{Pass}
use Rattle.trick_turn.specs.declared.view.View.{View}

-- the entry names the pass
pub names_pass : (make : JobId → Entry) (n : ℕ) → ((job : JobId) → seat_of (make job) ≡ n) → (job : Option JobId) → IfSome (option_map make job) (λ e. seat_of e ≡ n)
names_pass make n names None = tt
names_pass make n names (Some job) = names job

pub close_names : (closed : Bool) (n : ℕ) → n ≡ 1 → IfSome (close_if closed) (λ e. seat_of e ≡ n)
close_names true n is = sym is
close_names false n is = tt

module _ {B : Type 0} (stands : B → List Entry → Type 0) (seat : Entry → ℕ) (p t : Pass B Entry) (value : B) where
  pub waits_looked : Waits stands seat p t value → HasLooked p t
  waits_looked waits = record { history = waits.history; number_is = waits.number; own_is = waits.added }

  pub claims_looked : Claims stands seat p t value → HasLooked p t
  claims_looked claims = record {
    history = claims.history;
    number_is = ap (λ (v : View Entry). v.number) claims.view;
    own_is = ap (λ (v : View Entry). v.own) claims.view;
  }

module _ {B : Type 0} (p t q : Pass B Entry) (looked : HasLooked p t) where
  pub tells : (told : Option Entry) → Releases told t q → HasTold (seen t) told p q
  tells told ends = record {
    history = looked.history;
    number_is = ap (λ (v : View Entry). v.number) ends.view ∙ looked.number_is;
    seen_is = ap (λ (v : View Entry). v.seen) ends.view;
    own_is = ap (λ (v : View Entry). v.own) ends.view ∙ ap (λ (l : List Entry). l ++ entries_told told) looked.own_is;
  }

  -- the turn told this entry
  pub adds : (e told : Entry) → told ≡ e → Releases (Some told) t q → HasAdded p q e
  adds e told is ends = (seen t, subst (λ (e : Entry). HasTold (seen t) (Some e) p q) is (tells (Some told) ends))

  -- the turn told nothing
  pub looks : Releases None t q → HasLooked p q
  looks ends = let told = tells None ends in record {
    history = subst (IsPrefix (seen p)) (sym (told.seen_is ∙ append-nil (seen t))) told.history;
    number_is = told.number_is;
    own_is = told.own_is ∙ append-nil _;
  }

  -- the history that the call leaves seen is legal
  legal_seen : (plan : PlanValue) (hall : HallView) (told : Option Entry) → HasTold (seen t) told p q → StandsAt plan hall (seen t ++ entries_told told) → IsLegal plan fresh (seen q)
  legal_seen plan hall told is stands = subst (IsLegal plan fresh) (sym is.seen_is) stands.legal

  pub take_at : (plan : PlanValue) (thread : ℕ) (was bench : BenchView) (answer : HandTook) (job : Option JobId) → job ≡ job_taken bench.job answer
      → Releases (option_map (Take (number_of t)) job) t q → TakesIn plan thread (seen t) was bench answer
      → (hall : HallView) → StandsAt plan hall (seen t ++ entries_told (told_by_take (number_of p) bench.job answer)) → TakesAt plan thread p q was bench answer
  take_at plan thread was bench answer job is ends answers hall stands =
      let told = subst (λ (told : Option Entry). HasTold (seen t) told p q)
      (ap (λ (n : ℕ). option_map (Take n) job) looked.number_is ∙ ap (option_map (Take (number_of p))) is) (tells _ ends) in
      record { found = seen t; told = told; legal = legal_seen plan hall _ told stands; answers = answers }

  pub commit_at : (plan : PlanValue) (was bench : BenchView) (answer : HandCommit) (job : Option JobId) → job ≡ job_committed was.job answer
      → Releases (option_map (Commit (number_of t)) job) t q → CommitsIn plan (seen t) was bench answer
      → (hall : HallView) → StandsAt plan hall (seen t ++ entries_told (told_by_commit (number_of p) was.job answer)) → CommitsAt plan p q was bench answer
  commit_at plan was bench answer job is ends answers hall stands =
      let told = subst (λ (told : Option Entry). HasTold (seen t) told p q)
      (ap (λ (n : ℕ). option_map (Commit n) job) looked.number_is ∙ ap (option_map (Commit (number_of p))) is) (tells _ ends) in
      record { found = seen t; told = told; legal = legal_seen plan hall _ told stands; answers = answers }

  pub close_at : {M : Type 0} (numbers : M → List ℤ) (plan : PlanValue) (x : Opening) (old new : FaultList) (answer : Closed M) (told : Option Entry) → told ≡ told_by_close answer
      → Releases told t q → ClosesIn numbers plan x (seen t) old new answer
      → (hall : HallView) → StandsAt plan hall (seen t ++ entries_told (told_by_close answer)) → ClosesAt numbers plan x p q old new answer
  close_at numbers plan x old new answer told is ends answers hall stands =
      let now = subst (λ (told : Option Entry). HasTold (seen t) told p q) is (tells told ends) in
      record { found = seen t; told = now; legal = legal_seen plan hall _ now stands; answers = answers }

  -- what an open leaves seen
  pub open_at : (plan : PlanValue) (hall : HallView) (e told : Entry) → told ≡ e → Releases (Some told) t q → StandsAt plan hall (seen t ++ e ∷ []) → IsLegal plan fresh (seen q)
  open_at plan hall e told is ends stands = legal_seen plan hall (Some e) (subst (λ (e : Entry). HasTold (seen t) (Some e) p q) is (tells (Some told) ends)) stands

-- two looks after one another
pub looks_on : {B : Type 0} (p q r : Pass B Entry) → HasLooked p q → HasLooked q r → HasLooked p r
looks_on p q r first second =
    let xs = first.history.0 in let ys = second.history.0 in record {
      history = (xs ++ ys, sym (append_assoc (seen p) xs ys) ∙ (ap (λ (l : List Entry). l ++ ys) first.history.1 ∙ second.history.1));
      number_is = second.number_is ∙ first.number_is;
      own_is = second.own_is ∙ first.own_is;
    }
