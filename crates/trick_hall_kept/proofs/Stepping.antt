-- The hall after a take and a commit.
use Rattle.std.proofs.Common.{◌≡◌, ◌∙◌, Option, Some, None, List, [], ◌∷◌, ◌++◌, refl, sym, ap, subst}
use Rattle.std.specs.Option.{MatchOption}
use Rattle.trick_phase_board.specs.Board.{BoardView, IsBoardOf, Opened, stepped, tic_at}
use Rattle.trick_hall_kept.specs.HallView.{HallView}
use Rattle.trick_hall_kept.specs.Histories.{Account, CanGoOn, Course, with_step}
use Rattle.trick_hall_kept.specs.Standing.{IsHallAt, IsOnCourse}
use Rattle.trick_model.specs.Acceptance.{IsAccepted}
use Rattle.trick_model.specs.PlanOf.{plan_of}
use Rattle.trick_model.specs.declared.plan.Plan.{Plan as PlanValue}
use Rattle.trick_phase.proofs.Follows.{IsTold, Laws}
use Rattle.trick_phase.proofs.Plays.{begun_at, open_played, played_more, told_at}
use Rattle.trick_phase.specs.Steps.{IsBoardPlayed}
use Rattle.trick_phase_schedules.proofs.Extend.{each_follows}
use Rattle.trick_phase_schedules.specs.Schedule.{CanFollow}
use Rattle.trick_phase_schedules.specs.Tics.{tic_of}
use Rattle.trick_phase_schedules.specs.declared.step.Step.{Step}

-- An open board can go on with the step, whatever came before, and has gone on with it.
pub record Steps (plan : PlanValue) (old new : BoardView) (x : Step) (o : Opened) : Type 0 where
  pub follows : (before : List Step) → IsTold (tic_at plan o) before o.progress.stages → CanFollow (tic_at plan o) before x
  pub stepped_is : new ≡ stepped plan old o x

-- The step can follow those of the tic that is open, and the hall is on its course with it.
pub record StepsOn (plan : PlanValue) (h : Account) (new : HallView) (x : Step) : Type 0 where
  pub may : CanGoOn plan h.course x
  pub state : IsHallAt plan (record h { course = with_step h.course x }) new

pub steps_on : Laws → (plan : PlanValue) → ∥ IsAccepted (plan_of plan) ∥₁ → (h : Account) (old new : HallView) (x : Step) → IsHallAt plan h old
    → MatchOption old.board.opened ⊥ (Steps plan old.board new.board x) → IsBoardOf plan new.board → new.shut ≡ old.shut → StepsOn plan h new x
steps_on laws plan accepted h old new x at_ steps belongs shut = by_course h.course refl at_.course_is
  where
    by_course : (k : Option Course) → h.course ≡ k → IsOnCourse plan k old.board → StepsOn plan h new x
    by_course None is on_ = absurd (subst (λ (o : Option Opened). MatchOption o ⊥ (Steps plan old.board new.board x)) on_ steps)
    by_course (Some c) is on_ =
        let on = c.opening.on in let tic = c.opening.tic in let first = c.opening.memory in
        let open_ = open_played plan on tic first c.steps old.board on_ in
        let o = open_.opened in
        let s = subst (λ (opened : Option Opened). MatchOption opened ⊥ (Steps plan old.board new.board x)) open_.is steps in
        let may = s.follows c.steps (told_at laws plan accepted on tic first c.steps o open_.so_far) in
        let played = subst (IsBoardPlayed plan on tic first (c.steps ++ x ∷ [])) (sym s.stepped_is) (played_more laws plan accepted on tic first c.steps o x open_.so_far may) in
        let begun = begun_at laws plan accepted on tic first (c.steps ++ x ∷ []) new.board played in
        record {
          may = subst (λ (k : Option Course). CanGoOn plan k x) (sym is) (each_follows (tic_of plan on tic) [] (c.steps ++ x ∷ []) c.steps [] x begun refl);
          state = record {
            belongs = belongs;
            phase_is = ap (λ (b : BoardView). b.phase) s.stepped_is ∙ at_.phase_is;
            course_is = subst (λ (k : Option Course). IsOnCourse plan (with_step k x) new.board) (sym is) played;
            shut_is = shut ∙ at_.shut_is;
          };
        }
