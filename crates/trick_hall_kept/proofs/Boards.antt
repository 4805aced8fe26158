-- What the board behind the turn says of the history.
use Rattle.std.proofs.Common.{◌≡◌, ◌∙◌, ℕ, Bool, false, Option, Some, None, List, refl, sym, subst}
use Rattle.std.specs.Option.{IfSome, MatchOption}
use Rattle.std.specs.Prelude.{IsSome}
use Rattle.trick_phase_board.specs.Board.{Opened}
use Rattle.trick_hall_kept.proofs.Entries.{shut_is}
use Rattle.trick_hall_kept.specs.Answers.{GoesOnIn, IsClosedIn, IsOpenIn}
use Rattle.trick_hall_kept.specs.HallView.{HallView}
use Rattle.trick_hall_kept.specs.Histories.{Account, Course, after, has_shut}
use Rattle.trick_hall_kept.specs.Standing.{IsHallAt, IsOnCourse, StandsAt}
use Rattle.trick_hall_kept.specs.declared.entry.Entry.{Entry}
use Rattle.trick_model.specs.declared.plan.Plan.{Plan as PlanValue}
use Rattle.trick_phase.proofs.Plays.{open_played}
use Rattle.trick_phase.specs.Steps.{IsBoardPlayed, IsPlayed}

-- the board of a course
pub on_course : (plan : PlanValue) (h : Account) (hall : HallView) (c : Course) → IsHallAt plan h hall → h.course ≡ Some c
    → IsBoardPlayed plan c.opening.on c.opening.tic c.opening.memory c.steps hall.board
on_course plan h hall c at_ is = subst (λ (k : Option Course). IsOnCourse plan k hall.board) is at_.course_is

-- the board is closed where the history leaves no tic open
pub closed_board : (plan : PlanValue) (h : Account) (hall : HallView) → IsHallAt plan h hall → h.course ≡ None → hall.board.opened ≡ None
closed_board plan h hall at_ none = subst (λ (k : Option Course). IsOnCourse plan k hall.board) none at_.course_is

-- and only there
pub no_course : (plan : PlanValue) (h : Account) (hall : HallView) → IsHallAt plan h hall → hall.board.opened ≡ None → h.course ≡ None
no_course plan h hall at_ none = by_course h.course at_.course_is
  where
    by_course : (k : Option Course) → IsOnCourse plan k hall.board → k ≡ None
    by_course None on_ = refl
    by_course (Some c) on_ = absurd (subst (λ (o : Option Opened). MatchOption o ⊥ (IsPlayed plan c.opening.on c.opening.tic c.opening.memory c.steps)) none on_)

-- the board is open where the history leaves a tic open
pub open_board : (plan : PlanValue) (h : Account) (hall : HallView) → IsHallAt plan h hall → IsSome h.course → IsSome hall.board.opened
open_board plan h hall at_ some = by_course h.course some at_.course_is
  where
    by_open : (c : Course) (o : Option Opened) → MatchOption o ⊥ (IsPlayed plan c.opening.on c.opening.tic c.opening.memory c.steps) → IsSome o
    by_open c None played = absurd played
    by_open c (Some o) played = refl

    by_course : (k : Option Course) → IsSome k → IsOnCourse plan k hall.board → IsSome hall.board.opened
    by_course None some on_ = absurd (cc)
    by_course (Some c) some on_ = by_open c hall.board.opened on_

-- and only there
pub the_course : (plan : PlanValue) (h : Account) (hall : HallView) → IsHallAt plan h hall → IsSome hall.board.opened → (c : Course) × (h.course ≡ Some c)
the_course plan h hall at_ some = by_course h.course refl at_.course_is
  where
    by_course : (k : Option Course) → h.course ≡ k → IsOnCourse plan k hall.board → (c : Course) × (h.course ≡ Some c)
    by_course None is on_ = absurd (let none = subst IsSome on_ some in cc)
    by_course (Some c) is on_ = (c, is)

-- what an open board answers is an answer of the history
pub open_in : (plan : PlanValue) (log : List Entry) (hall : HallView) (P : Opened → Type 0) → IsHallAt plan (after log) hall → MatchOption hall.board.opened ⊥ P → IsOpenIn plan log P
open_in plan log hall P at_ answers = by_course (after log).course at_.course_is
  where
    by_course : (k : Option Course) → IsOnCourse plan k hall.board → MatchOption k ⊥ (λ c. (o : Opened) × IsPlayed plan c.opening.on c.opening.tic c.opening.memory c.steps o × P o)
    by_course None on_ = subst (λ (o : Option Opened). MatchOption o ⊥ P) on_ answers
    by_course (Some c) on_ =
        let open_ = open_played plan c.opening.on c.opening.tic c.opening.memory c.steps hall.board on_ in
        (open_.opened, open_.so_far, subst (λ (o : Option Opened). MatchOption o ⊥ P) open_.is answers)

pub not_shut_in : (plan : PlanValue) (log : List Entry) (hall : HallView) (shut : Bool) → IsHallAt plan (after log) hall → hall.shut ≡ shut → has_shut log ≡ shut
not_shut_in plan log hall shut at_ is = sym (shut_is log) ∙ sym at_.shut_is ∙ is

pub goes_on_in : (plan : PlanValue) (log : List Entry) (hall : HallView) (P : Opened → Type 0) → IsHallAt plan (after log) hall → hall.shut ≡ false → MatchOption hall.board.opened ⊥ P
    → GoesOnIn plan log P
goes_on_in plan log hall P at_ off answers = (not_shut_in plan log hall false at_ off, open_in plan log hall P at_ answers)

pub closed_in : (plan : PlanValue) (log : List Entry) (hall : HallView) (phase : ℕ) → IsHallAt plan (after log) hall → hall.shut ≡ false → hall.board.opened ≡ None → phase ≡ hall.board.phase
    → IsClosedIn log phase
closed_in plan log hall phase at_ off none is = record {
  not_shut = not_shut_in plan log hall false at_ off;
  none = no_course plan (after log) hall at_ none;
  phase_is = is ∙ at_.phase_is;
}

-- the tic that is open
pub tic_of_course : (plan : PlanValue) (log : List Entry) (hall : HallView) (tic : ℕ) → StandsAt plan hall log → IfSome hall.board.opened (λ o. tic ≡ o.tic) → IfSome (after log).course (λ c. tic ≡ c.opening.tic)
tic_of_course plan log hall tic stands is = by_course (after log).course stands.state.course_is
  where
    by_course : (k : Option Course) → IsOnCourse plan k hall.board → IfSome k (λ c. tic ≡ c.opening.tic)
    by_course None on_ = tt
    by_course (Some c) on_ =
        let open_ = open_played plan c.opening.on c.opening.tic c.opening.memory c.steps hall.board on_ in
        subst (λ (o : Option Opened). IfSome o (λ o. tic ≡ o.tic)) open_.is is ∙ open_.so_far.along.tic_is

pub same_hall : (old new : HallView) → old.shut ≡ false → new.shut ≡ false → new.board ≡ old.board → new ≡ old
same_hall old new off still same = λ i. record { board = same i; shut = (still ∙ sym off) i }

-- two things that hold of an open board
pub both_open : {P Q R : Opened → Type 0} (opened : Option Opened) → ((o : Opened) → P o → Q o → R o) → MatchOption opened ⊥ P → IfSome opened Q → MatchOption opened ⊥ R
both_open None join p q = p
both_open (Some o) join p q = join o p q

pub is_open : (P : Opened → Type 0) (opened : Option Opened) → MatchOption opened ⊥ P → IsSome opened
is_open P None p = absurd p
is_open P (Some o) p = refl

pub if_open : (P : Opened → Type 0) (opened : Option Opened) → MatchOption opened ⊥ P → IfSome opened P
if_open P None p = tt
if_open P (Some o) p = p
