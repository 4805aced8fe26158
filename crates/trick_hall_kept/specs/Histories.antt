-- What a history leaves, and which histories there are.
use Rattle.std.specs.Prelude.{◌≡◌, ℕ, ℤ, Bool, true, false, List, [], ◌∷◌, ◌++◌, Option, Some, None, MatchOption}
use Rattle.trick_phase_board.specs.Board.{next_phase}
use Rattle.trick_hall_kept.specs.declared.entry.Entry.{Entry}
use Rattle.trick_hall_kept.specs.declared.entry.Entry.TheVariants.{Open, Take, Commit, Close, Shut}
use Rattle.trick_model.specs.declared.flags.Flags.{Flags}
use Rattle.trick_model.specs.declared.plan.Plan.{Plan as PlanValue}
use Rattle.trick_phase_schedules.specs.Schedule.{CanFollow, IsSchedule}
use Rattle.trick_phase_schedules.specs.Tics.{Tic, tic_of}
use Rattle.trick_phase_schedules.specs.declared.step.Step.{Step}
use Rattle.trick_phase_schedules.specs.declared.step.Step.TheVariants.{Commit as CommitOf, Take as TakeOf}

-- the number of the pass that an entry names
abbrev pub seat_of : Entry → ℕ
seat_of (Open seat memory on tic) = seat
seat_of (Take seat job) = seat
seat_of (Commit seat job) = seat
seat_of (Close seat) = seat
seat_of (Shut seat) = seat

-- ---- what a history leaves

-- What an open put in: the numbers of the memory, the flags and the tic.
pub record Opening : Type 0 where
  pub memory : List ℤ
  pub on : Flags
  pub tic : ℕ

-- An open tic has its opening, and the takes and commits since then.
pub record Course : Type 0 where
  pub opening : Opening
  pub steps : List Step

-- A history leaves the number of its last phase, the tic that is open, if one is, and whether the hall was shut.
pub record Account : Type 0 where
  pub phase : ℕ
  pub course : Option Course
  pub shut : Bool

abbrev pub with_step : Option Course → Step → Option Course
with_step None x = None
with_step (Some c) x = Some (record c { steps = c.steps ++ x ∷ [] })

abbrev pub step : Account → Entry → Account
step h (Open seat memory on tic) = record {
  phase = next_phase h.phase;
  course = Some (record { opening = record { memory = memory; on = on; tic = tic }; steps = [] });
  shut = h.shut;
}
step h (Take seat job) = record h { course = with_step h.course (TakeOf job) }
step h (Commit seat job) = record h { course = with_step h.course (CommitOf job) }
step h (Close seat) = record h { course = None }
step h (Shut seat) = record h { shut = true }

abbrev pub after_from : Account → List Entry → Account
after_from h [] = h
after_from h (e ∷ es) = after_from (step h e) es

-- nothing was done yet
abbrev pub fresh : Account
fresh = record { phase = 0; course = None; shut = false }

abbrev pub after : List Entry → Account
after log = after_from fresh log

-- the history holds a Shut
abbrev pub has_shut : List Entry → Bool
has_shut [] = false
has_shut (Open seat memory on tic ∷ es) = has_shut es
has_shut (Take seat job ∷ es) = has_shut es
has_shut (Commit seat job ∷ es) = has_shut es
has_shut (Close seat ∷ es) = has_shut es
has_shut (Shut seat ∷ es) = true

-- ---- which histories there are

-- the tic of a course
abbrev pub tic_in : PlanValue → Course → Tic
tic_in plan c = tic_of plan c.opening.on c.opening.tic

-- a tic is open, and the step can follow those that it has
abbrev pub CanGoOn : PlanValue → Option Course → Step → Type 0
CanGoOn plan course x = MatchOption course ⊥ (λ c. CanFollow (tic_in plan c) c.steps x)

-- a tic is open, and its steps are a whole schedule
abbrev pub IsWhole : PlanValue → Option Course → Type 0
IsWhole plan course = MatchOption course ⊥ (λ c. IsSchedule (tic_in plan c) c.steps)

-- The chief, whose pass has the number 1, opens, closes and shuts: it opens where no tic is open and the hall is not
-- shut, closes after a whole schedule, and shuts where no tic is open. Takes and commits go on with a schedule.
abbrev pub May : PlanValue → Account → Entry → Type 0
May plan h (Open seat memory on tic) = (seat ≡ 1) × (h.course ≡ None) × (h.shut ≡ false)
May plan h (Take seat job) = CanGoOn plan h.course (TakeOf job)
May plan h (Commit seat job) = CanGoOn plan h.course (CommitOf job)
May plan h (Close seat) = (seat ≡ 1) × IsWhole plan h.course
May plan h (Shut seat) = (seat ≡ 1) × (h.course ≡ None)

-- each entry may come where it stands
abbrev pub IsLegal : PlanValue → Account → List Entry → Type 0
IsLegal plan h [] = Unit {0}
IsLegal plan h (e ∷ es) = May plan h e × IsLegal plan (step h e) es
