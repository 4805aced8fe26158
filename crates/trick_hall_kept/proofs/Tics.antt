-- The hall after an open, a close and a shut.
use Rattle.std.proofs.Common.{◌≡◌, ◌∙◌, ℕ, ◌<◌, ℤ, true, false, Option, Some, None, List, [], ◌∷◌, ◌++◌, refl, sym, ap, subst}
use Rattle.std.specs.Option.{IfSome, MatchOption}
use Rattle.std.specs.Prelude.{IsSome}
use Rattle.trick_phase_board.specs.Answers.{ComesTo, Counts, IfLeft, IfMemory, IsLeftBy, open_count}
use Rattle.trick_phase_board.specs.Board.{BoardView, IsBoardOf, IsOpenOf, IsOpenedWith, Opened, next_phase, tic_at}
use Rattle.trick_phase_board.specs.declared.answers.Closed.{Closed}
use Rattle.trick_phase_board.specs.declared.answers.Closed.TheVariants.{Left, Memory}
use Rattle.trick_hall_kept.proofs.Boards.{on_course, open_in, the_course}
use Rattle.trick_hall_kept.proofs.Entries.{shut_is, stands_more, stands_same}
use Rattle.trick_hall_kept.specs.Answers.{AreLeft, ClosesAt, ClosesIn, IfTriedMemory, IsSerial, TriesClose, as_tried, told_by_close}
use Rattle.trick_hall_kept.specs.HallView.{HallView}
use Rattle.trick_hall_kept.specs.Histories.{Course, IsWhole, Opening, after, has_shut, tic_in}
use Rattle.trick_hall_kept.specs.Openings.{memory_in, open_entry}
use Rattle.trick_hall_kept.specs.Standing.{StandsAt}
use Rattle.trick_hall_kept.specs.declared.entry.Entry.{Entry}
use Rattle.trick_hall_kept.specs.declared.entry.Entry.TheVariants.{Open, Close, Shut}
use Rattle.trick_lang.specs.Effect.{scalars_of}
use Rattle.trick_lang.specs.declared.scalar.Scalar.{Scalar}
use Rattle.trick_model.specs.Acceptance.{IsAccepted}
use Rattle.trick_model.specs.FaultList.{FaultList}
use Rattle.trick_model.specs.PlanOf.{plan_of}
use Rattle.trick_model.specs.Running.{After, serial}
use Rattle.trick_model.specs.Valid.{ids}
use Rattle.trick_model.specs.declared.flags.Flags.{Flags}
use Rattle.trick_model.specs.declared.plan.Plan.{Plan as PlanValue}
use Rattle.trick_phase.proofs.Follows.{Laws}
use Rattle.trick_phase.proofs.OneByOne.{same_serial}
use Rattle.trick_phase.proofs.Plays.{all_committed, open_played, schedule_of, told_at}
use Rattle.trick_phase.specs.Steps.{IsBoardPlayed, IsPlayed}
use Rattle.trick_phase_schedules.specs.Progress.{Progress}
use Rattle.trick_phase_schedules.specs.Schedule.{IsSchedule}
use Rattle.trick_phase_schedules.specs.Tics.{due_jobs}
use Rattle.trick_phase_schedules.specs.declared.step.Step.{Step}
use Rattle.trick_turn.specs.Views.{entries_told}
use Rattle.trick_turn.specs.declared.pass.Pass.{Pass}

-- a board that is new, before the first entry
pub begins : (plan : PlanValue) (b : BoardView) → IsBoardOf plan b → b.opened ≡ None → b.phase ≡ 0 → StandsAt plan (record { board = b; shut = false }) []
begins plan b belongs none zero_ = record {
  state = record { belongs = belongs; phase_is = zero_; course_is = none; shut_is = refl };
  legal = tt;
}

-- ---- an open

pub opens : (plan : PlanValue) (log : List Entry) (old new : HallView) (memory : List ℤ) (on : Flags) (tic : ℕ) → StandsAt plan old log → (after log).course ≡ None → has_shut log ≡ false
    → MatchOption new.board.opened ⊥ (IsOpenedWith plan memory on tic) → new.board.phase ≡ next_phase old.board.phase → IsBoardOf plan new.board → new.shut ≡ old.shut
    → StandsAt plan new (log ++ Open 1 memory on tic ∷ [])
opens plan log old new memory on tic stands none off opened phase belongs shut = stands_more plan old new log (Open 1 memory on tic) stands (record {
  may = (refl, none, shut_is log ∙ off);
  state = record {
    belongs = belongs;
    phase_is = phase ∙ ap next_phase stands.state.phase_is;
    course_is = by_open new.board.opened opened;
    shut_is = shut ∙ stands.state.shut_is;
  };
})
  where
    by_open : (o : Option Opened) → MatchOption o ⊥ (IsOpenedWith plan memory on tic) → MatchOption o ⊥ (IsPlayed plan on tic memory [])
    by_open None h = absurd h
    by_open (Some o) h = record { along = record { flags = h.flags; tic_is = h.tic_is; progress = h.progress }; begun = tt }

-- the memory that was put in is the one that is there
pub open_entry_is : (plan : PlanValue) (hall : HallView) (memory : List ℤ) (on : Flags) (tic : ℕ) → MatchOption hall.board.opened ⊥ (IsOpenedWith plan memory on tic)
    → open_entry hall on tic ≡ Open 1 memory on tic
open_entry_is plan hall memory on tic h = by_open hall.board.opened h
  where
    by_open : (o : Option Opened) → MatchOption o ⊥ (IsOpenedWith plan memory on tic) → Open 1 (memory_in o) on tic ≡ Open 1 memory on tic
    by_open None h = absurd h
    by_open (Some o) h = ap (λ (p : Progress). Open 1 p.memory on tic) h.progress

-- ---- a shut

pub shuts : (plan : PlanValue) (log : List Entry) (old new : HallView) → StandsAt plan old log → (after log).course ≡ None → new ≡ record old { shut = true }
    → StandsAt plan new (log ++ Shut 1 ∷ [])
shuts plan log old new stands none is = subst (λ (hall : HallView). StandsAt plan hall (log ++ Shut 1 ∷ [])) (sym is) (stands_more plan old (record old { shut = true }) log (Shut 1) stands (record {
  may = (refl, none);
  state = record {
    belongs = stands.state.belongs;
    phase_is = stands.state.phase_is;
    course_is = stands.state.course_is;
    shut_is = refl;
  };
}))

-- ---- a close

-- The steps are a whole schedule, and what comes back is what one thread makes of what was put in.
record IsClosedBy (plan : PlanValue) (c : Course) (numbers : List ℤ) (were are : FaultList) : Type 0 where
  whole : IsSchedule (tic_in plan c) c.steps
  serial_ : IsSerial plan c.opening numbers were are

module _ (laws : Laws) (plan : PlanValue) (accepted : ∥ IsAccepted (plan_of plan) ∥₁) where
  none_left : (c : Course) (b : BoardView) (numbers : List ℤ) (were are : FaultList) → IsBoardOf plan b → IsBoardPlayed plan c.opening.on c.opening.tic c.opening.memory c.steps b
      → IfSome b.opened (λ o. open_count o.progress.stages (ids o.due) ≡ 0)
      → IfSome b.opened (λ o. IsLeftBy (tic_at plan o) c.opening.memory c.steps o.progress → ComesTo (serial (plan_of plan) o.on o.tic c.opening.memory) numbers were are)
      → IsClosedBy plan c numbers were are
  none_left c b numbers were are belongs played counts comes =
      let on = c.opening.on in let tic = c.opening.tic in let first = c.opening.memory in
      let open_ = open_played plan on tic first c.steps b played in
      let o = open_.opened in
      let so_far = open_.so_far in
      let is_open = subst (λ (opened : Option Opened). IfSome opened (IsOpenOf plan)) open_.is belongs.opened in
      let none = subst (λ (opened : Option Opened). IfSome opened (λ o. open_count o.progress.stages (ids o.due) ≡ 0)) open_.is counts in
      let told = told_at laws plan accepted on tic first c.steps o so_far in
      let schedule : IsSchedule (tic_at plan o) c.steps = record {
        begun = so_far.begun;
        whole = λ k due. (told.history k).committed
            (all_committed o.progress.stages (due_jobs (tic_at plan o)) (sym (ap (open_count o.progress.stages) is_open.due) ∙ none) k due);
      } in
      let left = subst (λ (opened : Option Opened). IfSome opened (λ o. IsLeftBy (tic_at plan o) first c.steps o.progress
      → ComesTo (serial (plan_of plan) o.on o.tic first) numbers were are)) open_.is comes (record { is_begun = so_far.begun; left = so_far.along.progress }) in
      let now = subst (λ (a : After). ComesTo a numbers were are) (same_serial plan on tic first c.steps o so_far.along) left in
      record {
        whole = schedule_of plan on tic o c.steps so_far.along.tic_is schedule;
        serial_ = record { memory_is = now.memory_is; faults_are = now.faults_are };
      }

  -- What the board's close says of the hall: its answer is that of the history, and the hall stands for what it told.
  module _ {M : Type 0} (numbers : M → List ℤ) (log : List Entry) (old new : HallView) (were are : FaultList) (stands : StandsAt plan old log) where
    closed_by : (c : Course) → (after log).course ≡ Some c → (m : M)
        → IfSome old.board.opened (λ o. open_count o.progress.stages (ids o.due) ≡ 0)
        → ((first : List ℤ) (steps : List Step) → IfSome old.board.opened (λ o. IsLeftBy (tic_at plan o) first steps o.progress → ComesTo (serial (plan_of plan) o.on o.tic first) (numbers m) were are))
        → IsClosedBy plan c (numbers m) were are
    closed_by c is m counts comes =
        none_left c old.board (numbers m) were are stands.state.belongs (on_course plan (after log) old c stands.state is) counts (comes c.opening.memory c.steps)

    left_in : (count : ℕ) → IsSome old.board.opened → IfSome old.board.opened (λ o. (count ≡ open_count o.progress.stages (ids o.due)) × (0 < count)) → MatchOption old.board.opened ⊥ (AreLeft plan count)
    left_in count some counts = by_open old.board.opened some counts stands.state.belongs.opened
      where
        by_open : (opened : Option Opened) → IsSome opened → IfSome opened (λ o. (count ≡ open_count o.progress.stages (ids o.due)) × (0 < count)) → IfSome opened (IsOpenOf plan) → MatchOption opened ⊥ (AreLeft plan count)
        by_open None some counts belongs = absurd (cc)
        by_open (Some o) some counts belongs = (counts.0 ∙ ap (open_count o.progress.stages) belongs.due, counts.1)

    pub closes_in : (c : Course) → (after log).course ≡ Some c → IsSome old.board.opened → (result : Closed M)
        → IfSome old.board.opened (λ o. Counts (open_count o.progress.stages (ids o.due)) result)
        → ((first : List ℤ) (steps : List Step) → IfSome old.board.opened (λ o. IsLeftBy (tic_at plan o) first steps o.progress
        → IfMemory result (λ m. ComesTo (serial (plan_of plan) o.on o.tic first) (numbers m) were are)))
        → IfLeft result ((new.board ≡ old.board) × (are ≡ were))
        → ClosesIn numbers plan c.opening log were are result
    closes_in c is some (Memory m) counts comes left = (closed_by c is m counts comes).serial_
    closes_in c is some (Left count) counts comes left = (left.1, open_in plan log old (AreLeft plan count) stands.state (left_in count some counts))

    pub closes_on : IsSome old.board.opened → (result : Closed M)
        → IfSome old.board.opened (λ o. Counts (open_count o.progress.stages (ids o.due)) result)
        → ((first : List ℤ) (steps : List Step) → IfSome old.board.opened (λ o. IsLeftBy (tic_at plan o) first steps o.progress
        → IfMemory result (λ m. ComesTo (serial (plan_of plan) o.on o.tic first) (numbers m) were are)))
        → IfMemory result (λ _. new.board ≡ record (old.board) { opened = None })
        → IfLeft result ((new.board ≡ old.board) × (are ≡ were))
        → new.shut ≡ old.shut
        → StandsAt plan new (log ++ entries_told (told_by_close result))
    closes_on some (Memory m) counts comes closed left same =
        let c = the_course plan (after log) old stands.state some in
        let by = closed_by c.0 c.1 m counts comes in
        stands_more plan old new log (Close 1) stands (record {
          may = (refl, subst (IsWhole plan) (sym c.1) by.whole);
          state = record {
            belongs = subst (IsBoardOf plan) (sym closed) (record { tables = stands.state.belongs.tables; many = stands.state.belongs.many; opened = tt });
            phase_is = ap (λ (b : BoardView). b.phase) closed ∙ stands.state.phase_is;
            course_is = ap (λ (b : BoardView). b.opened) closed;
            shut_is = same ∙ stands.state.shut_is;
          };
        })
    closes_on some (Left count) counts comes closed left same = stands_same plan old new log stands (λ i. record { board = left.0 i; shut = same i })

-- the cells of the memory that comes back have the types of the program
pub scalars_given : {M : Type 0} (scalars : M → List Scalar) (plan : PlanValue) (hall : HallView) (log : List Entry) → StandsAt plan hall log → IsSome hall.board.opened
    → (result : Closed M) → IfSome hall.board.opened (λ o. IfMemory result (λ m. scalars m ≡ o.scalars)) → IfMemory result (λ m. scalars m ≡ scalars_of plan.program.cells)
scalars_given {M} scalars plan hall log stands some result same = by_result hall.board.opened some stands.state.belongs.opened result same
  where
    by_result : (o : Option Opened) → IsSome o → IfSome o (IsOpenOf plan) → (result : Closed M) → IfSome o (λ o. IfMemory result (λ m. scalars m ≡ o.scalars)) → IfMemory result (λ m. scalars m ≡ scalars_of plan.program.cells)
    by_result None some belongs result same = absurd (cc)
    by_result (Some o) some belongs (Memory m) same = same ∙ belongs.memory.of_types
    by_result (Some o) some belongs (Left count) same = tt

-- a close that had the turn is one that waited
pub tried_close : {B M : Type 0} (numbers : M → List ℤ) (plan : PlanValue) (x : Opening) (p q : Pass B Entry) (old new : FaultList) (answer : Closed M)
    → ClosesAt numbers plan x p q old new answer → TriesClose numbers plan x p q old new (as_tried answer)
tried_close numbers plan x p q old new (Memory m) t = t
tried_close numbers plan x p q old new (Left count) t = t

pub if_tried : {M : Type 0} (answer : Closed M) (P : M → Type 0) → IfMemory answer P → IfTriedMemory (as_tried answer) P
if_tried (Memory m) P p = p
if_tried (Left count) P p = tt
