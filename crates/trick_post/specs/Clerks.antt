-- The threads that have a clerk, and the passes that the clerks are dealt.
use Rattle.std.specs.Prelude.{◌≡◌, ℕ, Bool, List, [], ◌∷◌, filter}
use Rattle.trick_post_places.specs.Histories.{clerk_seat}
use Rattle.trick_model.specs.Plan.{is_beside, process_in}
use Rattle.trick_model.specs.declared.plan.Plan.{Plan as PlanValue}
use Rattle.trick_turn.specs.Passes.{IsPassOf, Rests, number_of}
use Rattle.trick_turn.specs.declared.lock.TurnLock.{TurnLock}
use Rattle.trick_turn.specs.declared.pass.Pass.{Pass}

-- the numbers that threads may have
abbrev pub numbers : List ℕ
numbers = 0 ∷ 1 ∷ 2 ∷ 3 ∷ 4 ∷ 5 ∷ 6 ∷ 7 ∷ 8 ∷ 9 ∷ 10 ∷ 11 ∷ 12 ∷ 13 ∷ 14 ∷ 15 ∷ []

-- A thread has a clerk where its jobs work beside the tics.
abbrev pub has_clerk : PlanValue → ℕ → Bool
has_clerk plan number = is_beside (process_in plan.threads number)

-- the threads that have a clerk, by rising number
abbrev pub clerked : PlanValue → List ℕ
clerked plan = filter (has_clerk plan) numbers

module _ {B E : Type 0} where
  -- a pass of this lock that is for the clerk of a thread, and does not have the turn
  pub record IsClerkPass (lock : TurnLock B E) (number : ℕ) (pass : Pass B E) : Type 0 where
    pub of_lock : IsPassOf lock pass
    pub rests : Rests pass
    pub seat : number_of pass ≡ clerk_seat number

  -- a pass for the clerk of each of these threads
  abbrev pub AreClerkPasses : TurnLock B E → List ℕ → List (Pass B E) → Type 0
  AreClerkPasses lock [] [] = Unit {0}
  AreClerkPasses lock [] (pass ∷ passes) = ⊥
  AreClerkPasses lock (number ∷ others) [] = ⊥
  AreClerkPasses lock (number ∷ others) (pass ∷ passes) =
      IsClerkPass lock number pass × AreClerkPasses lock others passes
