-- The clerks of a yard are of one post.
use Rattle.std.proofs.Common.{◌≡◌, ◌∙◌, List, [], ◌∷◌, ap, map, refl, reverse, subst, sym, ℕ}
use Rattle.std.proofs.Math.Logic.{∥∥₁_map}
use Rattle.std.proofs.lemmas.List.Elements.{All-cons, All-head, All-tail}
use Rattle.std.specs.Arc.{arc_value}
use Rattle.std.specs.Prelude.{All}
use Rattle.trick_base.proofs.ListLemmas.{all_unmapped}
use Rattle.trick_crew_clerks.proofs.Lists.{all_unreversed}
use Rattle.trick_crew_clerks.proofs.Sharing.{shared_away, shared_here}
use Rattle.trick_crew_clerks.specs.Serving.{HasServed}
use Rattle.trick_crew_clerks.specs.Staffs.{AreOfPost, AreShared, RunsAtPost}
use Rattle.trick_crew_clerks.specs.Tending.{AreTended}
use Rattle.trick_crew_clerks.specs.declared.shift.Shift.{Shift}
use Rattle.trick_post_places.specs.Places.{PostView}
use Rattle.trick_post.specs.declared.clerk.Clerk.{Clerk}
use Rattle.trick_post_places.specs.declared.event.Event.{Event}
use Rattle.trick_model.specs.declared.planned.Planned.{Ghosts}
use Rattle.trick_outside.specs.declared.work.Running.{Running}
use Rattle.trick_turn.specs.declared.lock.TurnLock.{TurnLock}

module _ {P G R : Type 0} {planned : Ghosts P} where
  -- shifts of clerks of a post
  pub made_of_post : (lock : TurnLock PostView Event) (clerks : List (Clerk P planned)) (shifts : List (Shift P G R planned))
      → map (λ (s : Shift P G R planned). s.clerk) shifts ≡ clerks → All (λ (c : Clerk P planned). arc_value c.lock ≡ lock) clerks → AreOfPost lock shifts
  made_of_post lock clerks shifts are all =
      all_unmapped (λ (c : Clerk P planned). arc_value c.lock ≡ lock) (λ (s : Shift P G R planned). s.clerk) shifts
      (subst (All (λ (c : Clerk P planned). arc_value c.lock ≡ lock)) (sym are) all)

  -- and they are for the clerks' threads
  pub made_threads : (clerks : List (Clerk P planned)) (shifts : List (Shift P G R planned)) → map (λ (s : Shift P G R planned). s.clerk) shifts ≡ clerks
      → map (λ (s : Shift P G R planned). s.clerk.thread) shifts ≡ map (λ (c : Clerk P planned). c.thread) clerks
  made_threads clerks shifts are = threads_of shifts ∙ ap (map (λ (c : Clerk P planned). c.thread)) are
    where
      threads_of : (ss : List (Shift P G R planned))
          → map (λ (s : Shift P G R planned). s.clerk.thread) ss ≡ map (λ (c : Clerk P planned). c.thread) (map (λ (s : Shift P G R planned). s.clerk) ss)
      threads_of [] = refl
      threads_of (s ∷ ss) = ap (λ (ns : List ℕ). s.clerk.thread ∷ ns) (threads_of ss)

  pub here_of_post : (lock : TurnLock PostView Event) (shifts here : List (Shift P G R planned)) (away : List (Running (Shift P G R planned) (Clerk P planned)))
      → AreShared HasServed shifts (reverse here) (reverse away) → ∥ AreOfPost lock shifts ∥₁ → ∥ AreOfPost lock here ∥₁
  here_of_post lock shifts here away shared all =
      let Of = λ (s : Shift P G R planned). arc_value s.clerk.lock ≡ lock in
      ∥∥₁_map all (λ (each : AreOfPost lock shifts). all_unreversed Of here (shared_here HasServed Of shifts (reverse here) (reverse away) shared each))

  pub away_of_post : (lock : TurnLock PostView Event) (shifts here : List (Shift P G R planned)) (away : List (Running (Shift P G R planned) (Clerk P planned)))
      → AreShared HasServed shifts (reverse here) (reverse away) → ∥ AreOfPost lock shifts ∥₁ → ∥ All (RunsAtPost lock) away ∥₁
  away_of_post lock shifts here away shared all =
      let Of = λ (s : Shift P G R planned). arc_value s.clerk.lock ≡ lock in
      ∥∥₁_map all (λ (each : AreOfPost lock shifts). all_unreversed (RunsAtPost lock) away (shared_away HasServed Of shifts (reverse here) (reverse away) shared each))

  tended_each : (Asked : ℕ → Type 0) (lock : TurnLock PostView Event) (befores nows : List (Shift P G R planned)) → AreTended Asked befores nows → AreOfPost lock befores
      → AreOfPost lock nows
  tended_each Asked lock [] [] are all = all
  tended_each Asked lock [] (now ∷ nows) are all = absurd are
  tended_each Asked lock (before ∷ befores) [] are all = absurd are
  tended_each Asked lock (before ∷ befores) (now ∷ nows) are all =
      let Of = λ (s : Shift P G R planned). arc_value s.clerk.lock ≡ lock in
      All-cons Of now nows (ap arc_value are.0.lock ∙ All-head Of before befores all) (tended_each Asked lock befores nows are.1 (All-tail Of before befores all))

  -- clerks that were tended are of the post still
  pub tended_of_post : (Asked : ℕ → Type 0) (lock new : TurnLock PostView Event) (befores nows : List (Shift P G R planned)) → new ≡ lock
      → AreTended Asked befores nows → ∥ AreOfPost lock befores ∥₁ → ∥ AreOfPost new nows ∥₁
  tended_of_post Asked lock new befores nows same are all =
      subst (λ (l : TurnLock PostView Event). ∥ AreOfPost l nows ∥₁) (sym same)
      (∥∥₁_map all (λ (each : AreOfPost lock befores). tended_each Asked lock befores nows are each))
