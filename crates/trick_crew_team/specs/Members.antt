-- The members of a crew: works of which each was started or refused.
use Rattle.std.specs.Prelude.{◌≡◌, ℕ, List, [], ◌∷◌, ◌++◌}
use Rattle.trick_outside.specs.Works.{MatchBegun, Runs}
use Rattle.trick_outside.specs.declared.work.Begun.{Begun}
use Rattle.trick_outside.specs.declared.work.Begun.TheVariants.{Refused, Started}

module _ {W O : Type 0} where
  -- The work is one of these, as it was: it was refused, or its result keeps what it promises.
  abbrev pub IsMember : (W → O → Type 0) → (W → Type 0) → Begun W O → Type 0
  IsMember promises Is member = MatchBegun member (λ running. (work : W) × Is work × Runs promises work running) Is

  -- each of these works was started or refused, in their order
  abbrev pub AreMembers : (W → O → Type 0) → List W → List (Begun W O) → Type 0
  AreMembers promises [] [] = Unit {0}
  AreMembers promises [] (member ∷ members) = ⊥
  AreMembers promises (work ∷ works) [] = ⊥
  AreMembers promises (work ∷ works) (member ∷ members) =
      IsMember promises (λ w. w ≡ work) member × AreMembers promises works members

  -- for each of these threads a work was started or refused, in their order
  abbrev pub AreFor : (W → O → Type 0) → (W → ℕ) → List ℕ → List (Begun W O) → Type 0
  AreFor promises thread_of [] [] = Unit {0}
  AreFor promises thread_of [] (member ∷ members) = ⊥
  AreFor promises thread_of (thread ∷ threads) [] = ⊥
  AreFor promises thread_of (thread ∷ threads) (member ∷ members) =
      IsMember promises (λ w. thread_of w ≡ thread) member × AreFor promises thread_of threads members

  -- the threads of the works that were refused
  abbrev pub refused : (W → ℕ) → List (Begun W O) → List ℕ
  refused thread_of [] = []
  refused thread_of (Started running ∷ members) = refused thread_of members
  refused thread_of (Refused work ∷ members) = thread_of work ∷ refused thread_of members

  -- some work was refused
  abbrev pub IsRefusedAny : List (Begun W O) → Type 0
  IsRefusedAny [] = ⊥
  IsRefusedAny (Started running ∷ members) = IsRefusedAny members
  IsRefusedAny (Refused work ∷ members) = Unit {0}

  -- the thread of a work is added to a list where the work was refused
  abbrev pub AddsRefused : (W → ℕ) → Begun W O → List ℕ → List ℕ → Type 0
  AddsRefused thread_of member before now =
      (rest : List (Begun W O)) → now ++ refused thread_of rest ≡ before ++ refused thread_of (member ∷ rest)
