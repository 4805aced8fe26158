-- Workers that are started one after another, the last one first.
use Rattle.std.proofs.Common.{◌≡◌, ◌∙◌, ◌+◌, ℕ, List, [], ◌∷◌, ◌++◌, ap, drop, map, refl, reverse, subst, sym, append-nil, arith, ◌⊎◌, inl, inr, ⊎_elim}
use Rattle.std.proofs.lemmas.List.{append_assoc, reverse-append}
use Rattle.trick_crew_team.specs.Members.{AddsRefused, AreFor, AreMembers, IsMember, IsRefusedAny, refused}
use Rattle.trick_outside.proofs.CauseLemmas.{rose_earlier, rose_later}
use Rattle.trick_outside.specs.Causes.{HasCause}
use Rattle.trick_outside.specs.Works.{IsRefused, MatchBegun, Runs}
use Rattle.trick_outside.specs.declared.work.Begun.{Begun}
use Rattle.trick_outside.specs.declared.work.Begun.TheVariants.{Refused, Started}

module _ {W O : Type 0} (promises : W → O → Type 0) where
  -- of all these works some are left, and the others are members, in falling order
  abbrev pub IsStarting : List W → List W → List (Begun W O) → Type 0
  IsStarting all left members = (taken : List W) × (all ≡ left ++ taken) × AreMembers promises taken (reverse members)

  pub begun_is_member : (work : W) (m : Begun W O) → MatchBegun m (Runs promises work) (λ back. back ≡ work) → IsMember promises (λ w. w ≡ work) m
  begun_is_member work (Started running) runs = (work, refl, runs)
  begun_is_member work (Refused back) is = is

  pub starting_none : (all : List W) → IsStarting all all []
  starting_none all = ([], sym (append-nil all), tt)

  pub starting_more : (all left before : List W) (members : List (Begun W O)) (w : W) (m : Begun W O) → before ≡ left ++ w ∷ [] → IsStarting all before members
      → MatchBegun m (Runs promises w) (λ back. back ≡ w) → IsStarting all left (members ++ m ∷ [])
  starting_more all left before members w m is (taken, split, prior) begun = (
    w ∷ taken,
    split ∙ ap (λ (ws : List W). ws ++ taken) is ∙ append_assoc left (w ∷ []) taken,
    subst (AreMembers promises (w ∷ taken)) (sym (reverse-append members (m ∷ []))) (begun_is_member w m begun, prior),
  )

  pub starting_all : (all left : List W) (members : List (Begun W O)) → left ≡ [] → IsStarting all left members → AreMembers promises all (reverse members)
  starting_all all left members is (taken, split, prior) =
      subst (λ (ws : List W). AreMembers promises ws (reverse members)) (sym (split ∙ ap (λ (ws : List W). ws ++ taken) is)) prior

  pub member_for : (thread_of : W → ℕ) (w : W) (m : Begun W O) → IsMember promises (λ v. v ≡ w) m → IsMember promises (λ v. thread_of v ≡ thread_of w) m
  member_for thread_of w (Started running) (v, is, runs) = (v, ap thread_of is, runs)
  member_for thread_of w (Refused v) is = ap thread_of is

  pub are_for : (thread_of : W → ℕ) (works : List W) (members : List (Begun W O)) → AreMembers promises works members → AreFor promises thread_of (map thread_of works) members
  are_for thread_of [] [] are = tt
  are_for thread_of [] (m ∷ ms) are = absurd are
  are_for thread_of (w ∷ ws) [] are = absurd are
  are_for thread_of (w ∷ ws) (m ∷ ms) (is, are) = (member_for thread_of w m is, are_for thread_of ws ms are)

module _ {W O : Type 0} where
  any_more : (ms : List (Begun W O)) (m : Begun W O) → IsRefusedAny (ms ++ m ∷ []) → IsRefusedAny ms ⊎ IsRefused m
  any_more [] (Started running) any = inr any
  any_more [] (Refused work) any = inr tt
  any_more (Started running ∷ ms) m any = any_more ms m any
  any_more (Refused work ∷ ms) m any = inl tt

  pub cause_more : (before mid now : ℕ) (ms : List (Begun W O)) (m : Begun W O) → HasCause before mid (IsRefusedAny ms) → HasCause mid now (IsRefused m) → HasCause before now (IsRefusedAny (ms ++ m ∷ []))
  cause_more before mid now ms m first second = record {
    later = omega (arith, first.later, second.later);
    failed = λ any. ⊎_elim (λ some. rose_later before mid now (first.failed some) second.later) (λ one. rose_earlier before mid now first.later (second.failed one)) (any_more ms m any);
  }

  pub cause_none : (n : ℕ) (ms : List (Begun W O)) → ms ≡ [] → HasCause n n (IsRefusedAny ms)
  cause_none n ms none = subst (λ (ks : List (Begun W O)). HasCause n n (IsRefusedAny ks)) (sym none) (record { later = omega arith; failed = λ any. absurd any })

-- Threads of refused works are added to a list, one work after another.
module _ {W O : Type 0} where
  pub refused_more : (ms : List (Begun W O)) (i : ℕ) (m : Begun W O) (thread_of : W → ℕ) (before now all : List ℕ) → m ∷ drop (i + 1) ms ≡ drop i ms → AddsRefused thread_of m before now
      → before ++ refused thread_of (drop i ms) ≡ all → now ++ refused thread_of (drop (i + 1) ms) ≡ all
  refused_more ms i m thread_of before now all here adds so_far =
      adds (drop (i + 1) ms) ∙ ap (λ (rest : List (Begun W O)). before ++ refused thread_of rest) here ∙ so_far

-- one less is left, and one more was started
pub one_more : (left left' done done' all : ℕ) → left + done ≡ all → left' + 1 ≡ left → done' ≡ done + 1 → left' + done' ≡ all
one_more left left' done done' all sum less more = omega arith

pub none_done : (left done : ℕ) → done ≡ 0 → left + done ≡ left
none_done left done none = omega arith
