-- Works that are started one after another, the last one first.
use Rattle.std.proofs.Common.{◌≡◌, ◌∙◌, ℕ, List, [], ◌∷◌, ◌++◌, ap, append_assoc, append-nil, arith, inl, inr, true, refl, reverse, subst, sym}
use Rattle.std.proofs.lemmas.List.{reverse-append}
use Rattle.std.proofs.lemmas.List.Elements.{All-cons, All-head, All-nil, All-tail}
use Rattle.std.specs.Prelude.{All}
use Rattle.trick_crew_clerks.specs.Staffs.{AreShared, StayedAny, is_empty}
use Rattle.trick_outside.proofs.CauseLemmas.{rose_earlier, rose_later}
use Rattle.trick_outside.specs.Causes.{HasCause}
use Rattle.trick_outside.specs.Works.{IsRefused, MatchBegun, Runs}
use Rattle.trick_outside.specs.declared.work.Begun.{Begun}
use Rattle.trick_outside.specs.declared.work.Begun.TheVariants.{Refused, Started}
use Rattle.trick_outside.specs.declared.work.Running.{Running}

pub none_in : {A : Type 0} (xs : List A) → is_empty xs ≡ true → xs ≡ []
none_in [] is = refl
none_in (x ∷ xs) is = absurd (cc)

pub is_empty_of : {A : Type 0} (xs : List A) → xs ≡ [] → is_empty xs ≡ true
is_empty_of xs none = ap is_empty none

module _ {W O : Type 0} where
  -- where the work goes that was started or not
  abbrev pub IsAddedHere : Begun W O → List W → List W → Type 0
  IsAddedHere begun before now = MatchBegun begun (λ running. now ≡ before) (λ work. now ≡ before ++ work ∷ [])

  abbrev pub IsAddedAway : Begun W O → List (Running W O) → List (Running W O) → Type 0
  IsAddedAway begun before now = MatchBegun begun (λ running. now ≡ before ++ running ∷ []) (λ work. now ≡ before)

  pub cause_more : (before mid now : ℕ) (here more : List W) (m : Begun W O) → IsAddedHere m here more → HasCause before mid (StayedAny here)
      → HasCause mid now (IsRefused m) → HasCause before now (StayedAny more)
  cause_more before mid now here more (Started running) added first second = record {
    later = omega (arith, first.later, second.later);
    failed = λ any. rose_later before mid now (first.failed (subst StayedAny added any)) second.later;
  }
  cause_more before mid now here more (Refused work) added first second = record {
    later = omega (arith, first.later, second.later);
    failed = λ any. rose_earlier before mid now first.later (second.failed tt);
  }

pub cause_none : {W : Type 0} (n : ℕ) (here : List W) → here ≡ [] → HasCause n n (StayedAny here)
cause_none {W} n here none = subst (λ (ws : List W). HasCause n n (StayedAny ws)) (sym none) (record { later = omega arith; failed = λ any. absurd any })

module _ {W O : Type 0} (promises : W → O → Type 0) where
  -- of all these works some are left, and the others stayed or run
  abbrev pub IsSharing : List W → List W → List W → List (Running W O) → Type 0
  IsSharing all left here away = (taken : List W) × (all ≡ left ++ taken) × AreShared promises taken (reverse here) (reverse away)

  pub sharing_none : (all here : List W) (away : List (Running W O)) → here ≡ [] → away ≡ [] → IsSharing all all here away
  sharing_none all here away nobody none = ([], sym (append-nil all), (ap reverse nobody, ap reverse none))

  shared_more : (w : W) (taken here more : List W) (away others : List (Running W O)) (m : Begun W O) → MatchBegun m (Runs promises w) (λ back. back ≡ w)
      → IsAddedHere m here more → IsAddedAway m away others → AreShared promises taken (reverse here) (reverse away)
      → AreShared promises (w ∷ taken) (reverse more) (reverse others)
  shared_more w taken here more away others (Started running) runs same added so_far = inr (
    running,
    reverse away,
    ap reverse added ∙ reverse-append away (running ∷ []),
    runs,
    subst (λ (ws : List W). AreShared promises taken (reverse ws) (reverse away)) (sym same) so_far,
  )
  shared_more w taken here more away others (Refused back) is added same so_far = inl (
    reverse here,
    ap reverse added ∙ reverse-append here (back ∷ []) ∙ ap (λ (v : W). v ∷ reverse here) is,
    subst (λ (rs : List (Running W O)). AreShared promises taken (reverse here) (reverse rs)) (sym same) so_far,
  )

  pub sharing_more : (all left before here more : List W) (away others : List (Running W O)) (w : W) (m : Begun W O) → before ≡ left ++ w ∷ []
      → MatchBegun m (Runs promises w) (λ back. back ≡ w) → IsAddedHere m here more → IsAddedAway m away others → IsSharing all before here away
      → IsSharing all left more others
  sharing_more all left before here more away others w m is begun to_here to_away (taken, split, so_far) = (
    w ∷ taken,
    split ∙ ap (λ (ws : List W). ws ++ taken) is ∙ append_assoc left (w ∷ []) taken,
    shared_more w taken here more away others m begun to_here to_away so_far,
  )

  pub sharing_all : (all left here : List W) (away : List (Running W O)) → left ≡ [] → IsSharing all left here away
      → AreShared promises all (reverse here) (reverse away)
  sharing_all all left here away none (taken, split, so_far) =
      subst (λ (ws : List W). AreShared promises ws (reverse here) (reverse away)) (sym (split ∙ ap (λ (ws : List W). ws ++ taken) none)) so_far

  -- what holds of all works holds of those that stayed, and of those that run
  pub shared_here : (Holds : W → Type 0) (works here : List W) (away : List (Running W O)) → AreShared promises works here away → All Holds works → All Holds here
  shared_here Holds [] here away none all = subst (All Holds) (sym none.0) (All-nil Holds)
  shared_here Holds (w ∷ ws) here away (inl (rest, is, shared)) all =
      subst (All Holds) (sym is) (All-cons Holds w rest (All-head Holds w ws all) (shared_here Holds ws rest away shared (All-tail Holds w ws all)))
  shared_here Holds (w ∷ ws) here away (inr (running, rest, is, runs, shared)) all = shared_here Holds ws here rest shared (All-tail Holds w ws all)

  pub shared_away : (Holds : W → Type 0) (works here : List W) (away : List (Running W O)) → AreShared promises works here away → All Holds works
      → All (λ (running : Running W O). (w : W) × Holds w × Runs promises w running) away
  shared_away Holds [] here away none all =
      subst (All (λ (running : Running W O). (w : W) × Holds w × Runs promises w running)) (sym none.1) (All-nil (λ (running : Running W O). (w : W) × Holds w × Runs promises w running))
  shared_away Holds (w ∷ ws) here away (inl (rest, is, shared)) all = shared_away Holds ws rest away shared (All-tail Holds w ws all)
  shared_away Holds (w ∷ ws) here away (inr (running, rest, is, runs, shared)) all =
      let Is = λ (r : Running W O). (v : W) × Holds v × Runs promises v r in
      subst (All Is) (sym is) (All-cons Is running rest (w, All-head Holds w ws all, runs) (shared_away Holds ws here rest shared (All-tail Holds w ws all)))
