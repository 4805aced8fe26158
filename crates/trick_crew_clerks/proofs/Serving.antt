-- What a clerk adds to the history of its post.
use Rattle.std.proofs.Common.{◌≡◌, ◌∙◌, ℕ, suc, List, [], ◌∷◌, ◌++◌, ap, append_assoc, append-nil, subst, sym}
use Rattle.trick_crew_clerks.specs.Serving.{errands, errand}
use Rattle.trick_post_places.specs.Histories.{after, clerk_seat, stage_of}
use Rattle.trick_post_places.specs.declared.event.Event.{Event}
use Rattle.trick_post_places.specs.declared.event.Event.TheVariants.{Back, Pick}
use Rattle.trick_post_places.specs.declared.picked.Picked.{Picked}
use Rattle.trick_post_places.specs.declared.picked.Picked.TheVariants as picked
use Rattle.trick_post_places.specs.declared.stage.Stage.{Stage}
use Rattle.trick_post_places.specs.declared.stage.Stage.TheVariants as stage

-- it picked something, and put it back
pub errand_got : (n m seat : ℕ) (before mid now : List Event) → m ≡ n → seat ≡ clerk_seat n → mid ≡ before ++ Pick seat n ∷ []
    → now ≡ mid ++ Back (clerk_seat m) m ∷ [] → now ≡ before ++ errand n picked.Got
errand_got n m seat before mid now same at_ picks backs =
    backs ∙ ap (λ (k : ℕ). mid ++ Back (clerk_seat k) k ∷ []) same
    ∙ ap (λ (l : List Event). l ++ Back (clerk_seat n) n ∷ []) (picks ∙ ap (λ (s : ℕ). before ++ Pick s n ∷ []) at_)
    ∙ append_assoc before (Pick (clerk_seat n) n ∷ []) (Back (clerk_seat n) n ∷ [])

not_waiting : (x : Stage) → x ≡ stage.Ready → x ≡ stage.Waiting → ⊥
not_waiting x ready waiting = let e : stage.Ready ≡ stage.Waiting = sym ready ∙ waiting in cc

-- what is ready does not wait
pub ready_waits_not : (n m : ℕ) (log : List Event) → m ≡ n → stage_of ((after log).standings n) ≡ stage.Ready
    → stage_of ((after log).standings m) ≡ stage.Waiting → ⊥
ready_waits_not n m log same ready = subst (λ (k : ℕ). stage_of ((after log).standings k) ≡ stage.Waiting → ⊥) (sym same) (not_waiting (stage_of ((after log).standings n)) ready)

-- nothing waits for a thread of the same number
pub waits_not : (n m : ℕ) (log : List Event) → m ≡ n → (stage_of ((after log).standings n) ≡ stage.Waiting → ⊥)
    → stage_of ((after log).standings m) ≡ stage.Waiting → ⊥
waits_not n m log same none = subst (λ (k : ℕ). stage_of ((after log).standings k) ≡ stage.Waiting → ⊥) (sym same) none

-- so many times, and once more
pub errands_more : (n one count : ℕ) (before mine now : List Event) (result : Picked) → one ≡ n → mine ≡ before ++ errands n count → now ≡ mine ++ errand one result
    → (more : ℕ) × (now ≡ before ++ errands n more)
errands_more n one count before mine now picked.Got same so_far adds = (
  suc count,
  adds ∙ ap (λ (k : ℕ). mine ++ errand k picked.Got) same ∙ ap (λ (l : List Event). l ++ errand n picked.Got) so_far
      ∙ append_assoc before (errands n count) (errand n picked.Got),
)
errands_more n one count before mine now picked.Nothing same so_far adds = (count, adds ∙ append-nil mine ∙ so_far)
errands_more n one count before mine now picked.Shut same so_far adds = (count, adds ∙ append-nil mine ∙ so_far)
