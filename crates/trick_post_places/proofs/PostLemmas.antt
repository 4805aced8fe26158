-- The post after a turn.
use Rattle.std.proofs.Common.{◌≡◌, ◌∙◌, ℕ, ◌<◌, ◌≤◌, ◌==◌, Bool, true, false, cond, List, [], ◌∷◌, ◌++◌, length, Option, Some, refl, sym, ap, subst, arith, append-nil}
use Rattle.std.proofs.lemmas.Bool.{eqb-true}
use Rattle.std.proofs.lemmas.Bool.Decides.{nat_tests}
use Rattle.std.proofs.lemmas.List.{get_or-set_other, get_or-set_same, length-set}
use Rattle.std.proofs.lemmas.Option.{same_Some}
use Rattle.std.specs.List.{slice_index_or}
use Rattle.std.specs.Prelude.{nat_lt, slice_set}
use Rattle.trick_post_places.proofs.Entries.{after_more, legal_more}
use Rattle.trick_post_places.specs.Histories.{Account, Idle, IsLegal, May, Standing, after, fresh, stage_of, step, with_standing}
use Rattle.trick_post_places.specs.Places.{Holds, IsPlaceAt, IsPostAt, IsSwapped, PostView, Stands, StandsAt}
use Rattle.trick_post_places.specs.declared.event.Event.{Event}
use Rattle.trick_post_places.specs.declared.places.Place.{Place}
use Rattle.trick_post_places.specs.declared.stage.Stage.{Stage}
use Rattle.trick_model.specs.declared.plan.Plan.{Plan as PlanValue}
use Rattle.trick_post_trays.specs.Outputs.{IsParcelOf}
use Rattle.trick_post_trays.specs.declared.outputs.Parcel.{Parcel}

-- ---- one entry more

pub stands_more : (plan : PlanValue) (next : PostView) (log : List Event) (e : Event) → IsLegal plan fresh log → May plan (after log) e
    → IsPostAt plan (step (after log) e) next → StandsAt plan next (log ++ e ∷ [])
stands_more plan next log e legal may at_ = record {
  state = subst (λ (h : Account). IsPostAt plan h next) (sym (after_more fresh log e)) at_;
  legal = legal_more plan fresh log e legal may;
}

-- the post of the one plan that was picked
pub stands_at : (chosen : Option PlanValue) (plan : PlanValue) (post : PostView) (log : List Event) → chosen ≡ Some plan
    → StandsAt plan post log → Stands chosen post log
stands_at chosen plan post log is s other e = subst (λ (p : PlanValue). StandsAt p post log) (same_Some plan other (sym is ∙ e)) s

-- a turn that did nothing
pub stands_same : (chosen : Option PlanValue) (post next : PostView) (log : List Event) → Stands chosen post log → next ≡ post
    → Stands chosen next (log ++ [])
stands_same chosen post next log s is plan e =
    subst (λ (v : PostView). StandsAt plan v (log ++ [])) (sym is)
    (subst (λ (l : List Event). StandsAt plan post l) (sym (append-nil log)) (s plan e))

-- ---- a place

-- there is a place
pub some_place : (places : List Place) → length places ≡ 16 → Place
some_place [] many = absurd (omega (arith, many))
some_place (place ∷ places) many = place

test_other : (n m : ℕ) → (n == m) ≡ false → n ≡ m → ⊥
test_other n m e is = grind (arith, nat_tests)

-- the place of one thread is another now
put_place : (plan : PlanValue) (h : Account) (post : PostView) (n : ℕ) (now : Standing) (place : Place) → n < 16 → IsPostAt plan h post
    → IsPlaceAt plan n now place → IsPostAt plan (with_standing h n now) (record { places = slice_set post.places n place; shut = post.shut })
put_place plan h post n now place less at_ here = record {
  many = length-set post.places n place ∙ at_.many;
  places = λ k d small. by_test k d small (k == n) refl;
  others = λ k large. other k large (k == n) refl;
  shut_is = at_.shut_is;
}
  where
    by_test : (k : ℕ) (d : Place) → k < 16 → (b : Bool) → (k == n) ≡ b
        → IsPlaceAt plan k (cond (k == n) now (h.standings k)) (slice_index_or (slice_set post.places n place) k d)
    by_test k d small true t =
        subst (λ (x : Standing). IsPlaceAt plan k x (slice_index_or (slice_set post.places n place) k d))
        (sym (ap (λ (b : Bool). cond b now (h.standings k)) t))
        (subst (λ (m : ℕ). IsPlaceAt plan m now (slice_index_or (slice_set post.places n place) m d)) (sym (eqb-true k n t))
        (subst (IsPlaceAt plan n now) (sym (get_or-set_same post.places n place d (omega (arith, at_.many)))) here))
    by_test k d small false t =
        subst (λ (x : Standing). IsPlaceAt plan k x (slice_index_or (slice_set post.places n place) k d))
        (sym (ap (λ (b : Bool). cond b now (h.standings k)) t))
        (subst (IsPlaceAt plan k (h.standings k)) (sym (get_or-set_other post.places n k place d (test_other k n t))) (at_.places k d small))

    other : (k : ℕ) → 16 ≤ k → (b : Bool) → (k == n) ≡ b → cond (k == n) now (h.standings k) ≡ Idle
    other k large true t = absurd (let e : k ≡ n = eqb-true k n t in omega arith)
    other k large false t = ap (λ (b : Bool). cond b now (h.standings k)) t ∙ at_.others k large

-- a parcel was swapped for the one at the place
pub swapped_at : (plan : PlanValue) (h : Account) (old new : PostView) (n : ℕ) (now : Standing) (given back : Parcel) → n < 16
    → IsPostAt plan h old → IsSwapped old new n (stage_of now) given back → IsParcelOf plan n given → Holds plan n now given
    → IsPostAt plan (with_standing h n now) new
swapped_at plan h old new n now given back less at_ swapped own holds =
    subst (IsPostAt plan (with_standing h n now)) (sym swapped.post)
    (put_place plan h old n now (record { parcel = given; stage = stage_of now }) less at_
    (record { parcel = own; stage_is = refl; holds = holds }))

-- what came back is the thread's, and holds what the place held
pub returned_own : (plan : PlanValue) (h : Account) (old new : PostView) (n : ℕ) (now : Stage) (given back : Parcel) → n < 16
    → IsPostAt plan h old → IsSwapped old new n now given back → IsParcelOf plan n back
returned_own plan h old new n now given back less at_ swapped =
    subst (IsParcelOf plan n) (sym (swapped.returned (some_place old.places at_.many)))
    (at_.places n (some_place old.places at_.many) less).parcel

pub returned_holds : (plan : PlanValue) (h : Account) (old new : PostView) (n : ℕ) (now : Stage) (given back : Parcel) (x : Standing) → n < 16
    → IsPostAt plan h old → IsSwapped old new n now given back → h.standings n ≡ x → Holds plan n x back
returned_holds plan h old new n now given back x less at_ swapped is =
    subst (λ (y : Standing). Holds plan n y back) is
    (subst (Holds plan n (h.standings n)) (sym (swapped.returned (some_place old.places at_.many)))
    (at_.places n (some_place old.places at_.many) less).holds)

-- the post after a shut
pub shut_at : (plan : PlanValue) (h : Account) (post : PostView) (seat : ℕ) → IsPostAt plan h post
    → IsPostAt plan (record h { shut = true }) (record { places = post.places; shut = true })
shut_at plan h post seat at_ = record { many = at_.many; places = at_.places; others = at_.others; shut_is = refl }

-- a thread that was handed something has a place
pub has_place : (plan : PlanValue) (h : Account) (post : PostView) (n : ℕ) (x : Standing) → IsPostAt plan h post → h.standings n ≡ x
    → (x ≡ Idle → ⊥) → n < 16
has_place plan h post n x at_ is not = by_test (nat_lt n 16) refl
  where
    by_test : (b : Bool) → nat_lt n 16 ≡ b → n < 16
    by_test true t = grind (arith, nat_tests)
    by_test false t = absurd (not (sym is ∙ at_.others n (let large : 16 ≤ n = grind (arith, nat_tests) in large)))
