-- A post as it is made.
use Rattle.std.proofs.Common.{◌≡◌, ◌∙◌, ℕ, zero, suc, false, List, [], ◌∷◌, ◌++◌, length, map, Option, Some, refl, sym, ap, subst, arith}
use Rattle.std.proofs.lemmas.List.{length-map, map-append}
use Rattle.std.proofs.lemmas.List.Elements.{All-push}
use Rattle.std.specs.List.{slice_index_or}
use Rattle.std.specs.Prelude.{All}
use Rattle.trick_post_places.proofs.PostLemmas.{stands_at}
use Rattle.trick_post_places.specs.Histories.{fresh}
use Rattle.trick_post_places.specs.Places.{IsPostAt, PostView, Stands}
use Rattle.trick_post_places.specs.declared.places.Place.{Place}
use Rattle.trick_post_places.specs.declared.stage.Stage.TheVariants as stage
use Rattle.trick_model.specs.declared.plan.Plan.{Plan as PlanValue}
use Rattle.trick_post_trays.specs.Outputs.{AreParcelsOf, IsParcelOf}
use Rattle.trick_post_trays.specs.declared.outputs.Parcel.{Parcel}

parcel_at : (places : List Place) (n : ℕ) (d : Place) → slice_index_or (map (λ p. p.parcel) places) n d.parcel ≡ (slice_index_or places n d).parcel
parcel_at [] n d = refl
parcel_at (p ∷ places) zero d = refl
parcel_at (p ∷ places) (suc n) d = parcel_at places n d

-- one place more, with nothing to do
pub place_more : (places : List Place) (parcels : List Parcel) (place : Place) (parcel : Parcel) → map (λ p. p.parcel) places ≡ parcels
    → All (λ (p : Place). p.stage ≡ stage.Idle) places → place ≡ record { parcel = parcel; stage = stage.Idle }
    → (map (λ p. p.parcel) (places ++ place ∷ []) ≡ parcels ++ parcel ∷ []) × All (λ (p : Place). p.stage ≡ stage.Idle) (places ++ place ∷ [])
place_more places parcels place parcel same idle is = (
  map-append (λ (p : Place). p.parcel) places (place ∷ []) ∙ ap (λ (l : List Parcel). l ++ place.parcel ∷ []) same
      ∙ ap (λ (p : Place). parcels ++ p.parcel ∷ []) is,
  All-push (λ (p : Place). p.stage ≡ stage.Idle) places place idle (ap (λ (p : Place). p.stage) is),
)

-- places where nothing was handed over
pub places_made : (plan : PlanValue) (places : List Place) (parcels : List Parcel) → map (λ p. p.parcel) places ≡ parcels
    → All (λ (p : Place). p.stage ≡ stage.Idle) places → AreParcelsOf plan parcels → IsPostAt plan fresh (record { places = places; shut = false })
places_made plan places parcels same idle are = record {
  many = many;
  places = λ n d less. record {
    parcel = subst (IsParcelOf plan n) (ap (λ (l : List Parcel). slice_index_or l n d.parcel) (sym same) ∙ parcel_at places n d) (are.each n d.parcel less);
    stage_is = idle n d (omega (arith, less, many));
    holds = tt;
  };
  others = λ n large. refl;
  shut_is = refl;
}
  where
    many : length places ≡ 16
    many = sym (length-map places (λ p. p.parcel)) ∙ ap length same ∙ are.many

-- a post that was made stands for no entries
pub stands_made : (chosen : Option PlanValue) (plan : PlanValue) (post : PostView) → chosen ≡ Some plan → IsPostAt plan fresh post → Stands chosen post []
stands_made chosen plan post is at_ = stands_at chosen plan post [] is (record { state = at_; legal = tt })
