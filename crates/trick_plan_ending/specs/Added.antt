-- What is added, in the order of its adding.
use Rattle.std.specs.List.{AllByRecursion}
use Rattle.std.specs.Option.{option_to_list}
use Rattle.std.specs.Prelude.{◌≡◌, ℕ, ◌<◌, All, List, [], ◌∷◌, ◌++◌, map, slice_get}
use Rattle.trick_lang.specs.SyntaxTree.{Name}
use Rattle.trick_check_names.specs.Names.{Names}

-- the items at these places, in this order; there is none after the end
abbrev pub at_places : {T : Type 0} → List T → List ℕ → List T
at_places xs [] = []
at_places xs (place ∷ places) = option_to_list (slice_get xs place) ++ at_places xs places

-- the places that names stand for
abbrev pub places_of : Names ℕ → List ℕ
places_of names = map (λ (known : Name × ℕ). known.1) names

-- the drafts of groups or events that are added, in the order of their adding
abbrev pub added : {T : Type 0} → List T → Names ℕ → List T
added drafts names = at_places drafts (places_of names)

-- no place stands twice
abbrev pub AreApart : List ℕ → Type 0
AreApart [] = Unit {0}
AreApart (place ∷ places) = AllByRecursion (λ (other : ℕ). place ≡ other → ⊥) places × AreApart places

-- So many items have these places, and no place stands twice.
pub record ArePlaces (count : ℕ) (places : List ℕ) : Type 0 where
  pub within : All (λ (place : ℕ). place < count) places
  pub apart : AreApart places
