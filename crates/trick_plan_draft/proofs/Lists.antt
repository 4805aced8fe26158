-- Lists of which one item is changed, and places in lists.
use Rattle.std.proofs.Common.{◌≡◌, ◌∙◌, ◌<◌, ◌++◌, ◌∷◌, [], ℕ, zero, suc, List, Option, Some, None, All, length, map, slice_get, get_or, set, refl, sym, ap, subst, arith}
use Rattle.std.proofs.lemmas.List.Elements.{All-cons, All-head, All-tail}
use Rattle.trick_plan_draft.specs.Changed.{changed, changed_at}

-- a fact of each item that is also one of the changed item
pub all_changed : {T : Type 0} (P : T → Type 0) (change : T → T) (xs : List T) (place : ℕ)
    → ((x : T) → slice_get xs place ≡ Some x → P x → P (change x)) → All P xs → All P (changed change xs place)
all_changed P change [] place keeps all = all
all_changed P change (x ∷ xs) zero keeps all =
    All-cons P (change x) xs (keeps x refl (All-head P x xs all)) (All-tail P x xs all)
all_changed P change (x ∷ xs) (suc place) keeps all =
    All-cons P x (changed change xs place) (All-head P x xs all)
    (all_changed P change xs place (λ y e. keeps y e) (All-tail P x xs all))

pub all_changed_at : {T : Type 0} (P : T → Type 0) (change : T → T) (xs : List T) (place : Option ℕ)
    → ((k : ℕ) → place ≡ Some k → (x : T) → slice_get xs k ≡ Some x → P x → P (change x)) → All P xs
    → All P (changed_at change xs place)
all_changed_at P change xs None keeps all = all
all_changed_at P change xs (Some k) keeps all = all_changed P change xs k (keeps k refl) all

-- what a change leaves of each item
pub map_changed : {T A : Type 0} (f : T → A) (change : T → T) (xs : List T) (place : ℕ)
    → ((x : T) → f (change x) ≡ f x) → map f (changed change xs place) ≡ map f xs
map_changed f change [] place same = refl
map_changed f change (x ∷ xs) zero same = ap (λ y. y ∷ map f xs) (same x)
map_changed f change (x ∷ xs) (suc place) same = ap (λ ys. f x ∷ ys) (map_changed f change xs place same)

pub map_changed_at : {T A : Type 0} (f : T → A) (change : T → T) (xs : List T) (place : Option ℕ)
    → ((x : T) → f (change x) ≡ f x) → map f (changed_at change xs place) ≡ map f xs
map_changed_at f change xs None same = refl
map_changed_at f change xs (Some k) same = map_changed f change xs k same

-- an item stays at its place in a longer list
pub get_longer : {T : Type 0} (xs ys : List T) (place : ℕ) (x : T) → slice_get xs place ≡ Some x
    → slice_get (xs ++ ys) place ≡ Some x
get_longer [] ys place x e = cc e
get_longer (y ∷ xs) ys zero x e = e
get_longer (y ∷ xs) ys (suc place) x e = get_longer xs ys place x e

pub map_append : {T A : Type 0} (f : T → A) (xs ys : List T) → map f (xs ++ ys) ≡ map f xs ++ map f ys
map_append f [] ys = refl
map_append f (x ∷ xs) ys = ap (λ zs. f x ∷ zs) (map_append f xs ys)

pub get_mapped : {T A : Type 0} (f : T → A) (xs : List T) (place : ℕ) (x : T) → slice_get xs place ≡ Some x
    → slice_get (map f xs) place ≡ Some (f x)
get_mapped f [] place x e = cc e
get_mapped f (y ∷ xs) zero x e = cc e
get_mapped f (y ∷ xs) (suc place) x e = get_mapped f xs place x e

changed_is : {T : Type 0} (change : T → T) (xs : List T) (place : ℕ) (x d : T) → place < length xs → x
    ≡ get_or xs place d
    → set xs place (change x) ≡ changed change xs place
changed_is change [] place x d within is = absurd (omega (arith, within))
changed_is change (y ∷ xs) zero x d within is = ap (λ z. change z ∷ xs) is
changed_is change (y ∷ xs) (suc place) x d within is =
    let behind : place < length xs = omega (arith, within) in
    ap (λ zs. y ∷ zs) (changed_is change xs place x d behind is)

-- A change puts the changed item in its place: the list `xs` is the old one, `x` its item, and `y` the
-- changed item in the new list.
pub is_changed : (T : Type 0) (change : T → T) (old xs new : List T) (place : ℕ) (x d y : T) → xs ≡ old
    → place < length old
    → x ≡ get_or xs place d → y ≡ change x → new ≡ set xs place y → new ≡ changed change old place
is_changed T change old xs new place x d y same within is made put =
    let within_xs : place < length xs = subst (λ (zs : List T). place < length zs) (sym same) within in
    put ∙ (ap (set xs place) made
    ∙ (changed_is change xs place x d within_xs is ∙ ap (λ zs. changed change zs place) same))
