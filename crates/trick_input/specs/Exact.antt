-- What an exact answer on a line is.
use Rattle.std.specs.Prelude.{◌≡◌, true, ◌↔◌, List, [], ◌∷◌, ◌++◌, length, Result, Ok, Err, ◌⊎◌}
use Rattle.trick_input.specs.Forms.{HasForm, pieces}
use Rattle.trick_input.specs.declared.class.Class.{Class}
use Rattle.trick_input.specs.declared.class.Class.TheVariants as the
use Rattle.trick_input.specs.declared.form.Row.{Row}
use Rattle.trick_input.specs.declared.line.Place.{Place}

-- the row is one of the table
abbrev pub IsRow : List Row → Row → Type 0
IsRow [] r = ⊥
IsRow (q ∷ rs) r = (q ≡ r) ⊎ IsRow rs r

-- a line of one of the forms begins like this
abbrev pub GoesOn : List Row → List Class → Type 0
GoesOn rs front = (r : Row) × (more : List Class) × IsRow rs r × HasForm (pieces r) (front ++ more)

-- the line is of this form, and of none of those before it in the table
abbrev pub IsFirst : List Row → Row → List Class → Type 0
IsFirst [] r ws = ⊥
IsFirst (q ∷ rs) r ws = ((q ≡ r) × HasForm (pieces r) ws) ⊎ ((HasForm (pieces q) ws → ⊥) × IsFirst rs r ws)

-- the line is of no form: `front` goes on, and with the token after it nothing does
pub record IsRefused (rs : List Row) (ws : List Class) (place : Place) : Type 0 where
  pub front : List Class
  pub rest : List Class
  pub parts : ws ≡ front ++ rest
  pub left : length rest ≡ place.left
  pub goes_on : GoesOn rs front
  pub stops : (w : Class) (more : List Class) → rest ≡ w ∷ more → GoesOn rs (front ++ w ∷ []) → ⊥
  pub outside : (r : Row) → IsRow rs r → HasForm (pieces r) ws → ⊥
  -- a literal is due there exactly where a whole number would go on
  pub literal : (place.due ≡ true) ↔ GoesOn rs (front ++ the.Zero ∷ [])

abbrev pub IsExact : List Row → List Class → Result Row Place → Type 0
IsExact rs ws (Ok r) = IsFirst rs r ws
IsExact rs ws (Err place) = IsRefused rs ws place
