-- The form of a line, `name = value;` and a line feed, and what is wrong with a line of which a name and a count of
-- numbers are due.
use Rattle.std.specs.List.{count_by}
use Rattle.std.specs.Prelude.{ℕ, ◌+◌, ◌-◌, ◌==◌, nat_le, Bool, true, false, ◌&&◌, List, [], ◌∷◌, length, take, drop, Option, Some, None, if◌then◌else◌, codes}
use Rattle.std.specs.Str.{bytes_eq}
use Rattle.trick_codes.specs.Code.{behind, is_there}
use Rattle.trick_codes.specs.declared.form.Place.{Place}
use Rattle.trick_codes.specs.declared.form.Place.TheVariants.{Start, Minus, Zero, Digit, Astray}
use Rattle.trick_codes.specs.declared.kind.Kind.{Kind}
use Rattle.trick_codes.specs.declared.kind.Kind.TheVariants.{BadLine, WrongPlan, OutOfRange}

-- one place later
abbrev pub later : Option ℕ → Option ℕ
later (Some i) = Some (1 + i)
later None = None

-- the place of the first ` = `
abbrev pub equals_place : List ℕ → Option ℕ
equals_place [] = None
equals_place (b ∷ bs) = if is_there (behind (codes " = ") (b ∷ bs)) then Some 0 else later (equals_place bs)

-- a digit, and one that is not 0
abbrev pub is_digit : ℕ → Bool
is_digit b = nat_le 48 b && nat_le b 57

abbrev pub is_first_digit : ℕ → Bool
is_first_digit b = nat_le 49 b && nat_le b 57

-- Where a byte leads in numbers that are written rightly, with commas between: at the start of a number, after its
-- minus, after its only 0, after another digit, or astray. A 0 has no minus and no digit before or after it.
abbrev pub next_place : Place → ℕ → Place
next_place Start b = if b == 45 then Minus else if b == 48 then Zero else if is_first_digit b then Digit else Astray
next_place Minus b = if is_first_digit b then Digit else Astray
next_place Zero b = if b == 44 then Start else Astray
next_place Digit b = if b == 44 then Start else if is_digit b then Digit else Astray
next_place Astray b = Astray

abbrev pub last_place : Place → List ℕ → Place
last_place at [] = at
last_place at (b ∷ bs) = last_place (next_place at b) bs

-- a number ends there
abbrev pub is_number_end : Place → Bool
is_number_end Start = false
is_number_end Minus = false
is_number_end Zero = true
is_number_end Digit = true
is_number_end Astray = false

-- so many numbers that are written rightly, with commas between
abbrev pub are_numbers : ℕ → List ℕ → Bool
are_numbers count bytes = is_number_end (last_place Start bytes) && (count_by (λ b. b == 44) bytes + 1 == count)

-- the bytes before the place of the ` = `, and those between it and the last two
abbrev pub name_in : List ℕ → ℕ → List ℕ
name_in l i = take i l

abbrev pub value_in : List ℕ → ℕ → List ℕ
value_in l i = take (length l - (i + 5)) (drop (i + 3) l)

-- the line has the form: a name that is not empty before the ` = ` at this place, and `;` and a line feed at its end
abbrev pub has_form : List ℕ → ℕ → Bool
has_form l i = nat_le 1 i && nat_le (i + 5) (length l) && bytes_eq (drop (length l - 2) l) (codes ";\n")

-- what is wrong with a line of this form
abbrev pub wrong_part : List ℕ → ℕ → List ℕ → ℕ → Kind
wrong_part name count l i =
    if bytes_eq (name_in l i) name then (if are_numbers count (value_in l i) then OutOfRange else BadLine)
    else WrongPlan

abbrev pub kind_at : List ℕ → ℕ → List ℕ → Option ℕ → Kind
kind_at name count l None = BadLine
kind_at name count l (Some i) = if has_form l i then wrong_part name count l i else BadLine

-- What is wrong with a line that stands where one with this name and so many numbers is due: a line of the form with
-- another name is of another plan; with this name, and as many numbers that are written rightly, it is out of range;
-- all others are bad. Where no name is due, that of the line `end;`, the name is empty.
abbrev pub kind_of : List ℕ → ℕ → List ℕ → Kind
kind_of name count l = kind_at name count l (equals_place l)
