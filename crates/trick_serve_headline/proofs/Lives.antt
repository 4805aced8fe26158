-- The entries of a session tell its lines.
use Rattle.std.proofs.Common.{◌≡◌, ◌∙◌, ℕ, List, [], ◌∷◌, ◌++◌, Option, Some, None, ap, map, refl, sym}
use Rattle.trick_model.specs.declared.entry.Cause.{Cause}
use Rattle.trick_model.specs.declared.entry.Entry.TheVariants.{Join, Said, Leave, Publish}
use Rattle.trick_model.specs.declared.entry.Entry.{Entry}
use Rattle.trick_serve_hearing.specs.Life.{leave_of}
use Rattle.trick_serve_facts.specs.Life.{life}

-- the lines among entries, in order
abbrev lines_among : List Entry → List (List ℕ)
lines_among [] = []
lines_among (Join session ∷ entries) = lines_among entries
lines_among (Said session line ∷ entries) = line ∷ lines_among entries
lines_among (Leave session why ∷ entries) = lines_among entries
lines_among (Publish thread ∷ entries) = lines_among entries

no_line : (n : ℕ) (leave : Option Cause) → lines_among (leave_of n leave) ≡ []
no_line n None = refl
no_line n (Some why) = refl

life_lines : (n : ℕ) (lines : List (List ℕ)) (leave : Option Cause)
    → lines_among (map (λ (line : List ℕ). Said n line) lines ++ leave_of n leave) ≡ lines
life_lines n [] leave = no_line n leave
life_lines n (line ∷ lines) leave = ap (λ (l : List (List ℕ)). line ∷ l) (life_lines n lines leave)

pub lines_told : (n : ℕ) (lines others : List (List ℕ)) (leave other : Option Cause) → life n lines leave ≡ life n others other
    → lines ≡ others
lines_told n lines others leave other same = sym (life_lines n lines leave) ∙ ap lines_among same ∙ life_lines n others other
