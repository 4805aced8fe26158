-- Mistakes in names, as one list in the order of the text, and which of them decides.
use Rattle.std.specs.Prelude.{ℕ, List, [], ◌∷◌, Option, Some, None, if◌then◌else◌, is_some}
use Rattle.trick_lang.specs.SyntaxTree.{Name}
use Rattle.trick_check_names.specs.Names.{Names, meaning_of}
use Rattle.trick_check_names.specs.declared.fault.NameFault.{NameFault}
use Rattle.trick_check_names.specs.declared.fault.NameFault.TheVariants as fault
use Rattle.trick_check_names.specs.declared.found.Found.{Found}

pub data Mistake : Type 0 where
  -- a name that is given twice
  Twice : Name → Mistake
  -- what is not there, with the line of its name
  Unknown : ℕ → Mistake
  -- what is no scalar or cannot be assigned, with the line of its first name
  NotScalar : ℕ → Mistake

-- a name is given again where it is known
abbrev pub twice : {T : Type 0} → Name → Names T → List Mistake
twice name names = if is_some (meaning_of name names) then Twice name ∷ [] else []

-- ---- the first of each kind

abbrev pub first_twice : List Mistake → Option Name
first_twice [] = None
first_twice (Twice name ∷ ms) = Some name
first_twice (Unknown line ∷ ms) = first_twice ms
first_twice (NotScalar line ∷ ms) = first_twice ms

abbrev pub first_unknown : List Mistake → Option ℕ
first_unknown [] = None
first_unknown (Twice name ∷ ms) = first_unknown ms
first_unknown (Unknown line ∷ ms) = Some line
first_unknown (NotScalar line ∷ ms) = first_unknown ms

abbrev pub first_not_scalar : List Mistake → Option ℕ
first_not_scalar [] = None
first_not_scalar (Twice name ∷ ms) = first_not_scalar ms
first_not_scalar (Unknown line ∷ ms) = first_not_scalar ms
first_not_scalar (NotScalar line ∷ ms) = Some line

abbrev pub not_scalar_fault : Option ℕ → Option NameFault
not_scalar_fault (Some line) = Some (fault.NotScalar line)
not_scalar_fault None = None

abbrev pub unknown_fault : Option ℕ → Option ℕ → Option NameFault
unknown_fault (Some line) other = Some (fault.Unknown line)
unknown_fault None other = not_scalar_fault other

abbrev pub twice_fault : Option Name → Option ℕ → Option ℕ → Option NameFault
twice_fault (Some name) unknown other = Some (fault.Twice name)
twice_fault None unknown other = unknown_fault unknown other

-- The first name that is given twice decides, or else the first unknown one, or else the first place
-- that is no scalar.
abbrev pub fault_of : List Mistake → Option NameFault
fault_of ms = twice_fault (first_twice ms) (first_unknown ms) (first_not_scalar ms)

-- ---- what a walk keeps of them

abbrev pub or_first : {A : Type 0} → Option A → A → Option A
or_first None x = Some x
or_first (Some y) x = Some y

abbrev pub note : Mistake → Found → Found
note (Twice name) f = record f { twice = or_first f.twice name }
note (Unknown line) f = record f { unknown = or_first f.unknown line }
note (NotScalar line) f = record f { not_scalar = or_first f.not_scalar line }

abbrev pub nothing_found : Found
nothing_found = record { twice = None; unknown = None; not_scalar = None }

-- what was found, and then the first of each kind of these
abbrev pub noted : List Mistake → Found → Found
noted [] f = f
noted (m ∷ ms) f = noted ms (note m f)

-- what decides of what was found
abbrev pub fault_of_found : Found → Option NameFault
fault_of_found f = twice_fault f.twice f.unknown f.not_scalar
