-- What is noted of one list after another.
use Rattle.std.proofs.Common.{◌≡◌, ℕ, List, [], ◌∷◌, ◌++◌, Option, Some, None, refl, ap, sym, ◌∙◌}
use Rattle.trick_lang.specs.SyntaxTree.{Name}
use Rattle.trick_check_names.specs.Mistakes.{Mistake, Twice, Unknown, NotScalar, first_twice, first_unknown, first_not_scalar, fault_of, fault_of_found, nothing_found, or_first, note, noted}
use Rattle.trick_check_names.specs.declared.found.Found.{Found}

pub noted_both : (ms ns : List Mistake) (f : Found) → noted (ms ++ ns) f ≡ noted ns (noted ms f)
noted_both [] ns f = refl
noted_both (m ∷ ms) ns f = noted_both ms ns (note m f)

-- what was to be noted of a list and its rest is what is to be noted of the rest
pub noted_next : (ms ns : List Mistake) (g h all : Found) → noted (ms ++ ns) g ≡ all → h ≡ noted ms g → noted ns h ≡ all
noted_next ms ns g h all told here = ap (noted ns) here ∙ sym (noted_both ms ns g) ∙ told

-- ---- the first of each kind

abbrev or_else : {A : Type 0} → Option A → Option A → Option A
or_else None y = y
or_else (Some x) y = Some x

pub noted_twice : (ms : List Mistake) (f : Found) → (noted ms f).twice ≡ or_else f.twice (first_twice ms)
noted_twice [] f = none f.twice where
  none : {A : Type 0} (x : Option A) → x ≡ or_else x None
  none None = refl
  none (Some x) = refl
noted_twice (Twice name ∷ ms) f = noted_twice ms (note (Twice name) f) ∙ first f.twice where
  first : (x : Option Name) → or_else (or_first x name) (first_twice ms) ≡ or_else x (Some name)
  first None = refl
  first (Some y) = refl
noted_twice (Unknown line ∷ ms) f = noted_twice ms (note (Unknown line) f)
noted_twice (NotScalar line ∷ ms) f = noted_twice ms (note (NotScalar line) f)

pub noted_unknown : (ms : List Mistake) (f : Found) → (noted ms f).unknown ≡ or_else f.unknown (first_unknown ms)
noted_unknown [] f = none f.unknown where
  none : {A : Type 0} (x : Option A) → x ≡ or_else x None
  none None = refl
  none (Some x) = refl
noted_unknown (Unknown line ∷ ms) f = noted_unknown ms (note (Unknown line) f) ∙ first f.unknown where
  first : (x : Option ℕ) → or_else (or_first x line) (first_unknown ms) ≡ or_else x (Some line)
  first None = refl
  first (Some y) = refl
noted_unknown (Twice name ∷ ms) f = noted_unknown ms (note (Twice name) f)
noted_unknown (NotScalar line ∷ ms) f = noted_unknown ms (note (NotScalar line) f)

pub noted_other : (ms : List Mistake) (f : Found) → (noted ms f).not_scalar ≡ or_else f.not_scalar (first_not_scalar ms)
noted_other [] f = none f.not_scalar where
  none : {A : Type 0} (x : Option A) → x ≡ or_else x None
  none None = refl
  none (Some x) = refl
noted_other (NotScalar line ∷ ms) f = noted_other ms (note (NotScalar line) f) ∙ first f.not_scalar where
  first : (x : Option ℕ) → or_else (or_first x line) (first_not_scalar ms) ≡ or_else x (Some line)
  first None = refl
  first (Some y) = refl
noted_other (Twice name ∷ ms) f = noted_other ms (note (Twice name) f)
noted_other (Unknown line ∷ ms) f = noted_other ms (note (Unknown line) f)

-- what decides of what was found decides of the mistakes
pub decided : (ms : List Mistake) → fault_of_found (noted ms nothing_found) ≡ fault_of ms
decided ms = rw (noted_twice ms nothing_found, noted_unknown ms nothing_found, noted_other ms nothing_found) refl
