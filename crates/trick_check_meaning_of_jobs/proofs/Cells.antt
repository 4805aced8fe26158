-- Cells by their full names, and what was stored in them.
use Rattle.std.proofs.Common.{◌≡◌, ℕ, zero, suc, ℤ, pos, Bool, true, false, not, if◌then◌else◌, List, [], ◌∷◌, length, replicate, Option, None, refl, ap, sym, ◌∙◌, subst, arith}
use Rattle.std.proofs.lemmas.Bool.{and_parts}
use Rattle.std.specs.List.{list_all, slice_index_or}
use Rattle.std.specs.Str.{bytes_eq}
use Rattle.trick_base.proofs.ListLemmas.{own_bytes, same_bytes}
use Rattle.trick_lang.specs.Names.{are_apart, of_one_name}
use Rattle.trick_lang.specs.SyntaxTree.{Name}
use Rattle.trick_lang.specs.declared.variable.Variable.{Variable}
use Rattle.trick_check_meaning.specs.Meaning.{Stored}
use Rattle.trick_check_meaning_kept.proofs.Cells.{IsAt, is_at}
use Rattle.trick_check_meaning_of_jobs.specs.Jobs.{by_cell, number_named}
use Rattle.trick_check_names.specs.Names.{meaning_of}
use Rattle.trick_check_bodies.specs.Named.{IsNamed}

-- ---- a cell with a name

abbrev cell_of : (cells : List Variable) (cell : ℕ) (full : Name) → IsNamed cells cell full → Variable
cell_of cells cell full is = record { name = full; scalar = is.scalar }

at_cell : (cells : List Variable) (cell : ℕ) (full : Name) → (is : IsNamed cells cell full)
    → IsAt cells cell (cell_of cells cell full is)
at_cell cells cell full is = is_at cells cell (record { name = full; scalar = is.scalar }) is.here

first_named : (v : Variable) (vs : List Variable) → IsNamed (v ∷ vs) 0 v.name
first_named v vs = record { scalar = v.scalar; here = record { before = []; behind = vs; is = refl; at = refl } }

next_named : (v : Variable) (vs : List Variable) (cell : ℕ) (full : Name) → IsNamed vs cell full
    → IsNamed (v ∷ vs) (suc cell) full
next_named v vs cell full is = record {
  scalar = is.scalar;
  here = record {
    before = v ∷ is.here.before;
    behind = is.here.behind;
    is = ap
        (λ q. v ∷ q) is.here.is;
    at = ap suc is.here.at;
  };
}

-- ---- numbers by name

-- another cell has another name
passes : (p : Variable → Bool) (cells : List Variable) (cell : ℕ) (v : Variable) → list_all p cells ≡ true
    → IsAt cells cell v → p v ≡ true
passes p [] cell v h at = absurd at
passes p (u ∷ us) zero v h at = subst (λ q. p q ≡ true) at (and_parts (p u) (list_all p us) h).0
passes p (u ∷ us) (suc cell) v h at = passes p us cell v (and_parts (p u) (list_all p us) h).1 at

not_alike : (u v : Variable) → not (of_one_name u v) ≡ true → bytes_eq v.name u.name ≡ false
not_alike u v h = by (bytes_eq v.name u.name) refl where
  by : (b : Bool) → bytes_eq v.name u.name ≡ b → b ≡ false
  by false e = refl
  by true e =
      let same : bytes_eq u.name v.name ≡ true = subst (λ q. bytes_eq u.name q ≡ true) (sym (same_bytes v.name u.name e))
      (own_bytes u.name) in
      let no : not true ≡ true = subst (λ b. not b ≡ true) same h in
      absurd (cc no)

number_at : (cells : List Variable) (numbers : List ℤ) (cell : ℕ) (v : Variable) → are_apart of_one_name cells ≡ true
    → IsAt cells cell v → slice_index_or numbers cell (pos 0) ≡ number_named cells numbers v.name
number_at [] numbers cell v apart at = absurd at
number_at (u ∷ us) [] zero v apart at = refl
number_at (u ∷ us) [] (suc cell) v apart at = refl
number_at (u ∷ us) (n ∷ ns) zero v apart at =
    sym (ap (λ b. if b then n else number_named us ns v.name)
    (subst (λ (q : Variable). bytes_eq v.name q.name ≡ true) (sym at) (own_bytes v.name)))
number_at (u ∷ us) (n ∷ ns) (suc cell) v apart at =
    let parts = and_parts (list_all (λ y. not (of_one_name u y)) us) (are_apart of_one_name us) apart in
    let other = not_alike u v (passes (λ y. not (of_one_name u y)) us cell v parts.0 at) in
    number_at us ns cell v parts.1 at ∙ sym (ap (λ b. if b then n else number_named us ns v.name) other)

pub number_is : (cells : List Variable) (numbers : List ℤ) (cell : ℕ) (full : Name) → are_apart of_one_name cells ≡ true
    → IsNamed cells cell full → slice_index_or numbers cell (pos 0) ≡ number_named cells numbers full
number_is cells numbers cell full apart is =
    number_at cells numbers cell (cell_of cells cell full is) apart (at_cell cells cell full is)

-- ---- what was stored

pub nothing_stored : (n cell : ℕ) → slice_index_or (replicate n (let none : Option ℤ = None in none)) cell None ≡ None
nothing_stored zero cell = refl
nothing_stored (suc n) zero = refl
nothing_stored (suc n) (suc cell) = nothing_stored n cell

pub stored_is : (cells : List Variable) (found : List (Option ℤ)) (stored : Stored) → length found ≡ length cells
    → ((cell : ℕ) (full : Name) → IsNamed cells cell full → slice_index_or found cell None ≡ meaning_of full stored)
    → found ≡ by_cell cells stored
stored_is [] [] stored many same = refl
stored_is [] (z ∷ found) stored many same = absurd (omega (arith, many))
stored_is (v ∷ vs) [] stored many same = absurd (omega (arith, many))
stored_is (v ∷ vs) (z ∷ found) stored many same =
    let first : z ≡ meaning_of v.name stored = same 0 v.name (first_named v vs) in
    let rest : found ≡ by_cell vs stored = stored_is vs found stored (omega (arith, many))
    (λ cell full is. same (suc cell) full (next_named v vs cell full is)) in
    ap (λ q. q ∷ found) first ∙ ap (λ q. meaning_of v.name stored ∷ q) rest
