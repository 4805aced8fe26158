-- Names that are known, and their places.
use Rattle.std.proofs.Common.{◌≡◌, ◌∙◌, ◌+◌, ◌∷◌, [], ℕ, zero, suc, ℤ, Bool, true, false, List, Option, Some, None, drop, slice_get, refl, sym, subst, ap, add-zero, arith, if◌then◌else◌}
use Rattle.std.specs.Prelude.{option_map}
use Rattle.std.specs.Str.{bytes_eq}
use Rattle.trick_plan_draft.specs.Cells.{AreNumbered, numbered, only_names, with_objects, with_object}
use Rattle.trick_plan_draft.specs.declared.cells.KnownCells.{KnownCells}
use Rattle.trick_lang.specs.SyntaxTree.{Name}
use Rattle.trick_lang.specs.declared.cells.Cell.{Cell}
use Rattle.trick_lang.specs.declared.object.Object.{Object}
use Rattle.trick_model.specs.Names.{find_name, one_more, set_in_range}
use Rattle.trick_check_names.specs.Names.{Names, meaning_of}

-- ---- places of names

-- a place counted from k on
abbrev pub from : ℕ → Option ℕ → Option ℕ
from k None = None
from k (Some j) = Some (k + j)

from_next : (k : ℕ) (o : Option ℕ) → from (suc k) o ≡ from k (one_more o)
from_next k None = refl
from_next k (Some j) = ap (λ (n : ℕ). Some n) (omega arith)

pub from_first : (o : Option ℕ) → from 0 o ≡ o
from_first None = refl
from_first (Some j) = ap (λ (n : ℕ). Some n) (omega arith)

-- ---- places of names, one after another

from_known : (names : Names ℕ) (at : ℕ) (known : Name × ℕ) → slice_get names at ≡ Some known
    → only_names (drop at names) ≡ known.0 ∷ only_names (drop (at + 1) names)
from_known [] at known h = cc h
from_known (other ∷ names) zero known h =
    let is : other ≡ known = cc h in ap (λ (k : Name × ℕ). k.0 ∷ only_names names) is
from_known (other ∷ names) (suc at) known h =
    let one : suc at + 1 ≡ suc (at + 1) = omega arith in
    subst (λ (n : ℕ). only_names (drop at names) ≡ known.0 ∷ only_names (drop n (other ∷ names))) (sym one)
    (from_known names at known h)

module _ (name : Name) (names : Names ℕ) (at : ℕ) (known : Name × ℕ) (here : slice_get names at ≡ Some known) where
  -- the name stands here
  pub this_place : bytes_eq name known.0 ≡ true → Some at ≡ from at (find_name name (only_names (drop at names)))
  this_place same =
      ap (λ (n : ℕ). Some n) (sym (add-zero at))
      ∙ sym (ap (λ (ns : List Name). from at (find_name name ns)) (from_known names at known here)
      ∙ ap (λ (b : Bool). from at (elim b [ true ↦ Some 0 | false ↦ one_more (find_name name (only_names (drop (at + 1) names))) ])) same)

  -- it stands later, if at all
  pub next_place : bytes_eq name known.0 ≡ false
      → from (at + 1) (find_name name (only_names (drop (at + 1) names))) ≡ from at (find_name name (only_names (drop at names)))
  next_place other =
      let rest = find_name name (only_names (drop (at + 1) names)) in
      let one : at + 1 ≡ suc at = omega arith in
      ap (λ (n : ℕ). from n rest) one ∙ (from_next at rest
      ∙ sym (ap (λ (ns : List Name). from at (find_name name ns)) (from_known names at known here)
      ∙ ap (λ (b : Bool). from at (elim b [ true ↦ Some 0 | false ↦ one_more rest ])) other))

abbrev pub number_of : Cell → ℕ
number_of cell = cell.0

found_numbered : (name : Name) (k : ℕ) (names : List Name) → option_map number_of (meaning_of name (numbered k names))
    ≡ from k (find_name name names)
found_numbered name k [] = refl
found_numbered name k (other ∷ others) = by (bytes_eq name other) (found_numbered name (suc k) others)
  where
    by : (b : Bool) → option_map number_of (meaning_of name (numbered (suc k) others))
        ≡ from (suc k) (find_name name others)
        → option_map number_of (if b then Some (record { 0 = k }) else meaning_of name (numbered (suc k) others))
        ≡ from k (elim b [ true ↦ Some 0 | false ↦ one_more (find_name name others) ])
    by true same = ap (λ (n : ℕ). Some n) (sym (add-zero k))
    by false same = same ∙ from_next k (find_name name others)

-- the number of a cell is the place of its name
pub number_is_place : (name : Name) (known : KnownCells) → AreNumbered known
    → option_map number_of (meaning_of name known.names) ≡ find_name name (only_names known.names)
number_is_place name known numbers =
    ap (λ (names : Names Cell). option_map number_of (meaning_of name names)) numbers
    ∙ (found_numbered name 0 (only_names known.names) ∙ from_first (find_name name (only_names known.names)))

-- ---- numbers that cells can get

-- what the setting of a cell of this name asks for
pub cell_place : (known : KnownCells) (name : Name) (number : ℤ) (cell : Cell) → AreNumbered known
    → meaning_of name known.names ≡ Some cell
    → set_in_range known.scalars number (Some cell.0)
    ≡ set_in_range known.scalars number (find_name name (only_names known.names))
cell_place known name number cell numbers is =
    ap (λ (o : Option ℕ). set_in_range known.scalars number o)
    (sym (ap (option_map number_of) is) ∙ number_is_place name known numbers)

-- there is no cell of this name
pub none_set : (known : KnownCells) (name : Name) (number : ℤ) → AreNumbered known → meaning_of name known.names ≡ None
    → None ≡ set_in_range known.scalars number (find_name name (only_names known.names))
none_set known name number numbers is =
    ap (λ (o : Option ℕ). set_in_range known.scalars number o)
    (sym (ap (option_map number_of) is) ∙ number_is_place name known numbers)

-- ---- objects

-- objects add no cells
pub no_cell_more : (objects : List Object) (known : KnownCells) → (with_objects objects known).scalars ≡ known.scalars
no_cell_more [] known = refl
no_cell_more (object ∷ objects) known = no_cell_more objects (with_object object known)
