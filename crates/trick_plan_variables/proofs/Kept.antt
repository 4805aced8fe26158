-- What a program keeps with the cells of a declaration.
use Rattle.std.proofs.Common.{◌≡◌, ◌∙◌, ◌+◌, ◌*◌, ◌-◌, ◌^◌, ◌≤◌, ◌++◌, ◌∷◌, [], ℕ, zero, suc, min, List, Bool, true, false, length, refl, sym, ap, ap₂, subst, arith, if◌then◌else◌}
use Rattle.std.proofs.Math.Nat.{suc-mul}
use Rattle.std.proofs.lemmas.Bool.{or_parts}
use Rattle.std.proofs.lemmas.List.{length-append, length-map}
use Rattle.std.specs.List.{list_any}
use Rattle.std.specs.Str.{bytes_eq}
use Rattle.trick_plan_variables.proofs.Apart.{all_of_both}
use Rattle.trick_plan_variables.proofs.Declared.{cells_of_plain}
use Rattle.trick_plan_variables.proofs.More.{lie_in_more, objects_stand_more}
use Rattle.trick_plan_variables.proofs.Names.{cell, stay_apart}
use Rattle.trick_plan_variables.specs.Cells.{begins_with, cells_of, count_of, element, elements, full_names, is_taken, row_elements, total}
use Rattle.trick_plan_variables.specs.declared.declaration.Declaration.{Declaration}
use Rattle.trick_lang.proofs.Plain.{spelled_plain}
use Rattle.trick_lang.specs.Names.{are_apart, are_plain_cells, is_plain, is_spelled, of_one_name}
use Rattle.trick_lang.specs.Valid.{lie_in, objects_stand}
use Rattle.trick_lang.specs.declared.object.Object.{Object}
use Rattle.trick_lang.specs.declared.program.Program.{Program}
use Rattle.trick_lang.specs.declared.variable.Variable.{Variable}

-- ---- how many cells there are

length_elements : (name : List ℕ) (n : ℕ) → length (elements name n) ≡ n
length_elements name zero = refl
length_elements name (suc n) =
    length-append (elements name n) (element name n ∷ []) ∙ (ap (λ (k : ℕ). k + 1) (length_elements name n) ∙ omega arith)

length_rows : (name : List ℕ) (n m : ℕ) → length (row_elements name n m) ≡ n * m
length_rows name zero m = omega arith
length_rows name (suc n) m =
    length-append (row_elements name n m) (elements (element name n) m)
    ∙ (ap₂ (λ (a b : ℕ). a + b) (length_rows name n m) (length_elements (element name n) m) ∙ sym (suc-mul n m))

length_names : (name : List ℕ) (lengths : List ℕ) → length (full_names name lengths) ≡ count_of lengths
length_names name [] = refl
length_names name (n ∷ []) = length_elements name n
length_names name (n ∷ m ∷ more) = length_rows name n m

pub length_cells : (d : Declaration) → length (cells_of d) ≡ count_of d.lengths
length_cells d = length-map (full_names d.name d.lengths) (cell d.scalar) ∙ length_names d.name d.lengths

-- ---- what a program keeps

-- what a program keeps of its cells
pub record HasCells (p : Program) (cells : List Variable) : Type 0 where
  pub cell_names : are_apart of_one_name cells ≡ true
  pub plain_cells : are_plain_cells cells ≡ true
  pub in_cells : lie_in (length cells) p.sizes p.blocks ≡ true
  pub object_cells : objects_stand (length cells) p.sizes p.objects ≡ true
  pub cell_limit : length cells ≤ 65536

counted : (a count : ℕ) → min (a + count) (2 ^ 64 - 1) ≤ 65536 → a + count ≤ 65536
counted a count h = omega (arith, h)

pub kept : (p : Program) (d : Declaration) → is_spelled d.name ≡ true → is_taken d.name p.objects p.cells ≡ false → total d.lengths p.cells ≤ 65536
    → HasCells p (p.cells ++ cells_of d)
kept p d spelled free few =
    let fits : length p.cells + count_of d.lengths ≤ 65536 = counted (length p.cells) (count_of d.lengths) few in
    let size : length (p.cells ++ cells_of d) ≡ length p.cells + count_of d.lengths =
    length-append p.cells (cells_of d) ∙ ap (λ (n : ℕ). length p.cells + n) (length_cells d) in
    let more : length p.cells ≤ length (p.cells ++ cells_of d) = omega (arith, size) in
    let parts = or_parts (list_any (λ (object : Object). bytes_eq object.name d.name) p.objects) (list_any (begins_with d.name) p.cells) free in
    record {
      cell_names = stay_apart p.cells d (omega (arith, fits)) parts.1 p.cell_names;
      plain_cells = all_of_both (λ cell. is_plain cell.name) p.cells (cells_of d) p.plain_cells (cells_of_plain d (spelled_plain d.name spelled));
      in_cells = lie_in_more (length p.cells) (length (p.cells ++ cells_of d)) more p.sizes p.blocks p.in_cells;
      object_cells = objects_stand_more (length p.cells) (length (p.cells ++ cells_of d)) more p.sizes p.objects p.object_cells;
      cell_limit = omega (arith, size, fits);
    }

pub own : (p : Program) → HasCells p p.cells
own p = record {
  cell_names = p.cell_names;
  plain_cells = p.plain_cells;
  in_cells = p.in_cells;
  object_cells = p.object_cells;
  cell_limit = p.cell_limit;
}

-- with the cells of the declaration, or without
pub either_way : (p : Program) (cells more : List Variable) (ok : Bool) → cells ≡ (if ok then p.cells ++ more else p.cells) → HasCells p (p.cells ++ more)
    → HasCells p cells
either_way p cells more true is room = subst (HasCells p) (sym is) room
either_way p cells more false is room = subst (HasCells p) (sym is) (own p)
