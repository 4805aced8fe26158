-- The cells of a program, as a draft knows them.
use Rattle.std.proofs.Common.{◌≡◌, ◌∙◌, ◌<◌, ◌++◌, ◌∷◌, [], ℕ, zero, suc, Bool, true, false, not, List, Option, Some, None, is_some, length, refl, sym, ap, subst, arith, append_assoc, append-nil, if◌then◌else◌}
use Rattle.std.proofs.lemmas.Bool.{and_parts}
use Rattle.std.proofs.lemmas.Slice.Eq.{bytes_eq-Decides}
use Rattle.std.specs.List.{list_all}
use Rattle.std.specs.Prelude.{option_map}
use Rattle.std.specs.Str.{bytes_eq}
use Rattle.trick_plan_draft.proofs.Known.{no_cell_more, number_is_place, number_of}
use Rattle.trick_plan_draft.specs.Cells.{no_cells, numbered, only_names, with_cell, with_cells, with_object, with_objects}
use Rattle.trick_plan_draft.specs.Kept.{AreCells, IsMirrored, Mirrors}
use Rattle.trick_plan_draft.specs.declared.cells.KnownCells.{KnownCells}
use Rattle.trick_plan_draft.specs.declared.draft.Draft.{Draft}
use Rattle.trick_lang.specs.Effect.{scalars_of}
use Rattle.trick_lang.specs.Names.{are_apart, of_one_name}
use Rattle.trick_lang.specs.SyntaxTree.{Name}
use Rattle.trick_lang.specs.declared.cells.Cell.{Cell}
use Rattle.trick_lang.specs.declared.object.Object.{Object}
use Rattle.trick_lang.specs.declared.program.Program.{Program}
use Rattle.trick_lang.specs.declared.scalar.Scalar.{Scalar}
use Rattle.trick_lang.specs.declared.variable.Variable.{Variable}
use Rattle.trick_model.specs.Names.{find_name, one_more}
use Rattle.trick_model.specs.Valid.{cell_names}
use Rattle.trick_check_names.specs.Names.{Names, meaning_of}

-- ---- names that are not known

-- bytes that differ, the other way round
pub differ_back : (a b : List ℕ) → not (bytes_eq a b) ≡ true → bytes_eq b a ≡ false
differ_back a b h = by (bytes_eq b a) refl
  where
    by : (r : Bool) → bytes_eq b a ≡ r → r ≡ false
    by true e =
        let same : a ≡ b = sym ((bytes_eq-Decides b a).0 e) in
        let no : not true ≡ true = subst (λ (r : Bool). not r ≡ true) ((bytes_eq-Decides a b).1 same) h in
        cc no
    by false e = refl

pub meaning_behind : {T : Type 0} (name : Name) (xs ys : Names T) → meaning_of name xs ≡ None
    → meaning_of name (xs ++ ys) ≡ meaning_of name ys
meaning_behind name [] ys h = refl
meaning_behind name (x ∷ xs) ys h = by (bytes_eq name x.0) h (meaning_behind name xs ys)
  where
    by : (b : Bool) → (if b then Some x.1 else meaning_of name xs) ≡ None
        → (meaning_of name xs ≡ None → meaning_of name (xs ++ ys) ≡ meaning_of name ys)
        → (if b then Some x.1 else meaning_of name (xs ++ ys)) ≡ meaning_of name ys
    by true h rest = cc h
    by false h rest = rest h

-- no cell has a known name
abbrev pub AreNew : List Variable → Names Cell → Type 0
AreNew [] names = Unit {0}
AreNew (cell ∷ cells) names = (meaning_of cell.name names ≡ None) × AreNew cells names

none_known : (cells : List Variable) → AreNew cells []
none_known [] = tt
none_known (cell ∷ cells) = (refl, none_known cells)

still_new : (cells : List Variable) (names : Names Cell) (first : Variable) (number : Cell)
    → list_all (λ y. not (of_one_name first y)) cells ≡ true
    → AreNew cells names → AreNew cells (names ++ (first.name, number) ∷ [])
still_new [] names first number apart new = tt
still_new (cell ∷ cells) names first number apart new =
    let parts = and_parts (not (of_one_name first cell)) (list_all (λ y. not (of_one_name first y)) cells) apart in
    let other : bytes_eq cell.name first.name ≡ false = differ_back first.name cell.name parts.0 in (
      meaning_behind cell.name names ((first.name, number) ∷ []) new.0
          ∙ ap (λ (b : Bool). if b then Some number else None) other,
      still_new cells names first number parts.1 new.1,
    )

-- ---- cells one by one

one_longer : {T : Type 0} (xs : List T) (x : T) → length (xs ++ x ∷ []) ≡ suc (length xs)
one_longer [] x = refl
one_longer (y ∷ ys) x = ap suc (one_longer ys x)

pub scalars_known : (cells : List Variable) (known : KnownCells) → (with_cells cells known).scalars ≡ known.scalars
    ++ scalars_of cells
scalars_known [] known = sym (append-nil known.scalars)
scalars_known (cell ∷ cells) known =
    scalars_known cells (with_cell cell known) ∙ append_assoc known.scalars (cell.scalar ∷ []) (scalars_of cells)

names_known : (cells : List Variable) (known : KnownCells) → are_apart of_one_name cells ≡ true
    → AreNew cells known.names
    → (with_cells cells known).names ≡ known.names ++ numbered (length known.scalars) (cell_names cells)
names_known [] known apart new = sym (append-nil known.names)
names_known (cell ∷ cells) known apart new =
    let n = length known.scalars in
    let parts = and_parts (list_all (λ y. not (of_one_name cell y)) cells) (are_apart of_one_name cells) apart in
    let number : Cell = record { 0 = n } in
    let more : Names Cell = known.names ++ (cell.name, number) ∷ [] in
    let added : (with_cell cell known).names ≡ more =
    ap (λ (b : Bool). if b then known.names else more) (ap is_some new.0) in
    let fresh : AreNew cells more = still_new cells known.names cell number parts.0 new.1 in
    names_known cells (with_cell cell known) parts.1 (subst (AreNew cells) (sym added) fresh)
    ∙ (ap (λ (names : Names Cell). names ++ numbered (length (known.scalars ++ cell.scalar ∷ [])) (cell_names cells))
    added
    ∙ (ap (λ (k : ℕ). more ++ numbered k (cell_names cells)) (one_longer known.scalars cell.scalar)
    ∙ append_assoc known.names ((cell.name, number) ∷ []) (numbered (suc n) (cell_names cells))))

-- ---- the cells of a program

no_name_more : (objects : List Object) (known : KnownCells) → (with_objects objects known).names ≡ known.names
no_name_more [] known = refl
no_name_more (object ∷ objects) known = no_name_more objects (with_object object known)

names_of_numbered : (k : ℕ) (names : List Name) → only_names (numbered k names) ≡ names
names_of_numbered k [] = refl
names_of_numbered k (name ∷ names) = ap (λ (ns : List Name). name ∷ ns) (names_of_numbered (suc k) names)

as_many : (k : ℕ) (cells : List Variable) → length (numbered k (cell_names cells)) ≡ length (scalars_of cells)
as_many k [] = refl
as_many k (cell ∷ cells) = ap suc (as_many (suc k) cells)

pub mirrored : (p : Program) (d : Draft) → Mirrors p d → IsMirrored p d
mirrored p d mirrors =
    let first = with_objects p.objects no_cells in
    let no_names : first.names ≡ [] = no_name_more p.objects no_cells in
    let no_scalars : first.scalars ≡ [] = no_cell_more p.objects no_cells in
    let new : AreNew p.cells first.names = subst (AreNew p.cells) (sym no_names) (none_known p.cells) in
    let scalars : d.cells.scalars ≡ scalars_of p.cells =
    ap (λ (known : KnownCells). known.scalars) mirrors
    ∙ (scalars_known p.cells first ∙ ap (λ (ss : List Scalar). ss ++ scalars_of p.cells) no_scalars) in
    let names : d.cells.names ≡ numbered 0 (cell_names p.cells) =
    ap (λ (known : KnownCells). known.names) mirrors
    ∙ (names_known p.cells first p.cell_names new
    ∙ (ap (λ (ns : Names Cell). ns ++ numbered (length first.scalars) (cell_names p.cells)) no_names
    ∙ ap (λ (ss : List Scalar). numbered (length ss) (cell_names p.cells)) no_scalars)) in
    let only : only_names d.cells.names ≡ cell_names p.cells = ap only_names names
    ∙ names_of_numbered 0 (cell_names p.cells) in
    record {
      cells = record {
        typed = ap length names ∙ (as_many 0 p.cells ∙ sym (ap length scalars));
        numbered = names ∙ sym (ap (numbered 0) only);
      };
      names = only;
      scalars = scalars;
    }

-- ---- a known name is that of a cell

found_there : (name : Name) (names : List Name) (k : ℕ) → find_name name names ≡ Some k → k < length names
found_there name [] k h = cc h
found_there name (other ∷ others) zero h = omega arith
found_there name (other ∷ others) (suc k) h = by (bytes_eq name other) h (found_there name others k)
  where
    behind : (o : Option ℕ) → (o ≡ Some k → k < length others) → one_more o ≡ Some (suc k)
        → suc k < length (other ∷ others)
    behind None rest e = cc e
    behind (Some j) rest e = let there = rest (cc e) in omega (arith, there)

    by : (b : Bool) → elim b as (λ _. Option ℕ) [ true ↦ Some 0 | false ↦ one_more (find_name name others) ]
        ≡ Some (suc k)
        → (find_name name others ≡ Some k → k < length others) → suc k < length (other ∷ others)
    by true e rest = cc e
    by false e rest = behind (find_name name others) rest e

length_names : {T : Type 0} (names : Names T) → length (only_names names) ≡ length names
length_names [] = refl
length_names (name ∷ names) = ap suc (length_names names)

pub cell_there : (known : KnownCells) → AreCells known → (name : Name) (cell : Cell) → meaning_of name known.names
    ≡ Some cell
    → cell.0 < length known.scalars
cell_there known are name cell is =
    let place : find_name name (only_names known.names) ≡ Some cell.0 = sym (number_is_place name known are.numbered)
    ∙ ap (option_map number_of) is in
    subst (λ (n : ℕ). cell.0 < n) (length_names known.names ∙ are.typed)
    (found_there name (only_names known.names) cell.0 place)
