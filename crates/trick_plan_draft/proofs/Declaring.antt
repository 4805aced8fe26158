-- A declaration in the program and in the draft.
use Rattle.std.proofs.Common.{◌≡◌, ◌∙◌, ◌+◌, ◌-◌, ◌≤◌, ◌++◌, ◌∷◌, [], ℕ, suc, Bool, true, false, nat_lt, List, Some, Ok, Err, length, length-drop, drop, take, refl, sym, ap, add-zero, zero-add, arith}
use Rattle.std.proofs.Math.Seq.{drop-append_seam}
use Rattle.std.proofs.lemmas.List.{take_rest}
use Rattle.trick_plan_variables.specs.Cells.{cells_of, count_of, is_taken}
use Rattle.trick_plan_variables.specs.declared.declaration.Declaration.{Declaration}
use Rattle.trick_plan_draft.proofs.Known.{no_cell_more}
use Rattle.trick_plan_draft.proofs.Taken.{taken_is}
use Rattle.trick_plan_draft.specs.Cells.{is_taken_in, known_cells, no_cells, with_cell, with_cells, with_objects}
use Rattle.trick_plan_draft.specs.Kept.{Mirrors}
use Rattle.trick_plan_draft.specs.Lines.{Did, declare_line, unless}
use Rattle.trick_plan_draft.specs.Seen.{AddsDeclared}
use Rattle.trick_plan_draft.specs.declared.cells.KnownCells.{KnownCells}
use Rattle.trick_plan_draft.specs.declared.draft.Draft.{Draft}
use Rattle.trick_plan_draft.specs.declared.fault.LineFault.{LineFault}
use Rattle.trick_plan_draft.specs.declared.fault.LineFault.TheVariants as fault
use Rattle.trick_lang.specs.SyntaxTree.{Name}
use Rattle.trick_lang.specs.declared.object.Object.{Object}
use Rattle.trick_lang.specs.declared.program.Program.{Program}
use Rattle.trick_lang.specs.declared.scalar.Scalar.{Scalar}
use Rattle.trick_lang.specs.declared.variable.Variable.{Variable}

-- ---- tests

none_holds : (t u : Bool) (f g : LineFault) (d : Draft) → t ≡ false → u ≡ false → unless ((t, f) ∷ (u, g) ∷ []) d ≡ Ok d
none_holds true u f g d h e = cc h
none_holds false true f g d h e = cc e
none_holds false false f g d h e = refl

second_holds : (t u : Bool) (f g : LineFault) (d : Draft) → t ≡ false → u ≡ true → unless ((t, f) ∷ (u, g) ∷ []) d
    ≡ Err g
second_holds true u f g d h e = cc h
second_holds false true f g d h e = refl
second_holds false false f g d h e = cc e

module _ (d : Draft) (declared : Declaration) (free : is_taken_in d.cells declared.name ≡ false) where
  abbrev taken : Bool
  taken = is_taken_in d.cells declared.name

  abbrev over : Bool
  over = nat_lt 65536 (length d.cells.scalars + count_of declared.lengths)

  abbrev after : Draft
  after = record d { cells = with_cells (cells_of declared) d.cells }

  pub says_more : over ≡ false → (known : KnownCells) → known ≡ with_cells (cells_of declared) d.cells
      → declare_line (Some declared) d ≡ Ok (record d { cells = known })
  says_more few known is =
      none_holds taken over fault.TwiceNamed (fault.TooMany 65536) after free few
      ∙ ap (λ (cells : KnownCells). Ok (record d { cells = cells })) (sym is)

  pub says_too_many : over ≡ true → declare_line (Some declared) d ≡ Err (fault.TooMany 65536)
  says_too_many many = second_holds taken over fault.TwiceNamed (fault.TooMany 65536) after free many

  many_is : (cells : List Variable) → length d.cells.scalars ≡ length cells
      → nat_lt 65536 (length cells + count_of declared.lengths) ≡ true → over ≡ true
  many_is cells same many = ap (λ (n : ℕ). nat_lt 65536 (n + count_of declared.lengths)) same ∙ many

  -- a program that does not take the declaration refuses the line
  pub says_refused : (refused : LineFault) (old new : List Variable) (end : Draft) → length d.cells.scalars ≡ length old
      → AddsDeclared (Err refused) old new declared → Did (Err refused) end (declare_line (Some declared) d)
  says_refused fault.OutOfMemory old new end same is = tt
  says_refused (fault.TooMany limit) old new end same is =
      says_too_many (many_is old same is.1) ∙ ap (λ (n : ℕ). Err (fault.TooMany n)) (sym is.0)
  says_refused refused old new end same is = absurd is

-- ---- cells

with_both : (cells more : List Variable) (known : KnownCells) → with_cells (cells ++ more) known
    ≡ with_cells more (with_cells cells known)
with_both [] more known = refl
with_both (cell ∷ cells) more known = with_both cells more (with_cell cell known)

typed : (cells : List Variable) (known : KnownCells) → length (with_cells cells known).scalars
    ≡ length known.scalars + length cells
typed [] known = sym (add-zero (length known.scalars))
typed (cell ∷ cells) known =
    typed cells (with_cell cell known)
    ∙ (ap (λ (n : ℕ). n + length cells) (one_longer known.scalars cell.scalar)
    ∙ sym (moved (length known.scalars) (length cells)))
  where
    moved : (n m : ℕ) → n + suc m ≡ suc n + m
    moved n m = omega arith

    one_longer : (xs : List Scalar) (x : Scalar) → length (xs ++ x ∷ []) ≡ suc (length xs)
    one_longer [] x = refl
    one_longer (y ∷ ys) x = ap suc (one_longer ys x)

-- there are as many types as cells
pub as_many_cells : (p : Program) (d : Draft) → Mirrors p d → length d.cells.scalars ≡ length p.cells
as_many_cells p d mirrors =
    let first = with_objects p.objects no_cells in
    ap (λ (known : KnownCells). length known.scalars) mirrors
    ∙ (typed p.cells first
    ∙ (ap (λ (scalars : List Scalar). length scalars + length p.cells) (no_cell_more p.objects no_cells)
    ∙ zero-add (length p.cells)))

-- a name that is free in the draft is free in the program
pub free_in : (p : Program) (d : Draft) (name : Name) → Mirrors p d → is_taken_in d.cells name ≡ false
    → is_taken name p.objects p.cells ≡ false
free_in p d name mirrors free =
    sym (taken_is name p.objects p.cells) ∙ (ap (λ (known : KnownCells). is_taken_in known name) (sym mirrors) ∙ free)

-- the draft knows the cells of a program with more
pub mirrors_more : (p q : Program) (d : Draft) (more : List Variable) → Mirrors p d → q.objects ≡ p.objects → q.cells
    ≡ p.cells ++ more
    → with_cells more d.cells ≡ known_cells q.objects q.cells
mirrors_more p q d more mirrors objects cells =
    let first = with_objects p.objects no_cells in
    ap (with_cells more) mirrors
    ∙ (sym (with_both p.cells more first)
    ∙ (ap (λ (all : List Variable). with_cells all first) (sym cells)
    ∙ ap (λ (os : List Object). known_cells os q.cells) (sym objects)))

-- ---- the cells of a declaration in the program

-- there is room for the cells after the first so many
pub room_left : (known count : ℕ) (cells : List Variable) → known ≡ count → count ≤ 65536 → length cells ≤ 65536
    → known + length (take (length cells - count) (drop count cells)) ≤ 65536
room_left known count cells same few all =
    let size : length (take (length cells - count) (drop count cells)) ≡ length cells - count =
    ap (λ (rest : List Variable). length rest) (take_rest cells count) ∙ length-drop count cells in
    omega (arith, size, same, few, all)

-- they are those that were added
pub added_cells : (old new cells more : List Variable) (count : ℕ) → cells ≡ new → count ≡ length old → new ≡ old
    ++ more
    → take (length cells - count) (drop count cells) ≡ more
added_cells old new cells more count is counted added =
    take_rest cells count
    ∙ (ap (λ (k : ℕ). drop k cells) counted
    ∙ (ap (λ (all : List Variable). drop (length old) all) (is ∙ added) ∙ drop-append_seam old more))
