-- Deeds about the cells of a program can be done to its memories.
use Rattle.std.proofs.Common.{◌≡◌, ◌∙◌, ℕ, ◌<◌, List, length, slice_index_or, subst, sym, ap}
use Rattle.std.proofs.lemmas.List.{length-map}
use Rattle.std.proofs.lemmas.List.Elements.{All-weaker}
use Rattle.std.specs.Prelude.{All, ℤ}
use Rattle.trick_event.specs.Deeds.{CanDo, CanDoLists}
use Rattle.trick_phase_jobs.specs.Belongs.{IsMemoryOf}
use Rattle.trick_lang.specs.Effect.{scalars_of}
use Rattle.trick_lang.specs.Wrap.{IsInRange}
use Rattle.trick_lang.specs.declared.program.Program.{Program}
use Rattle.trick_lang.specs.declared.scalar.Scalar.{Scalar}
use Rattle.trick_lang.specs.declared.variable.Variable.{Variable}
use Rattle.trick_model.specs.Names.{Names}
use Rattle.trick_model.specs.Valid.{AreDeedsAmong, IsDeedAmong, cell_names}
use Rattle.trick_model.specs.declared.deed.Deed.{Deed}
use Rattle.trick_model.specs.declared.deed.Deed.TheVariants.{SetCell, SetJob, Freeze, Stop, Checkpoint, SetGroup, SetEvent}

module _ (p : Program) (names : Names) (cells : names.cells ≡ cell_names p.cells) (types : names.scalars ≡ scalars_of p.cells)
    (numbers : List ℤ) (scalars : List Scalar) (is : IsMemoryOf p numbers scalars) where
  as_many : length names.cells ≡ length numbers
  as_many = ap (λ (ns : List (List ℕ)). length ns) cells ∙ length-map p.cells (λ (v : Variable). v.name) ∙ sym is.as_many

  pub can_do : (deed : Deed) → IsDeedAmong names deed → CanDo (length numbers) scalars deed
  can_do (SetCell cell number) among = (
    subst (λ (n : ℕ). cell.0 < n) as_many among.0,
    subst (λ (ts : List Scalar). IsInRange ts cell.0 number) (types ∙ sym is.of_types) among.1,
  )
  can_do (SetJob job on) among = tt
  can_do Freeze among = tt
  can_do (Stop at) among = among
  can_do Checkpoint among = tt
  can_do (SetGroup group on) among = tt
  can_do (SetEvent event on) among = tt

  pub can_do_all : (deeds : List Deed) → All (IsDeedAmong names) deeds → All (CanDo (length numbers) scalars) deeds
  can_do_all deeds all = All-weaker (IsDeedAmong names) (CanDo (length numbers) scalars) can_do deeds all

  pub can_do_lists : (lists : List (ℕ × List Deed)) → AreDeedsAmong names lists → CanDoLists (length numbers) scalars lists
  can_do_lists lists all =
      All-weaker (λ (numbered : ℕ × List Deed). All (IsDeedAmong names) numbered.1)
      (λ (numbered : ℕ × List Deed). All (CanDo (length numbers) scalars) numbered.1)
      (λ numbered. can_do_all numbered.1) lists all

-- what can be done to a memory can be done to one of as many cells and the same types
pub same_can : (n m : ℕ) (scalars types : List Scalar) (P : ℕ → List Scalar → Type 0) → m ≡ n → types ≡ scalars → P n scalars → P m types
same_can n m scalars types P many same can = subst (λ (k : ℕ). P k types) (sym many) (subst (P n) (sym same) can)
