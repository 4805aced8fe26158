-- Laws of what bodies do.
use Rattle.std.specs.Int.{int_rem_euclid}
use Rattle.std.specs.List.{slice_index_or}
use Rattle.std.specs.Prelude.{◌≡◌, ◌≢◌, ◌<◌, ◌≤ℤ◌, ◌↔◌, ℕ, ℤ, pos, negsuc, IsTrue, List, length, Option, Some, None, unwrap_or, Ok}
use Rattle.trick_lang.specs.Access.{is_in, all_reads, block_reads, all_writes, block_writes}
use Rattle.trick_lang.specs.Blocks.{block_at}
use Rattle.trick_lang.specs.Count.{all_steps, block_steps}
use Rattle.trick_lang.specs.Effect.{effect, overwritten, reads, writes, scalars_of}
use Rattle.trick_lang.specs.Locals.{Known, all_know, block_knows}
use Rattle.trick_lang.specs.Run.{State, run_all, block_runs}
use Rattle.trick_lang.specs.Tree.{Code}
use Rattle.trick_lang.specs.Valid.{are_in_order}
use Rattle.trick_lang.specs.Wrap.{wrap, AreInRange, IsOf, IsInRange}
use Rattle.trick_lang.specs.declared.job.JobId.{JobId}
use Rattle.trick_lang.specs.declared.program.Program.{Program}
use Rattle.trick_lang.specs.declared.range.CellRange.{CellRange}
use Rattle.trick_lang.specs.declared.scalar.Scalar.{Scalar}
use Rattle.trick_lang.specs.declared.scalar.Scalar.TheVariants.{Bool, Char, UChar, Short, UShort, Int, UInt, Long}

-- ---- what a store leaves

-- the least number of a type
abbrev pub lowest : Scalar → ℤ
lowest Bool = pos 0
lowest Char = negsuc 127
lowest UChar = pos 0
lowest Short = negsuc 32767
lowest UShort = pos 0
lowest Int = negsuc 2147483647
lowest UInt = pos 0
lowest Long = negsuc 9223372036854775807

-- the greatest number of a type
abbrev pub highest : Scalar → ℤ
highest Bool = pos 1
highest Char = pos 127
highest UChar = pos 255
highest Short = pos 32767
highest UShort = pos 65535
highest Int = pos 2147483647
highest UInt = pos 4294967295
highest Long = pos 9223372036854775807

-- two to the power of a type's bits: a number and the sum of it and this look alike to the type
abbrev pub modulus : Scalar → ℕ
modulus Bool = 2
modulus Char = 256
modulus UChar = 256
modulus Short = 65536
modulus UShort = 65536
modulus Int = 4294967296
modulus UInt = 4294967296
modulus Long = 18446744073709551616

-- the number is in the range of the type
abbrev pub IsBetween : Scalar → ℤ → Type 0
IsBetween scalar n = (lowest scalar ≤ℤ n) × (n ≤ℤ highest scalar)

-- the two leave the same remainder by two to the power of the type's bits
abbrev pub AreAlike : Scalar → ℤ → ℤ → Type 0
AreAlike scalar m n = int_rem_euclid m (pos (modulus scalar)) ≡ int_rem_euclid n (pos (modulus scalar))

-- What `wrap` gives.
pub record WrapsRight : Type 0 where
  -- it is in the range of the type
  pub in_range : (scalar : Scalar) (n : ℤ) → IsBetween scalar (wrap scalar n)
  -- but for bool, it equals the number modulo two to the power of the type's bits
  pub alike : (scalar : Scalar) (n : ℤ) → scalar ≢ Bool → AreAlike scalar (wrap scalar n) n
  -- and no other number of the range does
  pub only : (scalar : Scalar) (m n : ℤ) → scalar ≢ Bool → IsBetween scalar m → AreAlike scalar m n → m ≡ wrap scalar n
  -- a bool holds 0 after 0, and else 1
  pub zero : wrap Bool (pos 0) ≡ pos 0
  pub not_zero : (n : ℤ) → n ≢ pos 0 → wrap Bool n ≡ pos 1
  -- a number of the range stays as it is, and no other number does
  pub kept : (scalar : Scalar) (n : ℤ) → IsOf scalar n ↔ IsBetween scalar n

-- ---- what a job reads and writes

-- two memories have the same numbers in the cells of the ranges
abbrev pub AgreeOn : List CellRange → List ℤ → List ℤ → Type 0
AgreeOn ranges m n = (c : ℕ) → IsTrue (is_in ranges c) → slice_index_or m c (pos 0) ≡ slice_index_or n c (pos 0)

-- memories that agree on what a job may read give it the same effect
abbrev pub SameEffect : Type 0
SameEffect = (p : Program) (job : JobId) (m n : List ℤ) → AgreeOn (reads p job) m n → effect p job m ≡ effect p job n

-- a job stores only to cells that it may write
abbrev pub WritesOnly : Type 0
WritesOnly =
    (p : Program) (job : JobId) (m : List ℤ) (stored : List (Option ℤ)) (c : ℕ) (n : ℤ) → effect p job m ≡ Ok stored
    → slice_index_or stored c None ≡ Some n → IsTrue (is_in (writes p job) c)

-- what a job stores is in the range of its cell's type
abbrev pub StoresInRange : Type 0
StoresInRange =
    (p : Program) (job : JobId) (m : List ℤ) (stored : List (Option ℤ)) (c : ℕ) (n : ℤ) → effect p job m ≡ Ok stored
    → slice_index_or stored c None ≡ Some n → IsInRange (scalars_of p.cells) c n

-- an effect has one entry for each cell
abbrev pub StoresByCell : Type 0
StoresByCell = (p : Program) (job : JobId) (m : List ℤ) (stored : List (Option ℤ)) → effect p job m ≡ Ok stored
    → length stored ≡ length p.cells

-- what a job of the program may read and write are cells of the program
pub record StaysInCells : Type 0 where
  pub reads_there : (p : Program) (job : JobId) (c : ℕ) → job.0 < length p.jobs → IsTrue (is_in (reads p job) c)
      → c < length p.cells
  pub writes_there : (p : Program) (job : JobId) (c : ℕ) → job.0 < length p.jobs → IsTrue (is_in (writes p job) c)
      → c < length p.cells

-- ---- a memory that is overwritten

-- What `overwritten` gives.
pub record OverwritesRight : Type 0 where
  -- as many numbers as before
  pub as_many : (stored : List (Option ℤ)) (numbers : List ℤ) → length (overwritten stored numbers) ≡ length numbers
  -- in each cell the number stored to it, or else its own
  pub at : (stored : List (Option ℤ)) (numbers : List ℤ) (c : ℕ) → c < length numbers
      → slice_index_or (overwritten stored numbers) c (pos 0)
      ≡ unwrap_or (slice_index_or stored c None) (slice_index_or numbers c (pos 0))
  -- numbers in their ranges, where those stored and those before are
  pub in_range : (scalars : List Scalar) (stored : List (Option ℤ)) (numbers : List ℤ)
      → ((c : ℕ) (n : ℤ) → slice_index_or stored c None ≡ Some n → IsInRange scalars c n) → AreInRange scalars numbers
      → AreInRange scalars (overwritten stored numbers)

-- ---- blocks

-- What a table gives a block, where blocks run only blocks before them, is what the rule makes of
-- its statements and of what the table gives.
pub record BlocksHold : Type 0 where
  pub runs : (scalars : List Scalar) (base : ℕ) (memory : ℕ → ℤ) (blocks : List (List Code)) (k : ℕ) (s : State)
      → IsTrue (are_in_order 0 blocks) → block_runs scalars base memory blocks k s
      ≡ run_all (block_at blocks k) (record {
        scalars = scalars;
        base = base;
        memory = memory;
        blocks = block_runs scalars base memory blocks;
      }) s
  pub reads : (base : ℕ) (blocks : List (List Code)) (k : ℕ) → IsTrue (are_in_order 0 blocks)
      → block_reads base blocks k ≡ all_reads (block_at blocks k) base (block_reads base blocks)
  pub writes : (base : ℕ) (blocks : List (List Code)) (k : ℕ) → IsTrue (are_in_order 0 blocks)
      → block_writes base blocks k ≡ all_writes (block_at blocks k) base (block_writes base blocks)
  pub steps : (blocks : List (List Code)) (k : ℕ) → IsTrue (are_in_order 0 blocks)
      → block_steps blocks k ≡ all_steps (block_at blocks k) (block_steps blocks)
  pub knows : (slots : ℕ) (blocks : List (List Code)) (k : ℕ) (known : List Known) → IsTrue (are_in_order 0 blocks)
      → block_knows slots blocks k known ≡ all_know slots (block_at blocks k) (block_knows slots blocks) known
