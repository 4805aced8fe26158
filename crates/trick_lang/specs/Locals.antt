-- The local variables of bodies: each is declared once, before it is used, and used as the type of its
-- declaration.
use Rattle.std.specs.Prelude.{ℕ, ◌==◌, Bool, true, false, not, ◌&&◌, ◌||◌, nat_lt, nat_le, List, [], ◌∷◌, Option, Some, None}
use Rattle.std.specs.List.{list_all}
use Rattle.trick_lang.specs.Blocks.{each_block}
use Rattle.trick_lang.specs.Passes.{Leaves, term_passes, first_passes, change_passes, place_passes}
use Rattle.trick_lang.specs.Tree.{Code, Empty, Declare, SetLocal, Assign, If, For, Run, Branches, NoElse, Else, Test}
use Rattle.trick_lang.specs.TreeOf.{codes_of}
use Rattle.trick_lang.specs.declared.bound.Bound.{Bound}
use Rattle.trick_lang.specs.declared.bound.Bound.TheVariants.{Below, UpTo}
use Rattle.trick_lang.specs.declared.method.Method.{Method}
use Rattle.trick_lang.specs.declared.scalar.Scalar.{Scalar}
use Rattle.trick_lang.specs.declared.scalar.Scalar.TheVariants.{Bool as BoolType, Char, UChar, Short, UShort, Int, UInt, Long}
use Rattle.trick_lang.specs.declared.tree.Block.{Block}

-- a local variable that is known at a place of a body: its slot and its type; the variable of a loop
-- has None, since nothing but its loop gives it a number
pub record Known : Type 0 where
  pub slot : ℕ
  pub scalar : Option Scalar

-- a local variable of the slot is known
abbrev pub is_known : List Known → ℕ → Bool
is_known [] slot = false
is_known (l ∷ ls) slot = (l.slot == slot) || is_known ls slot

-- the number of a type in the list of types
abbrev pub type_number : Scalar → ℕ
type_number BoolType = 0
type_number Char = 1
type_number UChar = 2
type_number Short = 3
type_number UShort = 4
type_number Int = 5
type_number UInt = 6
type_number Long = 7

abbrev pub is_type : Option Scalar → Scalar → Bool
is_type None scalar = false
is_type (Some other) scalar = type_number other == type_number scalar

-- a local variable of the slot and the type is known, and it is no loop's
abbrev pub is_known_as : List Known → ℕ → Scalar → Bool
is_known_as [] slot scalar = false
is_known_as (l ∷ ls) slot scalar = ((l.slot == slot) && is_type l.scalar scalar) || is_known_as ls slot scalar

-- the slot is one of so many, and no known variable has it
abbrev pub is_free : ℕ → List Known → ℕ → Bool
is_free slots known slot = nat_lt slot slots && not (is_known known slot)

-- expressions use known variables alone
abbrev pub locals_test : List Known → Leaves
locals_test known = record { local = is_known known; place = λ spot. true }

-- the number after `<` or `<=` of a loop
abbrev pub bound_number : Bound → ℕ
bound_number (Below bound) = bound
bound_number (UpTo bound) = bound

-- what is known after a statement
abbrev pub after : Code → List Known → List Known
after Empty known = known
after (Declare line slot scalar e) known = record { slot = slot; scalar = Some scalar } ∷ known
after (SetLocal line slot scalar change) known = known
after (Assign line place change) known = known
after (If branches) known = known
after (For slot from bound block) known = known
after (Run block) known = known

abbrev pub branch_knows : Branches → (ℕ → List Known → Bool) → List Known → Bool
branch_knows NoElse blocks known = true
branch_knows (Else block) blocks known = blocks block known
branch_knows (Test line test block rest) blocks known =
    term_passes (locals_test known) test && (blocks block known && branch_knows rest blocks known)

-- A statement keeps the rules where these local variables are known, and `slots` are how many slots
-- there are. A variable is known from its name on, so in its own first value, and up to the end of
-- its block. A called method declares its own in slots that its caller does not use, so that the
-- caller's keep their numbers.
abbrev pub code_knows : ℕ → Code → (ℕ → List Known → Bool) → List Known → Bool
code_knows slots Empty blocks known = true
code_knows slots (Declare line slot scalar e) blocks known =
    is_free slots known slot && first_passes (locals_test (record { slot = slot; scalar = Some scalar } ∷ known)) e
code_knows slots (SetLocal line slot scalar change) blocks known =
    is_known_as known slot scalar && change_passes (locals_test known) change
code_knows slots (Assign line place change) blocks known =
    place_passes (locals_test known) place && change_passes (locals_test known) change
code_knows slots (If branches) blocks known = branch_knows branches blocks known
-- the bound of a loop is at most 1,000,000, so that its numbers are in the range of an int
code_knows slots (For slot from bound block) blocks known =
    is_free slots known slot && (nat_le (bound_number bound) 1000000
    && blocks block (record { slot = slot; scalar = None } ∷ known))
code_knows slots (Run block) blocks known = blocks block known

abbrev pub all_know : ℕ → List Code → (ℕ → List Known → Bool) → List Known → Bool
all_know slots [] blocks known = true
all_know slots (first ∷ rest) blocks known = code_knows slots first blocks known
    && all_know slots rest blocks (after first known)

-- whether each block keeps the rules where these local variables are known
abbrev pub block_knows : ℕ → List (List Code) → ℕ → List Known → Bool
block_knows slots = each_block (all_know slots) (λ known. true)

-- each method keeps the rules where none is known
abbrev pub methods_know : ℕ → List Block → List Method → Bool
methods_know slots blocks = list_all (λ method. block_knows slots (codes_of blocks) method.block [])
