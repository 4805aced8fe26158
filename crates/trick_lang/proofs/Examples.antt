-- The definition of what a body does computes: numbers, statements, faults, loops and calls.
use Rattle.std.proofs.Common.{◌≡◌, ℕ, ℤ, pos, negsuc, List, [], ◌∷◌, true, Some, None, Result, Ok, Err, refl}
use Rattle.std.specs.Int.{int_wrap}
use Rattle.std.specs.List.{slice_index_or}
use Rattle.trick_lang.specs.Effect.{overwritten}
use Rattle.trick_lang.specs.Numbers.{applied, shift_count}
use Rattle.trick_lang.specs.Run.{State, Setting, block_runs, run}
use Rattle.trick_lang.specs.Tree.{Term, Number, Local, Cell, Chain, NoLink, Link, Choose, Choice, Last, Spot, spot, NoStep, Step, Set, Update, Increase, Decrease, Code, Declare, SetLocal, Assign, If, For, Run, Else, Test}
use Rattle.trick_lang.specs.Value.{Sight, value}
use Rattle.trick_lang.specs.declared.bound.Bound.TheVariants.{Below, UpTo}
use Rattle.trick_lang.specs.declared.fault.FaultKind.TheVariants.{DivideByZero, IndexOutOfRange}
use Rattle.trick_lang.specs.declared.fault.StatementFault.{StatementFault}
use Rattle.trick_lang.specs.declared.operator.Arithmetic.TheVariants.{Divide, Minus, Remainder, Plus}
use Rattle.trick_lang.specs.declared.operator.Operator.TheVariants.{Arithmetic, And, Or}
use Rattle.trick_lang.specs.declared.scalar.Scalar.{Scalar}
use Rattle.trick_lang.specs.declared.scalar.Scalar.TheVariants.{Bool, Char, UChar, Int, Long}

-- two cells of one type and their numbers; a block that is run does nothing
abbrev cells : Scalar → List ℤ → Setting
cells scalar memory = record {
  scalars = scalar ∷ scalar ∷ [];
  base = 0;
  memory = λ c. slice_index_or memory c (pos 0);
  blocks = λ k s. Ok s;
}

-- nothing stored in two cells, and a local variable that has no number yet
abbrev fresh : State
fresh = record { stored = None ∷ None ∷ []; locals = None ∷ [] }

-- what was stored in the first cell
abbrev stores : ℤ → Result State StatementFault
stores n = Ok (record { stored = Some n ∷ None ∷ []; locals = None ∷ [] })

abbrev first : Spot
first = spot true 0 1 0 0 NoStep

abbrev second : Spot
second = spot true 1 1 0 0 NoStep

-- ---- what is stored

-- a char that holds 127, plus 1, is -128
char_wraps : run (Assign 1 first Increase) (cells Char (pos 127 ∷ [])) fresh ≡ stores (negsuc 127)
unfolding int_wrap
char_wraps = refl

-- the greatest long plus 1 is the least
long_wraps : run (Assign 1 first Increase) (cells Long (pos 9223372036854775807 ∷ [])) fresh ≡ stores (negsuc 9223372036854775807)
unfolding int_wrap
long_wraps = refl

-- an unsigned char that holds 0, minus 1, is 255
byte_wraps : run (Assign 1 first Decrease) (cells UChar (pos 0 ∷ [])) fresh ≡ stores (pos 255)
byte_wraps = refl

-- a bool that is set to 6 holds 1
bool_wraps : run (Assign 1 first (Set (Number (pos 6)))) (cells Bool (pos 0 ∷ [])) fresh ≡ stores (pos 1)
bool_wraps = refl

-- ---- operators

-- the least long divided by -1 is itself, with remainder 0
least_divided : applied Divide (negsuc 9223372036854775807) (negsuc 0) ≡ Ok (negsuc 9223372036854775807)
unfolding int_wrap
least_divided = refl

least_remains : applied Remainder (negsuc 9223372036854775807) (negsuc 0) ≡ Ok (pos 0)
least_remains = refl

-- -7 / 2 is -3 and -7 % 2 is -1
toward_zero : applied Divide (negsuc 6) (pos 2) ≡ Ok (negsuc 2)
unfolding int_wrap
toward_zero = refl

sign_kept : applied Remainder (negsuc 6) (pos 2) ≡ Ok (negsuc 0)
sign_kept = refl

-- a shift by 65 is one by 1, and by -1 one by 63
wide_shift : shift_count (pos 65) ≡ 1
wide_shift = refl

negative_shift : shift_count (negsuc 0) ≡ 63
negative_shift = refl

-- 0 && 1 / 0 is 0, and 2 || 1 / 0 is 1: the right side is not evaluated
abbrev fails : Term
fails = Chain (Number (pos 1)) (Link (Arithmetic Divide) (Number (pos 0)) NoLink)

and_decided : (s : Sight) → value (Chain (Number (pos 0)) (Link And fails NoLink)) s ≡ Ok (pos 0)
and_decided s = refl

or_decided : (s : Sight) → value (Chain (Number (pos 2)) (Link Or fails NoLink)) s ≡ Ok (pos 1)
or_decided s = refl

-- 0 || 1 / 0 is a fault
or_evaluated : (s : Sight) → value (Chain (Number (pos 0)) (Link Or fails NoLink)) s ≡ Err DivideByZero
or_evaluated s = refl

-- 5 ? 7 : 1 / 0 is 7
part_chosen : (s : Sight) → value (Choose (Choice (Number (pos 5)) (Number (pos 7)) (Last fails))) s ≡ Ok (pos 7)
part_chosen s = refl

-- 10 - 3 - 2 is 5: from the left
grouped : (s : Sight) → value (Chain (Number (pos 10)) (Link (Arithmetic Minus) (Number (pos 3)) (Link (Arithmetic Minus) (Number (pos 2)) NoLink))) s ≡ Ok (pos 5)
unfolding int_wrap
grouped s = refl

-- ---- statements

-- int v = v + 3; cell = v; a local variable is 0 in its own first value
declared : run (Declare 1 0 Int (Some (Chain (Local 0) (Link (Arithmetic Plus) (Number (pos 3)) NoLink)))) (cells Long []) (record { stored = []; locals = Some (pos 9) ∷ [] }) ≡ Ok (record { stored = []; locals = Some (pos 3) ∷ [] })
unfolding int_wrap
declared = refl

-- char v; v = 200; it holds -56
local_wraps : run (SetLocal 1 0 Char (Set (Number (pos 200)))) (cells Long []) fresh ≡ Ok (record { stored = None ∷ None ∷ []; locals = Some (negsuc 55) ∷ [] })
unfolding int_wrap
local_wraps = refl

-- a fault has the line of its statement
faults : run (For 0 0 (Below 2) 0) (record (cells Long (pos 5 ∷ [])) { blocks = λ k s. run (Assign 7 first (Update Divide (Number (pos 0)))) (cells Long (pos 5 ∷ [])) s }) fresh ≡ Err (record { kind = DivideByZero; line = 7 })
faults = refl

-- an index that is not below the length, and one below 0
leaves : run (Assign 2 (spot true 0 2 0 0 (Step 2 1 (Number (pos 2)) NoStep)) Increase) (cells Long []) fresh ≡ Err (record { kind = IndexOutOfRange; line = 2 })
leaves = refl

goes_below : run (Assign 2 (spot true 0 2 0 0 (Step 2 1 (Number (negsuc 0)) NoStep)) Increase) (cells Long []) fresh ≡ Err (record { kind = IndexOutOfRange; line = 2 })
goes_below = refl

-- the indexes come before the right side: the fault is the index's
index_first : run (Assign 2 (spot true 0 2 0 0 (Step 2 1 (Number (pos 2)) NoStep)) (Set fails)) (cells Long []) fresh ≡ Err (record { kind = IndexOutOfRange; line = 2 })
index_first = refl

-- ---- blocks

abbrev runs : List (List Code) → ℕ → List ℤ → Result State StatementFault
runs blocks k memory = block_runs (Long ∷ Long ∷ []) 0 (λ c. slice_index_or memory c (pos 0)) blocks k fresh

-- { a = 1; b = 1 / 0; } of line 4 is a fault of that line
abbrev one_then_fault : List Code
one_then_fault = Assign 4 first (Set (Number (pos 1))) ∷ Assign 4 second (Set fails) ∷ []

fault_in_line : runs (one_then_fault ∷ []) 0 [] ≡ Err (record { kind = DivideByZero; line = 4 })
fault_in_line = refl

-- for (v = 1; v <= 4; v++) cell += v; gives 10
abbrev sums : List (List Code)
sums = (Assign 3 first (Update Plus (Local 0)) ∷ []) ∷ (For 0 1 (UpTo 4) 0 ∷ []) ∷ []

sum_is_10 : runs sums 1 [] ≡ Ok (record { stored = Some (pos 10) ∷ None ∷ []; locals = Some (pos 4) ∷ [] })
unfolding int_wrap
sum_is_10 = refl

-- with < it gives 6
sum_is_6 : runs ((Assign 3 first (Update Plus (Local 0)) ∷ []) ∷ (For 0 1 (Below 4) 0 ∷ []) ∷ []) 1 [] ≡ Ok (record { stored = Some (pos 6) ∷ None ∷ []; locals = Some (pos 3) ∷ [] })
unfolding int_wrap
sum_is_6 = refl

-- a loop from 2 ^ 63 has no turns
no_turns : runs ((Assign 3 first Increase ∷ []) ∷ (For 0 9223372036854775808 (Below 4) 0 ∷ []) ∷ []) 1 [] ≡ Ok fresh
no_turns = refl

-- a block runs an earlier one twice, as a method calls another: 5 + 1 + 1
calls_twice : runs ((Assign 3 first Increase ∷ []) ∷ (Run 0 ∷ Run 0 ∷ []) ∷ []) 1 (pos 5 ∷ []) ≡ stores (pos 7)
unfolding int_wrap
calls_twice = refl

-- a block that is not there does nothing
none_there : runs ((Run 7 ∷ []) ∷ []) 0 [] ≡ Ok fresh
none_there = refl

past_the_end : runs ((Assign 3 first Increase ∷ []) ∷ []) 1 [] ≡ Ok fresh
past_the_end = refl

-- if (0) a = 1; else if (a) a = 2; else a = 3;
abbrev chain : List (List Code)
chain =
    (Assign 1 first (Set (Number (pos 1))) ∷ [])
    ∷ (Assign 2 first (Set (Number (pos 2))) ∷ [])
    ∷ (Assign 3 first (Set (Number (pos 3))) ∷ [])
    ∷ (If (Test 1 (Number (pos 0)) 0 (Test 2 (Cell first) 1 (Else 2))) ∷ [])
    ∷ []

second_branch : runs chain 3 (pos 8 ∷ []) ≡ stores (pos 2)
unfolding int_wrap
second_branch = refl

last_branch : runs chain 3 (pos 0 ∷ []) ≡ stores (pos 3)
unfolding int_wrap
last_branch = refl

-- a memory overwritten by what was stored
overwritten_here : overwritten (None ∷ Some (pos 4) ∷ None ∷ []) (pos 1 ∷ pos 2 ∷ pos 3 ∷ []) ≡ pos 1 ∷ pos 4 ∷ pos 3 ∷ []
overwritten_here = refl
