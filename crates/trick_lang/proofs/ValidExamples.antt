-- The tests of a valid program on blocks, local variables and jobs that keep the rules, and on ones
-- that do not.
use Rattle.std.proofs.Common.{◌≡◌, ℕ, pos, Bool, true, false, List, [], ◌∷◌, Some, None, refl}
use Rattle.trick_lang.specs.Locals.{block_knows}
use Rattle.trick_lang.specs.Names.{are_apart, job_name, of_one_instance, of_one_name, of_one_number}
use Rattle.trick_lang.specs.Tree.{Number, Local, Spot, spot, NoStep, Step, Set, Increase, Code, Declare, SetLocal, Assign, If, For, Run, NoElse, Test}
use Rattle.trick_base.specs.Time.{tic_limit}
use Rattle.trick_lang.specs.Valid.{are_in_order, code_fits, has_class, has_right_times, is_in_span, lies_in, job_stands, object_stands}
use Rattle.trick_lang.specs.declared.bound.Bound.TheVariants.{Below, UpTo}
use Rattle.trick_lang.specs.declared.class.Class.TheVariants.{Scheduled, Freeze}
use Rattle.trick_lang.specs.declared.job.Job.{Job}
use Rattle.trick_lang.specs.declared.method.Method.{Method}
use Rattle.trick_lang.specs.declared.object.Object.{Object}
use Rattle.trick_lang.specs.declared.scalar.Scalar.TheVariants.{Int, Long}
use Rattle.trick_lang.specs.declared.tree.Block.{Block}
use Rattle.trick_lang.specs.declared.variable.Variable.{Variable}

-- ---- local variables, of two slots

abbrev knows : List (List Code) → ℕ → Bool
knows blocks k = block_knows 2 blocks k []

abbrev a : Spot
a = spot true 0 1 0 0 NoStep

-- int v; v = 1; cell = v;
used : knows ((Declare 1 0 Int None ∷ SetLocal 1 0 Int (Set (Number (pos 1))) ∷ Assign 1 a (Set (Local 0)) ∷ []) ∷ []) 0 ≡ true
used = refl

-- a variable before its declaration, one of a slot that is not there, one that is declared twice, one
-- that is given a number of another type
too_early : knows ((Assign 1 a (Set (Local 0)) ∷ Declare 1 0 Int None ∷ []) ∷ []) 0 ≡ false
too_early = refl

no_slot : knows ((Declare 1 2 Int None ∷ []) ∷ []) 0 ≡ false
no_slot = refl

twice : knows ((Declare 1 0 Int None ∷ Declare 1 0 Int None ∷ []) ∷ []) 0 ≡ false
twice = refl

other_type : knows ((Declare 1 0 Int None ∷ SetLocal 1 0 Long (Set (Number (pos 1))) ∷ []) ∷ []) 0 ≡ false
other_type = refl

-- int v = v;
own_value : knows ((Declare 1 0 Int (Some (Local 0)) ∷ []) ∷ []) 0 ≡ true
own_value = refl

-- { int v; } v = 1; and { int v; } int v;
left_behind : knows ((Declare 1 0 Int None ∷ []) ∷ (Run 0 ∷ SetLocal 1 0 Int (Set (Number (pos 1))) ∷ []) ∷ []) 1 ≡ false
left_behind = refl

free_again : knows ((Declare 1 0 Int None ∷ []) ∷ (Run 0 ∷ Declare 1 0 Int None ∷ []) ∷ []) 1 ≡ true
free_again = refl

-- int v; and a block within that uses it, and one that declares it again
seen_within : knows ((SetLocal 1 0 Int Increase ∷ []) ∷ (Declare 1 0 Int None ∷ If (Test 1 (Local 0) 0 NoElse) ∷ []) ∷ []) 1 ≡ true
seen_within = refl

within_again : knows ((Declare 1 0 Int None ∷ []) ∷ (Declare 1 0 Int None ∷ Run 0 ∷ []) ∷ []) 1 ≡ false
within_again = refl

-- for (int v = 0; v < 3; v++) cell += v;
loop : knows ((Assign 1 a (Set (Local 0)) ∷ []) ∷ (For 0 0 (Below 3) 0 ∷ []) ∷ []) 1 ≡ true
loop = refl

-- a loop over a slot that is not there, one whose variable is assigned, and one with a bound too large
loop_no_slot : knows ([] ∷ (For 2 0 (Below 3) 0 ∷ []) ∷ []) 1 ≡ false
loop_no_slot = refl

loop_assigned : knows ((SetLocal 1 0 Int Increase ∷ []) ∷ (For 0 0 (Below 3) 0 ∷ []) ∷ []) 1 ≡ false
loop_assigned = refl

loop_bound : knows ([] ∷ (For 0 0 (UpTo 1000001) 0 ∷ []) ∷ []) 1 ≡ false
loop_bound = refl

loop_largest : knows ([] ∷ (For 0 0 (UpTo 1000000) 0 ∷ []) ∷ []) 1 ≡ true
loop_largest = refl

-- ---- blocks and places

earlier : are_in_order 0 ([] ∷ (Run 0 ∷ []) ∷ []) ≡ true
earlier = refl

itself : are_in_order 0 ((Run 0 ∷ []) ∷ []) ≡ false
itself = refl

-- list[e] of four cells; with an offset, it may lead past them
spanned : is_in_span (spot true 3 4 0 0 (Step 4 1 (Number (pos 0)) NoStep)) ≡ true
spanned = refl

past_span : is_in_span (spot true 3 4 1 0 (Step 4 1 (Number (pos 0)) NoStep)) ≡ false
past_span = refl

-- an object of seven cells has it, one of six has not
in_object : lies_in 9 7 (spot true 3 4 0 0 NoStep) ≡ true
in_object = refl

past_object : lies_in 9 6 (spot true 3 4 0 0 NoStep) ≡ false
past_object = refl

-- a block that needs one frame: to run it takes that one above the block's own, and a loop one more
abbrev shallow : List Block
shallow = record { class = 0; statements = []; deep = 1 } ∷ []

runs_in_two : code_fits shallow 1 2 (Run 0) ≡ true
runs_in_two = refl

not_in_one : code_fits shallow 1 1 (Run 0) ≡ false
not_in_one = refl

loops_in_three : code_fits shallow 1 3 (For 0 0 (Below 3) 0) ≡ true
loops_in_three = refl

not_in_two : code_fits shallow 1 2 (For 0 0 (Below 3) 0) ≡ false
not_in_two = refl

-- a block of class 0 is no block of class 1, and one that is not there is of no class
own_block : has_class shallow 0 0 ≡ true
own_block = refl

other_block : has_class shallow 1 0 ≡ false
other_block = refl

no_block : has_class shallow 0 1 ≡ false
no_block = refl

-- ---- jobs

abbrev job : ℕ → ℕ → ℕ → ℕ → Job
job object method instance number = record {
  object = object;
  method = method;
  instance = instance;
  class = Scheduled;
  thread = 0;
  phase = 60000;
  start = 0;
  cycle = 1;
  stop = tic_limit;
  number = number;
}

-- one object each of the classes 0 and 1, with methods
abbrev objects : List Object
objects = record { name = 97 ∷ []; class = 0; first = 0 } ∷ record { name = 98 ∷ []; class = 1; first = 4 } ∷ []

abbrev methods : List Method
methods = record { name = 109 ∷ []; class = 0; block = 0 } ∷ record { name = 109 ∷ []; class = 1; block = 0 } ∷ []

of_class : job_stands objects methods (job 1 1 1 0) ≡ true
of_class = refl

of_other_class : job_stands objects methods (job 0 1 1 0) ≡ false
of_other_class = refl

no_object : job_stands objects methods (job 2 1 1 0) ≡ false
no_object = refl

no_method : job_stands objects methods (job 1 2 1 0) ≡ false
no_method = refl

-- b.m
named : job_name objects methods (job 1 1 1 0) ≡ 98 ∷ 46 ∷ 109 ∷ []
named = refl

same_number : are_apart of_one_number (job 1 1 1 0 ∷ job 1 1 2 0 ∷ []) ≡ false
same_number = refl

other_objects : are_apart of_one_number (job 0 0 1 0 ∷ job 1 1 1 0 ∷ []) ≡ true
other_objects = refl

same_instance : are_apart (of_one_instance objects methods) (job 1 1 1 0 ∷ job 1 1 1 1 ∷ []) ≡ false
same_instance = refl

next_instance : are_apart (of_one_instance objects methods) (job 1 1 1 0 ∷ job 1 1 2 1 ∷ []) ≡ true
next_instance = refl

-- a scheduled job needs a cycle, and a job of another class has none
no_cycle : has_right_times Scheduled (record (job 1 1 1 0) { cycle = 0 }) ≡ false
no_cycle = refl

late_stop : has_right_times Scheduled (record (job 1 1 1 0) { stop = 1000000000000001 }) ≡ false
late_stop = refl

right_times : has_right_times Scheduled (job 1 1 1 0) ≡ true
right_times = refl

freeze_with_times : has_right_times Freeze (job 1 1 1 0) ≡ false
freeze_with_times = refl

-- ---- cells

abbrev named_alike : List Variable
named_alike = record { name = 97 ∷ []; scalar = Long } ∷ record { name = 98 ∷ []; scalar = Int } ∷ record { name = 97 ∷ []; scalar = Int } ∷ []

alike : are_apart of_one_name named_alike ≡ false
alike = refl

-- an object of two cells fits in the last two of a memory of six
object_there : object_stands 6 (2 ∷ []) (record { name = []; class = 0; first = 4 }) ≡ true
object_there = refl

object_past : object_stands 6 (2 ∷ []) (record { name = []; class = 0; first = 5 }) ≡ false
object_past = refl
