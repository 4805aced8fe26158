-- The worked texts, as reading computes.
use Rattle.std.proofs.Common.{refl}
use Rattle.trick_body_symbols.specs.Expressions.{expression_body, step_body, place_body, operand_body, nested_body as expressions_nested}
use Rattle.trick_sdef_worked.specs.ReadBodies.{BodiesAreRead, FallingPrecedence, RisingPrecedence, Products, Sums, Shifts, Orders, Equalities, Prefixes, PrefixBeforeProduct, Parentheses, Choices, ChoiceInside, Literals, Steps, Changes, ChangesOfBits, Counting, SignedTypes, UnsignedTypes, CallsAndBlocks, ElseOfTheNearest, ElseIfs, LoopBelow, LoopUpTo, LoopByOne, LoopInALoop, OtherName, OuterName, LargeBound, Assigned, AssignedInside, CountedBehind, CountedBefore, NotCounted, LocalOfThatName}
use Rattle.trick_body_symbols.specs.Statements.{basic_body, loop_step_body, loop_test_body, header_body, value_body, call_body, operation_body, free_change_body, bound_change_body, named_body, by_name_body, free_steps_body, bound_steps_body, counted_body, declaration_body, simple_body, block_body, test_body, else_body, choice_body, loop_body, unbranched_body, unblocked_body, statement_body, branch_body, nested_body as statements_nested}

falling_precedence_text : FallingPrecedence
unfolding expression_body step_body place_body operand_body expressions_nested basic_body loop_step_body loop_test_body header_body value_body call_body operation_body free_change_body bound_change_body named_body by_name_body free_steps_body bound_steps_body counted_body declaration_body simple_body block_body test_body else_body choice_body loop_body unbranched_body unblocked_body statement_body branch_body statements_nested
falling_precedence_text = (refl, refl)

rising_precedence_text : RisingPrecedence
unfolding expression_body step_body place_body operand_body expressions_nested basic_body loop_step_body loop_test_body header_body value_body call_body operation_body free_change_body bound_change_body named_body by_name_body free_steps_body bound_steps_body counted_body declaration_body simple_body block_body test_body else_body choice_body loop_body unbranched_body unblocked_body statement_body branch_body statements_nested
rising_precedence_text = (refl, refl)

products_text : Products
unfolding expression_body step_body place_body operand_body expressions_nested basic_body loop_step_body loop_test_body header_body value_body call_body operation_body free_change_body bound_change_body named_body by_name_body free_steps_body bound_steps_body counted_body declaration_body simple_body block_body test_body else_body choice_body loop_body unbranched_body unblocked_body statement_body branch_body statements_nested
products_text = (refl, refl)

sums_text : Sums
unfolding expression_body step_body place_body operand_body expressions_nested basic_body loop_step_body loop_test_body header_body value_body call_body operation_body free_change_body bound_change_body named_body by_name_body free_steps_body bound_steps_body counted_body declaration_body simple_body block_body test_body else_body choice_body loop_body unbranched_body unblocked_body statement_body branch_body statements_nested
sums_text = (refl, refl)

shifts_text : Shifts
unfolding expression_body step_body place_body operand_body expressions_nested basic_body loop_step_body loop_test_body header_body value_body call_body operation_body free_change_body bound_change_body named_body by_name_body free_steps_body bound_steps_body counted_body declaration_body simple_body block_body test_body else_body choice_body loop_body unbranched_body unblocked_body statement_body branch_body statements_nested
shifts_text = (refl, refl)

orders_text : Orders
unfolding expression_body step_body place_body operand_body expressions_nested basic_body loop_step_body loop_test_body header_body value_body call_body operation_body free_change_body bound_change_body named_body by_name_body free_steps_body bound_steps_body counted_body declaration_body simple_body block_body test_body else_body choice_body loop_body unbranched_body unblocked_body statement_body branch_body statements_nested
orders_text = (refl, refl)

equalities_text : Equalities
unfolding expression_body step_body place_body operand_body expressions_nested basic_body loop_step_body loop_test_body header_body value_body call_body operation_body free_change_body bound_change_body named_body by_name_body free_steps_body bound_steps_body counted_body declaration_body simple_body block_body test_body else_body choice_body loop_body unbranched_body unblocked_body statement_body branch_body statements_nested
equalities_text = (refl, refl)

prefixes_text : Prefixes
unfolding expression_body step_body place_body operand_body expressions_nested basic_body loop_step_body loop_test_body header_body value_body call_body operation_body free_change_body bound_change_body named_body by_name_body free_steps_body bound_steps_body counted_body declaration_body simple_body block_body test_body else_body choice_body loop_body unbranched_body unblocked_body statement_body branch_body statements_nested
prefixes_text = (refl, refl)

prefix_before_product_text : PrefixBeforeProduct
unfolding expression_body step_body place_body operand_body expressions_nested basic_body loop_step_body loop_test_body header_body value_body call_body operation_body free_change_body bound_change_body named_body by_name_body free_steps_body bound_steps_body counted_body declaration_body simple_body block_body test_body else_body choice_body loop_body unbranched_body unblocked_body statement_body branch_body statements_nested
prefix_before_product_text = (refl, refl)

parentheses_text : Parentheses
unfolding expression_body step_body place_body operand_body expressions_nested basic_body loop_step_body loop_test_body header_body value_body call_body operation_body free_change_body bound_change_body named_body by_name_body free_steps_body bound_steps_body counted_body declaration_body simple_body block_body test_body else_body choice_body loop_body unbranched_body unblocked_body statement_body branch_body statements_nested
parentheses_text = (refl, refl)

choices_text : Choices
unfolding expression_body step_body place_body operand_body expressions_nested basic_body loop_step_body loop_test_body header_body value_body call_body operation_body free_change_body bound_change_body named_body by_name_body free_steps_body bound_steps_body counted_body declaration_body simple_body block_body test_body else_body choice_body loop_body unbranched_body unblocked_body statement_body branch_body statements_nested
choices_text = (refl, refl)

choice_inside_text : ChoiceInside
unfolding expression_body step_body place_body operand_body expressions_nested basic_body loop_step_body loop_test_body header_body value_body call_body operation_body free_change_body bound_change_body named_body by_name_body free_steps_body bound_steps_body counted_body declaration_body simple_body block_body test_body else_body choice_body loop_body unbranched_body unblocked_body statement_body branch_body statements_nested
choice_inside_text = (refl, refl)

literals_text : Literals
unfolding expression_body step_body place_body operand_body expressions_nested basic_body loop_step_body loop_test_body header_body value_body call_body operation_body free_change_body bound_change_body named_body by_name_body free_steps_body bound_steps_body counted_body declaration_body simple_body block_body test_body else_body choice_body loop_body unbranched_body unblocked_body statement_body branch_body statements_nested
literals_text = (refl, refl)

steps_text : Steps
unfolding expression_body step_body place_body operand_body expressions_nested basic_body loop_step_body loop_test_body header_body value_body call_body operation_body free_change_body bound_change_body named_body by_name_body free_steps_body bound_steps_body counted_body declaration_body simple_body block_body test_body else_body choice_body loop_body unbranched_body unblocked_body statement_body branch_body statements_nested
steps_text = (refl, refl)

changes_text : Changes
unfolding expression_body step_body place_body operand_body expressions_nested basic_body loop_step_body loop_test_body header_body value_body call_body operation_body free_change_body bound_change_body named_body by_name_body free_steps_body bound_steps_body counted_body declaration_body simple_body block_body test_body else_body choice_body loop_body unbranched_body unblocked_body statement_body branch_body statements_nested
changes_text = (refl, refl)

changes_of_bits_text : ChangesOfBits
unfolding expression_body step_body place_body operand_body expressions_nested basic_body loop_step_body loop_test_body header_body value_body call_body operation_body free_change_body bound_change_body named_body by_name_body free_steps_body bound_steps_body counted_body declaration_body simple_body block_body test_body else_body choice_body loop_body unbranched_body unblocked_body statement_body branch_body statements_nested
changes_of_bits_text = (refl, refl)

counting_text : Counting
unfolding expression_body step_body place_body operand_body expressions_nested basic_body loop_step_body loop_test_body header_body value_body call_body operation_body free_change_body bound_change_body named_body by_name_body free_steps_body bound_steps_body counted_body declaration_body simple_body block_body test_body else_body choice_body loop_body unbranched_body unblocked_body statement_body branch_body statements_nested
counting_text = (refl, refl)

signed_types_text : SignedTypes
unfolding expression_body step_body place_body operand_body expressions_nested basic_body loop_step_body loop_test_body header_body value_body call_body operation_body free_change_body bound_change_body named_body by_name_body free_steps_body bound_steps_body counted_body declaration_body simple_body block_body test_body else_body choice_body loop_body unbranched_body unblocked_body statement_body branch_body statements_nested
signed_types_text = (refl, refl)

unsigned_types_text : UnsignedTypes
unfolding expression_body step_body place_body operand_body expressions_nested basic_body loop_step_body loop_test_body header_body value_body call_body operation_body free_change_body bound_change_body named_body by_name_body free_steps_body bound_steps_body counted_body declaration_body simple_body block_body test_body else_body choice_body loop_body unbranched_body unblocked_body statement_body branch_body statements_nested
unsigned_types_text = (refl, refl)

calls_and_blocks_text : CallsAndBlocks
unfolding expression_body step_body place_body operand_body expressions_nested basic_body loop_step_body loop_test_body header_body value_body call_body operation_body free_change_body bound_change_body named_body by_name_body free_steps_body bound_steps_body counted_body declaration_body simple_body block_body test_body else_body choice_body loop_body unbranched_body unblocked_body statement_body branch_body statements_nested
calls_and_blocks_text = (refl, refl)

else_of_the_nearest_text : ElseOfTheNearest
unfolding expression_body step_body place_body operand_body expressions_nested basic_body loop_step_body loop_test_body header_body value_body call_body operation_body free_change_body bound_change_body named_body by_name_body free_steps_body bound_steps_body counted_body declaration_body simple_body block_body test_body else_body choice_body loop_body unbranched_body unblocked_body statement_body branch_body statements_nested
else_of_the_nearest_text = (refl, refl)

else_ifs_text : ElseIfs
unfolding expression_body step_body place_body operand_body expressions_nested basic_body loop_step_body loop_test_body header_body value_body call_body operation_body free_change_body bound_change_body named_body by_name_body free_steps_body bound_steps_body counted_body declaration_body simple_body block_body test_body else_body choice_body loop_body unbranched_body unblocked_body statement_body branch_body statements_nested
else_ifs_text = (refl, refl)

loop_below_text : LoopBelow
unfolding expression_body step_body place_body operand_body expressions_nested basic_body loop_step_body loop_test_body header_body value_body call_body operation_body free_change_body bound_change_body named_body by_name_body free_steps_body bound_steps_body counted_body declaration_body simple_body block_body test_body else_body choice_body loop_body unbranched_body unblocked_body statement_body branch_body statements_nested
loop_below_text = (refl, refl)

loop_up_to_text : LoopUpTo
unfolding expression_body step_body place_body operand_body expressions_nested basic_body loop_step_body loop_test_body header_body value_body call_body operation_body free_change_body bound_change_body named_body by_name_body free_steps_body bound_steps_body counted_body declaration_body simple_body block_body test_body else_body choice_body loop_body unbranched_body unblocked_body statement_body branch_body statements_nested
loop_up_to_text = (refl, refl)

loop_by_one_text : LoopByOne
unfolding expression_body step_body place_body operand_body expressions_nested basic_body loop_step_body loop_test_body header_body value_body call_body operation_body free_change_body bound_change_body named_body by_name_body free_steps_body bound_steps_body counted_body declaration_body simple_body block_body test_body else_body choice_body loop_body unbranched_body unblocked_body statement_body branch_body statements_nested
loop_by_one_text = (refl, refl)

loop_in_a_loop_text : LoopInALoop
unfolding expression_body step_body place_body operand_body expressions_nested basic_body loop_step_body loop_test_body header_body value_body call_body operation_body free_change_body bound_change_body named_body by_name_body free_steps_body bound_steps_body counted_body declaration_body simple_body block_body test_body else_body choice_body loop_body unbranched_body unblocked_body statement_body branch_body statements_nested
loop_in_a_loop_text = (refl, refl)

other_name_text : OtherName
unfolding expression_body step_body place_body operand_body expressions_nested basic_body loop_step_body loop_test_body header_body value_body call_body operation_body free_change_body bound_change_body named_body by_name_body free_steps_body bound_steps_body counted_body declaration_body simple_body block_body test_body else_body choice_body loop_body unbranched_body unblocked_body statement_body branch_body statements_nested
other_name_text = (refl, refl)

outer_name_text : OuterName
unfolding expression_body step_body place_body operand_body expressions_nested basic_body loop_step_body loop_test_body header_body value_body call_body operation_body free_change_body bound_change_body named_body by_name_body free_steps_body bound_steps_body counted_body declaration_body simple_body block_body test_body else_body choice_body loop_body unbranched_body unblocked_body statement_body branch_body statements_nested
outer_name_text = (refl, refl)

large_bound_text : LargeBound
unfolding expression_body step_body place_body operand_body expressions_nested basic_body loop_step_body loop_test_body header_body value_body call_body operation_body free_change_body bound_change_body named_body by_name_body free_steps_body bound_steps_body counted_body declaration_body simple_body block_body test_body else_body choice_body loop_body unbranched_body unblocked_body statement_body branch_body statements_nested
large_bound_text = (refl, refl)

assigned_text : Assigned
unfolding expression_body step_body place_body operand_body expressions_nested basic_body loop_step_body loop_test_body header_body value_body call_body operation_body free_change_body bound_change_body named_body by_name_body free_steps_body bound_steps_body counted_body declaration_body simple_body block_body test_body else_body choice_body loop_body unbranched_body unblocked_body statement_body branch_body statements_nested
assigned_text = (refl, refl)

assigned_inside_text : AssignedInside
unfolding expression_body step_body place_body operand_body expressions_nested basic_body loop_step_body loop_test_body header_body value_body call_body operation_body free_change_body bound_change_body named_body by_name_body free_steps_body bound_steps_body counted_body declaration_body simple_body block_body test_body else_body choice_body loop_body unbranched_body unblocked_body statement_body branch_body statements_nested
assigned_inside_text = (refl, refl)

counted_behind_text : CountedBehind
unfolding expression_body step_body place_body operand_body expressions_nested basic_body loop_step_body loop_test_body header_body value_body call_body operation_body free_change_body bound_change_body named_body by_name_body free_steps_body bound_steps_body counted_body declaration_body simple_body block_body test_body else_body choice_body loop_body unbranched_body unblocked_body statement_body branch_body statements_nested
counted_behind_text = (refl, refl)

counted_before_text : CountedBefore
unfolding expression_body step_body place_body operand_body expressions_nested basic_body loop_step_body loop_test_body header_body value_body call_body operation_body free_change_body bound_change_body named_body by_name_body free_steps_body bound_steps_body counted_body declaration_body simple_body block_body test_body else_body choice_body loop_body unbranched_body unblocked_body statement_body branch_body statements_nested
counted_before_text = (refl, refl)

not_counted_text : NotCounted
unfolding expression_body step_body place_body operand_body expressions_nested basic_body loop_step_body loop_test_body header_body value_body call_body operation_body free_change_body bound_change_body named_body by_name_body free_steps_body bound_steps_body counted_body declaration_body simple_body block_body test_body else_body choice_body loop_body unbranched_body unblocked_body statement_body branch_body statements_nested
not_counted_text = (refl, refl)

local_of_that_name_text : LocalOfThatName
unfolding expression_body step_body place_body operand_body expressions_nested basic_body loop_step_body loop_test_body header_body value_body call_body operation_body free_change_body bound_change_body named_body by_name_body free_steps_body bound_steps_body counted_body declaration_body simple_body block_body test_body else_body choice_body loop_body unbranched_body unblocked_body statement_body branch_body statements_nested
local_of_that_name_text = (refl, refl)

pub read_bodies : BodiesAreRead
read_bodies = record {
  falling_precedence = falling_precedence_text;
  rising_precedence = rising_precedence_text;
  products = products_text;
  sums = sums_text;
  shifts = shifts_text;
  orders = orders_text;
  equalities = equalities_text;
  prefixes = prefixes_text;
  prefix_before_product = prefix_before_product_text;
  parentheses = parentheses_text;
  choices = choices_text;
  choice_inside = choice_inside_text;
  literals = literals_text;
  steps = steps_text;
  changes = changes_text;
  changes_of_bits = changes_of_bits_text;
  counting = counting_text;
  signed_types = signed_types_text;
  unsigned_types = unsigned_types_text;
  calls_and_blocks = calls_and_blocks_text;
  else_of_the_nearest = else_of_the_nearest_text;
  else_ifs = else_ifs_text;
  loop_below = loop_below_text;
  loop_up_to = loop_up_to_text;
  loop_by_one = loop_by_one_text;
  loop_in_a_loop = loop_in_a_loop_text;
  other_name = other_name_text;
  outer_name = outer_name_text;
  large_bound = large_bound_text;
  assigned = assigned_text;
  assigned_inside = assigned_inside_text;
  counted_behind = counted_behind_text;
  counted_before = counted_before_text;
  not_counted = not_counted_text;
  local_of_that_name = local_of_that_name_text;
}
