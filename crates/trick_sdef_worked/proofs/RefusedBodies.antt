-- The worked texts are refused, as reading computes.
use Rattle.std.proofs.Common.{◌≡◌, [], ◌∷◌, Some, None, refl}
use Rattle.trick_body_symbols.specs.declared.symbol.Symbol.TheVariants as the
use Rattle.trick_grammar.specs.declared.refusal.Refusal.TheVariants.{Expected, NotInProfile, TooLong, TooDeep, BadHeader}
use Rattle.trick_sdef_worked.specs.RefusedBodies.{refusal, BodiesAreRefused}
use Rattle.trick_body_symbols.specs.Expressions.{expression_body, step_body, place_body, operand_body, nested_body as expressions_nested}
use Rattle.trick_body_symbols.specs.Statements.{basic_body, loop_step_body, loop_test_body, header_body, value_body, call_body, operation_body, free_change_body, bound_change_body, named_body, by_name_body, free_steps_body, bound_steps_body, counted_body, declaration_body, simple_body, block_body, test_body, else_body, choice_body, loop_body, unbranched_body, unblocked_body, statement_body, branch_body, nested_body as statements_nested}
use Rattle.trick_body_symbols.specs.Methods.{return_body, void_inside_body, int_inside_body, void_body, int_body, method_body}

missing_end_text : refusal (the.Void ∷ the.Name ∷ the.OpenParen ∷ the.CloseParen ∷ the.OpenBrace ∷ the.Name ∷ the.Assign ∷ the.Name ∷ the.Semicolon ∷ []) ≡ Some (Expected, None)
unfolding expression_body step_body place_body operand_body expressions_nested basic_body loop_step_body loop_test_body header_body value_body call_body operation_body free_change_body bound_change_body named_body by_name_body free_steps_body bound_steps_body counted_body declaration_body simple_body block_body test_body else_body choice_body loop_body unbranched_body unblocked_body statement_body branch_body statements_nested return_body void_inside_body int_inside_body void_body int_body method_body
missing_end_text = refl

missing_operand_text : refusal (the.Void ∷ the.Name ∷ the.OpenParen ∷ the.CloseParen ∷ the.OpenBrace ∷ the.Name ∷ the.Assign ∷ the.Name ∷ the.Plus ∷ the.Semicolon ∷ the.CloseBrace ∷ []) ≡ Some (Expected, (Some 9))
unfolding expression_body step_body place_body operand_body expressions_nested basic_body loop_step_body loop_test_body header_body value_body call_body operation_body free_change_body bound_change_body named_body by_name_body free_steps_body bound_steps_body counted_body declaration_body simple_body block_body test_body else_body choice_body loop_body unbranched_body unblocked_body statement_body branch_body statements_nested return_body void_inside_body int_inside_body void_body int_body method_body
missing_operand_text = refl

keyword_text : refusal (the.Void ∷ the.Name ∷ the.OpenParen ∷ the.CloseParen ∷ the.OpenBrace ∷ the.Outside ∷ the.OpenParen ∷ the.Name ∷ the.CloseParen ∷ the.Semicolon ∷ the.CloseBrace ∷ []) ≡ Some (NotInProfile, (Some 5))
unfolding expression_body step_body place_body operand_body expressions_nested basic_body loop_step_body loop_test_body header_body value_body call_body operation_body free_change_body bound_change_body named_body by_name_body free_steps_body bound_steps_body counted_body declaration_body simple_body block_body test_body else_body choice_body loop_body unbranched_body unblocked_body statement_body branch_body statements_nested return_body void_inside_body int_inside_body void_body int_body method_body
keyword_text = refl

early_return_text : refusal (the.Void ∷ the.Name ∷ the.OpenParen ∷ the.CloseParen ∷ the.OpenBrace ∷ the.Return ∷ the.Zero ∷ the.Semicolon ∷ the.CloseBrace ∷ []) ≡ Some (NotInProfile, (Some 5))
unfolding expression_body step_body place_body operand_body expressions_nested basic_body loop_step_body loop_test_body header_body value_body call_body operation_body free_change_body bound_change_body named_body by_name_body free_steps_body bound_steps_body counted_body declaration_body simple_body block_body test_body else_body choice_body loop_body unbranched_body unblocked_body statement_body branch_body statements_nested return_body void_inside_body int_inside_body void_body int_body method_body
early_return_text = refl

other_return_text : refusal (the.Int ∷ the.Name ∷ the.OpenParen ∷ the.CloseParen ∷ the.OpenBrace ∷ the.Return ∷ the.LongZero ∷ the.Semicolon ∷ the.CloseBrace ∷ []) ≡ Some (Expected, (Some 6))
unfolding expression_body step_body place_body operand_body expressions_nested basic_body loop_step_body loop_test_body header_body value_body call_body operation_body free_change_body bound_change_body named_body by_name_body free_steps_body bound_steps_body counted_body declaration_body simple_body block_body test_body else_body choice_body loop_body unbranched_body unblocked_body statement_body branch_body statements_nested return_body void_inside_body int_inside_body void_body int_body method_body
other_return_text = refl

pointer_text : refusal (the.Void ∷ the.Name ∷ the.OpenParen ∷ the.CloseParen ∷ the.OpenBrace ∷ the.Int ∷ the.Times ∷ the.Name ∷ the.Semicolon ∷ the.CloseBrace ∷ []) ≡ Some (Expected, (Some 6))
unfolding expression_body step_body place_body operand_body expressions_nested basic_body loop_step_body loop_test_body header_body value_body call_body operation_body free_change_body bound_change_body named_body by_name_body free_steps_body bound_steps_body counted_body declaration_body simple_body block_body test_body else_body choice_body loop_body unbranched_body unblocked_body statement_body branch_body statements_nested return_body void_inside_body int_inside_body void_body int_body method_body
pointer_text = refl

long_list_text : refusal (the.Void ∷ the.Name ∷ the.OpenParen ∷ the.CloseParen ∷ the.OpenBrace ∷ the.Semicolon ∷ the.Semicolon ∷ the.Semicolon ∷ the.Semicolon ∷ the.Semicolon ∷ the.CloseBrace ∷ []) ≡ Some (TooLong, (Some 9))
unfolding expression_body step_body place_body operand_body expressions_nested basic_body loop_step_body loop_test_body header_body value_body call_body operation_body free_change_body bound_change_body named_body by_name_body free_steps_body bound_steps_body counted_body declaration_body simple_body block_body test_body else_body choice_body loop_body unbranched_body unblocked_body statement_body branch_body statements_nested return_body void_inside_body int_inside_body void_body int_body method_body
long_list_text = refl

deep_blocks_text : refusal (the.Void ∷ the.Name ∷ the.OpenParen ∷ the.CloseParen ∷ the.OpenBrace ∷ the.OpenBrace ∷ the.OpenBrace ∷ the.OpenBrace ∷ the.OpenBrace ∷ the.CloseBrace ∷ the.CloseBrace ∷ the.CloseBrace ∷ the.CloseBrace ∷ the.CloseBrace ∷ []) ≡ Some (TooDeep, (Some 8))
unfolding expression_body step_body place_body operand_body expressions_nested basic_body loop_step_body loop_test_body header_body value_body call_body operation_body free_change_body bound_change_body named_body by_name_body free_steps_body bound_steps_body counted_body declaration_body simple_body block_body test_body else_body choice_body loop_body unbranched_body unblocked_body statement_body branch_body statements_nested return_body void_inside_body int_inside_body void_body int_body method_body
deep_blocks_text = refl

deep_brackets_text : refusal (the.Void ∷ the.Name ∷ the.OpenParen ∷ the.CloseParen ∷ the.OpenBrace ∷ the.Name ∷ the.Assign ∷ the.OpenParen ∷ the.OpenParen ∷ the.OpenParen ∷ the.OpenParen ∷ the.Name ∷ the.CloseParen ∷ the.CloseParen ∷ the.CloseParen ∷ the.CloseParen ∷ the.Semicolon ∷ the.CloseBrace ∷ []) ≡ Some (TooDeep, (Some 10))
unfolding expression_body step_body place_body operand_body expressions_nested basic_body loop_step_body loop_test_body header_body value_body call_body operation_body free_change_body bound_change_body named_body by_name_body free_steps_body bound_steps_body counted_body declaration_body simple_body block_body test_body else_body choice_body loop_body unbranched_body unblocked_body statement_body branch_body statements_nested return_body void_inside_body int_inside_body void_body int_body method_body
deep_brackets_text = refl

deep_prefixes_text : refusal (the.Void ∷ the.Name ∷ the.OpenParen ∷ the.CloseParen ∷ the.OpenBrace ∷ the.Name ∷ the.Assign ∷ the.Minus ∷ the.Minus ∷ the.Minus ∷ the.Minus ∷ the.Name ∷ the.Semicolon ∷ the.CloseBrace ∷ []) ≡ Some (TooDeep, (Some 10))
unfolding expression_body step_body place_body operand_body expressions_nested basic_body loop_step_body loop_test_body header_body value_body call_body operation_body free_change_body bound_change_body named_body by_name_body free_steps_body bound_steps_body counted_body declaration_body simple_body block_body test_body else_body choice_body loop_body unbranched_body unblocked_body statement_body branch_body statements_nested return_body void_inside_body int_inside_body void_body int_body method_body
deep_prefixes_text = refl

deep_branches_text : refusal (the.Void ∷ the.Name ∷ the.OpenParen ∷ the.CloseParen ∷ the.OpenBrace ∷ the.For ∷ the.OpenParen ∷ the.Int ∷ the.Name ∷ the.Assign ∷ the.Zero ∷ the.Semicolon ∷ the.Name ∷ the.Less ∷ the.Small ∷ the.Semicolon ∷ the.Name ∷ the.Increment ∷ the.CloseParen ∷ the.If ∷ the.OpenParen ∷ the.Name ∷ the.CloseParen ∷ the.For ∷ the.OpenParen ∷ the.Int ∷ the.Name ∷ the.Assign ∷ the.Zero ∷ the.Semicolon ∷ the.Name ∷ the.Less ∷ the.Small ∷ the.Semicolon ∷ the.Name ∷ the.Increment ∷ the.CloseParen ∷ the.If ∷ the.OpenParen ∷ the.Name ∷ the.CloseParen ∷ the.Semicolon ∷ the.CloseBrace ∷ []) ≡ Some (TooDeep, (Some 37))
unfolding expression_body step_body place_body operand_body expressions_nested basic_body loop_step_body loop_test_body header_body value_body call_body operation_body free_change_body bound_change_body named_body by_name_body free_steps_body bound_steps_body counted_body declaration_body simple_body block_body test_body else_body choice_body loop_body unbranched_body unblocked_body statement_body branch_body statements_nested return_body void_inside_body int_inside_body void_body int_body method_body
deep_branches_text = refl

loop_step_text : refusal (the.Void ∷ the.Name ∷ the.OpenParen ∷ the.CloseParen ∷ the.OpenBrace ∷ the.For ∷ the.OpenParen ∷ the.Int ∷ the.Name ∷ the.Assign ∷ the.Zero ∷ the.Semicolon ∷ the.Name ∷ the.Less ∷ the.Small ∷ the.Semicolon ∷ the.Name ∷ the.PlusAssign ∷ the.Small ∷ the.CloseParen ∷ the.Semicolon ∷ the.CloseBrace ∷ []) ≡ Some (BadHeader, (Some 18))
unfolding expression_body step_body place_body operand_body expressions_nested basic_body loop_step_body loop_test_body header_body value_body call_body operation_body free_change_body bound_change_body named_body by_name_body free_steps_body bound_steps_body counted_body declaration_body simple_body block_body test_body else_body choice_body loop_body unbranched_body unblocked_body statement_body branch_body statements_nested return_body void_inside_body int_inside_body void_body int_body method_body
loop_step_text = refl

loop_bound_text : refusal (the.Void ∷ the.Name ∷ the.OpenParen ∷ the.CloseParen ∷ the.OpenBrace ∷ the.For ∷ the.OpenParen ∷ the.Int ∷ the.Name ∷ the.Assign ∷ the.Zero ∷ the.Semicolon ∷ the.Name ∷ the.Less ∷ the.Large ∷ the.Semicolon ∷ the.Name ∷ the.Increment ∷ the.CloseParen ∷ the.Semicolon ∷ the.CloseBrace ∷ []) ≡ Some (BadHeader, (Some 14))
unfolding expression_body step_body place_body operand_body expressions_nested basic_body loop_step_body loop_test_body header_body value_body call_body operation_body free_change_body bound_change_body named_body by_name_body free_steps_body bound_steps_body counted_body declaration_body simple_body block_body test_body else_body choice_body loop_body unbranched_body unblocked_body statement_body branch_body statements_nested return_body void_inside_body int_inside_body void_body int_body method_body
loop_bound_text = refl

loop_keyword_text : refusal (the.Void ∷ the.Name ∷ the.OpenParen ∷ the.CloseParen ∷ the.OpenBrace ∷ the.For ∷ the.OpenParen ∷ the.Outside ∷ the.Name ∷ the.Assign ∷ the.Zero ∷ the.Semicolon ∷ the.Name ∷ the.Less ∷ the.Small ∷ the.Semicolon ∷ the.Name ∷ the.Increment ∷ the.CloseParen ∷ the.Semicolon ∷ the.CloseBrace ∷ []) ≡ Some (BadHeader, (Some 7))
unfolding expression_body step_body place_body operand_body expressions_nested basic_body loop_step_body loop_test_body header_body value_body call_body operation_body free_change_body bound_change_body named_body by_name_body free_steps_body bound_steps_body counted_body declaration_body simple_body block_body test_body else_body choice_body loop_body unbranched_body unblocked_body statement_body branch_body statements_nested return_body void_inside_body int_inside_body void_body int_body method_body
loop_keyword_text = refl

loop_end_text : refusal (the.Void ∷ the.Name ∷ the.OpenParen ∷ the.CloseParen ∷ the.OpenBrace ∷ the.For ∷ the.OpenParen ∷ the.Int ∷ the.Name ∷ []) ≡ Some (BadHeader, None)
unfolding expression_body step_body place_body operand_body expressions_nested basic_body loop_step_body loop_test_body header_body value_body call_body operation_body free_change_body bound_change_body named_body by_name_body free_steps_body bound_steps_body counted_body declaration_body simple_body block_body test_body else_body choice_body loop_body unbranched_body unblocked_body statement_body branch_body statements_nested return_body void_inside_body int_inside_body void_body int_body method_body
loop_end_text = refl

pub refused_bodies : BodiesAreRefused
refused_bodies = record {
  missing_end = missing_end_text;
  missing_operand = missing_operand_text;
  keyword = keyword_text;
  early_return = early_return_text;
  other_return = other_return_text;
  pointer = pointer_text;
  long_list = long_list_text;
  deep_blocks = deep_blocks_text;
  deep_brackets = deep_brackets_text;
  deep_prefixes = deep_prefixes_text;
  deep_branches = deep_branches_text;
  loop_step = loop_step_text;
  loop_bound = loop_bound_text;
  loop_keyword = loop_keyword_text;
  loop_end = loop_end_text;
}
