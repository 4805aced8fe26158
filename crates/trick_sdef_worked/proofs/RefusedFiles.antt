-- The worked texts are refused, as reading computes.
use Rattle.std.proofs.Common.{◌≡◌, [], ◌∷◌, Some, refl}
use Rattle.trick_body_symbols.specs.declared.symbol.Symbol.TheVariants as the
use Rattle.trick_grammar.specs.declared.refusal.Refusal.TheVariants.{Expected, NotInProfile, TooLong, BadTime}
use Rattle.trick_sdef_worked.specs.RefusedFiles.{refusal, FilesAreRefused}
use Rattle.trick_sdef_classes.specs.Members.{free_name_body}
use Rattle.trick_sdef_classes.specs.Members.{item_value_body}
use Rattle.trick_sdef_classes.specs.Members.{item_body}
use Rattle.trick_sdef_classes.specs.Members.{enum_body}
use Rattle.trick_sdef_classes.specs.Members.{length_body}
use Rattle.trick_sdef_classes.specs.Members.{lengths_body}
use Rattle.trick_sdef_classes.specs.Members.{declarator_body}
use Rattle.trick_sdef_classes.specs.Members.{more_declarators_body}
use Rattle.trick_sdef_classes.specs.Members.{declarators_body}
use Rattle.trick_sdef_classes.specs.Members.{member_body}
use Rattle.trick_sdef_classes.specs.Members.{struct_body}
use Rattle.trick_sdef_jobs.specs.Jobs.{time_body}
use Rattle.trick_sdef_jobs.specs.Jobs.{cycle_body}
use Rattle.trick_sdef_jobs.specs.Jobs.{scheduled_class_body}
use Rattle.trick_sdef_jobs.specs.Jobs.{other_class_body}
use Rattle.trick_sdef_jobs.specs.Jobs.{times_body}
use Rattle.trick_sdef_jobs.specs.Jobs.{thread_body}
use Rattle.trick_sdef_jobs.specs.Jobs.{phase_body}
use Rattle.trick_sdef_jobs.specs.Jobs.{job_body}
use Rattle.trick_sdef_classes.specs.Files.{include_body}
use Rattle.trick_sdef_classes.specs.Files.{constructor_body}
use Rattle.trick_sdef_classes.specs.Files.{other_type_body}
use Rattle.trick_sdef_classes.specs.Files.{after_int_body}
use Rattle.trick_sdef_classes.specs.Files.{int_part_body}
use Rattle.trick_sdef_classes.specs.Files.{part_body}
use Rattle.trick_sdef_classes.specs.Files.{after_name_body, class_body, class_head_body}
use Rattle.trick_sdef_jobs.specs.Jobs.{timed_body, every_body, called_body}
use Rattle.trick_sdef_classes.specs.Files.{object_body}
use Rattle.trick_sdef_classes.specs.Files.{definition_body, file_body}
use Rattle.trick_grammar.specs.Separated.{separated_body, behind_item}
use Rattle.trick_body_symbols.specs.Expressions.{expression_body, step_body, place_body, operand_body, nested_body as expressions_nested}
use Rattle.trick_body_symbols.specs.Statements.{basic_body, loop_step_body, loop_test_body, header_body, value_body, call_body, operation_body, free_change_body, bound_change_body, named_body, by_name_body, free_steps_body, bound_steps_body, counted_body, declaration_body, simple_body, block_body, test_body, else_body, choice_body, loop_body, unbranched_body, unblocked_body, statement_body, branch_body, nested_body as statements_nested}
use Rattle.trick_body_symbols.specs.Methods.{return_body, void_inside_body, int_inside_body, void_body, int_body, method_body}

other_file_text : refusal (the.Hash ∷ the.Include ∷ the.Text ∷ []) ≡ Some (NotInProfile, (Some 2))
unfolding expression_body step_body place_body operand_body expressions_nested basic_body loop_step_body loop_test_body header_body value_body call_body operation_body free_change_body bound_change_body named_body by_name_body free_steps_body bound_steps_body counted_body declaration_body simple_body block_body test_body else_body choice_body loop_body unbranched_body unblocked_body statement_body branch_body statements_nested return_body void_inside_body int_inside_body void_body int_body method_body free_name_body item_value_body item_body enum_body length_body lengths_body declarator_body more_declarators_body declarators_body member_body struct_body time_body cycle_body scheduled_class_body other_class_body times_body timed_body every_body called_body thread_body phase_body job_body include_body constructor_body other_type_body after_int_body int_part_body after_name_body part_body class_head_body class_body object_body definition_body file_body separated_body behind_item
other_file_text = refl

other_directive_text : refusal (the.Hash ∷ the.Enum ∷ []) ≡ Some (Expected, (Some 1))
unfolding expression_body step_body place_body operand_body expressions_nested basic_body loop_step_body loop_test_body header_body value_body call_body operation_body free_change_body bound_change_body named_body by_name_body free_steps_body bound_steps_body counted_body declaration_body simple_body block_body test_body else_body choice_body loop_body unbranched_body unblocked_body statement_body branch_body statements_nested return_body void_inside_body int_inside_body void_body int_body method_body free_name_body item_value_body item_body enum_body length_body lengths_body declarator_body more_declarators_body declarators_body member_body struct_body time_body cycle_body scheduled_class_body other_class_body times_body timed_body every_body called_body thread_body phase_body job_body include_body constructor_body other_type_body after_int_body int_part_body after_name_body part_body class_head_body class_body object_body definition_body file_body separated_body behind_item
other_directive_text = refl

pointer_text : refusal (the.Struct ∷ the.Name ∷ the.OpenBrace ∷ the.Long ∷ the.Times ∷ the.Name ∷ the.Semicolon ∷ the.CloseBrace ∷ the.Semicolon ∷ []) ≡ Some (NotInProfile, (Some 4))
unfolding expression_body step_body place_body operand_body expressions_nested basic_body loop_step_body loop_test_body header_body value_body call_body operation_body free_change_body bound_change_body named_body by_name_body free_steps_body bound_steps_body counted_body declaration_body simple_body block_body test_body else_body choice_body loop_body unbranched_body unblocked_body statement_body branch_body statements_nested return_body void_inside_body int_inside_body void_body int_body method_body free_name_body item_value_body item_body enum_body length_body lengths_body declarator_body more_declarators_body declarators_body member_body struct_body time_body cycle_body scheduled_class_body other_class_body times_body timed_body every_body called_body thread_body phase_body job_body include_body constructor_body other_type_body after_int_body int_part_body after_name_body part_body class_head_body class_body object_body definition_body file_body separated_body behind_item
pointer_text = refl

behind_a_name_text : refusal (the.Struct ∷ the.Name ∷ the.OpenBrace ∷ the.Long ∷ the.Name ∷ the.Times ∷ the.Name ∷ the.Semicolon ∷ the.CloseBrace ∷ the.Semicolon ∷ []) ≡ Some (Expected, (Some 5))
unfolding expression_body step_body place_body operand_body expressions_nested basic_body loop_step_body loop_test_body header_body value_body call_body operation_body free_change_body bound_change_body named_body by_name_body free_steps_body bound_steps_body counted_body declaration_body simple_body block_body test_body else_body choice_body loop_body unbranched_body unblocked_body statement_body branch_body statements_nested return_body void_inside_body int_inside_body void_body int_body method_body free_name_body item_value_body item_body enum_body length_body lengths_body declarator_body more_declarators_body declarators_body member_body struct_body time_body cycle_body scheduled_class_body other_class_body times_body timed_body every_body called_body thread_body phase_body job_body include_body constructor_body other_type_body after_int_body int_part_body after_name_body part_body class_head_body class_body object_body definition_body file_body separated_body behind_item
behind_a_name_text = refl

no_length_text : refusal (the.Struct ∷ the.Name ∷ the.OpenBrace ∷ the.Long ∷ the.Name ∷ the.OpenBracket ∷ the.Zero ∷ the.CloseBracket ∷ the.Semicolon ∷ the.CloseBrace ∷ the.Semicolon ∷ []) ≡ Some (NotInProfile, (Some 6))
unfolding expression_body step_body place_body operand_body expressions_nested basic_body loop_step_body loop_test_body header_body value_body call_body operation_body free_change_body bound_change_body named_body by_name_body free_steps_body bound_steps_body counted_body declaration_body simple_body block_body test_body else_body choice_body loop_body unbranched_body unblocked_body statement_body branch_body statements_nested return_body void_inside_body int_inside_body void_body int_body method_body free_name_body item_value_body item_body enum_body length_body lengths_body declarator_body more_declarators_body declarators_body member_body struct_body time_body cycle_body scheduled_class_body other_class_body times_body timed_body every_body called_body thread_body phase_body job_body include_body constructor_body other_type_body after_int_body int_part_body after_name_body part_body class_head_body class_body object_body definition_body file_body separated_body behind_item
no_length_text = refl

member_trick_text : refusal (the.Struct ∷ the.Name ∷ the.OpenBrace ∷ the.Int ∷ the.LowerTrick ∷ the.Semicolon ∷ the.CloseBrace ∷ the.Semicolon ∷ []) ≡ Some (NotInProfile, (Some 4))
unfolding expression_body step_body place_body operand_body expressions_nested basic_body loop_step_body loop_test_body header_body value_body call_body operation_body free_change_body bound_change_body named_body by_name_body free_steps_body bound_steps_body counted_body declaration_body simple_body block_body test_body else_body choice_body loop_body unbranched_body unblocked_body statement_body branch_body statements_nested return_body void_inside_body int_inside_body void_body int_body method_body free_name_body item_value_body item_body enum_body length_body lengths_body declarator_body more_declarators_body declarators_body member_body struct_body time_body cycle_body scheduled_class_body other_class_body times_body timed_body every_body called_body thread_body phase_body job_body include_body constructor_body other_type_body after_int_body int_part_body after_name_body part_body class_head_body class_body object_body definition_body file_body separated_body behind_item
member_trick_text = refl

enum_trick_text : refusal (the.Enum ∷ the.LowerTrick ∷ the.OpenBrace ∷ []) ≡ Some (NotInProfile, (Some 1))
unfolding expression_body step_body place_body operand_body expressions_nested basic_body loop_step_body loop_test_body header_body value_body call_body operation_body free_change_body bound_change_body named_body by_name_body free_steps_body bound_steps_body counted_body declaration_body simple_body block_body test_body else_body choice_body loop_body unbranched_body unblocked_body statement_body branch_body statements_nested return_body void_inside_body int_inside_body void_body int_body method_body free_name_body item_value_body item_body enum_body length_body lengths_body declarator_body more_declarators_body declarators_body member_body struct_body time_body cycle_body scheduled_class_body other_class_body times_body timed_body every_body called_body thread_body phase_body job_body include_body constructor_body other_type_body after_int_body int_part_body after_name_body part_body class_head_body class_body object_body definition_body file_body separated_body behind_item
enum_trick_text = refl

object_trick_text : refusal (the.Name ∷ the.LowerTrick ∷ the.Semicolon ∷ []) ≡ Some (NotInProfile, (Some 1))
unfolding expression_body step_body place_body operand_body expressions_nested basic_body loop_step_body loop_test_body header_body value_body call_body operation_body free_change_body bound_change_body named_body by_name_body free_steps_body bound_steps_body counted_body declaration_body simple_body block_body test_body else_body choice_body loop_body unbranched_body unblocked_body statement_body branch_body statements_nested return_body void_inside_body int_inside_body void_body int_body method_body free_name_body item_value_body item_body enum_body length_body lengths_body declarator_body more_declarators_body declarators_body member_body struct_body time_body cycle_body scheduled_class_body other_class_body times_body timed_body every_body called_body thread_body phase_body job_body include_body constructor_body other_type_body after_int_body int_part_body after_name_body part_body class_head_body class_body object_body definition_body file_body separated_body behind_item
object_trick_text = refl

pointer_method_text : refusal (the.Class ∷ the.Name ∷ the.Colon ∷ the.Public ∷ the.UpperTrick ∷ the.DoubleColon ∷ the.SimObject ∷ the.OpenBrace ∷ the.Int ∷ the.Times ∷ the.Name ∷ []) ≡ Some (NotInProfile, (Some 9))
unfolding expression_body step_body place_body operand_body expressions_nested basic_body loop_step_body loop_test_body header_body value_body call_body operation_body free_change_body bound_change_body named_body by_name_body free_steps_body bound_steps_body counted_body declaration_body simple_body block_body test_body else_body choice_body loop_body unbranched_body unblocked_body statement_body branch_body statements_nested return_body void_inside_body int_inside_body void_body int_body method_body free_name_body item_value_body item_body enum_body length_body lengths_body declarator_body more_declarators_body declarators_body member_body struct_body time_body cycle_body scheduled_class_body other_class_body times_body timed_body every_body called_body thread_body phase_body job_body include_body constructor_body other_type_body after_int_body int_part_body after_name_body part_body class_head_body class_body object_body definition_body file_body separated_body behind_item
pointer_method_text = refl

trick_no_method_text : refusal (the.Class ∷ the.Name ∷ the.Colon ∷ the.Public ∷ the.UpperTrick ∷ the.DoubleColon ∷ the.SimObject ∷ the.OpenBrace ∷ the.Int ∷ the.LowerTrick ∷ the.Semicolon ∷ []) ≡ Some (NotInProfile, (Some 10))
unfolding expression_body step_body place_body operand_body expressions_nested basic_body loop_step_body loop_test_body header_body value_body call_body operation_body free_change_body bound_change_body named_body by_name_body free_steps_body bound_steps_body counted_body declaration_body simple_body block_body test_body else_body choice_body loop_body unbranched_body unblocked_body statement_body branch_body statements_nested return_body void_inside_body int_inside_body void_body int_body method_body free_name_body item_value_body item_body enum_body length_body lengths_body declarator_body more_declarators_body declarators_body member_body struct_body time_body cycle_body scheduled_class_body other_class_body times_body timed_body every_body called_body thread_body phase_body job_body include_body constructor_body other_type_body after_int_body int_part_body after_name_body part_body class_head_body class_body object_body definition_body file_body separated_body behind_item
trick_no_method_text = refl

sixteenth_thread_text : refusal (the.Class ∷ the.Name ∷ the.Colon ∷ the.Public ∷ the.UpperTrick ∷ the.DoubleColon ∷ the.SimObject ∷ the.OpenBrace ∷ the.Name ∷ the.OpenParen ∷ the.CloseParen ∷ the.OpenBrace ∷ the.OtherThread ∷ the.OpenParen ∷ the.Scheduled ∷ the.CloseParen ∷ []) ≡ Some (NotInProfile, (Some 12))
unfolding expression_body step_body place_body operand_body expressions_nested basic_body loop_step_body loop_test_body header_body value_body call_body operation_body free_change_body bound_change_body named_body by_name_body free_steps_body bound_steps_body counted_body declaration_body simple_body block_body test_body else_body choice_body loop_body unbranched_body unblocked_body statement_body branch_body statements_nested return_body void_inside_body int_inside_body void_body int_body method_body free_name_body item_value_body item_body enum_body length_body lengths_body declarator_body more_declarators_body declarators_body member_body struct_body time_body cycle_body scheduled_class_body other_class_body times_body timed_body every_body called_body thread_body phase_body job_body include_body constructor_body other_type_body after_int_body int_part_body after_name_body part_body class_head_body class_body object_body definition_body file_body separated_body behind_item
sixteenth_thread_text = refl

thread_behind_phase_text : refusal (the.Class ∷ the.Name ∷ the.Colon ∷ the.Public ∷ the.UpperTrick ∷ the.DoubleColon ∷ the.SimObject ∷ the.OpenBrace ∷ the.Name ∷ the.OpenParen ∷ the.CloseParen ∷ the.OpenBrace ∷ the.Phase ∷ the.Thread ∷ the.OpenParen ∷ []) ≡ Some (Expected, (Some 13))
unfolding expression_body step_body place_body operand_body expressions_nested basic_body loop_step_body loop_test_body header_body value_body call_body operation_body free_change_body bound_change_body named_body by_name_body free_steps_body bound_steps_body counted_body declaration_body simple_body block_body test_body else_body choice_body loop_body unbranched_body unblocked_body statement_body branch_body statements_nested return_body void_inside_body int_inside_body void_body int_body method_body free_name_body item_value_body item_body enum_body length_body lengths_body declarator_body more_declarators_body declarators_body member_body struct_body time_body cycle_body scheduled_class_body other_class_body times_body timed_body every_body called_body thread_body phase_body job_body include_body constructor_body other_type_body after_int_body int_part_body after_name_body part_body class_head_body class_body object_body definition_body file_body separated_body behind_item
thread_behind_phase_text = refl

no_cycle_text : refusal (the.Class ∷ the.Name ∷ the.Colon ∷ the.Public ∷ the.UpperTrick ∷ the.DoubleColon ∷ the.SimObject ∷ the.OpenBrace ∷ the.Name ∷ the.OpenParen ∷ the.CloseParen ∷ the.OpenBrace ∷ the.OpenParen ∷ the.Scheduled ∷ the.CloseParen ∷ []) ≡ Some (NotInProfile, (Some 13))
unfolding expression_body step_body place_body operand_body expressions_nested basic_body loop_step_body loop_test_body header_body value_body call_body operation_body free_change_body bound_change_body named_body by_name_body free_steps_body bound_steps_body counted_body declaration_body simple_body block_body test_body else_body choice_body loop_body unbranched_body unblocked_body statement_body branch_body statements_nested return_body void_inside_body int_inside_body void_body int_body method_body free_name_body item_value_body item_body enum_body length_body lengths_body declarator_body more_declarators_body declarators_body member_body struct_body time_body cycle_body scheduled_class_body other_class_body times_body timed_body every_body called_body thread_body phase_body job_body include_body constructor_body other_type_body after_int_body int_part_body after_name_body part_body class_head_body class_body object_body definition_body file_body separated_body behind_item
no_cycle_text = refl

cycle_of_0_text : refusal (the.Class ∷ the.Name ∷ the.Colon ∷ the.Public ∷ the.UpperTrick ∷ the.DoubleColon ∷ the.SimObject ∷ the.OpenBrace ∷ the.Name ∷ the.OpenParen ∷ the.CloseParen ∷ the.OpenBrace ∷ the.OpenParen ∷ the.Zero ∷ the.Comma ∷ the.Scheduled ∷ the.CloseParen ∷ []) ≡ Some (NotInProfile, (Some 13))
unfolding expression_body step_body place_body operand_body expressions_nested basic_body loop_step_body loop_test_body header_body value_body call_body operation_body free_change_body bound_change_body named_body by_name_body free_steps_body bound_steps_body counted_body declaration_body simple_body block_body test_body else_body choice_body loop_body unbranched_body unblocked_body statement_body branch_body statements_nested return_body void_inside_body int_inside_body void_body int_body method_body free_name_body item_value_body item_body enum_body length_body lengths_body declarator_body more_declarators_body declarators_body member_body struct_body time_body cycle_body scheduled_class_body other_class_body times_body timed_body every_body called_body thread_body phase_body job_body include_body constructor_body other_type_body after_int_body int_part_body after_name_body part_body class_head_body class_body object_body definition_body file_body separated_body behind_item
cycle_of_0_text = refl

times_of_another_class_text : refusal (the.Class ∷ the.Name ∷ the.Colon ∷ the.Public ∷ the.UpperTrick ∷ the.DoubleColon ∷ the.SimObject ∷ the.OpenBrace ∷ the.Name ∷ the.OpenParen ∷ the.CloseParen ∷ the.OpenBrace ∷ the.OpenParen ∷ the.One ∷ the.Comma ∷ the.Initialization ∷ the.CloseParen ∷ []) ≡ Some (NotInProfile, (Some 15))
unfolding expression_body step_body place_body operand_body expressions_nested basic_body loop_step_body loop_test_body header_body value_body call_body operation_body free_change_body bound_change_body named_body by_name_body free_steps_body bound_steps_body counted_body declaration_body simple_body block_body test_body else_body choice_body loop_body unbranched_body unblocked_body statement_body branch_body statements_nested return_body void_inside_body int_inside_body void_body int_body method_body free_name_body item_value_body item_body enum_body length_body lengths_body declarator_body more_declarators_body declarators_body member_body struct_body time_body cycle_body scheduled_class_body other_class_body times_body timed_body every_body called_body thread_body phase_body job_body include_body constructor_body other_type_body after_int_body int_part_body after_name_body part_body class_head_body class_body object_body definition_body file_body separated_body behind_item
times_of_another_class_text = refl

no_class_text : refusal (the.Class ∷ the.Name ∷ the.Colon ∷ the.Public ∷ the.UpperTrick ∷ the.DoubleColon ∷ the.SimObject ∷ the.OpenBrace ∷ the.Name ∷ the.OpenParen ∷ the.CloseParen ∷ the.OpenBrace ∷ the.OpenParen ∷ the.Text ∷ the.CloseParen ∷ []) ≡ Some (NotInProfile, (Some 13))
unfolding expression_body step_body place_body operand_body expressions_nested basic_body loop_step_body loop_test_body header_body value_body call_body operation_body free_change_body bound_change_body named_body by_name_body free_steps_body bound_steps_body counted_body declaration_body simple_body block_body test_body else_body choice_body loop_body unbranched_body unblocked_body statement_body branch_body statements_nested return_body void_inside_body int_inside_body void_body int_body method_body free_name_body item_value_body item_body enum_body length_body lengths_body declarator_body more_declarators_body declarators_body member_body struct_body time_body cycle_body scheduled_class_body other_class_body times_body timed_body every_body called_body thread_body phase_body job_body include_body constructor_body other_type_body after_int_body int_part_body after_name_body part_body class_head_body class_body object_body definition_body file_body separated_body behind_item
no_class_text = refl

long_time_text : refusal (the.Class ∷ the.Name ∷ the.Colon ∷ the.Public ∷ the.UpperTrick ∷ the.DoubleColon ∷ the.SimObject ∷ the.OpenBrace ∷ the.Name ∷ the.OpenParen ∷ the.CloseParen ∷ the.OpenBrace ∷ the.OpenParen ∷ the.Huge ∷ the.Comma ∷ the.Scheduled ∷ the.CloseParen ∷ []) ≡ Some (BadTime, (Some 13))
unfolding expression_body step_body place_body operand_body expressions_nested basic_body loop_step_body loop_test_body header_body value_body call_body operation_body free_change_body bound_change_body named_body by_name_body free_steps_body bound_steps_body counted_body declaration_body simple_body block_body test_body else_body choice_body loop_body unbranched_body unblocked_body statement_body branch_body statements_nested return_body void_inside_body int_inside_body void_body int_body method_body free_name_body item_value_body item_body enum_body length_body lengths_body declarator_body more_declarators_body declarators_body member_body struct_body time_body cycle_body scheduled_class_body other_class_body times_body timed_body every_body called_body thread_body phase_body job_body include_body constructor_body other_type_body after_int_body int_part_body after_name_body part_body class_head_body class_body object_body definition_body file_body separated_body behind_item
long_time_text = refl

length_pointer_text : refusal (the.Struct ∷ the.Name ∷ the.OpenBrace ∷ the.Long ∷ the.Name ∷ the.OpenBracket ∷ the.Times ∷ []) ≡ Some (NotInProfile, (Some 6))
unfolding expression_body step_body place_body operand_body expressions_nested basic_body loop_step_body loop_test_body header_body value_body call_body operation_body free_change_body bound_change_body named_body by_name_body free_steps_body bound_steps_body counted_body declaration_body simple_body block_body test_body else_body choice_body loop_body unbranched_body unblocked_body statement_body branch_body statements_nested return_body void_inside_body int_inside_body void_body int_body method_body free_name_body item_value_body item_body enum_body length_body lengths_body declarator_body more_declarators_body declarators_body member_body struct_body time_body cycle_body scheduled_class_body other_class_body times_body timed_body every_body called_body thread_body phase_body job_body include_body constructor_body other_type_body after_int_body int_part_body after_name_body part_body class_head_body class_body object_body definition_body file_body separated_body behind_item
length_pointer_text = refl

pointer_behind_a_length_text : refusal (the.Struct ∷ the.Name ∷ the.OpenBrace ∷ the.Long ∷ the.Name ∷ the.OpenBracket ∷ the.Small ∷ the.BitAnd ∷ []) ≡ Some (NotInProfile, (Some 7))
unfolding expression_body step_body place_body operand_body expressions_nested basic_body loop_step_body loop_test_body header_body value_body call_body operation_body free_change_body bound_change_body named_body by_name_body free_steps_body bound_steps_body counted_body declaration_body simple_body block_body test_body else_body choice_body loop_body unbranched_body unblocked_body statement_body branch_body statements_nested return_body void_inside_body int_inside_body void_body int_body method_body free_name_body item_value_body item_body enum_body length_body lengths_body declarator_body more_declarators_body declarators_body member_body struct_body time_body cycle_body scheduled_class_body other_class_body times_body timed_body every_body called_body thread_body phase_body job_body include_body constructor_body other_type_body after_int_body int_part_body after_name_body part_body class_head_body class_body object_body definition_body file_body separated_body behind_item
pointer_behind_a_length_text = refl

phase_of_0_text : refusal (the.Class ∷ the.Name ∷ the.Colon ∷ the.Public ∷ the.UpperTrick ∷ the.DoubleColon ∷ the.SimObject ∷ the.OpenBrace ∷ the.Name ∷ the.OpenParen ∷ the.CloseParen ∷ the.OpenBrace ∷ the.OtherPhase ∷ the.OpenParen ∷ []) ≡ Some (NotInProfile, (Some 12))
unfolding expression_body step_body place_body operand_body expressions_nested basic_body loop_step_body loop_test_body header_body value_body call_body operation_body free_change_body bound_change_body named_body by_name_body free_steps_body bound_steps_body counted_body declaration_body simple_body block_body test_body else_body choice_body loop_body unbranched_body unblocked_body statement_body branch_body statements_nested return_body void_inside_body int_inside_body void_body int_body method_body free_name_body item_value_body item_body enum_body length_body lengths_body declarator_body more_declarators_body declarators_body member_body struct_body time_body cycle_body scheduled_class_body other_class_body times_body timed_body every_body called_body thread_body phase_body job_body include_body constructor_body other_type_body after_int_body int_part_body after_name_body part_body class_head_body class_body object_body definition_body file_body separated_body behind_item
phase_of_0_text = refl

long_start_text : refusal (the.Class ∷ the.Name ∷ the.Colon ∷ the.Public ∷ the.UpperTrick ∷ the.DoubleColon ∷ the.SimObject ∷ the.OpenBrace ∷ the.Name ∷ the.OpenParen ∷ the.CloseParen ∷ the.OpenBrace ∷ the.OpenParen ∷ the.One ∷ the.Comma ∷ the.Huge ∷ []) ≡ Some (BadTime, (Some 15))
unfolding expression_body step_body place_body operand_body expressions_nested basic_body loop_step_body loop_test_body header_body value_body call_body operation_body free_change_body bound_change_body named_body by_name_body free_steps_body bound_steps_body counted_body declaration_body simple_body block_body test_body else_body choice_body loop_body unbranched_body unblocked_body statement_body branch_body statements_nested return_body void_inside_body int_inside_body void_body int_body method_body free_name_body item_value_body item_body enum_body length_body lengths_body declarator_body more_declarators_body declarators_body member_body struct_body time_body cycle_body scheduled_class_body other_class_body times_body timed_body every_body called_body thread_body phase_body job_body include_body constructor_body other_type_body after_int_body int_part_body after_name_body part_body class_head_body class_body object_body definition_body file_body separated_body behind_item
long_start_text = refl

long_enum_text : refusal (the.Enum ∷ the.Name ∷ the.OpenBrace ∷ the.Name ∷ the.Comma ∷ the.Name ∷ the.Comma ∷ the.Name ∷ the.Comma ∷ the.Name ∷ the.Comma ∷ the.Name ∷ []) ≡ Some (TooLong, (Some 11))
unfolding expression_body step_body place_body operand_body expressions_nested basic_body loop_step_body loop_test_body header_body value_body call_body operation_body free_change_body bound_change_body named_body by_name_body free_steps_body bound_steps_body counted_body declaration_body simple_body block_body test_body else_body choice_body loop_body unbranched_body unblocked_body statement_body branch_body statements_nested return_body void_inside_body int_inside_body void_body int_body method_body free_name_body item_value_body item_body enum_body length_body lengths_body declarator_body more_declarators_body declarators_body member_body struct_body time_body cycle_body scheduled_class_body other_class_body times_body timed_body every_body called_body thread_body phase_body job_body include_body constructor_body other_type_body after_int_body int_part_body after_name_body part_body class_head_body class_body object_body definition_body file_body separated_body behind_item
long_enum_text = refl

long_line_text : refusal (the.Struct ∷ the.Name ∷ the.OpenBrace ∷ the.Long ∷ the.Name ∷ the.Comma ∷ the.Name ∷ the.Comma ∷ the.Name ∷ the.Comma ∷ the.Name ∷ the.Comma ∷ []) ≡ Some (TooLong, (Some 11))
unfolding expression_body step_body place_body operand_body expressions_nested basic_body loop_step_body loop_test_body header_body value_body call_body operation_body free_change_body bound_change_body named_body by_name_body free_steps_body bound_steps_body counted_body declaration_body simple_body block_body test_body else_body choice_body loop_body unbranched_body unblocked_body statement_body branch_body statements_nested return_body void_inside_body int_inside_body void_body int_body method_body free_name_body item_value_body item_body enum_body length_body lengths_body declarator_body more_declarators_body declarators_body member_body struct_body time_body cycle_body scheduled_class_body other_class_body times_body timed_body every_body called_body thread_body phase_body job_body include_body constructor_body other_type_body after_int_body int_part_body after_name_body part_body class_head_body class_body object_body definition_body file_body separated_body behind_item
long_line_text = refl

long_constructor_text : refusal (the.Class ∷ the.Name ∷ the.Colon ∷ the.Public ∷ the.UpperTrick ∷ the.DoubleColon ∷ the.SimObject ∷ the.OpenBrace ∷ the.Name ∷ the.OpenParen ∷ the.CloseParen ∷ the.OpenBrace ∷ the.OpenParen ∷ the.Freeze ∷ the.CloseParen ∷ the.Name ∷ the.OpenParen ∷ the.CloseParen ∷ the.Semicolon ∷ the.OpenParen ∷ the.Freeze ∷ the.CloseParen ∷ the.Name ∷ the.OpenParen ∷ the.CloseParen ∷ the.Semicolon ∷ the.OpenParen ∷ the.Freeze ∷ the.CloseParen ∷ the.Name ∷ the.OpenParen ∷ the.CloseParen ∷ the.Semicolon ∷ the.OpenParen ∷ the.Freeze ∷ the.CloseParen ∷ the.Name ∷ the.OpenParen ∷ the.CloseParen ∷ the.Semicolon ∷ the.OtherThread ∷ []) ≡ Some (TooLong, (Some 40))
unfolding expression_body step_body place_body operand_body expressions_nested basic_body loop_step_body loop_test_body header_body value_body call_body operation_body free_change_body bound_change_body named_body by_name_body free_steps_body bound_steps_body counted_body declaration_body simple_body block_body test_body else_body choice_body loop_body unbranched_body unblocked_body statement_body branch_body statements_nested return_body void_inside_body int_inside_body void_body int_body method_body free_name_body item_value_body item_body enum_body length_body lengths_body declarator_body more_declarators_body declarators_body member_body struct_body time_body cycle_body scheduled_class_body other_class_body times_body timed_body every_body called_body thread_body phase_body job_body include_body constructor_body other_type_body after_int_body int_part_body after_name_body part_body class_head_body class_body object_body definition_body file_body separated_body behind_item
long_constructor_text = refl

protected_text : refusal (the.Class ∷ the.Name ∷ the.Colon ∷ the.Outside ∷ []) ≡ Some (NotInProfile, (Some 3))
unfolding expression_body step_body place_body operand_body expressions_nested basic_body loop_step_body loop_test_body header_body value_body call_body operation_body free_change_body bound_change_body named_body by_name_body free_steps_body bound_steps_body counted_body declaration_body simple_body block_body test_body else_body choice_body loop_body unbranched_body unblocked_body statement_body branch_body statements_nested return_body void_inside_body int_inside_body void_body int_body method_body free_name_body item_value_body item_body enum_body length_body lengths_body declarator_body more_declarators_body declarators_body member_body struct_body time_body cycle_body scheduled_class_body other_class_body times_body timed_body every_body called_body thread_body phase_body job_body include_body constructor_body other_type_body after_int_body int_part_body after_name_body part_body class_head_body class_body object_body definition_body file_body separated_body behind_item
protected_text = refl

stray_mark_text : refusal (the.Name ∷ the.Name ∷ the.Semicolon ∷ the.Semicolon ∷ []) ≡ Some (Expected, (Some 3))
unfolding expression_body step_body place_body operand_body expressions_nested basic_body loop_step_body loop_test_body header_body value_body call_body operation_body free_change_body bound_change_body named_body by_name_body free_steps_body bound_steps_body counted_body declaration_body simple_body block_body test_body else_body choice_body loop_body unbranched_body unblocked_body statement_body branch_body statements_nested return_body void_inside_body int_inside_body void_body int_body method_body free_name_body item_value_body item_body enum_body length_body lengths_body declarator_body more_declarators_body declarators_body member_body struct_body time_body cycle_body scheduled_class_body other_class_body times_body timed_body every_body called_body thread_body phase_body job_body include_body constructor_body other_type_body after_int_body int_part_body after_name_body part_body class_head_body class_body object_body definition_body file_body separated_body behind_item
stray_mark_text = refl

long_file_text : refusal (the.Name ∷ the.Name ∷ the.Semicolon ∷ the.Name ∷ the.Name ∷ the.Semicolon ∷ the.Name ∷ the.Name ∷ the.Semicolon ∷ the.Name ∷ the.Name ∷ the.Semicolon ∷ the.Name ∷ the.Name ∷ the.Semicolon ∷ []) ≡ Some (TooLong, (Some 12))
unfolding expression_body step_body place_body operand_body expressions_nested basic_body loop_step_body loop_test_body header_body value_body call_body operation_body free_change_body bound_change_body named_body by_name_body free_steps_body bound_steps_body counted_body declaration_body simple_body block_body test_body else_body choice_body loop_body unbranched_body unblocked_body statement_body branch_body statements_nested return_body void_inside_body int_inside_body void_body int_body method_body free_name_body item_value_body item_body enum_body length_body lengths_body declarator_body more_declarators_body declarators_body member_body struct_body time_body cycle_body scheduled_class_body other_class_body times_body timed_body every_body called_body thread_body phase_body job_body include_body constructor_body other_type_body after_int_body int_part_body after_name_body part_body class_head_body class_body object_body definition_body file_body separated_body behind_item
long_file_text = refl

pub refused_files : FilesAreRefused
refused_files = record {
  other_file = other_file_text;
  other_directive = other_directive_text;
  pointer = pointer_text;
  behind_a_name = behind_a_name_text;
  no_length = no_length_text;
  member_trick = member_trick_text;
  enum_trick = enum_trick_text;
  object_trick = object_trick_text;
  pointer_method = pointer_method_text;
  trick_no_method = trick_no_method_text;
  sixteenth_thread = sixteenth_thread_text;
  thread_behind_phase = thread_behind_phase_text;
  no_cycle = no_cycle_text;
  cycle_of_0 = cycle_of_0_text;
  times_of_another_class = times_of_another_class_text;
  no_class = no_class_text;
  long_time = long_time_text;
  length_pointer = length_pointer_text;
  pointer_behind_a_length = pointer_behind_a_length_text;
  phase_of_0 = phase_of_0_text;
  long_start = long_start_text;
  long_enum = long_enum_text;
  long_line = long_line_text;
  long_constructor = long_constructor_text;
  protected = protected_text;
  stray_mark = stray_mark_text;
  long_file = long_file_text;
}
