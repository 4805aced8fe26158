-- The next token decides each step of the grammar of files.
use Rattle.std.proofs.Common.{◌≡◌, ℕ, zero, suc, ◌-◌, true, refl, List, [], ◌∷◌}
use Rattle.trick_body_statements.proofs.MethodTests.{void_test, int_test, int_inside_test}
use Rattle.trick_body_statements.proofs.StatementTests.{basic_test}
use Rattle.trick_body_symbols.specs.Expressions.{names}
use Rattle.trick_body_symbols.specs.Symbols.{number_of, Token}
use Rattle.trick_body_symbols.specs.declared.symbol.Symbol.TheVariants as the
use Rattle.trick_grammar.specs.Grammar.{is_predictive}
use Rattle.trick_grammar.specs.Separated.{behind_item, more_items, separated_body}
use Rattle.trick_sdef_classes.specs.Files.{include, include_body, constructor_rest, constructor_body, other_type_body, after_int, after_int_body, int_part, int_part_body, after_name_body, part, part_body, class_head, class_head_body, class, class_body, object, object_body, definition_body, file_body, file}
use Rattle.trick_sdef_jobs.specs.Jobs.{time_body, cycle_body, scheduled_class_body, other_class_body, times, times_body, timed_body, every_body, called_body, thread_body, phase_body, job, job_body}
use Rattle.trick_sdef_classes.specs.Members.{free_name, free_name_body, item_value_body, item_body, items, enum, enum_body, length_body, lengths_body, declarator_body, more_declarators, more_declarators_body, declarators, declarators_body, member_body, struct, struct_body}

free_name_test : is_predictive number_of free_name ≡ true
unfolding free_name_body
free_name_test = refl

include_test : is_predictive number_of include ≡ true
unfolding include_body
include_test = refl

class_head_test : is_predictive number_of class_head ≡ true
unfolding class_head_body
class_head_test = rw free_name_test refl

times_test : is_predictive number_of times ≡ true
unfolding times_body timed_body every_body time_body cycle_body scheduled_class_body other_class_body
times_test = refl

job_test : (text : List ℕ) → is_predictive number_of (job text) ≡ true
unfolding job_body called_body thread_body phase_body
job_test text = rw times_test refl

module _ (text : List ℕ) where
  more_test : (n : ℕ) → is_predictive number_of (more_items {T = Token} the.Comma names (the.Assign ∷ []) (item_body text) n) ≡ true
  unfolding behind_item item_body item_value_body
  more_test zero = refl
  more_test (suc n) = rw (more_test n) refl

  module _ (limit : ℕ) where
    items_test : is_predictive number_of (items text limit) ≡ true
    unfolding separated_body item_body item_value_body
    items_test = rw (more_test (limit - 1)) refl

    enum_test : is_predictive number_of (enum text limit) ≡ true
    unfolding enum_body
    enum_test = rw (free_name_test, items_test) refl

    more_declarators_test : is_predictive number_of (more_declarators text limit) ≡ true
    unfolding more_declarators_body declarator_body lengths_body length_body free_name_body
    more_declarators_test = refl

    declarators_test : is_predictive number_of (declarators text limit) ≡ true
    unfolding declarators_body declarator_body lengths_body length_body free_name_body
    declarators_test = rw more_declarators_test refl

    struct_test : is_predictive number_of (struct text limit) ≡ true
    unfolding struct_body member_body
    struct_test = rw (free_name_test, basic_test, declarators_test) refl

    module _ (n : ℕ) where
      constructor_test : is_predictive number_of (constructor_rest text limit) ≡ true
      unfolding constructor_body
      constructor_test = rw (job_test text) refl

      after_int_test : is_predictive number_of (after_int text limit n) ≡ true
      unfolding after_int_body lengths_body length_body
      after_int_test = rw (int_test text limit n, more_declarators_test) refl

      int_part_test : is_predictive number_of (int_part text limit n) ≡ true
      unfolding int_part_body
      int_part_test = rw (int_inside_test text limit n, after_int_test) refl

      part_test : is_predictive number_of (part text limit n) ≡ true
      unfolding part_body after_name_body other_type_body
      part_test = rw (void_test text limit n, int_part_test, declarators_test, constructor_test) refl

      class_test : is_predictive number_of (class text limit n) ≡ true
      unfolding class_body
      class_test = rw (class_head_test, part_test) refl

      object_test : is_predictive number_of (object text limit) ≡ true
      unfolding object_body
      object_test = rw free_name_test refl

      pub file_test : is_predictive number_of (file text limit n) ≡ true
      unfolding definition_body file_body
      file_test = rw (include_test, enum_test, struct_test, class_test, object_test) refl
