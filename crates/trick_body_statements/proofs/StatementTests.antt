-- The next token decides each step of the grammar of statements.
use Rattle.std.proofs.Common.{◌≡◌, ℕ, zero, suc, ◌<◌, true, refl, List, length, Ok}
use Rattle.trick_body_symbols.specs.Expressions.{step_body}
use Rattle.trick_body_symbols.specs.Statements.{basic, basic_body, plain_header, header_body, loop_step_body, loop_test_body, value_body, call_body, call, operation_body, free_change_body, bound_change_body, named_body, by_name, by_name_body, free_steps_body, bound_steps_body, counted, counted_body, declaration, declaration_body, simple, simple_body, block_body, test_body, else_body, choice_body, loop_body, unbranched_body, unblocked_body, statement_body, branch_body, Branch, nested_body, nested, statement, block, unblocked, unbranched, branch, otherwise, test, else_link}
use Rattle.trick_body_symbols.specs.declared.level.Level.{Level}
use Rattle.trick_body_symbols.specs.declared.level.Level.TheVariants.{Block, If, For}
use Rattle.trick_body_symbols.specs.declared.nested.Nested.TheVariants.{Indexed}
use Rattle.trick_body_symbols.specs.Symbols.{number_of, spelled, Token}
use Rattle.trick_body_statements.proofs.ExpressionTests.{nested_test as expressions_nested, expression_test}
use Rattle.trick_grammar.proofs.Complete.{read_shrinks}
use Rattle.trick_grammar.specs.Gives.{class_of}
use Rattle.trick_grammar.specs.Grammar.{Link, is_predictive}
use Rattle.trick_grammar.specs.Reading.{read}
use Rattle.trick_lang.specs.SyntaxTree.{Statement}

pub basic_test : is_predictive number_of basic ≡ true
unfolding basic_body
basic_test = refl

module _ (text : List ℕ) (limit : ℕ) where
  header_test : is_predictive number_of (plain_header text) ≡ true
  unfolding header_body loop_step_body loop_test_body
  header_test = refl

  call_test : (n : ℕ) → is_predictive number_of (call text limit n) ≡ true
  unfolding call_body
  call_test zero = refl
  call_test (suc n) = refl

  by_name_test : (n : ℕ) → is_predictive number_of (by_name text limit n) ≡ true
  unfolding by_name_body named_body value_body operation_body free_change_body bound_change_body step_body
  by_name_test n = rw (expression_test text limit n, expressions_nested text limit Indexed n, call_test n) refl

  counted_test : (n : ℕ) → is_predictive number_of (counted text limit n) ≡ true
  unfolding counted_body free_steps_body bound_steps_body step_body
  counted_test n = rw (expressions_nested text limit Indexed n) refl

  declaration_test : (n : ℕ) → is_predictive number_of (declaration text limit n) ≡ true
  unfolding declaration_body value_body
  declaration_test n = rw (expression_test text limit n, basic_test) refl

  pub simple_test : (n : ℕ) → is_predictive number_of (simple text limit n) ≡ true
  unfolding simple_body
  simple_test n = rw (by_name_test n, counted_test n, declaration_test n) refl

  module _ (n : ℕ) (each : (k : Level) → is_predictive number_of (nested text limit k n) ≡ true) where
    unbranched_from : is_predictive number_of (unbranched text limit n) ≡ true
    unfolding unbranched_body
    unbranched_from = rw (each For, simple_test n) refl

    unblocked_from : is_predictive number_of (unblocked text limit n) ≡ true
    unfolding unblocked_body
    unblocked_from = rw (each If, each For, simple_test n) refl

    statement_from : is_predictive number_of (statement text limit n) ≡ true
    unfolding statement_body
    statement_from = rw (each Block, each If, each For, simple_test n) refl

    block_from : is_predictive number_of (block text limit n) ≡ true
    unfolding block_body
    block_from = rw statement_from refl

    branch_from : is_predictive number_of (branch text limit n) ≡ true
    unfolding branch_body
    branch_from = rw (block_from, unblocked_from) refl

    otherwise_from : is_predictive number_of (otherwise text limit n) ≡ true
    unfolding branch_body
    otherwise_from = rw (block_from, unbranched_from) refl

    test_from : is_predictive number_of (test text limit n) ≡ true
    unfolding test_body
    test_from = rw (expression_test text limit n, branch_from) refl

    link_from : is_predictive number_of (else_link text limit n) ≡ true
    unfolding else_body
    link_from = rw (test_from, otherwise_from) refl

  pub nested_test : (k : Level) (n : ℕ) → is_predictive number_of (nested text limit k n) ≡ true
  unfolding nested_body choice_body loop_body
  nested_test Block zero = refl
  nested_test If zero = refl
  nested_test For zero = refl
  nested_test Block (suc n) = rw (block_from n (λ k. nested_test k n)) refl
  nested_test If (suc n) = rw (test_from n (λ k. nested_test k n), link_from n (λ k. nested_test k n)) refl
  nested_test For (suc n) = rw (header_test, branch_from n (λ k. nested_test k n)) refl

  pub statement_test : (n : ℕ) → is_predictive number_of (statement text limit n) ≡ true
  statement_test n = statement_from n (λ k. nested_test k n)

  -- a part of an `else if` chain takes tokens
  pub else_shrinks : (n : ℕ) (e us : List Token) (x : Link Branch Statement) (rest : List Token) → read number_of class_of e (else_link text limit n) us ≡ Ok (x, rest) → length rest < length us
  else_shrinks n e = read_shrinks number_of class_of spelled (λ symbol. refl) e (else_link text limit n) (link_from n (λ k. nested_test k n)) refl
