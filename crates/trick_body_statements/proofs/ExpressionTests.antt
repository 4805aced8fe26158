-- The next token decides each step of the grammar of expressions.
use Rattle.std.proofs.Common.{◌≡◌, ℕ, zero, suc, ◌<◌, true, refl, List, [], length, Ok}
use Rattle.trick_body_symbols.specs.Expressions.{choice, or, expression_body, step_body, place_body, operand_body, nested_body, nested, operand, expression}
use Rattle.trick_body_symbols.specs.declared.nested.Nested.{Nested}
use Rattle.trick_body_symbols.specs.declared.nested.Nested.TheVariants.{Prefixed, Parenthesized, Indexed, Chosen}
use Rattle.trick_body_symbols.specs.Symbols.{number_of, spelled, Token}
use Rattle.trick_grammar.proofs.Complete.{read_shrinks}
use Rattle.trick_grammar.specs.Gives.{class_of}
use Rattle.trick_grammar.specs.Grammar.{is_predictive}
use Rattle.trick_grammar.specs.Reading.{read}
use Rattle.trick_lang.specs.SyntaxTree.{Expression}

module _ (text : List ℕ) (limit : ℕ) where
  -- an operand, given the tests of what nests in it
  operand_from : (n : ℕ) → ((k : Nested) → is_predictive number_of (nested text limit k n) ≡ true) → is_predictive number_of (operand text limit n) ≡ true
  unfolding operand_body place_body step_body
  operand_from n each = rw (each Prefixed, each Parenthesized, each Indexed) refl

  or_from : (n : ℕ) → ((k : Nested) → is_predictive number_of (nested text limit k n) ≡ true) → is_predictive number_of (or (operand text limit n)) ≡ true
  or_from n each = rw (operand_from n each) refl

  expression_from : (n : ℕ) → ((k : Nested) → is_predictive number_of (nested text limit k n) ≡ true) → is_predictive number_of (expression text limit n) ≡ true
  unfolding expression_body
  expression_from n each = rw (or_from n each, each Chosen) refl

  pub nested_test : (k : Nested) (n : ℕ) → is_predictive number_of (nested text limit k n) ≡ true
  unfolding nested_body
  nested_test Prefixed zero = refl
  nested_test Parenthesized zero = refl
  nested_test Indexed zero = refl
  nested_test Chosen zero = refl
  nested_test Prefixed (suc n) = rw (operand_from n (λ k. nested_test k n)) refl
  nested_test Parenthesized (suc n) = rw (expression_from n (λ k. nested_test k n)) refl
  nested_test Indexed (suc n) = rw (expression_from n (λ k. nested_test k n)) refl
  nested_test Chosen (suc n) = rw (expression_from n (λ k. nested_test k n)) refl

  pub or_test : (n : ℕ) → is_predictive number_of (or (operand text limit n)) ≡ true
  or_test n = or_from n (λ k. nested_test k n)

  pub expression_test : (n : ℕ) → is_predictive number_of (expression text limit n) ≡ true
  expression_test n = expression_from n (λ k. nested_test k n)

  pub choice_test : (n : ℕ) → is_predictive number_of (choice (nested text limit Chosen n) (operand text limit n)) ≡ true
  choice_test n = rw (or_test n, nested_test Chosen n) refl

  -- a part of a `?:` chain takes tokens
  pub choice_shrinks : (n : ℕ) (us : List Token) (x : Expression × Expression) (rest : List Token) → read number_of class_of [] (choice (nested text limit Chosen n) (operand text limit n)) us ≡ Ok (x, rest) → length rest < length us
  choice_shrinks n = read_shrinks number_of class_of spelled (λ symbol. refl) [] (choice (nested text limit Chosen n) (operand text limit n)) (choice_test n) refl
