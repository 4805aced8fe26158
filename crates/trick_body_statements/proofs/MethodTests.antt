-- The next token decides each step of the grammar of methods.
use Rattle.std.proofs.Common.{◌≡◌, ℕ, true, refl, List}
use Rattle.trick_body_symbols.specs.Methods.{return_body, void_rest, void_body, void_inside, void_inside_body, int_rest, int_body, int_inside, int_inside_body, method, method_body}
use Rattle.trick_body_symbols.specs.Symbols.{number_of}
use Rattle.trick_body_statements.proofs.StatementTests.{statement_test}
use Rattle.trick_grammar.specs.Grammar.{is_predictive}

module _ (text : List ℕ) (limit n : ℕ) where
  pub void_inside_test : is_predictive number_of (void_inside text limit n) ≡ true
  unfolding void_inside_body
  void_inside_test = rw (statement_test text limit n) refl

  pub int_inside_test : is_predictive number_of (int_inside text limit n) ≡ true
  unfolding int_inside_body return_body
  int_inside_test = rw (statement_test text limit n) refl

  pub void_test : is_predictive number_of (void_rest text limit n) ≡ true
  unfolding void_body
  void_test = rw void_inside_test refl

  pub int_test : is_predictive number_of (int_rest text limit n) ≡ true
  unfolding int_body
  int_test = rw int_inside_test refl

  pub method_test : is_predictive number_of (method text limit n) ≡ true
  unfolding method_body
  method_test = rw (void_test, int_test) refl
