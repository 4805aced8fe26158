-- The next token decides each step of the grammar.
use Rattle.std.proofs.Common.{◌≡◌, ℕ, zero, suc, ◌-◌, ◌<◌, true, refl, List, ◌∷◌, [], length, Ok}
use Rattle.trick_grammar.proofs.Complete.{read_shrinks}
use Rattle.trick_grammar.specs.Gives.{class_of}
use Rattle.trick_grammar.specs.Reading.{read}
use Rattle.trick_grammar_example.specs.Trees.{Statement}
use Rattle.trick_grammar.specs.Grammar.{Link, is_predictive}
use Rattle.trick_grammar.specs.Separated.{behind_item, more_items, separated_body}
use Rattle.trick_grammar_example.specs.Statements.{operand_body, inner, inner_body, sum, called_body, free_body, bound_body, simple, simple_body, item, items, list_statement, list_body, header_body, loop_body, block_body, when_body, link_body, choice_body, link, other_body, statement, statement_body, program}
use Rattle.trick_grammar_example.specs.Words.{number_of, spelled, Token}
use Rattle.trick_grammar_example.specs.declared.word.Word.TheVariants.{Name, Comma}

more_test : (n : ℕ) → is_predictive number_of (more_items {T = Token} Comma (Name ∷ []) [] item n) ≡ true
unfolding behind_item
more_test zero = refl
more_test (suc n) = rw (more_test n) refl

items_test : (limit : ℕ) → is_predictive number_of (items limit) ≡ true
unfolding separated_body
items_test limit = rw (more_test (limit - 1)) refl

list_test : (limit : ℕ) → is_predictive number_of (list_statement limit) ≡ true
unfolding list_body
list_test limit = rw (items_test limit) refl

inner_test : (n : ℕ) → is_predictive number_of (inner n) ≡ true
unfolding inner_body operand_body
inner_test zero = refl
inner_test (suc n) = rw (inner_test n) refl

sum_test : (n : ℕ) → is_predictive number_of (sum n) ≡ true
unfolding operand_body
sum_test n = rw (inner_test n) refl

module _ (text : List ℕ) where
  simple_test : (n : ℕ) → is_predictive number_of (simple text n) ≡ true
  unfolding simple_body bound_body free_body called_body
  simple_test n = rw (sum_test n) refl

  module _ (limit : ℕ) where
    statement_test : (n : ℕ) → is_predictive number_of (statement text limit n) ≡ true
    unfolding statement_body other_body choice_body link_body when_body block_body loop_body header_body
    statement_test zero = rw (list_test limit, simple_test zero) refl
    statement_test (suc n) = rw (statement_test n, sum_test n, list_test limit, simple_test n) refl

    pub program_test : (n : ℕ) → is_predictive number_of (program text limit n) ≡ true
    program_test n = rw (statement_test n) refl

    link_test : (n : ℕ) → is_predictive number_of (link text limit n) ≡ true
    unfolding other_body link_body when_body block_body loop_body header_body
    link_test n = rw (statement_test n, sum_test n, list_test limit, simple_test n) refl

    -- a link takes tokens
    pub link_shrinks : (n : ℕ) (e us : List Token) (x : Link Statement Statement) (rest : List Token) → read number_of class_of e (link text limit n) us ≡ Ok (x, rest) → length rest < length us
    link_shrinks n e = read_shrinks number_of class_of spelled (λ word. refl) e (link text limit n) (link_test n) refl
