-- The grammars with larger limits: which refusals come of a limit.
use Rattle.std.proofs.Common.{◌≡◌, ℕ, zero, suc, ◌-◌, ◌<◌, ◌≤◌, true, false, refl, List, [], ◌∷◌, arith}
use Rattle.trick_body_symbols.specs.Expressions.{Of, binary, levels, choice, expression_body, step_body, place_body, operand_body, place, operand, expression, step, some_steps, or, nested, nested_body, nested_first}
use Rattle.trick_body_symbols.specs.Methods.{void_inside, void_inside_body, void_rest, void_body, int_inside, int_inside_body, int_rest, int_body, return_body, method, method_body, condition}
use Rattle.trick_body_symbols.specs.Statements as statements
use Rattle.trick_body_symbols.specs.Statements.{basic_body, loop_step_body, loop_test_body, header_body, value, value_body, call, call_body, operation, operation_body, free_change, free_change_body, bound_change, bound_change_body, named, named_body, by_name, by_name_body, free_steps_body, bound_steps_body, counted, counted_body, declaration, declaration_body, simple, simple_body, block_body, block, test_body, test, else_body, else_link, choice_body, loop_body, unbranched_body, unbranched, unblocked_body, unblocked, statement_body, statement, branch_body, branch, otherwise}
use Rattle.trick_body_symbols.specs.Symbols.{number_of, spelled, Token}
use Rattle.trick_body_symbols.specs.declared.nested.Nested.{Nested}
use Rattle.trick_body_symbols.specs.declared.nested.Nested.TheVariants.{Prefixed, Parenthesized, Indexed, Chosen}
use Rattle.trick_body_symbols.specs.declared.level.Level.{Level}
use Rattle.trick_body_symbols.specs.declared.level.Level.TheVariants.{Block, If, For}
use Rattle.trick_body_symbols.specs.declared.symbol.Symbol.{Symbol}
use Rattle.trick_body_symbols.specs.declared.symbol.Symbol.TheVariants as the
use Rattle.trick_body_statements.proofs.ExpressionTests.{expression_test}
use Rattle.trick_body_statements.proofs.MethodTests.{method_test}
use Rattle.trick_grammar.proofs.Limits.{limits}
use Rattle.trick_grammar.proofs.Takes.{takes_token, takes_sequence, takes_choice, takes_rule, takes_act, takes_after, opens_sequence, opens_rule, opens_act, opens_then}
use Rattle.trick_grammar.specs.Gives.{class_of}
use Rattle.trick_grammar.specs.Grammar.{Grammar, alone, repetition, is_nullable, first_of}
use Rattle.trick_grammar.specs.Larger.{Takes, Opens, Larger, same, deeper, in_sequence, in_choice, longer, in_chain, in_nearest, in_rule, in_hint, in_scope, behind, in_alone, in_act, Tells}
use Rattle.trick_grammar.specs.Text.{read_all}
use Rattle.trick_grammar.specs.declared.refusal.Refusal.TheVariants.{TooDeep}
use Rattle.trick_lang.specs.SyntaxTree.{Expression, Statement}

abbrev Grows : {A : Type 0} → Of A → Of A → Type 1
Grows {A} g h = Larger number_of (class_of {C = Symbol}) A g h

abbrev Taken : {A : Type 0} → Of A → Type 0
Taken h = Takes number_of class_of h

takes_alone : {A : Type 0} (a : Of A) → Taken a → Taken (alone a)
takes_alone a ta = record { takes = λ e t us on. ta.takes [] t us on }

-- ---- expressions

binary_grows : (l : ℕ) {a c : Of Expression} → Grows a c → Grows (binary l a) (binary l c)
binary_grows zero p = p
binary_grows (suc l) p = in_rule (in_act (in_sequence (binary_grows l p) (in_act (in_chain (in_act (in_act (in_sequence (same refl) (binary_grows l p))))))))

module _ (text : List ℕ) (limit : ℕ) where
  nested_opens : (k : Nested) (n : ℕ) → Opens number_of class_of (nested text limit k (suc n))
  unfolding nested_body
  nested_opens Prefixed n = opens_rule number_of class_of _ _ refl refl (opens_then number_of class_of _ _ _)
  nested_opens Parenthesized n = opens_rule number_of class_of _ _ refl refl (opens_then number_of class_of _ _ _)
  nested_opens Indexed n = opens_rule number_of class_of _ _ refl refl (opens_then number_of class_of _ _ _)
  nested_opens Chosen n = opens_rule number_of class_of _ _ refl refl (opens_then number_of class_of _ _ _)

  body_opens : (k : Nested) (n : ℕ) → Opens number_of class_of (nested_body text limit k (suc n))
  unfolding nested_body
  body_opens Prefixed n = opens_then number_of class_of _ _ _
  body_opens Parenthesized n = opens_then number_of class_of _ _ _
  body_opens Indexed n = opens_then number_of class_of _ _ _
  body_opens Chosen n = opens_then number_of class_of _ _ _

  body_first : (k : Nested) (n : ℕ) → first_of (nested_body text limit k (suc n)) ≡ nested_first k
  unfolding nested_body
  body_first Prefixed n = refl
  body_first Parenthesized n = refl
  body_first Indexed n = refl
  body_first Chosen n = refl

  body_has : (k : Nested) (n : ℕ) → is_nullable (nested_body text limit k (suc n)) ≡ false
  unfolding nested_body
  body_has Prefixed n = refl
  body_has Parenthesized n = refl
  body_has Indexed n = refl
  body_has Chosen n = refl

  step_takes : (n : ℕ) → Taken (step text limit (suc n))
  unfolding step_body
  step_takes n = takes_rule number_of class_of _ _ refl (takes_choice number_of class_of _ _ (opens_then number_of class_of _ _ _).takes (takes_act number_of class_of _ _ (nested_opens Indexed n).takes))

  step_taken : (n m : ℕ) → n < m → Taken (step text limit m)
  step_taken n zero deep = absurd (omega (arith, deep))
  step_taken n (suc m) deep = step_takes m

module _ (text : List ℕ) (limit more : ℕ) (lt : limit < more) where
  module _ (n m : ℕ) (deep : n < m) (inner : (k : Nested) → Grows (nested text limit k n) (nested text more k m)) where
    step_from : Grows (step text limit n) (step text more m)
    unfolding step_body
    step_from = in_rule (in_choice (same refl) (in_act (inner Indexed)))

    place_from : Grows (place text limit n) (place text more m)
    unfolding place_body
    place_from = in_rule (in_act (in_sequence (same refl) (longer lt step_from (step_taken text more n m deep))))

    operand_from : Grows (operand text limit n) (operand text more m)
    unfolding operand_body
    operand_from = in_rule (in_choice (inner Prefixed) (in_choice (same refl) (in_choice (same refl) (in_choice (same refl) (in_choice (inner Parenthesized) (in_act place_from))))))

    expression_from : Grows (expression text limit n) (expression text more m)
    unfolding expression_body
    expression_from =
        let ors = binary_grows levels operand_from in
        in_rule (in_act (in_sequence ors (in_act (in_chain (in_act (in_sequence (inner Chosen) ors))))))

  nested_grows : (k : Nested) (n m : ℕ) → n < m → Grows (nested text limit k n) (nested text more k m)
  unfolding nested_body
  nested_grows k n zero deep = absurd (omega (arith, deep))
  nested_grows k zero (suc m) deep = in_rule (deeper TooDeep (nested_first k) refl (body_first text more k m) (body_has text more k m) (body_opens text more k m))
  nested_grows Prefixed (suc n) (suc m) deep =
      let less : n < m = omega (arith, deep) in
      in_rule (in_act (in_sequence (same refl) (operand_from n m less (λ k. nested_grows k n m less))))
  nested_grows Parenthesized (suc n) (suc m) deep =
      let less : n < m = omega (arith, deep) in
      in_rule (in_act (in_sequence (same refl) (in_sequence (expression_from n m less (λ k. nested_grows k n m less)) (same refl))))
  nested_grows Indexed (suc n) (suc m) deep =
      let less : n < m = omega (arith, deep) in
      in_rule (in_act (in_sequence (same refl) (in_sequence (expression_from n m less (λ k. nested_grows k n m less)) (same refl))))
  nested_grows Chosen (suc n) (suc m) deep =
      let less : n < m = omega (arith, deep) in
      in_rule (in_act (in_sequence (same refl) (in_sequence (expression_from n m less (λ k. nested_grows k n m less)) (same refl))))

  expression_grows : (n m : ℕ) → n < m → Grows (expression text limit n) (expression text more m)
  expression_grows n m deep = expression_from n m deep (λ k. nested_grows k n m deep)

  pub conditions_tell : (n m : ℕ) → n < m → (ts : List Token) → Tells number_of class_of (condition text more m) ts (read_all number_of class_of (condition text limit n) ts)
  conditions_tell n m deep = limits number_of class_of spelled (λ symbol. refl) (condition text limit n) (condition text more m) (expression_grows n m deep) (expression_test text limit n) (expression_test text more m)

-- ---- what statements begin with is taken

module _ (text : List ℕ) (limit : ℕ) where
  basic_taken : Taken statements.basic
  unfolding basic_body
  basic_taken = takes_rule number_of class_of _ _ refl (takes_choice number_of class_of _ _ (takes_act number_of class_of _ _ (takes_token number_of class_of _)) (takes_act number_of class_of _ _ (takes_sequence number_of class_of _ _ refl (takes_token number_of class_of _))))

  simple_taken : (n : ℕ) → Taken (simple text limit n)
  unfolding simple_body by_name_body declaration_body counted_body
  simple_taken n =
      takes_rule number_of class_of _ _ refl (takes_choice number_of class_of _ _
      (takes_rule number_of class_of _ _ refl (takes_act number_of class_of _ _ (takes_after number_of class_of _ _ _ _ _)))
      (takes_choice number_of class_of _ _
      (takes_alone _ (takes_rule number_of class_of _ _ refl (takes_act number_of class_of _ _ (takes_sequence number_of class_of _ _ refl basic_taken))))
      (takes_choice number_of class_of _ _
      (takes_rule number_of class_of _ _ refl (takes_act number_of class_of _ _ (takes_sequence number_of class_of _ _ refl (takes_token number_of class_of _))))
      (takes_act number_of class_of _ _ (takes_token number_of class_of _)))))

  level_opens : (k : Level) (n : ℕ) → Opens number_of class_of (statements.nested_body text limit k (suc n))
  unfolding statements.nested_body block_body choice_body test_body loop_body
  level_opens Block n = opens_rule number_of class_of _ _ refl refl (opens_then number_of class_of _ _ _)
  level_opens If n = opens_rule number_of class_of _ _ refl refl (opens_act number_of class_of _ _ (opens_sequence number_of class_of _ _ refl (opens_rule number_of class_of _ _ refl refl (opens_then number_of class_of _ _ _))))
  level_opens For n = opens_rule number_of class_of _ _ refl refl (opens_then number_of class_of _ _ _)

  level_first_is : (k : Level) (n : ℕ) → first_of (statements.nested_body text limit k (suc n)) ≡ statements.level_first k
  unfolding statements.nested_body
  level_first_is Block n = refl
  level_first_is If n = refl
  level_first_is For n = refl

  level_has : (k : Level) (n : ℕ) → is_nullable (statements.nested_body text limit k (suc n)) ≡ false
  unfolding statements.nested_body
  level_has Block n = refl
  level_has If n = refl
  level_has For n = refl

  level_taken : (k : Level) (n : ℕ) → Taken (statements.nested text limit k (suc n))
  unfolding statements.nested_body
  level_taken Block n = takes_rule number_of class_of _ _ refl (level_opens Block n).takes
  level_taken If n = takes_rule number_of class_of _ _ refl (level_opens If n).takes
  level_taken For n = takes_rule number_of class_of _ _ refl (level_opens For n).takes

  statement_taken : (n m : ℕ) → n < m → Taken (statement text limit m)
  unfolding statement_body
  statement_taken n zero deep = absurd (omega (arith, deep))
  statement_taken n (suc m) deep =
      takes_rule number_of class_of _ _ refl (takes_choice number_of class_of _ _ (level_taken Block m) (takes_choice number_of class_of _ _ (level_taken If m) (takes_choice number_of class_of _ _ (level_taken For m) (simple_taken (suc m)))))

-- ---- statements

module _ (text : List ℕ) (limit more : ℕ) (lt : limit < more) (some : 1 ≤ limit) where
  call_grows : (n m : ℕ) → n < m → Grows (call text limit n) (call text more m)
  unfolding call_body
  call_grows n zero deep = absurd (omega (arith, deep))
  call_grows zero (suc m) deep = in_rule (deeper TooDeep (the.OpenParen ∷ []) refl refl refl (opens_then number_of class_of _ _ _))
  call_grows (suc n) (suc m) deep = in_rule (same refl)

  module _ (n m : ℕ) (deep : n < m) where
    steps_grow : (a b : ℕ) → a < b → Grows (repetition a (step text limit n)) (repetition b (step text more m))
    steps_grow a b less = longer less (step_from text limit more lt n m deep (λ k. nested_grows text limit more lt k n m deep)) (step_taken text more n m deep)

    some_grow : Grows (some_steps text limit n) (some_steps text more m)
    some_grow = in_act (in_sequence (step_from text limit more lt n m deep (λ k. nested_grows text limit more lt k n m deep)) (steps_grow (limit - 1) (more - 1) (omega (arith, lt, some))))

    inside : Grows (expression text limit n) (expression text more m)
    inside = expression_grows text limit more lt n m deep

    value_grows : Grows (value text limit n) (value text more m)
    unfolding value_body
    value_grows = in_rule (in_act (in_sequence (in_choice (in_act (in_act (in_sequence (same refl) inside))) (same refl)) (same refl)))

    operation_grows : Grows (operation text limit n) (operation text more m)
    unfolding operation_body
    operation_grows = in_rule (in_choice (in_act (in_sequence (same refl) inside)) (same refl))

    named_grows : {a c : Of statements.AfterName} → Grows a c → Grows (named text limit n a) (named text more m c)
    unfolding named_body
    named_grows p = in_rule (in_choice (in_act (in_sequence (same refl) value_grows)) (in_choice (call_grows n m deep) p))

    by_name_grows : Grows (by_name text limit n) (by_name text more m)
    unfolding by_name_body free_change_body bound_change_body
    by_name_grows =
        in_rule (in_act (behind refl
        (in_alone (named_grows (in_rule (in_choice (in_act (in_sequence some_grow (in_sequence operation_grows (same refl)))) (same refl)))))
        (in_alone (named_grows (in_rule (in_act (in_sequence (steps_grow limit more lt) (in_sequence operation_grows (same refl)))))))))

    counted_grows : Grows (counted text limit n) (counted text more m)
    unfolding counted_body free_steps_body bound_steps_body
    counted_grows =
        in_rule (in_act (in_sequence (same refl) (behind refl
        (in_alone (in_rule (in_choice (in_act (in_sequence some_grow (same refl))) (same refl))))
        (in_alone (in_rule (in_act (in_sequence (steps_grow limit more lt) (same refl))))))))

    declaration_grows : Grows (declaration text limit n) (declaration text more m)
    unfolding declaration_body basic_body
    declaration_grows = in_rule (in_act (in_sequence (same refl) (in_sequence (same refl) value_grows)))

    simple_grows : Grows (simple text limit n) (simple text more m)
    unfolding simple_body
    simple_grows = in_rule (in_choice by_name_grows (in_choice (in_alone declaration_grows) (in_choice counted_grows (same refl))))

    module _ (inner : (k : Level) → Grows (statements.nested text limit k n) (statements.nested text more k m)) where
      statement_from : Grows (statement text limit n) (statement text more m)
      unfolding statement_body
      statement_from = in_rule (in_choice (inner Block) (in_choice (inner If) (in_choice (inner For) simple_grows)))

      statements_from : Grows (repetition limit (statement text limit n)) (repetition more (statement text more m))
      statements_from = longer lt statement_from (statement_taken text more n m deep)

      block_from : Grows (block text limit n) (block text more m)
      unfolding block_body
      block_from = in_rule (in_act (in_sequence (same refl) (in_sequence statements_from (same refl))))

      branch_from : Grows (branch text limit n) (branch text more m)
      unfolding branch_body unblocked_body
      branch_from = in_rule (in_choice block_from (in_rule (in_choice (inner If) (in_choice (inner For) simple_grows))))

      otherwise_from : Grows (otherwise text limit n) (otherwise text more m)
      unfolding branch_body unbranched_body
      otherwise_from = in_rule (in_choice block_from (in_rule (in_choice (inner For) simple_grows)))

      test_from : Grows (test text limit n) (test text more m)
      unfolding test_body
      test_from = in_rule (in_act (in_sequence (same refl) (in_sequence (same refl) (in_sequence (in_alone inside) (in_sequence (same refl) branch_from)))))

      chosen_from : Grows (statements.chosen text limit n) (statements.chosen text more m)
      unfolding choice_body else_body
      chosen_from = in_rule (in_act (in_sequence test_from (in_nearest (in_rule (in_act (in_sequence (same refl) (in_choice (in_act test_from) (in_act otherwise_from))))))))

      loop_from : Grows (statements.loop_with text limit (branch text limit n)) (statements.loop_with text more (branch text more m))
      unfolding loop_body header_body loop_step_body loop_test_body
      loop_from = in_rule (in_act (in_sequence (same refl) (in_sequence (same refl) (in_sequence (same refl) (in_scope refl (in_sequence (same refl) branch_from))))))

  level_grows : (k : Level) (n m : ℕ) → n < m → Grows (statements.nested text limit k n) (statements.nested text more k m)
  unfolding statements.nested_body
  level_grows k n zero deep = absurd (omega (arith, deep))
  level_grows k zero (suc m) deep = in_rule (deeper TooDeep (statements.level_first k) refl (level_first_is text more k m) (level_has text more k m) (level_opens text more k m))
  level_grows Block (suc n) (suc m) deep = let less : n < m = omega (arith, deep) in in_rule (block_from n m less (λ k. level_grows k n m less))
  level_grows If (suc n) (suc m) deep = let less : n < m = omega (arith, deep) in in_rule (chosen_from n m less (λ k. level_grows k n m less))
  level_grows For (suc n) (suc m) deep = let less : n < m = omega (arith, deep) in in_rule (loop_from n m less (λ k. level_grows k n m less))

  -- ---- methods

  pub void_grows : (n m : ℕ) → n < m → Grows (void_rest text limit n) (void_rest text more m)
  unfolding void_body void_inside_body
  void_grows n m deep = in_rule (in_act (in_sequence (same refl) (in_rule (in_act (in_sequence (same refl) (in_sequence (same refl) (in_sequence (statements_from n m deep (λ k. level_grows k n m deep)) (same refl))))))))

  pub int_inside_grows : (n m : ℕ) → n < m → Grows (int_inside text limit n) (int_inside text more m)
  unfolding int_inside_body return_body
  int_inside_grows n m deep = in_rule (in_act (in_sequence (same refl) (in_sequence (same refl) (in_sequence (statements_from n m deep (λ k. level_grows k n m deep)) (in_sequence (same refl) (same refl))))))

  pub int_grows : (n m : ℕ) → n < m → Grows (int_rest text limit n) (int_rest text more m)
  unfolding int_body
  int_grows n m deep = in_rule (in_act (in_sequence (same refl) (int_inside_grows n m deep)))

  method_grows : (n m : ℕ) → n < m → Grows (method text limit n) (method text more m)
  unfolding method_body
  method_grows n m deep = in_rule (in_choice (in_act (in_sequence (same refl) (in_sequence (same refl) (void_grows n m deep)))) (in_act (in_sequence (same refl) (in_sequence (same refl) (int_grows n m deep)))))

  pub methods_tell : (n m : ℕ) → n < m → (ts : List Token) → Tells number_of class_of (method text more m) ts (read_all number_of class_of (method text limit n) ts)
  methods_tell n m deep = limits number_of class_of spelled (λ symbol. refl) (method text limit n) (method text more m) (method_grows n m deep) (method_test text limit n) (method_test text more m)
