-- Each loop of a body of a text ends at 1,000,000 at most.
use Rattle.std.proofs.Common.{◌≡◌, ℕ, zero, suc, ◌≤◌, true, nat_le, List, [], ◌∷◌, Option, Some, None, refl, ◌∙◌, inl, inr, subst, arith}
use Rattle.std.proofs.lemmas.Bool.{and_from, le-leb}
use Rattle.trick_body_symbols.specs.Expressions.{Of, expression}
use Rattle.trick_body_symbols.specs.Statements.{AfterName, Branch, Header, block_body, block_with, bound_of, branch_body, branch_with, branches_of, by_name, by_name_body, calls, changes, choice_body, choice_with, counted, counted_body, declaration, declaration_body, declares, else_body, else_with, header, header_body, loop_body, loop_test, loop_test_body, loop_with, named_of, nested, nested_body, otherwise_with, simple, simple_body, statement, statement_body, statement_with, statements_of, test_body, test_with, unblocked_body, unblocked_with, unbranched_body, unbranched_with}
use Rattle.trick_body_symbols.specs.Symbols.{Token}
use Rattle.trick_body_symbols.specs.declared.level.Level.{Level}
use Rattle.trick_body_symbols.specs.declared.level.Level.TheVariants.{Block, If, For}
use Rattle.trick_body_symbols.specs.declared.symbol.Symbol.{Symbol}
use Rattle.trick_body_symbols.specs.declared.symbol.Symbol.TheVariants as the
use Rattle.trick_grammar.specs.Grammar.{Link, onward, last}
use Rattle.trick_grammar.specs.StartsWith.{Each}
use Rattle.trick_lang.specs.Locals.{bound_number}
use Rattle.trick_lang.specs.SyntaxTree.{Expression, Statement, Statements}
use Rattle.trick_lang.specs.declared.bound.Bound.{Bound}
use Rattle.trick_sdef_classes.proofs.Parts.{Gives, IsBody}
use Rattle.trick_body_symbols.proofs.Yields.{OnSome, Yields}
use Rattle.trick_lang.specs.Loops.{are_short_loops, branches_have_short_loops, has_short_loops}

abbrev IsShort : Statement → Type 0
IsShort s = has_short_loops s ≡ true

-- ---- bounds

within : (n : ℕ) → n ≤ 1000000 → nat_le n 1000000 ≡ true
within n h = le-leb n 1000000 h

bound_short : (c : Symbol) (n : ℕ) → nat_le (bound_number (bound_of c n)) 1000000 ≡ true
bound_short the.Less n = within _ (omega arith)
bound_short _ n = within _ (omega arith)

-- ---- statements one after another, and branches

module _ (text : List ℕ) (g : Of Statement) (holds : (s : Statement) → Gives text g s → IsShort s) where
  statements_short : (ss : List Statement) → Each (Gives text g) ss → are_short_loops (statements_of ss) ≡ true
  statements_short [] each = refl
  statements_short (s ∷ ss) each = and_from (has_short_loops s) _ (holds s each.0) (statements_short ss each.1)

abbrev IsShortBranch : Branch → Type 0
IsShortBranch b = IsShort b.2

branches_short : (bs : List Branch) (end : Option Statement) → Each IsShortBranch bs → OnSome IsShort end
    → branches_have_short_loops (branches_of bs end) ≡ true
branches_short [] None each last_short = refl
branches_short [] (Some s) each last_short = last_short
branches_short (b ∷ bs) end each last_short =
    and_from (has_short_loops b.2) _ each.0 (branches_short bs end each.1 last_short)

-- ---- one level

module _ (text : List ℕ) (limit : ℕ) where
  named_short : (t : Token) (a : AfterName) → IsShort (named_of text t a)
  named_short t (declares name value) = refl
  named_short t calls = refl
  named_short t (changes steps change) = refl

  by_name_short : (n : ℕ) (s : Statement) → Gives text (by_name text limit n) s → IsShort s
  unfolding Yields by_name_body
  by_name_short n s (v, p, is) = subst IsShort is (named_short v.0 v.1)

  declaration_short : (n : ℕ) (s : Statement) → Gives text (declaration text limit n) s → IsShort s
  unfolding Yields declaration_body
  declaration_short n s (v, p, is) = subst IsShort is refl

  counted_short : (n : ℕ) (s : Statement) → Gives text (counted text limit n) s → IsShort s
  unfolding Yields counted_body
  counted_short n s (v, p, is) = subst IsShort is refl

  simple_short : (n : ℕ) (s : Statement) → Gives text (simple text limit n) s → IsShort s
  unfolding Yields simple_body
  simple_short n s (inl p) = by_name_short n s p
  simple_short n s (inr (inl p)) = declaration_short n s p
  simple_short n s (inr (inr (inl p))) = counted_short n s p
  simple_short n s (inr (inr (inr (t, p, is)))) = subst IsShort is refl

  block_short : (g : Of Statement) → ((s : Statement) → Gives text g s → IsShort s) → (s : Statement)
      → Gives text (block_with text limit g) s → IsShort s
  unfolding Yields block_body
  block_short g holds s (v, (bracket, (all, close)), is) = subst IsShort is (statements_short text g holds v.1.0 all.0)

  test_short : (inner : Of Expression) (g : Of Statement) → ((s : Statement) → Gives text g s → IsShort s)
      → (b : Branch) → Gives text (test_with text limit inner g) b → IsShortBranch b
  unfolding Yields test_body
  test_short inner g holds b (v, (word, (bracket, (test, (close, branch)))), is) =
      subst IsShortBranch is (holds v.1.1.1.1 branch)

  abbrev IsShortLink : Link Branch Statement → Type 0
  IsShortLink (onward b) = IsShortBranch b
  IsShortLink (last s) = IsShort s

  else_short : (test : Of Branch) (otherwise : Of Statement) → ((b : Branch) → Gives text test b → IsShortBranch b)
      → ((s : Statement) → Gives text otherwise s → IsShort s) → (l : Link Branch Statement)
      → Gives text (else_with text limit test otherwise) l → IsShortLink l
  unfolding Yields else_body
  else_short test otherwise tests others l (v, (word, inl (b, p, made)), is) = subst IsShortLink (made ∙ is) (tests b p)
  else_short test otherwise tests others l (v, (word, inr (s, p, made)), is) =
      subst IsShortLink (made ∙ is) (others s p)

  onward_short : (g : Of (Link Branch Statement)) → ((l : Link Branch Statement) → Gives text g l → IsShortLink l)
      → (bs : List Branch) → Each (λ b. Gives text g (onward b)) bs → Each IsShortBranch bs
  onward_short g holds [] each = tt
  onward_short g holds (b ∷ bs) each = (holds (onward b) each.0, onward_short g holds bs each.1)

  last_short : (g : Of (Link Branch Statement)) → ((l : Link Branch Statement) → Gives text g l → IsShortLink l)
      → (o : Option Statement) → OnSome (λ s. Gives text g (last s)) o → OnSome IsShort o
  last_short g holds None end = tt
  last_short g holds (Some s) end = holds (last s) end

  choice_short : (test : Of Branch) (otherwise : Of Statement) → ((b : Branch) → Gives text test b → IsShortBranch b)
      → ((s : Statement) → Gives text otherwise s → IsShort s) → (s : Statement)
      → Gives text (choice_with text limit test otherwise) s → IsShort s
  unfolding Yields choice_body
  choice_short test otherwise tests others s (v, (first, more), is) =
      let links = else_short test otherwise tests others in
      subst IsShort is
      (branches_short (v.0 ∷ v.1.0) v.1.1
      (tests v.0 first, onward_short (else_with text limit test otherwise) links v.1.0 more.0)
      (last_short (else_with text limit test otherwise) links v.1.1 more.1))

  -- ---- loops

  abbrev IsShortBound : Bound → Type 0
  IsShortBound bound = nat_le (bound_number bound) 1000000 ≡ true

  loop_test_short : (bound : Bound) → Gives text (loop_test text) bound → IsShortBound bound
  unfolding Yields loop_test_body
  loop_test_short bound (v, p, is) = subst IsShortBound is (bound_short v.1.0.class v.1.1.number)

  header_short : (h : Header) → Gives text (header text) h → IsShortBound h.1
  unfolding Yields header_body
  header_short h (v, (assign, (whole, (semicolon, (test, rest)))), is) =
      subst (λ (k : Header). IsShortBound k.1) is (loop_test_short v.1.1.1.0 test)

  loop_short : (g : Of Statement) → ((s : Statement) → Gives text g s → IsShort s) → (s : Statement)
      → Gives text (loop_with text limit g) s → IsShort s
  unfolding Yields loop_body
  loop_short g holds s (v, (word, (bracket, (kind, (name, (head, body))))), is) =
      subst IsShort is (and_from (nat_le (bound_number v.1.1.1.1.0.1) 1000000) _ (header_short v.1.1.1.1.0 head)
      (holds v.1.1.1.1.1 body))

  -- ---- levels

  abbrev AreShort : Of Statement → Type 0
  AreShort g = (s : Statement) → Gives text g s → IsShort s

  statement_with_short : (n : ℕ) (b c l : Of Statement) → AreShort b → AreShort c → AreShort l
      → AreShort (statement_with text limit n b c l)
  unfolding Yields statement_body
  statement_with_short n b c l bs cs ls s (inl p) = bs s p
  statement_with_short n b c l bs cs ls s (inr (inl p)) = cs s p
  statement_with_short n b c l bs cs ls s (inr (inr (inl p))) = ls s p
  statement_with_short n b c l bs cs ls s (inr (inr (inr p))) = simple_short n s p

  unblocked_short : (n : ℕ) (c l : Of Statement) → AreShort c → AreShort l → AreShort (unblocked_with text limit n c l)
  unfolding Yields unblocked_body
  unblocked_short n c l cs ls s (inl p) = cs s p
  unblocked_short n c l cs ls s (inr (inl p)) = ls s p
  unblocked_short n c l cs ls s (inr (inr p)) = simple_short n s p

  unbranched_short : (n : ℕ) (l : Of Statement) → AreShort l → AreShort (unbranched_with text limit n l)
  unfolding Yields unbranched_body
  unbranched_short n l ls s (inl p) = ls s p
  unbranched_short n l ls s (inr p) = simple_short n s p

  branch_short : (b o : Of Statement) → AreShort b → AreShort o → AreShort (branch_with text limit b o)
  unfolding Yields branch_body
  branch_short b o bs os s (inl p) = bs s p
  branch_short b o bs os s (inr p) = os s p

  otherwise_short : (b o : Of Statement) → AreShort b → AreShort o → AreShort (otherwise_with text limit b o)
  unfolding Yields branch_body
  otherwise_short b o bs os s (inl p) = bs s p
  otherwise_short b o bs os s (inr p) = os s p

  -- what nests in a level, where what nests in the next one is short
  module _ (n : ℕ) (inner : (k : Level) → AreShort (nested text limit k n)) where
    blocks_short : AreShort (block_with text limit
        (statement_with text limit n (nested text limit Block n) (nested text limit If n) (nested text limit For n)))
    blocks_short =
        block_short _ (statement_with_short n (nested text limit Block n) (nested text limit If n)
        (nested text limit For n) (inner Block) (inner If) (inner For))

    abbrev the_block : Of Statement
    the_block =
        block_with text limit (statement_with text limit n (nested text limit Block n) (nested text limit If n)
        (nested text limit For n))

    abbrev the_branch : Of Statement
    the_branch =
        branch_with text limit the_block
        (unblocked_with text limit n (nested text limit If n) (nested text limit For n))

    abbrev the_otherwise : Of Statement
    the_otherwise = otherwise_with text limit the_block (unbranched_with text limit n (nested text limit For n))

    the_branch_short : AreShort the_branch
    the_branch_short =
        branch_short the_block _ blocks_short
        (unblocked_short n (nested text limit If n) (nested text limit For n) (inner If) (inner For))

    the_otherwise_short : AreShort the_otherwise
    the_otherwise_short =
        otherwise_short the_block _ blocks_short (unbranched_short n (nested text limit For n) (inner For))

    level_short : (k : Level) → AreShort (nested text limit k (suc n))
    unfolding Yields nested_body
    level_short Block s p = blocks_short s p
    level_short If s p =
        choice_short (test_with text limit (expression text limit n) the_branch) the_otherwise
        (test_short (expression text limit n) the_branch the_branch_short) the_otherwise_short s p
    level_short For s p = loop_short the_branch the_branch_short s p

  none_short : (k : Level) → AreShort (nested text limit k 0)
  unfolding Yields nested_body
  none_short k s p = absurd p

  nested_short : (n : ℕ) (k : Level) → AreShort (nested text limit k n)
  nested_short zero k = none_short k
  nested_short (suc n) k = level_short n (nested_short n) k

  statement_short : (n : ℕ) → AreShort (statement text limit n)
  statement_short n =
      statement_with_short n (nested text limit Block n) (nested text limit If n) (nested text limit For n)
      (nested_short n Block) (nested_short n If) (nested_short n For)

  pub body_short : (n : ℕ) (body : Statements) → IsBody text limit n body → are_short_loops body ≡ true
  body_short n body is =
      subst (λ b. are_short_loops b ≡ true) is.2
      (statements_short text (statement text limit n) (statement_short n) is.0 is.1.0)
