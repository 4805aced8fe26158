-- The parts of the grammar that is read have the texts of their productions.
use Rattle.std.proofs.Common.{◌≡◌, ◌⊎◌, ℕ, zero, suc, ◌-◌, Bool, true, false, not, ◌||◌, List, [], ◌∷◌, Option, Some, None, refl, sym, ap, ◌∙◌, inl, inr, subst, arith}
use Rattle.std.specs.List.{list_any}
use Rattle.std.specs.Str.{bytes_eq}
use Rattle.trick_body_symbols.specs.Expressions as read
use Rattle.trick_body_symbols.specs.Expressions.{Of, Step, name_of, names, member, index, parts_of, choices_of, choose_of, choice, expression_body, nested_body, operand_body, or, place_body, step_body}
use Rattle.trick_body_symbols.specs.Methods as methods
use Rattle.trick_body_symbols.specs.Methods.{int_body, int_inside_body, method_body, method_of, return_body, void_body, void_inside_body}
use Rattle.trick_sdef_grammar.specs.BodyProductions.{BodiesHaveProductions, Same, assignment, call, counted_before, counted_behind, declaration, line_of_path, deeper, part, place, operand, chain, choices, choices_with, chosen_value, expression, read_choices, branches_after, choosing, header, loop_step, looping, method, return_line, scope_names, spares, statement}
use Rattle.trick_body_symbols.specs.Statements as body
use Rattle.trick_body_symbols.specs.Statements.{AfterName, Branch, Header, change_of, counting, counting_of, declares, calls, changes, bound_of, branches_of, named_of, basic_body, block_body, bound_change_body, bound_steps_body, branch_body, by_name_body, call_body, choice_body, counted_body, declaration_body, else_body, free_change_body, free_steps_body, header_body, loop_body, loop_step_body, loop_test_body, named_body, operation_body, simple_body, statement_body, statements_of, test_body, unblocked_body, unbranched_body, value_body}
use Rattle.trick_body_symbols.specs.Symbols.{Token, number_of}
use Rattle.trick_body_symbols.specs.declared.level.Level.TheVariants as level
use Rattle.trick_body_symbols.specs.declared.nested.Nested.TheVariants.{Chosen}
use Rattle.trick_body_symbols.specs.declared.symbol.Symbol.{Symbol}
use Rattle.trick_body_symbols.specs.declared.symbol.Symbol.TheVariants as the
use Rattle.trick_grammar.specs.Gives.{class_of, is_in_scope, text_of}
use Rattle.trick_grammar.specs.Grammar.{Link, onward, last, token, alone, optional, sequence, nearest, one, repetition, any_number, act, first_of, ◌⨾◌, ◌∣◌}
use Rattle.trick_grammar.specs.StartsWith.{Repeats, StartsWith, Links}
use Rattle.trick_lang.specs.SyntaxTree as tree
use Rattle.trick_lang.specs.SyntaxTree.{Change, Choices, Expression, Method, Path, Statement}

-- ---- lists

-- items of the same texts, one after the other
pub repeats_same : {A : Type 0} (a b : List Token → A → List Token → Type 0)
    → ((ts : List Token) (x : A) (rest : List Token) → a ts x rest → b ts x rest)
    → (n : ℕ) (ts : List Token) (xs : List A) (rest : List Token) → Repeats a n ts xs rest → Repeats b n ts xs rest
repeats_same a b to n ts [] rest p = p
repeats_same a b to zero ts (x ∷ xs) rest p = p
repeats_same a b to (suc n) ts (x ∷ xs) rest (mid, p, q) = (mid, to ts x mid p, repeats_same a b to n mid xs rest q)

-- any number of items, one after the other
abbrev pub Many : {A : Type 0} → (List Token → A → List Token → Type 0) → List Token → List A → List Token → Type 0
Many a ts [] rest = ts ≡ rest
Many a ts (x ∷ xs) rest = (mid : List Token) × a ts x mid × Many a mid xs rest

abbrev pub ahead : {A B : Type 0} → A → Link A B
ahead x = onward x

abbrev pub final : {A B : Type 0} → B → Link A B
final y = last y

onward_is : {A B : Type 0} (x y : A) → ahead {A = A} {B = B} x ≡ ahead {A = A} {B = B} y → x ≡ y
onward_is x y p = cc

not_last : {A B C : Type 0} (x : A) (y : B) → ahead {A = A} {B = B} x ≡ final {A = A} {B = B} y → C
not_last x y p = absurd cc

-- each item is a link, and there is no last one
abbrev pub linked : {A : Type 0} → Of A → Of (Link A (Unit {0}))
linked a = act (λ x. onward x) a

links_many : {A : Type 0} (e : List Token) (a : Of A) (cs : List Symbol) (ts : List Token) (xs : List A)
    (end : Option (Unit {0})) (rest : List Token)
    → Links number_of class_of false (StartsWith number_of class_of e (linked a)) cs ts xs end rest
    → Many (StartsWith number_of class_of e a) ts xs rest
unfolding StartsWith
links_many e a cs ts [] None rest p = p.0
links_many e a cs ts [] (Some u) rest p = not_last p.0 u p.2
links_many e a cs ts (x ∷ xs) end rest (mid, p, q) = (
  mid,
  subst (λ y. StartsWith number_of class_of e a ts y mid) (onward_is p.0 x p.2) p.1,
  links_many e a cs mid xs end rest q,
)

many_links : {A : Type 0} (e : List Token) (a : Of A) (cs : List Symbol) (ts : List Token) (xs : List A)
    (rest : List Token)
    → Many (StartsWith number_of class_of e a) ts xs rest
    → Links number_of class_of false (StartsWith number_of class_of e (linked a)) cs ts xs None rest
unfolding StartsWith
many_links e a cs ts [] rest p = (p, tt)
many_links e a cs ts (x ∷ xs) rest (mid, p, q) = (mid, (x, p, refl), many_links e a cs mid xs rest q)

pub any_many : {A : Type 0} (e : List Token) (a : Of A) (ts : List Token) (xs : List A) (rest : List Token)
    → StartsWith number_of class_of e (any_number a) ts xs rest → Many (StartsWith number_of class_of e a) ts xs rest
unfolding StartsWith
any_many e a ts xs rest p =
    subst (λ ys. Many (StartsWith number_of class_of e a) ts ys rest) p.2
    (links_many e a (first_of a) ts p.0.0 p.0.1 rest p.1)

pub many_any : {A : Type 0} (e : List Token) (a : Of A) (ts : List Token) (xs : List A) (rest : List Token)
    → Many (StartsWith number_of class_of e a) ts xs rest → StartsWith number_of class_of e (any_number a) ts xs rest
unfolding StartsWith
many_any e a ts xs rest p = ((xs, None), many_links e a (first_of a) ts xs rest p, refl)

-- ---- expressions

-- six alternatives, with the first one moved to the end and the last two exchanged
moved : {S W T F P N : Type 0} → S ⊎ (W ⊎ (T ⊎ (F ⊎ (P ⊎ N)))) → W ⊎ (T ⊎ (F ⊎ (N ⊎ (P ⊎ S))))
moved (inl s) = inr (inr (inr (inr (inr s))))
moved (inr (inl w)) = inl w
moved (inr (inr (inl t))) = inr (inl t)
moved (inr (inr (inr (inl f)))) = inr (inr (inl f))
moved (inr (inr (inr (inr (inl p))))) = inr (inr (inr (inr (inl p))))
moved (inr (inr (inr (inr (inr n))))) = inr (inr (inr (inl n)))

moved_back : {S W T F P N : Type 0} → W ⊎ (T ⊎ (F ⊎ (N ⊎ (P ⊎ S)))) → S ⊎ (W ⊎ (T ⊎ (F ⊎ (P ⊎ N))))
moved_back (inl w) = inr (inl w)
moved_back (inr (inl t)) = inr (inr (inl t))
moved_back (inr (inr (inl f))) = inr (inr (inr (inl f)))
moved_back (inr (inr (inr (inl n)))) = inr (inr (inr (inr (inr n))))
moved_back (inr (inr (inr (inr (inl p))))) = inr (inr (inr (inr (inl p))))
moved_back (inr (inr (inr (inr (inr s))))) = inl s

chosen_is : (e : Expression) (vs : List (Expression × Expression)) → chosen_value (choices_of e vs) ≡ choose_of e vs
chosen_is e [] = refl
chosen_is e (v ∷ vs) = refl

module _ (text : List ℕ) (limit : ℕ) where
  pub parts_same : (n : ℕ) → Same (read.step text limit n) (part text limit n)
  unfolding StartsWith step_body nested_body
  parts_same zero e ts x rest = (λ p. p, λ p. p)
  parts_same (suc n) e ts x rest = (λ p. p, λ p. p)

  pub places_same : (n : ℕ) → Same (read.place text limit n) (place text limit n)
  unfolding StartsWith place_body
  places_same n e ts x rest = (
    λ p. (p.0, (p.1.0, p.1.1, repeats_same _ _ (λ us y more. (parts_same n e us y more).0) limit _ _ _ p.1.2), p.2),
    λ p. (p.0, (p.1.0, p.1.1, repeats_same _ _ (λ us y more. (parts_same n e us y more).1) limit _ _ _ p.1.2), p.2),
  )

  pub operands_same : (n : ℕ) → Same (read.operand text limit n) (operand text limit n)
  unfolding StartsWith operand_body nested_body
  operands_same zero e ts x rest = (λ p. moved p, λ p. moved_back p)
  operands_same (suc n) e ts x rest = (λ p. moved p, λ p. moved_back p)

  pub chains_same : (n l : ℕ) → Same (read.binary (suc l) (read.operand text limit n)) (chain text limit l n)
  unfolding StartsWith
  chains_same n l e ts x rest = (λ p. p, λ p. p)

  -- what stands from `?` up to `:`
  middles_same : (n : ℕ) → Same (read.nested text limit Chosen n)
      (deeper n (λ m. read.enclosed the.Question (read.expression text limit m) the.Colon))
  unfolding StartsWith nested_body
  middles_same zero e ts x rest = (λ p. p, λ p. p)
  middles_same (suc n) e ts x rest = (λ p. p, λ p. p)

  -- a `?`, a part, a `:` and the next part
  abbrev another : ℕ → Of (Expression × Expression)
  another n = choice (read.nested text limit Chosen n) (read.operand text limit n)

  -- the choice that a list of parts begins with
  choices_to : (n : ℕ) (e : List Token) (first : Expression) (vs : List (Expression × Expression))
      (ts mid : List Token) (x : Choices) (rest : List Token)
      → StartsWith number_of class_of e (or (read.operand text limit n)) ts first mid
      → Many (StartsWith number_of class_of e (another n)) mid vs rest
      → choices_of first vs ≡ x
      → StartsWith number_of class_of e (choices text limit n) ts x rest
  unfolding StartsWith
  choices_to n e first [] ts mid x rest p q is = ((first, None), (mid, p, inr (refl, q)), is)
  choices_to n e first (v ∷ vs) ts mid x rest p (next, (colon, middle, other), q) is = (
    (first, Some (v.0, choices_of v.1 vs)),
    (
      mid,
      p,
      inl (
        (v.0, choices_of v.1 vs),
        (
          colon,
          (middles_same n e mid v.0 colon).0 middle,
          ((v.1, vs), (next, other, many_any e (another n) next vs rest q), refl),
        ),
        refl,
      ),
    ),
    is,
  )

  -- a choice as a list of parts
  choices_from : (n : ℕ) (e : List Token) (first : Expression) (more : Option (Expression × Choices))
      (ts mid : List Token) (x : Choices) (rest : List Token)
      → StartsWith number_of class_of e (or (read.operand text limit n)) ts first mid
      → StartsWith number_of class_of e (optional (sequence (deeper n (λ m. read.enclosed the.Question
      (read.expression text limit m) the.Colon)) (read_choices text limit n))) mid more rest
      → choices_with first more ≡ x
      → StartsWith number_of class_of e (read_choices text limit n) ts x rest
  unfolding StartsWith
  choices_from n e first more ts mid x rest p (inl (v, (colon, middle, ((other, vs), (next, q, r), is)), some)) given = (
    (first, (v.0, other) ∷ vs),
    (
      mid,
      p,
      many_any e (another n) mid ((v.0, other) ∷ vs) rest (
        next,
        (colon, (middles_same n e mid v.0 colon).1 middle, q),
        any_many e (another n) next vs rest r,
      ),
    ),
    ap (tree.Choice first v.0) is ∙ (ap (choices_with first) some ∙ given),
  )
  choices_from n e first more ts mid x rest p (inr (none, q)) given =
      ((first, []), (mid, p, many_any e (another n) mid [] rest q), ap (choices_with first) (sym none) ∙ given)

  pub choices_same : (n : ℕ) → Same (read_choices text limit n) (choices text limit n)
  unfolding StartsWith
  choices_same n e ts x rest = (
    λ p. choices_to n e p.0.0 p.0.1 ts p.1.0 x rest p.1.1 (any_many e (another n) p.1.0 p.0.1 rest p.1.2) p.2,
    λ p. choices_from n e p.0.0 p.0.1 ts p.1.0 x rest p.1.1 p.1.2 p.2,
  )

  pub expressions_same : (n : ℕ) → Same (read.expression text limit n) (expression text limit n)
  unfolding StartsWith expression_body
  expressions_same n e ts x rest = (
    λ p. (choices_of p.0.0 p.0.1, (p.0, p.1, refl), chosen_is p.0.0 p.0.1 ∙ p.2),
    λ p. (p.1.0, p.1.1, (sym (chosen_is p.1.0.0 p.1.0.1) ∙ ap chosen_value p.1.2) ∙ p.2),
  )

-- ---- the header of a loop

-- a text of a grammar, with these tokens in scope
abbrev pub Has : {A : Type 0} → List Token → Of A → List Token → A → List Token → Type 0
Has e g ts x rest = StartsWith number_of class_of e g ts x rest

module _ (text : List ℕ) where
  step_to : (e ts : List Token) (x : Token) (rest : List Token) → Has e (body.loop_step text) ts x rest
      → Has e (loop_step text) ts x rest
  unfolding StartsWith loop_step_body
  step_to e ts x rest (inl (v, (mid, name, inl mark), is)) = inl (v, (mid, name, mark), is)
  step_to e ts x rest (inl (v, (mid, name, inr (w, plus, given)), is)) = inr (inr ((v.0, w), (mid, name, plus), is))
  step_to e ts x rest (inr p) = inr (inl p)

  step_from : (e ts : List Token) (x : Token) (rest : List Token) → Has e (loop_step text) ts x rest
      → Has e (body.loop_step text) ts x rest
  unfolding StartsWith loop_step_body
  step_from e ts x rest (inl (v, (mid, name, mark), is)) = inl (v, (mid, name, inl mark), is)
  step_from e ts x rest (inr (inl p)) = inr p
  step_from e ts x rest (inr (inr (v, (mid, name, plus), is))) =
      inl ((v.0, v.1.1), (mid, name, inr (v.1, plus, refl)), is)

  pub loop_steps_same : Same (body.loop_step text) (loop_step text)
  loop_steps_same e ts x rest = (step_to e ts x rest, step_from e ts x rest)

  header_to : (e ts : List Token) (x : Header) (rest : List Token) → Has e (body.header text) ts x rest
      → Has e (header text) ts x rest
  unfolding StartsWith header_body loop_test_body
  header_to e ts x rest (
    v,
    (
      m1,
      assign,
      (
        m2,
        whole,
        (
          m3,
          semi,
          (
            m4,
            (t, (k1, name, (k2, mark, number)), bound),
            behind,
          ),
        ),
      ),
    ),
    is,
  ) = (
    (v.0, (v.1.0, (v.1.1.0, (t.0, (t.1.0, (t.1.1, v.1.1.1.1)))))),
    (m1, assign, (m2, whole, (m3, semi, (k1, name, (k2, mark, (m4, number, behind)))))),
    ap (λ b. (v.1.0.number, b)) bound ∙ is,
  )

  header_from : (e ts : List Token) (x : Header) (rest : List Token) → Has e (header text) ts x rest
      → Has e (body.header text) ts x rest
  unfolding StartsWith header_body loop_test_body
  header_from e ts x rest (v, (m1, assign, (m2, whole, (m3, semi, (k1, name, (k2, mark, (m4, number, behind)))))), is) = (
    (v.0, (v.1.0, (v.1.1.0, (bound_of v.1.1.1.1.0.class v.1.1.1.1.1.0.number, v.1.1.1.1.1.1)))),
    (
      m1,
      assign,
      (
        m2,
        whole,
        (
          m3,
          semi,
          (
            m4,
            (
              (v.1.1.1.0, (v.1.1.1.1.0, v.1.1.1.1.1.0)),
              (
                k1,
                name,
                (
                  k2,
                  mark,
                  number,
                ),
              ),
              refl,
            ),
            behind,
          ),
        ),
      ),
    ),
    is,
  )

  pub headers_same : Same (body.header text) (header text)
  headers_same e ts x rest = (header_to e ts x rest, header_from e ts x rest)

-- ---- branches and loops

is_if : Statement → Bool
is_if (tree.If branches) = true
is_if s = false

-- after an `else` a statement that is no `if` is the last one
after_plain : (s : Statement) → is_if s ≡ false → branches_after (Some s) ≡ tree.Else s
unfolding is_if
after_plain tree.Empty h = refl
after_plain (tree.Block ss) h = refl
after_plain (tree.Declare line written name value) h = refl
after_plain (tree.Assign line place change) h = refl
after_plain (tree.If branches) h = absurd cc
after_plain (tree.For name from bound inside) h = refl
after_plain (tree.Call line name) h = refl

last_is : {A B : Type 0} (x y : B) → final {A = A} {B = B} x ≡ final {A = A} {B = B} y → x ≡ y
last_is x y p = cc

module _ (text : List ℕ) (limit : ℕ) where
  named_plain : (t : Token) (a : AfterName) → is_if (named_of text t a) ≡ false
  unfolding is_if
  named_plain t (declares name value) = refl
  named_plain t calls = refl
  named_plain t (changes steps change) = refl

  simple_plain : (n : ℕ) (e ts : List Token) (s : Statement) (rest : List Token)
      → Has e (body.simple text limit n) ts s rest → is_if s ≡ false
  unfolding StartsWith simple_body by_name_body declaration_body counted_body is_if
  simple_plain n e ts s rest (inl (v, p, is)) = ap is_if (sym is) ∙ named_plain v.0 v.1
  simple_plain n e ts s rest (inr (inl (v, p, is))) = ap is_if (sym is)
  simple_plain n e ts s rest (inr (inr (inl (v, p, is)))) = ap is_if (sym is)
  simple_plain n e ts s rest (inr (inr (inr (v, p, is)))) = ap is_if (sym is)

  loop_plain : (n : ℕ) (e ts : List Token) (s : Statement) (rest : List Token)
      → Has e (body.nested text limit level.For n) ts s rest → is_if s ≡ false
  unfolding StartsWith body.nested_body loop_body is_if
  loop_plain zero e ts s rest p = absurd p
  loop_plain (suc n) e ts s rest (v, p, is) = ap is_if (sym is)

  otherwise_plain : (n : ℕ) (e ts : List Token) (s : Statement) (rest : List Token)
      → Has e (body.otherwise text limit n) ts s rest → is_if s ≡ false
  unfolding StartsWith branch_body block_body unbranched_body is_if
  otherwise_plain n e ts s rest (inl (v, p, is)) = ap is_if (sym is)
  otherwise_plain n e ts s rest (inr (inl p)) = loop_plain n e ts s rest p
  otherwise_plain n e ts s rest (inr (inr p)) = simple_plain n e ts s rest p

  -- what may stand after the statement of an `if`, as it is read
  abbrev read_else : ℕ → Of (List Branch × Option Statement)
  read_else n = nearest (body.else_link text limit n)

  -- [ "else" statement ]
  abbrev one_else : ℕ → Of (List Statement × Option Statement)
  one_else n = nearest (act (λ v. last v.1) (one the.Else ⨾ (body.chosen text limit n ∣ body.otherwise text limit n)))

  record Tail (n : ℕ) (e ts : List Token) (bs : List Branch) (end : Option Statement) (rest : List Token) : Type 0 where
    pub behind : Option Statement
    pub has : Has e (one_else n) ts ([], behind) rest
    pub same : branches_after behind ≡ branches_of bs end

  tail_to : (n : ℕ) (e ts : List Token) (bs : List Branch) (end : Option Statement) (rest : List Token)
      → Has e (read_else n) ts (bs, end) rest → Tail n e ts bs end rest
  unfolding StartsWith else_body choice_body
  tail_to n e ts [] None rest p = record { behind = None; has = p; same = refl }
  tail_to n e ts [] (Some s) rest (w, (mid, mark, inl (b, test, is)), ends) = not_last b s (is ∙ ends)
  tail_to n e ts [] (Some s) rest (w, (mid, mark, inr (o, p, is)), ends) =
      let q : Has e (body.otherwise text limit n) mid s rest =
      subst (λ z. Has e (body.otherwise text limit n) mid z rest) (last_is o s (is ∙ ends)) p in
      record {
        behind = Some s;
        has = ((w.0, s), (mid, mark, inr q), refl);
        same =
            after_plain s (otherwise_plain n e mid s rest q);
      }
  tail_to n e ts (b ∷ bs) end rest (next, (w, (mid, mark, inl (o, test, is)), goes), more) =
      let first : Has e (body.test text limit n) mid b next =
      subst (λ z. Has e (body.test text limit n) mid z next) (onward_is o b (is ∙ goes)) test in
      let s = tree.If (branches_of (b ∷ bs) end) in
      record {
        behind = Some s;
        has = (
          (w.0, s),
          (mid, mark, inl ((b, (bs, end)), (next, first, more), refl)),
          refl,
        );
        same = refl;
      }
  tail_to n e ts (b ∷ bs) end rest (next, (w, (mid, mark, inr (o, p, is)), goes), more) = not_last b o (sym (is ∙ goes))

  record Front (n : ℕ) (e ts : List Token) (behind : Option Statement) (rest : List Token) : Type 0 where
    pub branches : List Branch
    pub end : Option Statement
    pub has : Has e (read_else n) ts (branches, end) rest
    pub same : branches_of branches end ≡ branches_after behind

  tail_from : (n : ℕ) (e ts : List Token) (none : List Statement) (behind : Option Statement) (rest : List Token)
      → Has e (one_else n) ts (none, behind) rest → Front n e ts behind rest
  unfolding StartsWith else_body choice_body
  tail_from n e ts [] None rest p = record { branches = []; end = None; has = p; same = refl }
  tail_from n e ts [] (Some s) rest (w, (mid, mark, inl (v, (next, test, more), is)), ends) =
      record {
        branches = v.0 ∷ v.1.0;
        end = v.1.1;
        has = (next, ((w.0, onward v.0), (mid, mark, inl (v.0, test, refl)), refl), more);
        same = ap (λ z. branches_after (Some z)) (is ∙ last_is w.1 s ends);
      }
  tail_from n e ts [] (Some s) rest (w, (mid, mark, inr p), ends) =
      let q : Has e (body.otherwise text limit n) mid s rest =
      subst (λ z. Has e (body.otherwise text limit n) mid z rest) (last_is w.1 s ends) p in
      record {
        branches = [];
        end = Some s;
        has = ((w.0, last s), (mid, mark, inr (s, q, refl)), refl);
        same =
            sym (after_plain s (otherwise_plain n e mid s rest q));
      }
  tail_from n e ts (o ∷ os) behind rest (next, (w, p, is), more) = not_last o w.1 (sym is)

  choosing_to : (n : ℕ) (e ts : List Token) (x : Statement) (rest : List Token)
      → Has e (body.chosen text limit n) ts x rest → Has e (choosing text limit n) ts x rest
  unfolding StartsWith choice_body test_body
  choosing_to n e ts x rest (
    v,
    (mid, (t, (m1, word, (m2, bracket, (m3, test, (m4, close, branch)))), first), more),
    is,
  ) =
      let tail = tail_to n e mid v.1.0 v.1.1 rest more in (
        (t.0, (t.1.0, (t.1.1.0, (t.1.1.1.0, (t.1.1.1.1, ([], tail.behind)))))),
        (m1, word, (m2, bracket, (m3, test, (m4, close, (mid, branch, tail.has))))),
        (ap (λ r. tree.If (tree.Test t.0.line t.1.1.0 t.1.1.1.1 r)) tail.same
            ∙ ap (λ b. tree.If (tree.Test b.0 b.1 b.2 (branches_of v.1.0 v.1.1))) first) ∙ is,
      )

  choosing_from : (n : ℕ) (e ts : List Token) (x : Statement) (rest : List Token)
      → Has e (choosing text limit n) ts x rest → Has e (body.chosen text limit n) ts x rest
  unfolding StartsWith choice_body test_body
  choosing_from n e ts x rest (v, (m1, word, (m2, bracket, (m3, test, (m4, close, (mid, branch, more))))), is) =
      let front = tail_from n e mid v.1.1.1.1.1.0 v.1.1.1.1.1.1 rest more in (
        ((v.0.line, v.1.1.0, v.1.1.1.1.0), (front.branches, front.end)),
        (
          mid,
          (
            (v.0, (v.1.0, (v.1.1.0, (v.1.1.1.0, v.1.1.1.1.0)))),
            (m1, word, (m2, bracket, (m3, test, (m4, close, branch)))),
            refl,
          ),
          front.has,
        ),
        ap (λ r. tree.If (tree.Test v.0.line v.1.1.0 v.1.1.1.1.0 r)) front.same ∙ is,
      )

  pub chosen_same : (n : ℕ) → Same (body.chosen text limit n) (choosing text limit n)
  chosen_same n e ts x rest = (choosing_to n e ts x rest, choosing_from n e ts x rest)

  pub loops_same : (n : ℕ) → Same (body.nested text limit level.For (suc n)) (looping text limit n)
  unfolding StartsWith body.nested_body loop_body
  loops_same n e ts x rest = (
    λ p. (
      p.0,
      (
        p.1.0,
        p.1.1,
        (
          p.1.2.0,
          p.1.2.1,
          (
            p.1.2.2.0,
            p.1.2.2.1,
            (
              p.1.2.2.2.0,
              p.1.2.2.2.1,
              (
                p.1.2.2.2.2.0,
                header_to text (p.0.1.1.1.0 ∷ e) p.1.2.2.2.0 p.0.1.1.1.1.0 p.1.2.2.2.2.0 p.1.2.2.2.2.1,
                p.1.2.2.2.2.2,
              ),
            ),
          ),
        ),
      ),
      p.2,
    ),
    λ p. (
      p.0,
      (
        p.1.0,
        p.1.1,
        (
          p.1.2.0,
          p.1.2.1,
          (
            p.1.2.2.0,
            p.1.2.2.1,
            (
              p.1.2.2.2.0,
              p.1.2.2.2.1,
              (
                p.1.2.2.2.2.0,
                header_from text (p.0.1.1.1.0 ∷ e) p.1.2.2.2.0 p.0.1.1.1.1.0 p.1.2.2.2.2.0 p.1.2.2.2.2.1,
                p.1.2.2.2.2.2,
              ),
            ),
          ),
        ),
      ),
      p.2,
    ),
  )

  pub branches_same : (n : ℕ) → Same (body.branch text limit n) (body.block text limit n ∣ body.unblocked text limit n)
  unfolding StartsWith branch_body
  branches_same n e ts x rest = (λ p. p, λ p. p)

  pub no_blocks_same : (n : ℕ) → Same (body.statement text limit n)
      (body.nested text limit level.Block n ∣ body.unblocked text limit n)
  unfolding StartsWith statement_body unblocked_body
  no_blocks_same n e ts x rest = (λ p. p, λ p. p)

-- ---- the names of loops

-- whether a name is one of the names in scope
scoped_is : (text name : List ℕ) (e : List Token)
    → list_any (λ u. bytes_eq (text_of text u) name) e ≡ list_any (λ u. bytes_eq u name) (scope_names text e)
scoped_is text name [] = refl
scoped_is text name (u ∷ e) = ap (λ b. bytes_eq (text_of text u) name || b) (scoped_is text name e)

-- an assignment to a place with these parts spares the names of loops where the name alone is none
spares_with : (loops : List (List ℕ)) (line at : ℕ) (name : List ℕ) (change : Change) (steps : List Step)
    → (steps ≡ [] → list_any (λ u. bytes_eq u name) loops ≡ false)
    → spares loops (tree.Assign line (tree.path at name (parts_of steps)) change) ≡ true
spares_with loops line at name change [] h = ap not (h refl)
spares_with loops line at name change (member l n ∷ steps) h = refl
spares_with loops line at name change (index e ∷ steps) h = refl

spared_name : (loops : List (List ℕ)) (line at : ℕ) (name : List ℕ) (change : Change)
    → spares loops (tree.Assign line (tree.path at name (parts_of [])) change) ≡ true
    → list_any (λ u. bytes_eq u name) loops ≡ true → ⊥
spared_name loops line at name change h p = absurd cc

either : (b : Bool) → (b ≡ true) ⊎ (b ≡ false)
either true = inl refl
either false = inr refl

-- ---- the statements that begin with a name

module _ (text : List ℕ) (m : ℕ) where
  some_to : (n : ℕ) (e ts : List Token) (xs : List Step) (rest : List Token)
      → Has e (read.some_steps text (suc m) n) ts xs rest
      → Has e (repetition (suc m) (read.step text (suc m) n)) ts xs rest × (xs ≡ [] → ⊥)
  unfolding StartsWith
  some_to n e ts xs rest (v, (mid, first, more), is) =
      let less : suc m - 1 ≡ m = omega arith in (
        subst (λ ys. Has e (repetition (suc m) (read.step text (suc m) n)) ts ys rest) is
            (mid, first, subst (λ k. Has e (repetition k (read.step text (suc m) n)) mid v.1 rest) less more),
        λ none. cc (is ∙ none),
      )

  some_from : (n : ℕ) (e ts : List Token) (x : Step) (xs : List Step) (rest : List Token)
      → Has e (repetition (suc m) (read.step text (suc m) n)) ts (x ∷ xs) rest
      → Has e (read.some_steps text (suc m) n) ts (x ∷ xs) rest
  unfolding StartsWith
  some_from n e ts x xs rest (mid, first, more) =
      let less : m ≡ suc m - 1 = omega arith in
      ((x, xs), (mid, first, subst (λ k. Has e (repetition k (read.step text (suc m) n)) mid xs rest) less more), refl)

  -- a statement of the productions, which spares the names of loops
  abbrev Stated : ℕ → List Token → List Token → Statement → List Token → Type 0
  Stated n e ts x rest = Has e (statement text (suc m) n) ts x rest × (spares (scope_names text e) x ≡ true)

  local_to : (n : ℕ) (e ts : List Token) (t : Token) (mid : List Token) (a : AfterName) (x : Statement)
      (rest : List Token)
      → Has e (token names) ts t mid → Has [] (body.local text (suc m) n) mid a rest → named_of text t a ≡ x
      → Stated n e ts x rest
  unfolding StartsWith value_body
  local_to n e ts t mid a x rest begins (w, (m2, name, (z, (m3, first, semi), given)), had) is =
      let same : tree.Declare t.line (tree.Custom t.line (name_of text t)) (name_of text w.0) z.0 ≡ x =
      ap (λ o. named_of text t (declares w.0 o)) given ∙ (ap (named_of text t) had ∙ is) in (
        inr (inl (
          ((t.line, tree.Custom t.line (name_of text t)), (w.0, (z.0, z.1))),
          (mid, inr (t, begins, refl), (m2, name, (m3, first, semi))),
          same,
        )),
        ap (spares (scope_names text e)) (sym same),
      )

  call_to : (n : ℕ) (e ts : List Token) (t : Token) (mid : List Token) (a : AfterName) (x : Statement)
      (rest : List Token)
      → Has e (token names) ts t mid → Has [] (body.call text (suc m) n) mid a rest → named_of text t a ≡ x
      → Stated n e ts x rest
  unfolding StartsWith call_body
  call_to zero e ts t mid a x rest begins p is = absurd p
  call_to (suc n) e ts t mid a x rest begins (w, inside, had) is =
      let same : tree.Call t.line (name_of text t) ≡ x = ap (named_of text t) had ∙ is in (
        inr (inr (inr (inr (inr (inr (inr (inl ((t, w), (mid, begins, inside), same)))))))),
        ap (spares (scope_names text e)) (sym same),
      )

  -- a place, from its name and its steps
  place_of_steps : (n : ℕ) (e ts : List Token) (t : Token) (steps : List Step) (mid rest : List Token)
      → Has e (token names) ts t mid → Has [] (repetition (suc m) (read.step text (suc m) n)) mid steps rest
      → Has e (alone (read.place text (suc m) n)) ts (tree.path t.line (name_of text t) (parts_of steps)) rest
  unfolding StartsWith place_body
  place_of_steps n e ts t steps mid rest begins p = ((t, steps), (mid, begins, p), refl)

  spares_place : (e : List Token) (line : ℕ) (t : Token) (steps : List Step) (change : Change) (x : Statement)
      → (steps ≡ [] → is_in_scope text e t ≡ false)
      → tree.Assign line (tree.path t.line (name_of text t) (parts_of steps)) change ≡ x
      → spares (scope_names text e) x ≡ true
  spares_place e line t steps change x h is =
      ap (spares (scope_names text e)) (sym is)
      ∙ spares_with (scope_names text e) line t.line (name_of text t) change steps
      (λ none. sym (scoped_is text (name_of text t) e) ∙ h none)

  change_to : (n : ℕ) (e ts : List Token) (t : Token) (steps : List Step) (mid m2 : List Token) (change : Change)
      (m3 : List Token) (semi : Token) (x : Statement) (rest : List Token)
      → Has e (token names) ts t mid → Has [] (repetition (suc m) (read.step text (suc m) n)) mid steps m2
      → (steps ≡ [] → is_in_scope text e t ≡ false)
      → Has [] (body.operation text (suc m) n) m2 change m3 → Has [] (one the.Semicolon) m3 semi rest
      → named_of text t (changes steps change) ≡ x
      → Stated n e ts x rest
  unfolding StartsWith operation_body
  change_to n e ts t steps mid m2 change m3 semi x rest begins p h (inl (u, (m4, mark, right), made)) ends is = (
    inr (inr (inl (
      (tree.path t.line (name_of text t) (parts_of steps), (u.0, (u.1, semi))),
      (m2, place_of_steps n e ts t steps mid m2 begins p, (m4, mark, (m3, right, ends))),
      ap (λ c. named_of text t (changes steps c)) made ∙ is,
    ))),
    spares_place e t.line t steps change x h is,
  )
  change_to n e ts t steps mid m2 change m3 semi x rest begins p h (inr (u, mark, made)) ends is = (
    inr (inr (inr (inl (
      (tree.path t.line (name_of text t) (parts_of steps), (u, semi)),
      (m2, place_of_steps n e ts t steps mid m2 begins p, (m3, mark, ends)),
      ap (λ c. named_of text t (changes steps c)) made ∙ is,
    )))),
    spares_place e t.line t steps change x h is,
  )

  by_name_to : (n : ℕ) (e ts : List Token) (x : Statement) (rest : List Token)
      → Has e (body.by_name text (suc m) n) ts x rest → Stated n e ts x rest
  unfolding StartsWith by_name_body named_body bound_change_body free_change_body
  by_name_to n e ts x rest (v, (mid, begins, inl (on, inl p)), is) = local_to n e ts v.0 mid v.1 x rest begins p is
  by_name_to n e ts x rest (v, (mid, begins, inl (on, inr (inl p))), is) = call_to n e ts v.0 mid v.1 x rest begins p is
  by_name_to n e ts x rest (v, (mid, begins, inl (on, inr (inr (inl (w, (m2, some, (m3, p, ends)), had))))), is) =
      let steps = some_to n [] mid w.0 m2 some in
      change_to n e ts v.0 w.0 mid m2 w.1.0 m3 w.1.1 x rest begins steps.0 (λ none. absurd (steps.1 none)) p ends
      (ap (named_of text v.0) had ∙ is)
  by_name_to n e ts x rest (v, (mid, begins, inl (on, inr (inr (inr p)))), is) = absurd p
  by_name_to n e ts x rest (v, (mid, begins, inr (off, inl p)), is) = local_to n e ts v.0 mid v.1 x rest begins p is
  by_name_to n e ts x rest (v, (mid, begins, inr (off, inr (inl p))), is) =
      call_to n e ts v.0 mid v.1 x rest begins p is
  by_name_to n e ts x rest (v, (mid, begins, inr (off, inr (inr (w, (m2, steps, (m3, p, ends)), had)))), is) =
      change_to n e ts v.0 w.0 mid m2 w.1.0 m3 w.1.1 x rest begins steps (λ none. off) p ends
      (ap (named_of text v.0) had ∙ is)

  counted_with : (n : ℕ) (e ts : List Token) (mark : Token) (m1 : List Token) (t : Token) (steps : List Step)
      (m2 m3 : List Token) (semi : Token) (x : Statement) (rest : List Token)
      → Has e (token counting) ts mark m1 → Has e (token names) m1 t m2
      → Has [] (repetition (suc m) (read.step text (suc m) n)) m2 steps m3
      → (steps ≡ [] → is_in_scope text e t ≡ false) → Has [] (one the.Semicolon) m3 semi rest
      → tree.Assign mark.line (tree.path t.line (name_of text t) (parts_of steps)) (counting_of mark.class) ≡ x
      → Stated n e ts x rest
  unfolding StartsWith
  counted_with n e ts mark m1 t steps m2 m3 semi x rest begins name p h ends is = (
    inr (inr (inr (inr (inl (
      (mark, (tree.path t.line (name_of text t) (parts_of steps), semi)),
      (m1, begins, (m3, place_of_steps n e m1 t steps m2 m3 name p, ends)),
      is,
    ))))),
    spares_place e mark.line t steps (counting_of mark.class) x h is,
  )

  counted_to : (n : ℕ) (e ts : List Token) (x : Statement) (rest : List Token)
      → Has e (body.counted text (suc m) n) ts x rest → Stated n e ts x rest
  unfolding StartsWith counted_body bound_steps_body free_steps_body
  counted_to n e ts x rest (v, (m1, mark, (m2, name, inl (on, inl (w, (m3, some, ends), had)))), is) =
      let steps = some_to n [] m2 w.0 m3 some in
      counted_with n e ts v.0 m1 v.1.0 w.0 m2 m3 w.1 x rest mark name steps.0 (λ none. absurd (steps.1 none)) ends
      (ap (λ ss. tree.Assign v.0.line (tree.path v.1.0.line (name_of text v.1.0) (parts_of ss))
      (counting_of v.0.class)) had ∙ is)
  counted_to n e ts x rest (v, (m1, mark, (m2, name, inl (on, inr p))), is) = absurd p
  counted_to n e ts x rest (v, (m1, mark, (m2, name, inr (off, (w, (m3, steps, ends), had)))), is) =
      counted_with n e ts v.0 m1 v.1.0 w.0 m2 m3 w.1 x rest mark name steps (λ none. off) ends
      (ap (λ ss. tree.Assign v.0.line (tree.path v.1.0.line (name_of text v.1.0) (parts_of ss))
      (counting_of v.0.class)) had ∙ is)

  declaration_to : (n : ℕ) (e ts : List Token) (x : Statement) (rest : List Token)
      → Has e (alone (body.declaration text (suc m) n)) ts x rest → Stated n e ts x rest
  unfolding StartsWith declaration_body value_body basic_body
  declaration_to n e ts x rest (v, (m1, written, (m2, name, (z, (m3, first, semi), given))), is) =
      let same : tree.Declare v.0.0 (tree.Basic v.0.1) (name_of text v.1.0) z.0 ≡ x =
      ap (λ o. tree.Declare v.0.0 (tree.Basic v.0.1) (name_of text v.1.0) o) given ∙ is in (
        inr (inl (
          ((v.0.0, tree.Basic v.0.1), (v.1.0, (z.0, z.1))),
          (m1, inl (v.0, written, refl), (m2, name, (m3, first, semi))),
          same,
        )),
        ap (spares (scope_names text e)) (sym same),
      )

  simple_to : (n : ℕ) (e ts : List Token) (x : Statement) (rest : List Token)
      → Has e (body.simple text (suc m) n) ts x rest → Stated n e ts x rest
  unfolding StartsWith simple_body
  simple_to n e ts x rest (inl p) = by_name_to n e ts x rest p
  simple_to n e ts x rest (inr (inl p)) = declaration_to n e ts x rest p
  simple_to n e ts x rest (inr (inr (inl p))) = counted_to n e ts x rest p
  simple_to n e ts x rest (inr (inr (inr (t, p, is)))) =
      (inr (inr (inr (inr (inr (inr (inr (inr (t, p, is)))))))), ap (spares (scope_names text e)) (sym is))

  statement_to : (n : ℕ) (e ts : List Token) (x : Statement) (rest : List Token)
      → Has e (body.statement text (suc m) n) ts x rest → Stated n e ts x rest
  unfolding StartsWith statement_body body.nested_body block_body choice_body loop_body
  statement_to zero e ts x rest (inl p) = absurd p
  statement_to zero e ts x rest (inr (inl p)) = absurd p
  statement_to zero e ts x rest (inr (inr (inl p))) = absurd p
  statement_to zero e ts x rest (inr (inr (inr p))) = simple_to zero e ts x rest p
  statement_to (suc n) e ts x rest (inl (v, p, is)) = (inl (v, p, is), ap (spares (scope_names text e)) (sym is))
  statement_to (suc n) e ts x rest (inr (inl (v, p, is))) =
      (inr (inr (inr (inr (inr (inl (v, p, is)))))), ap (spares (scope_names text e)) (sym is))
  statement_to (suc n) e ts x rest (inr (inr (inl (v, p, is)))) =
      (inr (inr (inr (inr (inr (inr (inl (v, p, is))))))), ap (spares (scope_names text e)) (sym is))
  statement_to (suc n) e ts x rest (inr (inr (inr p))) = simple_to (suc n) e ts x rest p

  -- ---- and back

  -- what stands after a name, whether it is that of a loop or not
  abbrev Behind : ℕ → List Token → Token → List Token → AfterName → List Token → Type 0
  Behind n e t mid a rest =
      ((is_in_scope text e t ≡ true) × Has [] (body.named text (suc m) n (body.bound_change text (suc m) n)) mid a rest)
      ⊎ ((is_in_scope text e t ≡ false) × Has [] (body.named text (suc m) n
      (body.free_change text (suc m) n)) mid a rest)

  by_name_from : (n : ℕ) (e ts : List Token) (t : Token) (mid : List Token) (a : AfterName) (x : Statement)
      (rest : List Token)
      → Has e (token names) ts t mid → Behind n e t mid a rest → named_of text t a ≡ x
      → Has e (body.statement text (suc m) n) ts x rest
  unfolding StartsWith statement_body simple_body by_name_body
  by_name_from n e ts t mid a x rest begins p is = inr (inr (inr (inl ((t, a), (mid, begins, p), is))))

  local_behind : (n : ℕ) (e : List Token) (t : Token) (mid : List Token) (a : AfterName) (rest : List Token)
      → Has [] (body.local text (suc m) n) mid a rest → Behind n e t mid a rest
  unfolding StartsWith named_body
  local_behind n e t mid a rest p = elim (either (is_in_scope text e t)) [
    | inl on ↦ inl (
      on,
      inl p,
    )
    | inr off ↦ inr (off, inl p)
  ]

  call_behind : (n : ℕ) (e : List Token) (t : Token) (mid : List Token) (a : AfterName) (rest : List Token)
      → Has [] (body.call text (suc m) n) mid a rest → Behind n e t mid a rest
  unfolding StartsWith named_body
  call_behind n e t mid a rest p = elim (either (is_in_scope text e t)) [
    | inl on ↦ inl (
      on,
      inr (inl p),
    )
    | inr off ↦ inr (off, inr (inl p))
  ]

  -- the name of a loop alone is not changed
  name_spared : (e : List Token) (line : ℕ) (t : Token) (change : Change) (x : Statement)
      → tree.Assign line (tree.path t.line (name_of text t) (parts_of [])) change ≡ x
      → spares (scope_names text e) x ≡ true → is_in_scope text e t ≡ true → ⊥
  name_spared e line t change x is h on =
      spared_name (scope_names text e) line t.line (name_of text t) change (ap (spares (scope_names text e)) is ∙ h)
      (sym (scoped_is text (name_of text t) e) ∙ on)

  change_behind : (n : ℕ) (e : List Token) (t : Token) (steps : List Step) (mid m2 : List Token) (change : Change)
      (m3 : List Token) (semi : Token) (x : Statement) (rest : List Token)
      → Has [] (repetition (suc m) (read.step text (suc m) n)) mid steps m2
      → Has [] (body.operation text (suc m) n) m2 change m3
      → Has [] (one the.Semicolon) m3 semi rest → named_of text t (changes steps change) ≡ x
      → spares (scope_names text e) x ≡ true
      → (is_in_scope text e t ≡ true) ⊎ (is_in_scope text e t ≡ false)
      → Behind n e t mid (changes steps change) rest
  unfolding StartsWith named_body bound_change_body free_change_body
  change_behind n e t steps mid m2 change m3 semi x rest p op ends is h (inr off) =
      inr (off, inr (inr ((steps, (change, semi)), (m2, p, (m3, op, ends)), refl)))
  change_behind n e t [] mid m2 change m3 semi x rest p op ends is h (inl on) =
      absurd (name_spared e t.line t change x is h on)
  change_behind n e t (s ∷ steps) mid m2 change m3 semi x rest p op ends is h (inl on) =
      inl (
        on,
        inr (inr (inl (
          (s ∷ steps, (change, semi)),
          (m2, some_from n [] mid s steps m2 p, (m3, op, ends)),
          refl,
        ))),
      )

  change_from : (n : ℕ) (e ts : List Token) (place : Path) (m2 : List Token) (change : Change) (m3 : List Token)
      (semi : Token) (x : Statement) (rest : List Token)
      → Has e (alone (read.place text (suc m) n)) ts place m2 → Has [] (body.operation text (suc m) n) m2 change m3
      → Has [] (one the.Semicolon) m3 semi rest → tree.Assign (line_of_path place) place change ≡ x
      → spares (scope_names text e) x ≡ true
      → Has e (body.statement text (suc m) n) ts x rest
  unfolding StartsWith place_body
  change_from n e ts place m2 change m3 semi x rest ((t, steps), (mid, begins, p), made) op ends is h =
      let same : named_of text t (changes steps change) ≡ x = ap (λ q. tree.Assign (line_of_path q) q change) made
      ∙ is in
      by_name_from n e ts t mid (changes steps change) x rest begins
      (change_behind n e t steps mid m2 change m3 semi x rest p op ends same h (either (is_in_scope text e t))) same

  counted_steps : (n : ℕ) (e ts : List Token) (mark : Token) (m1 : List Token) (t : Token) (steps : List Step)
      (m2 m3 : List Token) (semi : Token) (x : Statement) (rest : List Token)
      → Has e (token counting) ts mark m1 → Has e (token names) m1 t m2
      → Has [] (repetition (suc m) (read.step text (suc m) n)) m2 steps m3
      → Has [] (one the.Semicolon) m3 semi rest
      → tree.Assign mark.line (tree.path t.line (name_of text t) (parts_of steps)) (counting_of mark.class) ≡ x
      → spares (scope_names text e) x ≡ true
      → (is_in_scope text e t ≡ true) ⊎ (is_in_scope text e t ≡ false)
      → Has e (body.counted text (suc m) n) ts x rest
  unfolding StartsWith counted_body bound_steps_body free_steps_body
  counted_steps n e ts mark m1 t steps m2 m3 semi x rest begins name p ends is h (inr off) =
      ((mark, (t, steps)), (m1, begins, (m2, name, inr (off, ((steps, semi), (m3, p, ends), refl)))), is)
  counted_steps n e ts mark m1 t [] m2 m3 semi x rest begins name p ends is h (inl on) =
      absurd (name_spared e mark.line t (counting_of mark.class) x is h on)
  counted_steps n e ts mark m1 t (s ∷ steps) m2 m3 semi x rest begins name p ends is h (inl on) = (
    (mark, (t, s ∷ steps)),
    (
      m1,
      begins,
      (
        m2,
        name,
        inl (
          on,
          inl (
            (s ∷ steps, semi),
            (
              m3,
              some_from n [] m2 s steps m3 p,
              ends,
            ),
            refl,
          ),
        ),
      ),
    ),
    is,
  )

  counted_from : (n : ℕ) (e ts : List Token) (x : Statement) (rest : List Token)
      → Has e (counted_before text (suc m) n) ts x rest → spares (scope_names text e) x ≡ true
      → Has e (body.counted text (suc m) n) ts x rest
  unfolding StartsWith place_body
  counted_from n e ts x rest (v, (m1, begins, (m3, ((t, steps), (m2, name, p), made), ends)), is) h =
      counted_steps n e ts v.0 m1 t steps m2 m3 v.1.1 x rest begins name p ends
      (ap (λ q. tree.Assign v.0.line q (counting_of v.0.class)) made ∙ is) h (either (is_in_scope text e t))

  declaration_from : (n : ℕ) (e ts : List Token) (x : Statement) (rest : List Token)
      → Has e (declaration text (suc m) n) ts x rest → Has e (body.statement text (suc m) n) ts x rest
  unfolding StartsWith statement_body simple_body declaration_body value_body basic_body
  declaration_from n e ts x rest (v, (m1, inl (b, written, made), (m2, name, (m3, first, ends))), is) =
      inr (inr (inr (inr (inl (
        (b, (v.1.0, v.1.1.0)),
        (
          m1,
          written,
          (
            m2,
            name,
            (
              (v.1.1.0, v.1.1.1),
              (m3, first, ends),
              refl,
            ),
          ),
        ),
        ap (λ y. tree.Declare y.0 y.1 (name_of text v.1.0) v.1.1.0) made ∙ is,
      )))))
  declaration_from n e ts x rest (v, (m1, inr (t, begins, made), (m2, name, (m3, first, ends))), is) =
      by_name_from n e ts t m1 (declares v.1.0 v.1.1.0) x rest begins
      (local_behind n e t m1 (declares v.1.0 v.1.1.0) rest (
        (v.1.0, v.1.1.0),
        (m2, name, ((v.1.1.0, v.1.1.1), (m3, first, ends), refl)),
        refl,
      ))
      (ap (λ y. tree.Declare y.0 y.1 (name_of text v.1.0) v.1.1.0) made ∙ is)

  call_from : (n : ℕ) (e ts : List Token) (x : Statement) (rest : List Token) → Has e (call text (suc m) n) ts x rest
      → Has e (body.statement text (suc m) n) ts x rest
  unfolding StartsWith call_body
  call_from zero e ts x rest p = absurd p
  call_from (suc n) e ts x rest (v, (mid, begins, inside), is) =
      by_name_from (suc n) e ts v.0 mid calls x rest begins (call_behind (suc n) e v.0 mid calls rest (
        v.1,
        inside,
        refl,
      )) is

  assignment_from : (n : ℕ) (e ts : List Token) (x : Statement) (rest : List Token)
      → Has e (assignment text (suc m) n) ts x rest → spares (scope_names text e) x ≡ true
      → Has e (body.statement text (suc m) n) ts x rest
  unfolding StartsWith operation_body
  assignment_from n e ts x rest (v, (m2, place, (m4, mark, (m3, right, ends))), is) h =
      change_from n e ts v.0 m2 (change_of v.1.0.class v.1.1.0) m3 v.1.1.1 x rest place (inl (
        (v.1.0, v.1.1.0),
        (m4, mark, right),
        refl,
      )) ends is h

  counted_behind_from : (n : ℕ) (e ts : List Token) (x : Statement) (rest : List Token)
      → Has e (counted_behind text (suc m) n) ts x rest → spares (scope_names text e) x ≡ true
      → Has e (body.statement text (suc m) n) ts x rest
  unfolding StartsWith operation_body
  counted_behind_from n e ts x rest (v, (m2, place, (m3, mark, ends)), is) h =
      change_from n e ts v.0 m2 (counting_of v.1.0.class) m3 v.1.1 x rest place (inr (v.1.0, mark, refl)) ends is h

  statement_from : (n : ℕ) (e ts : List Token) (x : Statement) (rest : List Token) → Stated n e ts x rest
      → Has e (body.statement text (suc m) n) ts x rest
  unfolding StartsWith statement_body simple_body body.nested_body block_body choice_body loop_body
  statement_from zero e ts x rest (inl p, h) = absurd p
  statement_from (suc n) e ts x rest (inl p, h) = inl p
  statement_from n e ts x rest (inr (inl p), h) = declaration_from n e ts x rest p
  statement_from n e ts x rest (inr (inr (inl p)), h) = assignment_from n e ts x rest p h
  statement_from n e ts x rest (inr (inr (inr (inl p))), h) = counted_behind_from n e ts x rest p h
  statement_from n e ts x rest (inr (inr (inr (inr (inl p)))), h) =
      inr (inr (inr (inr (inr (inl (counted_from n e ts x rest p h))))))
  statement_from zero e ts x rest (inr (inr (inr (inr (inr (inl p))))), h) = absurd p
  statement_from (suc n) e ts x rest (inr (inr (inr (inr (inr (inl p))))), h) = inr (inl p)
  statement_from zero e ts x rest (inr (inr (inr (inr (inr (inr (inl p)))))), h) = absurd p
  statement_from (suc n) e ts x rest (inr (inr (inr (inr (inr (inr (inl p)))))), h) = inr (inr (inl p))
  statement_from n e ts x rest (inr (inr (inr (inr (inr (inr (inr (inl p))))))), h) = call_from n e ts x rest p
  statement_from n e ts x rest (inr (inr (inr (inr (inr (inr (inr (inr p))))))), h) =
      inr (inr (inr (inr (inr (inr p)))))

-- ---- methods

return_to : (e ts : List Token) (x : Token) (rest : List Token) → Has e methods.return_line ts x rest
    → Has e return_line ts x rest
unfolding StartsWith return_body
return_to e ts x rest (v, (m1, word, (m2, inl number, semi)), is) = inl (v, (m1, word, (m2, number, semi)), is)
return_to e ts x rest (v, (m1, word, (m2, inr (w, (k1, left, (k2, number, right)), given), semi)), is) =
    inr ((v.0, (w.0, (w.1.0, (w.1.1, v.1.1)))), (m1, word, (k1, left, (k2, number, (m2, right, semi)))), is)

return_from : (e ts : List Token) (x : Token) (rest : List Token) → Has e return_line ts x rest
    → Has e methods.return_line ts x rest
unfolding StartsWith return_body
return_from e ts x rest (inl (v, (m1, word, (m2, number, semi)), is)) = (v, (m1, word, (m2, inl number, semi)), is)
return_from e ts x rest (inr (v, (m1, word, (k1, left, (k2, number, (m2, right, semi)))), is)) = (
  (v.0, (v.1.1.0, v.1.1.1.1)),
  (
    m1,
    word,
    (
      m2,
      inr (
        (v.1.0, (v.1.1.0, v.1.1.1.0)),
        (k1, left, (k2, number, right)),
        refl,
      ),
      semi,
    ),
  ),
  is,
)

module _ (text : List ℕ) (limit n : ℕ) where
  method_to : (e ts : List Token) (x : Method) (rest : List Token) → Has e (methods.method text limit n) ts x rest
      → Has e (method text limit n) ts x rest
  unfolding StartsWith method_body void_body void_inside_body int_body int_inside_body
  method_to e ts x rest (inl (v, (m1, word, (m2, name, (u, (m3, left, (z, inside, made)), had))), is)) =
      inl (
        (v.0, (v.1.0, (u.0, z))),
        (m1, word, (m2, name, (m3, left, inside))),
        ap (method_of text limit v.1.0) (made ∙ had) ∙ is,
      )
  method_to e ts x rest (inr (v, (m1, word, (m2, name, (u, (m3, left, (z, inside, made)), had))), is)) =
      inr (
        (v.0, (v.1.0, (u.0, z))),
        (m1, word, (m2, name, (m3, left, inside))),
        ap (method_of text limit v.1.0) (made ∙ had) ∙ is,
      )

  method_from : (e ts : List Token) (x : Method) (rest : List Token) → Has e (method text limit n) ts x rest
      → Has e (methods.method text limit n) ts x rest
  unfolding StartsWith method_body void_body void_inside_body int_body int_inside_body
  method_from e ts x rest (inl (v, (m1, word, (m2, name, (m3, left, inside))), is)) =
      inl (
        (v.0, (v.1.0, statements_of v.1.1.1.1.1.0)),
        (
          m1,
          word,
          (m2, name, ((v.1.1.0, statements_of v.1.1.1.1.1.0), (m3, left, (v.1.1.1, inside, refl)), refl)),
        ),
        is,
      )
  method_from e ts x rest (inr (v, (m1, word, (m2, name, (m3, left, inside))), is)) =
      inr (
        (v.0, (v.1.0, statements_of v.1.1.1.1.1.0)),
        (
          m1,
          word,
          (m2, name, ((v.1.1.0, statements_of v.1.1.1.1.1.0), (m3, left, (v.1.1.1, inside, refl)), refl)),
        ),
        is,
      )

pub all_productions : BodiesHaveProductions
all_productions text limit n = record {
  parts = parts_same text (suc limit) n;
  places = places_same text (suc limit) n;
  operands = operands_same text (suc limit) n;
  chains = chains_same text (suc limit) n;
  choices = choices_same text (suc limit) n;
  expressions = expressions_same text (suc limit) n;
  loop_steps = loop_steps_same text;
  headers = headers_same text;
  chosen = chosen_same text (suc limit) n;
  loops = loops_same text (suc limit) n;
  statements = λ e ts x rest. (statement_to text limit n e ts x rest, statement_from text limit n e ts x rest);
  branches = branches_same text (suc limit) n;
  no_blocks = no_blocks_same text (suc limit) n;
  returns = λ e ts x rest. (return_to e ts x rest, return_from e ts x rest);
  methods = λ e ts x rest. (method_to text (suc limit) n e ts x rest, method_from text (suc limit) n e ts x rest);
}
