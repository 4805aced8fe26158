-- Each part of a tree passes the tests that hold of names, lists, numbers and jobs of the text.
use Rattle.std.proofs.Common.{◌≡◌, ℕ, zero, suc, ◌-◌, ◌≤◌, Bool, true, List, [], ◌∷◌, length, Option, Some, refl, sym, ◌∙◌, inl, inr, subst, arith}
use Rattle.std.proofs.lemmas.Bool.{and_from}
use Rattle.std.specs.List.{list_all}
use Rattle.trick_body_symbols.specs.Expressions.{Of, names, name_of}
use Rattle.trick_body_symbols.specs.Methods.{int_body, int_inside, int_inside_body, int_rest, void_body, void_inside_body, void_rest}
use Rattle.trick_body_symbols.specs.Statements.{statement, statements_of}
use Rattle.trick_body_symbols.specs.Symbols.{Token, number_of}
use Rattle.trick_body_symbols.specs.declared.symbol.Symbol.TheVariants as the
use Rattle.trick_grammar.proofs.Tests.{subset_one_of}
use Rattle.trick_grammar.specs.Classes.{is_one_of}
use Rattle.trick_grammar.specs.Gives.{class_of}
use Rattle.trick_grammar.specs.Grammar.{optional}
use Rattle.trick_grammar.specs.Separated.{behind_item, behind_separator, separated_body}
use Rattle.trick_grammar.specs.StartsWith.{Each}
use Rattle.trick_lang.specs.SyntaxTree as tree
use Rattle.trick_lang.specs.SyntaxTree.{Declarator, Definition, EnumItem, JobLine, Members, Part, SDefine, Statement, Statements, TypeName}
use Rattle.trick_lang.specs.declared.scalar.Scalar.TheVariants as scalar
use Rattle.trick_sdef_classes.specs.Files as files
use Rattle.trick_sdef_classes.specs.Files.{AfterInt, AfterName, after_int_body, after_name_body, class_body, class_head_body, constructor_body, constructs, definition_body, does, file_body, has_members, include_body, int_part_body, int_part_of, is_member, named_part_of, object_body, part_body}
use Rattle.trick_sdef_jobs.specs.Jobs.{called_body, job, job_body}
use Rattle.trick_sdef_classes.specs.Members.{declarator, declarator_body, declarator_of, declarators, declarators_body, enum, enum_body, free_name, free_name_body, free_names, item, item_body, item_value, items, lengths, member, member_body, more_declarators, more_declarators_body, next_declarator, struct, struct_body}
use Rattle.trick_body_symbols.proofs.Tokens.{IsSeen}
use Rattle.trick_body_symbols.proofs.Yields.{OnSome, Yields}
use Rattle.trick_lang.specs.PartTests.{PartTests, declarator_passes, definition_passes, file_passes, item_passes, items_pass, job_passes, members_pass, part_passes, type_passes}

-- the value is one of a text of the grammar, whose tokens are those of the text
abbrev pub Gives : {A : Type 0} → List ℕ → Of A → A → Type 0
Gives text g x = Yields number_of class_of (IsSeen text) g x

-- the statements in the braces of a method
abbrev pub IsBody : List ℕ → ℕ → ℕ → Statements → Type 0
IsBody text limit n body = (ss : List Statement)
    × (Each (Gives text (statement text limit n)) ss × (length ss ≤ limit)) × (statements_of ss ≡ body)

-- the tests hold of names, lists, numbers and jobs of the text
pub record AreRight (text : List ℕ) (limit levels : ℕ) (l : PartTests) : Type 0 where
  pub name : (t : Token) → is_one_of number_of t.class names ≡ true → IsSeen text t → l.name (name_of text t) ≡ true
  pub given : (t : Token) → is_one_of number_of t.class free_names ≡ true → IsSeen text t
      → l.given (name_of text t) ≡ true
  pub list : (n : ℕ) → n ≤ limit → l.list n ≡ true
  pub items : (is : List EnumItem) → 1 ≤ length is → l.items is ≡ true
  pub item : (i : EnumItem) → OnSome (Gives text item_value) i.value → l.item i ≡ true
  pub members : (m : Members) → 1 ≤ length m.declarators → l.members m ≡ true
  pub lengths : (ls : List ℕ) → Gives text lengths ls → l.lengths ls ≡ true
  pub job : (j : JobLine) → Gives text (job text) j → l.job j ≡ true
  pub body : (body : Statements) → IsBody text limit levels body → l.body body ≡ true

all_each : {A : Type 0} (P : A → Type 0) (p : A → Bool) → ((x : A) → P x → p x ≡ true) → (xs : List A) → Each P xs
    → list_all p xs ≡ true
all_each P p holds [] each = refl
all_each P p holds (x ∷ xs) each = and_from (p x) _ (holds x each.0) (all_each P p holds xs each.1)

pub some_of : {A : Type 0} (text : List ℕ) (g : Of A) (o : Option A) → Gives text (optional g) o → OnSome (Gives text g) o
unfolding Yields
some_of text g o (inl (y, p, is)) = subst (OnSome (Gives text g)) is p
some_of text g o (inr is) = subst (OnSome (Gives text g)) (sym is) tt

-- a name that is not `trick`
pub free_is : (text : List ℕ) (t : Token) → Gives text free_name t
    → (is_one_of number_of t.class free_names ≡ true) × IsSeen text t
unfolding Yields free_name_body
free_is text t (inl p) = absurd p
free_is text t (inr p) = p

module _ (text : List ℕ) (limit levels : ℕ) (room : 1 ≤ limit) (l : PartTests) (r : AreRight text limit levels l) where
  free_right : (t : Token) → Gives text free_name t → (l.name (name_of text t) ≡ true) × (l.given (name_of text t) ≡ true)
  free_right t p =
      let is = free_is text t p in
      (r.name t (subset_one_of number_of free_names names t.class refl is.0) is.1, r.given t is.0 is.1)

  -- ---- enums

  item_right : (i : EnumItem) → Gives text (item text) i → item_passes l i ≡ true
  unfolding Yields item_body
  item_right i (v, (name, value), is) =
      subst (λ j. item_passes l j ≡ true) is (and_from (l.name (name_of text v.0)) _ (r.name v.0 name.0 name.1)
      (r.item _ (some_of text item_value v.1 value)))

  abbrev Items : ℕ → List EnumItem → Type 0
  Items n xs = Each (Gives text (item text)) xs × (length xs ≤ n)

  abbrev Behind : ℕ → Of (List EnumItem)
  Behind n = behind_item the.Comma names (the.Assign ∷ []) (item_body text) n

  behind_right : (n : ℕ) (xs : List EnumItem) → Gives text (Behind n) xs → Items n xs
  unfolding Yields behind_item
  behind_right zero xs (v, p, is) = subst (Items zero) is (tt, omega arith)
  behind_right (suc n) xs (v, inr none, is) =
      subst (Items (suc n)) is (subst (λ o. Items (suc n) (behind_separator o)) (sym none) (tt, omega arith))
  behind_right (suc n) xs (v, inl (w, (comma, inr none), made), is) =
      subst (Items (suc n)) is (subst (λ o. Items (suc n) (behind_separator o)) made
      (subst (λ o. Items (suc n) (behind_separator (Some (w.0, o)))) (sym none) (tt, omega arith)))
  behind_right (suc n) xs (v, inl (w, (comma, inl (y, (one, more), again)), made), is) =
      let rest = behind_right n y.1 more in
      let few = rest.1 in
      subst (Items (suc n)) is (subst (λ o. Items (suc n) (behind_separator o)) made
      (subst (λ o. Items (suc n) (behind_separator (Some (w.0, o)))) again ((one, rest.0), omega (arith, few))))

  items_right : (xs : List EnumItem) → Gives text (items text limit) xs → items_pass l xs ≡ true
  unfolding Yields separated_body
  items_right xs (v, (one, more), is) =
      let rest = behind_right (limit - 1) v.1 more in
      let few = rest.1 in
      subst (λ ys. items_pass l ys ≡ true) is
      (and_from (l.list (length (v.0 ∷ v.1))) _ (r.list _ (omega (arith, few, room)))
      (and_from (l.items (v.0 ∷ v.1)) _ (r.items _ (omega arith))
      (all_each (Gives text (item text)) (item_passes l) item_right (v.0 ∷ v.1) (one, rest.0))))

  enum_right : (d : Definition) → Gives text (enum text limit) d → definition_passes l d ≡ true
  unfolding Yields enum_body
  enum_right d (v, (word, (name, (bracket, (its, (close, end))))), is) =
      let free = free_right v.1.0 name in
      subst (λ e. definition_passes l e ≡ true) is
      (and_from (l.name (name_of text v.1.0)) _ free.0
      (and_from (l.given (name_of text v.1.0)) _ free.1 (items_right v.1.1.1.0 its)))

  -- ---- members

  declarator_right : (d : Declarator) → Gives text (declarator text) d → declarator_passes l d ≡ true
  unfolding Yields declarator_body
  declarator_right d (v, (inl never, ls), is) = absurd never
  declarator_right d (v, (inr name, ls), is) =
      let free = free_right v.0 name in
      subst (λ e. declarator_passes l e ≡ true) is
      (and_from (l.name (name_of text v.0)) _ free.0
      (and_from (l.given (name_of text v.0)) _ free.1 (r.lengths v.1 ls)))

  next_right : (d : Declarator) → Gives text (next_declarator text) d → declarator_passes l d ≡ true
  unfolding Yields
  next_right d (v, (comma, p), is) = subst (λ e. declarator_passes l e ≡ true) is (declarator_right v.1 p)

  -- some declarators, and not too many
  pub record Declared (ds : List Declarator) : Type 0 where
    pub pass : list_all (declarator_passes l) ds ≡ true
    pub some : 1 ≤ length ds
    pub few : length ds ≤ limit

  more_right : (ds : List Declarator) → Gives text (more_declarators text limit) ds
      → (list_all (declarator_passes l) ds ≡ true) × (length ds ≤ limit - 1)
  unfolding Yields more_declarators_body
  more_right ds (v, (all, end), is) =
      subst (λ es. (list_all (declarator_passes l) es ≡ true) × (length es ≤ limit - 1)) is
      (all_each (Gives text (next_declarator text)) (declarator_passes l) next_right v.0 all.0, all.1)

  with_first : (d : Declarator) (ds : List Declarator) → declarator_passes l d ≡ true
      → (list_all (declarator_passes l) ds ≡ true) × (length ds ≤ limit - 1) → Declared (d ∷ ds)
  with_first d ds first rest =
      let few = rest.1 in
      record {
        pass = and_from (declarator_passes l d) _ first rest.0;
        some = omega arith;
        few = omega (arith, few, room);
      }

  declarators_right : (ds : List Declarator) → Gives text (declarators text limit) ds → Declared ds
  unfolding Yields declarators_body
  declarators_right ds (v, (first, rest), is) =
      subst Declared is (with_first v.0 v.1 (declarator_right v.0 first) (more_right v.1 rest))

  members_right : (written : TypeName) (ds : List Declarator) → type_passes l written ≡ true → Declared ds
      → members_pass l (record { written = written; declarators = ds }) ≡ true
  members_right written ds typed all =
      and_from (type_passes l written) _ typed
      (and_from (l.members (record { written = written; declarators = ds })) _ (r.members _ all.some)
      (and_from (l.list (length ds)) _ (r.list _ all.few) all.pass))

  member_right : (m : Members) → Gives text (member text limit) m → members_pass l m ≡ true
  unfolding Yields member_body
  member_right m (inl (v, (basic, ds), is)) =
      subst (λ k. members_pass l k ≡ true) is
      (members_right (tree.Basic v.0.1) v.1 refl (declarators_right v.1 ds))
  member_right m (inr (v, (name, ds), is)) =
      subst (λ k. members_pass l k ≡ true) is
      (members_right (tree.Custom v.0.line (name_of text v.0)) v.1 (r.name v.0 name.0 name.1) (declarators_right v.1 ds))

  struct_right : (d : Definition) → Gives text (struct text limit) d → definition_passes l d ≡ true
  unfolding Yields struct_body
  struct_right d (v, (word, (name, (bracket, (all, (close, end))))), is) =
      let free = free_right v.1.0 name in
      subst (λ e. definition_passes l e ≡ true) is
      (and_from (l.name (name_of text v.1.0)) _ free.0
      (and_from (l.given (name_of text v.1.0)) _ free.1
      (and_from (l.list (length v.1.1.1.0)) _ (r.list _ all.1)
      (all_each (Gives text (member text limit)) (members_pass l) member_right v.1.1.1.0 all.0))))

  -- ---- constructors

  called_right : (t : Token) → Gives text called_body t → l.name (name_of text t) ≡ true
  unfolding Yields called_body
  called_right t (v, (name, rest), is) = subst (λ u. l.name (name_of text u) ≡ true) is (r.name v.0 name.0 name.1)

  job_name_right : (j : JobLine) → Gives text (job text) j → l.name j.method ≡ true
  unfolding Yields job_body
  job_name_right j (v, (thread, (phase, (bracket, (times, (close, called))))), is) =
      subst (λ k. l.name k.method ≡ true) is (called_right v.1.1.1.1.1 called)

  job_right : (j : JobLine) → Gives text (job text) j → job_passes l j ≡ true
  job_right j p = and_from (l.name j.method) _ (job_name_right j p) (r.job j p)

  constructor_right : (line : ℕ) (t : Token) (jobs : List JobLine) → l.name (name_of text t) ≡ true
      → Gives text (files.constructor_rest text limit) jobs
      → part_passes l (tree.Constructor line (name_of text t) jobs) ≡ true
  unfolding Yields constructor_body
  constructor_right line t jobs name (v, (bracket, (close, (brace, (all, end)))), is) =
      subst (λ js. part_passes l (tree.Constructor line (name_of text t) js) ≡ true) is
      (and_from (l.name (name_of text t)) _ name
      (and_from (l.list (length v.1.1.1.0)) _ (r.list _ all.1)
      (all_each (Gives text (job text)) (job_passes l) job_right v.1.1.1.0 all.0)))

  -- ---- methods

  abbrev method : Token → Statements → Part
  method t body = tree.HasMethod (record { name = name_of text t; body = body })

  method_right : (t : Token) (body : Statements) → l.name (name_of text t) ≡ true → IsBody text limit levels body
      → part_passes l (method t body) ≡ true
  method_right t body name is = and_from (l.name (name_of text t)) _ name (r.body body is)

  void_is_body : (body : Statements) → Gives text (void_rest text limit levels) body → IsBody text limit levels body
  unfolding Yields void_body void_inside_body
  void_is_body body (v, (bracket, (w, (close, (brace, (all, end))), made)), is) = (w.1.1.0, all, made ∙ is)

  inside_is_body : (body : Statements) → Gives text (int_inside text limit levels) body → IsBody text limit levels body
  unfolding Yields int_inside_body
  inside_is_body body (w, (close, (brace, (all, (zero_line, end)))), made) = (w.1.1.0, all, made)

  int_is_body : (body : Statements) → Gives text (int_rest text limit levels) body → IsBody text limit levels body
  unfolding Yields int_body
  int_is_body body (v, (bracket, inside), is) = subst (IsBody text limit levels) is (inside_is_body v.1 inside)

  -- ---- classes

  member_part_right : (t : Token) (ls : List ℕ) (ds : List Declarator)
      → (l.name (name_of text t) ≡ true) × (l.given (name_of text t) ≡ true) → Gives text lengths ls
      → Gives text (more_declarators text limit) ds → part_passes l (int_part_of text limit t (is_member ls ds)) ≡ true
  member_part_right t ls ds free some_lengths more =
      members_right (tree.Basic scalar.Int) (declarator_of text t ls ∷ ds) refl
      (with_first (declarator_of text t ls) ds
      (and_from (l.name (name_of text t)) _ free.0 (and_from (l.given (name_of text t)) _ free.1 (r.lengths ls some_lengths)))
      (more_right ds more))

  after_int_right : (t : Token) (a : AfterInt) → is_one_of number_of t.class free_names ≡ true → IsSeen text t
      → Gives text (files.after_int text limit levels) a → part_passes l (int_part_of text limit t a) ≡ true
  unfolding Yields after_int_body
  after_int_right t a free seen (inl (body, p, is)) =
      subst (λ b. part_passes l (int_part_of text limit t b) ≡ true) is
      (method_right t body (r.name t (subset_one_of number_of free_names names t.class refl free) seen) (int_is_body body p))
  after_int_right t a free seen (inr (v, (some_lengths, more), is)) =
      subst (λ b. part_passes l (int_part_of text limit t b) ≡ true) is
      (member_part_right t v.0 v.1
      (r.name t (subset_one_of number_of free_names names t.class refl free) seen, r.given t free seen)
      some_lengths more)

  int_part_right : (p : Part) → Gives text (files.int_part text limit levels) p → part_passes l p ≡ true
  unfolding Yields int_part_body
  int_part_right p (inl never) = absurd never
  int_part_right p (inr (inl (v, (name, (bracket, inside)), is))) =
      subst (λ q. part_passes l q ≡ true) is
      (method_right v.0 v.1.1 (r.name v.0 (subset_one_of number_of (the.LowerTrick ∷ []) names v.0.class refl name.0) name.1)
      (inside_is_body v.1.1 inside))
  int_part_right p (inr (inr (v, (name, after), is))) =
      subst (λ q. part_passes l q ≡ true) is (after_int_right v.0 v.1 name.0 name.1 after)

  after_name_right : (t : Token) (a : AfterName) → l.name (name_of text t) ≡ true
      → Gives text (files.after_name text limit) a → part_passes l (named_part_of text limit t a) ≡ true
  unfolding Yields after_name_body
  after_name_right t a name (inl (jobs, p, is)) =
      subst (λ b. part_passes l (named_part_of text limit t b) ≡ true) is (constructor_right t.line t jobs name p)
  after_name_right t a name (inr (ds, p, is)) =
      subst (λ b. part_passes l (named_part_of text limit t b) ≡ true) is
      (members_right (tree.Custom t.line (name_of text t)) ds name (declarators_right ds p))

  part_right : (p : Part) → Gives text (files.part text limit levels) p → part_passes l p ≡ true
  unfolding Yields part_body
  part_right p (inl (v, word, is)) = subst (λ q. part_passes l q ≡ true) is refl
  part_right p (inr (inl (v, (word, (name, rest)), is))) =
      subst (λ q. part_passes l q ≡ true) is
      (method_right v.1.0 v.1.1 (r.name v.1.0 name.0 name.1) (void_is_body v.1.1 rest))
  part_right p (inr (inr (inl (v, (word, rest), is)))) =
      subst (λ q. part_passes l q ≡ true) is (int_part_right v.1 rest)
  part_right p (inr (inr (inr (inl (v, (basic, ds), is))))) =
      subst (λ q. part_passes l q ≡ true) is (members_right (tree.Basic v.0) v.1 refl (declarators_right v.1 ds))
  part_right p (inr (inr (inr (inr (v, (name, after), is))))) =
      subst (λ q. part_passes l q ≡ true) is (after_name_right v.0 v.1 (r.name v.0 name.0 name.1) after)

  class_name_right : (t : Token) → Gives text class_head_body t
      → (l.name (name_of text t) ≡ true) × (l.given (name_of text t) ≡ true)
  unfolding Yields class_head_body
  class_name_right t (v, (word, (name, rest)), is) =
      subst (λ u. (l.name (name_of text u) ≡ true) × (l.given (name_of text u) ≡ true)) is (free_right v.1.0 name)

  class_right : (d : Definition) → Gives text (files.class text limit levels) d → definition_passes l d ≡ true
  unfolding Yields class_body
  class_right d (v, (head, (all, (close, end))), is) =
      let free = class_name_right v.0 head in
      subst (λ e. definition_passes l e ≡ true) is
      (and_from (l.name (name_of text v.0)) _ free.0
      (and_from (l.given (name_of text v.0)) _ free.1
      (and_from (l.list (length v.1.0)) _ (r.list _ all.1)
      (all_each (Gives text (files.part text limit levels)) (part_passes l) part_right v.1.0 all.0))))

  -- ---- files

  include_right : (d : Definition) → Gives text files.include d → definition_passes l d ≡ true
  unfolding Yields include_body
  include_right d (v, p, is) = subst (λ e. definition_passes l e ≡ true) is refl

  object_right : (d : Definition) → Gives text (files.object text limit) d → definition_passes l d ≡ true
  unfolding Yields object_body
  object_right d (v, (class, (name, end)), is) =
      let free = free_right v.1.0 name in
      subst (λ e. definition_passes l e ≡ true) is
      (and_from (l.name (name_of text v.0)) _ (r.name v.0 class.0 class.1)
      (and_from (l.name (name_of text v.1.0)) _ free.0 free.1))

  definition_right : (d : Definition) → Gives text (files.definition text limit levels) d → definition_passes l d ≡ true
  unfolding Yields definition_body
  definition_right d (inl p) = include_right d p
  definition_right d (inr (inl p)) = enum_right d p
  definition_right d (inr (inr (inl p))) = struct_right d p
  definition_right d (inr (inr (inr (inl p)))) = class_right d p
  definition_right d (inr (inr (inr (inr p)))) = object_right d p

  pub file_right : (ds : SDefine) → Gives text (files.file text limit levels) ds → file_passes l ds ≡ true
  unfolding Yields file_body
  file_right ds all =
      and_from (l.list (length ds)) _ (r.list _ all.1)
      (all_each (Gives text (files.definition text limit levels)) (definition_passes l) definition_right ds all.0)
