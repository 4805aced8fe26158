-- What is kept of blocks while the methods of a class are made.
use Rattle.std.proofs.Common.{◌≡◌, ℕ, ◌+◌, ◌≤◌, ◌<◌, ◌++◌, IsTrue, List, [], ◌∷◌, length, slice_get, Option, Some, None, is_some, Bool, true, false, if◌then◌else◌, refl, ap, sym, ◌∙◌, subst, arith}
use Rattle.std.proofs.Math.ListN.{length-append}
use Rattle.std.proofs.lemmas.List.{append-nil}
use Rattle.std.specs.Str.{bytes_eq}
use Rattle.trick_base.proofs.Numbers.{equal_to_itself}
use Rattle.trick_check_blocks.proofs.Keeping.{class_blocks, class_made, class_stays, deep_blocks, deepen_with, lie_blocks, lie_with, own_blocks, own_made, spans_are, with_behind}
use Rattle.trick_check_blocks.proofs.Knowing.{Ground, method_knows}
use Rattle.trick_check_blocks.proofs.Passing.{PassAny, all_inner_pass, codes_pass, each_both, each_more, each_passes}
use Rattle.trick_check_blocks.proofs.Reaching.{cells_pass, span_passes}
use Rattle.trick_check_blocks.proofs.Rows.{codes_are, codes_with, laid_part}
use Rattle.trick_check_blocks.proofs.Running.{AreMade, Runs, method_count, method_ordered, method_runs, order_both}
use Rattle.trick_check_blocks.proofs.Sitting.{Sits, each_front, slots_grow, slots_under}
use Rattle.trick_check_blocks.specs.Bodies.{Body, with_bodies}
use Rattle.trick_check_blocks.specs.Codes.{all_codes, all_count, all_inner}
use Rattle.trick_check_blocks.specs.Held.{bodies_of}
use Rattle.trick_check_blocks.specs.Kept.{BlocksHold, Grows, Keeps, MethodHolds, MethodKept, class_in, codes_in}
use Rattle.trick_check_blocks.specs.Methods.{Progress, block_slots, body_blocks, progress, with_method, with_part, with_parts}
use Rattle.trick_check_blocks.specs.Room.{IsLaid}
use Rattle.trick_check_blocks.specs.declared.scope.ClassScope.{ClassScope}
use Rattle.trick_lang.specs.Locals.{Known, all_know, block_knows}
use Rattle.trick_lang.specs.Passes.{Leaves}
use Rattle.trick_lang.specs.SyntaxTree as tree
use Rattle.trick_lang.specs.SyntaxTree.{Name, Statements}
use Rattle.trick_lang.specs.Tree.{Code}
use Rattle.trick_lang.specs.TreeOf.{codes_of}
use Rattle.trick_lang.specs.Valid.{are_in_order, cells_test, is_of, span_test, stay_in_span}
use Rattle.trick_lang.specs.declared.tree.Block.{Block}
use Rattle.trick_check_names.specs.Laid.{size_at}
use Rattle.trick_check_names.specs.Names.{Names, meaning_of, with_name}

codes_count : (bodies : List Body) → length (codes_in bodies) ≡ length bodies
codes_count [] = refl
codes_count (b ∷ bs) = omega (arith, codes_count bs)

-- ---- a method that is made stays as it is

made_knows : (more : ℕ) (codes made all : List (List Code)) (block : ℕ) (known : List Known) → all ≡ codes ++ made → block < length codes → IsTrue (block_knows more codes block known) → IsTrue (block_knows more all block known)
made_knows more codes made all block known is less h =
    subst (λ (q : List (List Code)). IsTrue (block_knows more q block known)) (sym is)
    (subst (λ (q : List Known → Bool). IsTrue (q known)) (sym (each_front (all_know more) (λ known. true) codes made block less)) h)

pub grow_kept : (class slots behind own : ℕ) (made : List (List Code)) (bodies : List Body) (block : ℕ) → slots ≤ behind → MethodKept class slots bodies block → MethodKept class behind (with_bodies own made bodies) block
grow_kept class slots behind own made bodies block low k = record {
  there =
      let more = with_behind own made bodies in
      let there = k.there in
      subst (λ (q : List Body). block < length q) (sym more.1) (omega (arith, there, length-append bodies more.0));
  class_is = class_stays own made bodies block class k.class_is;
  knows = λ more known most above.
      let there = k.there in
      made_knows more (codes_in bodies) made (codes_in (with_bodies own made bodies)) block known (codes_with own made bodies) (omega (arith, there, codes_count bodies))
      (k.knows more known (omega (arith, low, most)) (λ slot less. above slot (omega (arith, less, low))));
}

pub grows_method : (m : tree.Method) (p : Progress) → Grows p (with_method m p)
grows_method m p class block k =
    let made = body_blocks m.body p.scope (length p.bodies) in
    grow_kept class p.scope.slots (block_slots made p.scope.slots) p.scope.class made p.bodies block (slots_grow made p.scope.slots) k

grows_part : (o : Option tree.Part) (p : Progress) → Grows p (with_part o p)
grows_part None p class block k = k
grows_part (Some tree.Public) p class block k = k
grows_part (Some (tree.HasMembers m)) p class block k = k
grows_part (Some (tree.HasMethod m)) p class block k = grows_method m p class block k
grows_part (Some (tree.Constructor line name jobs)) p class block k = k

pub grows_parts : (order : List ℕ) (parts : List tree.Part) (p : Progress) → Grows p (with_parts order parts p)
grows_parts [] parts p class block k = k
grows_parts (i ∷ is) parts p class block k = grows_parts is parts (with_part (slice_get parts i) p) class block (grows_part (slice_get parts i) p class block k)

-- ---- a name after a method

some_case : {T : Type 0} (l l' : T) (b : Bool) (P : Type 0) → (if b then Some l else None) ≡ Some l' → (l ≡ l' → P) → P
some_case l l' true P h f = f (cc h)
some_case l l' false P h f = absurd (cc h)

grown_case : (q name : Name) (l l' : ℕ) (names : Names ℕ) (P : Type 0) → meaning_of q (names ++ (name, l) ∷ []) ≡ Some l' → (meaning_of q names ≡ Some l' → P) → (l ≡ l' → P) → P
grown_case q name l l' [] P h f g = some_case l l' (bytes_eq q name) P h g
grown_case q name l l' (k ∷ ks) P h f g = by_test (bytes_eq q k.0) h f (λ h f. grown_case q name l l' ks P h f g)
  where
    by_test : (b : Bool) → (if b then Some k.1 else meaning_of q (ks ++ (name, l) ∷ [])) ≡ Some l' → ((if b then Some k.1 else meaning_of q ks) ≡ Some l' → P) → (meaning_of q (ks ++ (name, l) ∷ []) ≡ Some l' → (meaning_of q ks ≡ Some l' → P) → P) → P
    by_test true h f later = f h
    by_test false h f later = later h f

name_case : (q name : Name) (l l' : ℕ) (names : Names ℕ) (P : Type 0) → meaning_of q (with_name name l names) ≡ Some l' → (meaning_of q names ≡ Some l' → P) → (l ≡ l' → P) → P
name_case q name l l' names P h f g = by_known (is_some (meaning_of name names)) h
  where
    by_known : (b : Bool) → meaning_of q (if b then names else names ++ (name, l) ∷ []) ≡ Some l' → P
    by_known true h = f h
    by_known false h = grown_case q name l l' names P h f g

-- ---- one more method

method_pass : (all : Statements) (w : ClassScope) (n : ℕ) (p : Leaves) → PassAny p w → IsTrue (each_passes p (body_blocks all w n))
method_pass all w n p h = each_more p (all_inner all w [] n) (all_codes all w [] n) (all_inner_pass all p w [] n h) (codes_pass all p w [] n h)

module _ (m : tree.Method) (p : Progress) (laid : IsLaid p.scope) (k : Keeps p) where
  abbrev made : List (List Code)
  made = body_blocks m.body p.scope (length p.bodies)

  abbrev grown : List Body
  grown = with_bodies p.scope.class made p.bodies

  are_made : AreMade (length p.bodies) p.scope
  are_made name block is = (k.methods name block is).there

  codes : codes_in grown ≡ codes_in p.bodies ++ made
  codes = codes_with p.scope.class made p.bodies

  made_count : length made ≡ all_count m.body + 1
  made_count = method_count m.body p.scope (length p.bodies)

  ordered : IsTrue (are_in_order 0 (codes_in grown))
  ordered =
      subst (λ q. IsTrue (are_in_order 0 q)) (sym codes)
      (order_both (codes_in p.bodies) made 0 (length p.bodies) (omega (arith, codes_count p.bodies)) k.in_order (method_ordered m.body p.scope (length p.bodies) are_made))

  spans : IsTrue (stay_in_span (codes_in grown))
  spans =
      let before : IsTrue (each_passes span_test (codes_in p.bodies)) = subst (λ q. IsTrue q) (spans_are (codes_in p.bodies)) k.in_span in
      let behind = method_pass m.body p.scope (length p.bodies) span_test (span_passes p.scope laid) in
      subst (λ q. IsTrue (stay_in_span q)) (sym codes)
      (subst (λ q. IsTrue q) (sym (spans_are (codes_in p.bodies ++ made))) (each_both span_test (codes_in p.bodies) made before behind))

  runs_own : Runs (λ j. is_of p.scope.class (class_in grown j)) (length p.bodies) (length p.bodies + (all_count m.body + 1)) p.scope
  runs_own = record {
    inside = λ j low high.
        subst (λ q. IsTrue (is_of p.scope.class q)) (sym (class_made p.scope.class made p.bodies j low (omega (arith, high, made_count)))) (equal_to_itself p.scope.class);
    methods = λ name block is.
        subst (λ q. IsTrue (is_of p.scope.class q)) (sym (class_stays p.scope.class made p.bodies block p.scope.class (k.methods name block is).class_is)) (equal_to_itself p.scope.class);
  }

  abbrev top : ℕ
  top = block_slots made p.scope.slots

  low : p.scope.slots ≤ top
  low = slots_grow made p.scope.slots

  ground : (more : ℕ) → top ≤ more → Ground p.scope top more (codes_in grown)
  ground more most = record {
    order = ordered;
    enough = most;
    methods = λ name block is known above.
        let kept = k.methods name block is in
        let there = kept.there in
        made_knows more (codes_in p.bodies) made (codes_in grown) block known codes (omega (arith, there, codes_count p.bodies))
        (kept.knows more known (omega (arith, low, most)) above);
  }

  sits : Sits (codes_in grown) (length p.bodies) made
  sits = record {
    front = codes_in p.bodies;
    back = [];
    is = codes ∙ ap (λ q. codes_in p.bodies ++ q) (sym (append-nil made));
    at = codes_count p.bodies;
  }

  new_kept : MethodKept p.scope.class top grown (length p.bodies + all_count m.body)
  new_kept = record {
    there = omega (arith, sym (codes_count grown), ap (λ q. length q) codes, length-append (codes_in p.bodies) made, codes_count p.bodies, made_count);
    class_is = class_made p.scope.class made p.bodies (length p.bodies + all_count m.body) (omega arith) (omega (arith, made_count));
    knows = λ more known most above.
        method_knows m.body p.scope (length p.bodies) top more (codes_in grown) known (ground more most) sits (slots_under made p.scope.slots top (omega arith)) low above;
  }

  pub keeps_method : Keeps (with_method m p)
  keeps_method = record {
    in_span = spans;
    in_cells = lie_with p.scope.layout.cells p.scope.layout.sizes p.scope.class made p.bodies k.in_cells (method_pass m.body p.scope (length p.bodies) (cells_test p.scope.layout.cells (size_at p.scope.layout.sizes p.scope.class)) (cells_pass p.scope laid));
    in_order = ordered;
    own_class = own_made p.scope.class made p.bodies k.own_class (method_runs m.body p.scope (length p.bodies) (λ j. is_of p.scope.class (class_in grown j)) runs_own);
    deep = deepen_with p.scope.class made p.bodies k.deep;
    methods = λ name block is.
        name_case name m.name (length p.bodies + all_count m.body) block p.scope.methods (MethodKept p.scope.class top grown block) is
        (λ old. grows_method m p p.scope.class block (k.methods name block old))
        (λ same. subst (MethodKept p.scope.class top grown) same new_kept);
  }

-- ---- the methods of a class

keeps_part : (o : Option tree.Part) (p : Progress) → IsLaid p.scope → Keeps p → Keeps (with_part o p)
keeps_part None p laid k = k
keeps_part (Some tree.Public) p laid k = k
keeps_part (Some (tree.HasMembers m)) p laid k = k
keeps_part (Some (tree.HasMethod m)) p laid k = keeps_method m p laid k
keeps_part (Some (tree.Constructor line name jobs)) p laid k = k

pub keeps_parts : (order : List ℕ) (parts : List tree.Part) (p : Progress) → IsLaid p.scope → Keeps p → Keeps (with_parts order parts p)
keeps_parts [] parts p laid k = k
keeps_parts (i ∷ is) parts p laid k = keeps_parts is parts (with_part (slice_get parts i) p) (laid_part (slice_get parts i) p laid) (keeps_part (slice_get parts i) p laid k)

-- before the first block
pub keeps_start : (w : ClassScope) → w.methods ≡ [] → Keeps (progress w [])
keeps_start w none = record {
  in_span = refl;
  in_cells = refl;
  in_order = refl;
  own_class = refl;
  deep = tt;
  methods = λ name block is. absurd (cc (sym (ap (meaning_of name) none) ∙ is));
}

-- before the first method of the next class
pub keeps_class : (w : ClassScope) (class : ℕ) (bodies : List Body) → Keeps (progress w bodies) → Keeps (progress (record w { class = class; methods = [] }) bodies)
keeps_class w class bodies k = record {
  in_span = k.in_span;
  in_cells = k.in_cells;
  in_order = k.in_order;
  own_class = k.own_class;
  deep = k.deep;
  methods = λ name block is. absurd (cc is);
}

-- ---- a program

pub holds : (w : ClassScope) (blocks : List Block) → Keeps (progress w (bodies_of blocks)) → BlocksHold w.layout.cells w.layout.sizes blocks
holds w blocks k =
    let order : IsTrue (are_in_order 0 (codes_of blocks)) = subst (λ q. IsTrue (are_in_order 0 q)) (codes_are blocks) k.in_order in
    record {
      in_span = subst (λ q. IsTrue (stay_in_span q)) (codes_are blocks) k.in_span;
      in_cells = subst (λ q. IsTrue q) (sym (lie_blocks w.layout.cells w.layout.sizes blocks)) k.in_cells;
      in_order = order;
      own_class = own_blocks blocks blocks k.own_class;
      deep_enough = deep_blocks blocks k.deep order;
    }

pub method_holds : (w : ClassScope) (blocks : List Block) (class block : ℕ) → MethodKept class w.slots (bodies_of blocks) block → MethodHolds w.slots blocks class block
method_holds w blocks class block k = record {
  stands = subst (λ q. IsTrue (is_of class q)) (sym (class_blocks blocks block ∙ k.class_is)) (equal_to_itself class);
  knows = subst (λ (q : List (List Code)). IsTrue (block_knows w.slots q block [])) (codes_are blocks) (k.knows w.slots [] (omega arith) (λ slot less. refl));
}
