-- What is kept of all methods of a program, class by class.
use Rattle.std.proofs.Common.{◌≡◌, ℕ, ◌++◌, ◌||◌, ◌==◌, IsTrue, List, [], ◌∷◌, slice_get, Option, Some, None, is_some, Bool, true, false, if◌then◌else◌, refl, ap, sym, ◌∙◌, subst}
use Rattle.std.proofs.lemmas.Bool.{and_from, eqb-true}
use Rattle.std.specs.Str.{bytes_eq}
use Rattle.trick_base.proofs.ListLemmas.{own_bytes}
use Rattle.trick_check_blocks.proofs.Made.{method_holds}
use Rattle.trick_check_blocks.specs.Held.{bodies_of}
use Rattle.trick_check_blocks.specs.Kept.{AreKept, Grows, MethodsHold, is_one_of}
use Rattle.trick_check_blocks.specs.Methods.{Progress, progress, with_part, with_parts}
use Rattle.trick_check_blocks.specs.declared.scope.ClassScope.{ClassScope}
use Rattle.trick_lang.specs.Locals.{block_knows, methods_know}
use Rattle.trick_lang.specs.SyntaxTree as tree
use Rattle.trick_lang.specs.SyntaxTree.{Name}
use Rattle.trick_lang.specs.TreeOf.{codes_of}
use Rattle.trick_lang.specs.Valid.{method_stands, methods_stand}
use Rattle.trick_lang.specs.declared.method.Method.{Method}
use Rattle.trick_lang.specs.declared.tree.Block.{Block}
use Rattle.trick_check_names.specs.Names.{Names, meaning_of, with_name}

pub kept_both : (p : Progress) (ms ns : List Method) → AreKept p ms → AreKept p ns → AreKept p (ms ++ ns)
kept_both p [] ns h k = k
kept_both p (m ∷ ms) ns h k = (h.0, kept_both p ms ns h.1 k)

pub kept_grows : (p q : Progress) (ms : List Method) → Grows p q → AreKept p ms → AreKept q ms
kept_grows p q [] grows h = tt
kept_grows p q (m ∷ ms) grows h = (grows m.class m.block h.0, kept_grows p q ms grows h.1)

stand : (w : ClassScope) (blocks : List Block) (ms : List Method) → AreKept (progress w (bodies_of blocks)) ms → IsTrue (methods_stand blocks ms)
stand w blocks [] h = refl
stand w blocks (m ∷ ms) h = and_from (method_stands blocks m) (methods_stand blocks ms) (method_holds w blocks m.class m.block h.0).stands (stand w blocks ms h.1)

know : (w : ClassScope) (blocks : List Block) (ms : List Method) → AreKept (progress w (bodies_of blocks)) ms → IsTrue (methods_know w.slots blocks ms)
know w blocks [] h = refl
know w blocks (m ∷ ms) h =
    and_from (block_knows w.slots (codes_of blocks) m.block []) (methods_know w.slots blocks ms) (method_holds w blocks m.class m.block h.0).knows (know w blocks ms h.1)

pub methods_hold : (w : ClassScope) (blocks : List Block) (ms : List Method) → AreKept (progress w (bodies_of blocks)) ms → MethodsHold w.slots blocks ms
methods_hold w blocks ms h = record { method_blocks = stand w blocks ms h; locals_known = know w blocks ms h }

-- ---- each method that is taken is known

added_some : (q name : Name) (x : ℕ) (names : Names ℕ) → IsTrue (is_some (meaning_of q names)) → IsTrue (is_some (meaning_of q (names ++ (name, x) ∷ [])))
added_some q name x [] h = absurd (cc h)
added_some q name x (e ∷ es) h = by_test (bytes_eq q e.0) (added_some q name x es) h where
  by_test : (b : Bool) → (IsTrue (is_some (meaning_of q es)) → IsTrue (is_some (meaning_of q (es ++ (name, x) ∷ [])))) → IsTrue (is_some (if b then Some e.1 else meaning_of q es)) → IsTrue (is_some (if b then Some e.1 else meaning_of q (es ++ (name, x) ∷ [])))
  by_test true rest h = refl
  by_test false rest h = rest h

added_here : (name : Name) (x : ℕ) (names : Names ℕ) → IsTrue (is_some (meaning_of name (names ++ (name, x) ∷ [])))
added_here name x [] = subst (λ b. IsTrue (is_some (if b then Some x else None))) (sym (own_bytes name)) refl
added_here name x (e ∷ es) = by_test (bytes_eq name e.0) (added_here name x es) where
  by_test : (b : Bool) → IsTrue (is_some (meaning_of name (es ++ (name, x) ∷ []))) → IsTrue (is_some (if b then Some e.1 else meaning_of name (es ++ (name, x) ∷ [])))
  by_test true rest = refl
  by_test false rest = rest

with_some : (q name : Name) (x : ℕ) (names : Names ℕ) → IsTrue (is_some (meaning_of q names)) → IsTrue (is_some (meaning_of q (with_name name x names)))
with_some q name x names h = by_test (is_some (meaning_of name names)) where
  by_test : (b : Bool) → IsTrue (is_some (meaning_of q (if b then names else names ++ (name, x) ∷ [])))
  by_test true = h
  by_test false = added_some q name x names h

with_here : (name : Name) (x : ℕ) (names : Names ℕ) → IsTrue (is_some (meaning_of name (with_name name x names)))
with_here name x names = by_test (is_some (meaning_of name names)) refl where
  by_test : (b : Bool) → is_some (meaning_of name names) ≡ b → IsTrue (is_some (meaning_of name (if b then names else names ++ (name, x) ∷ [])))
  by_test true h = h
  by_test false h = added_here name x names

part_some : (o : Option tree.Part) (q : Name) (p : Progress) → IsTrue (is_some (meaning_of q p.scope.methods)) → IsTrue (is_some (meaning_of q (with_part o p).scope.methods))
part_some None q p h = h
part_some (Some tree.Public) q p h = h
part_some (Some (tree.HasMembers m)) q p h = h
part_some (Some (tree.HasMethod m)) q p h = with_some q m.name _ p.scope.methods h
part_some (Some (tree.Constructor line name jobs)) q p h = h

parts_some : (order : List ℕ) (parts : List tree.Part) (q : Name) (p : Progress) → IsTrue (is_some (meaning_of q p.scope.methods)) → IsTrue (is_some (meaning_of q (with_parts order parts p).scope.methods))
parts_some [] parts q p h = h
parts_some (i ∷ is) parts q p h = parts_some is parts q (with_part (slice_get parts i) p) (part_some (slice_get parts i) q p h)

part_here : (o : Option tree.Part) (m : tree.Method) (p : Progress) → o ≡ Some (tree.HasMethod m) → IsTrue (is_some (meaning_of m.name (with_part o p).scope.methods))
part_here o m p is = subst (λ q. IsTrue (is_some (meaning_of m.name (with_part q p).scope.methods))) (sym is) (with_here m.name _ p.scope.methods)

-- after an order that has the number of its part, the name of a method stands for a block
pub named_block : (order : List ℕ) (parts : List tree.Part) (p : Progress) (k : ℕ) (m : tree.Method) → slice_get parts k ≡ Some (tree.HasMethod m) → IsTrue (is_one_of order k) → IsTrue (is_some (meaning_of m.name (with_parts order parts p).scope.methods))
named_block [] parts p k m is h = absurd (cc h)
named_block (i ∷ is) parts p k m there h = by_test (i == k) refl h (named_block is parts (with_part (slice_get parts i) p) k m there) where
  by_test : (b : Bool) → (i == k) ≡ b → IsTrue (b || is_one_of is k) → (IsTrue (is_one_of is k) → IsTrue (is_some (meaning_of m.name (with_parts is parts (with_part (slice_get parts i) p)).scope.methods))) → IsTrue (is_some (meaning_of m.name (with_parts is parts (with_part (slice_get parts i) p)).scope.methods))
  by_test false t h later = later h
  by_test true t h later = parts_some is parts m.name (with_part (slice_get parts i) p) (part_here (slice_get parts i) m p (ap (slice_get parts) (eqb-true i k t) ∙ there))
