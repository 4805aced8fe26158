-- Blocks and methods stay such as a program asks when a class is added.
use Rattle.std.proofs.Common.{◌≡◌, ℕ, zero, suc, ◌+◌, ◌<◌, ◌≤◌, ◌++◌, IsTrue, List, [], ◌∷◌, length, slice_get, Option, Some, None, is_some, unwrap_or, true, refl, ap, sym, ◌∙◌, subst, arith}
use Rattle.trick_check_blocks.proofs.Made.{grows_parts, keeps_class, keeps_parts}
use Rattle.trick_check_blocks.proofs.Rowed.{kept_both, kept_grows, named_block}
use Rattle.trick_check_blocks.specs.Kept.{AreKept, Grows, Keeps, MethodKept, is_one_of}
use Rattle.trick_check_blocks.specs.Methods.{Progress, progress, with_part, with_parts}
use Rattle.trick_check_blocks.specs.Room.{IsLaid}
use Rattle.trick_check_bodies.specs.Classes.{AreWhole, Made, class_progress, with_class}
use Rattle.trick_check_bodies.specs.Methods.{class_methods, part_methods}
use Rattle.trick_lang.specs.Syntax.{class_parts_of}
use Rattle.trick_lang.specs.SyntaxTree as tree
use Rattle.trick_lang.specs.declared.method.Method.{Method}
use Rattle.trick_lang.specs.declared.syntax.definition.ClassPart.{ClassPart}
use Rattle.trick_check_names.specs.Kept.{AreLaid}
use Rattle.trick_check_names.specs.Laid.{size_at}
use Rattle.trick_check_names.specs.Names.{Names, meaning_of}

-- the class of the scope stays
part_class : (o : Option tree.Part) (p : Progress) → (with_part o p).scope.class ≡ p.scope.class
part_class None p = refl
part_class (Some tree.Public) p = refl
part_class (Some (tree.HasMembers m)) p = refl
part_class (Some (tree.HasMethod m)) p = refl
part_class (Some (tree.Constructor line name jobs)) p = refl

parts_class : (order : List ℕ) (parts : List tree.Part) (p : Progress) → (with_parts order parts p).scope.class ≡ p.scope.class
parts_class [] parts p = refl
parts_class (i ∷ is) parts p = parts_class is parts (with_part (slice_get parts i) p) ∙ part_class (slice_get parts i) p

block_kept : (p : Progress) (class : ℕ) (name : List ℕ) (o : Option ℕ) → Keeps p → p.scope.class ≡ class → meaning_of name p.scope.methods ≡ o → IsTrue (is_some o) → MethodKept class p.scope.slots p.bodies (unwrap_or o 0)
block_kept p class name None k c is h = absurd (cc h)
block_kept p class name (Some block) k c is h = subst (λ q. MethodKept q p.scope.slots p.bodies block) c (k.methods name block is)

-- each method of the parts stands for a block
abbrev AreThere : Progress → List tree.Part → Type 0
AreThere p parts = (k : ℕ) (m : tree.Method) → slice_get parts k ≡ Some (tree.HasMethod m) → IsTrue (is_some (meaning_of m.name p.scope.methods))

part_kept : (p : Progress) (class : ℕ) (part : tree.Part) → Keeps p → p.scope.class ≡ class → ((m : tree.Method) → part ≡ tree.HasMethod m → IsTrue (is_some (meaning_of m.name p.scope.methods))) → AreKept p (part_methods class p.scope.methods part)
part_kept p class tree.Public k c h = tt
part_kept p class (tree.HasMembers m) k c h = tt
part_kept p class (tree.HasMethod m) k c h = (block_kept p class m.name (meaning_of m.name p.scope.methods) k c refl (h m refl), tt)
part_kept p class (tree.Constructor line name jobs) k c h = tt

rows_kept : (p : Progress) (class : ℕ) (parts : List tree.Part) → Keeps p → p.scope.class ≡ class → AreThere p parts → AreKept p (class_methods class p.scope.methods parts)
rows_kept p class [] k c there = tt
rows_kept p class (part ∷ rest) k c there =
    kept_both p (part_methods class p.scope.methods part) (class_methods class p.scope.methods rest)
    (part_kept p class part k c (λ m is. there 0 m (ap (λ q. Some q) is)))
    (rows_kept p class rest k c (λ i m is. there (suc i) m is))

there_below : (parts : List tree.Part) (k : ℕ) (m : tree.Method) → slice_get parts k ≡ Some (tree.HasMethod m) → k < length parts
there_below [] k m is = absurd (cc is)
there_below (p ∷ ps) zero m is = omega arith
there_below (p ∷ ps) (suc k) m is = let less = there_below ps k m is in omega (arith, less)

next_grows : (class : ℕ) (p : Progress) → Grows p (progress (record p.scope { class = class; methods = [] }) p.bodies)
next_grows class p own block k = k

pub parts_many : (parts : List ClassPart) → length (class_parts_of parts) ≡ length parts
parts_many [] = refl
parts_many (p ∷ ps) = ap suc (parts_many ps)

abbrev pub made_of : Progress → List Method → List (Names ℕ) → Made
made_of p methods numbers = record { progress = p; methods = methods; numbers = numbers }

pub class_whole : (class : ℕ) (order : List ℕ) (parts : List tree.Part) (m : Made) → AreLaid m.progress.scope.layout → size_at m.progress.scope.layout.sizes class ≤ 65536 → ((k : ℕ) → k < length parts → IsTrue (is_one_of order k)) → AreWhole m → AreWhole (with_class class order parts m)
class_whole class order parts m laid home taken whole =
    let begun = progress (record m.progress.scope { class = class; methods = [] }) m.progress.bodies in
    let after = with_parts order parts begun in
    let is_laid : IsLaid begun.scope = record { tables = laid; home = home } in
    let keeps : Keeps after = keeps_parts order parts begun is_laid (keeps_class m.progress.scope class m.progress.bodies whole.keeps) in
    let old : AreKept after m.methods = kept_grows begun after m.methods (grows_parts order parts begun) (kept_grows m.progress begun m.methods (next_grows class m.progress) whole.kept) in
    let new : AreKept after (class_methods class after.scope.methods parts) = rows_kept after class parts keeps (parts_class order parts begun) (λ k q is. named_block order parts begun k q is (taken k (there_below parts k q is))) in
    record { keeps = keeps; kept = kept_both after m.methods (class_methods class after.scope.methods parts) old new }
