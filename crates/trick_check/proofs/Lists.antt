-- Parts of classes and tables of definitions, by their numbers.
use Rattle.std.proofs.Common.{◌≡◌, ℕ, zero, suc, ◌<◌, ◌≤◌, List, [], ◌∷◌, length, get_or, slice_get, Some, None, Result, Ok, Err, IfOk, refl, ap, arith}
use Rattle.trick_check_blocks.specs.Kept.{is_one_of}
use Rattle.trick_check.specs.Parts.{parts_at, parts_in}
use Rattle.trick_lang.specs.Syntax.{class_part_of, class_parts_of, definition_of, definitions_of}
use Rattle.trick_lang.specs.declared.syntax.definition.ClassPart.{ClassPart}
use Rattle.trick_lang.specs.declared.syntax.definition.Definition.{Definition}
use Rattle.trick_check_names.specs.Names.{Names}
use Rattle.trick_check_names.specs.Places.{members_at}
use Rattle.trick_check_names.specs.declared.tables.Member.{Member}
use Rattle.trick_check_order.specs.Calls.{has}

pub parts_past : (ds : List Definition) (k : ℕ) → length ds ≤ k → [] ≡ parts_at (definitions_of ds) k
parts_past [] k h = refl
parts_past (d ∷ ds) zero h = absurd (omega (arith, h))
parts_past (d ∷ ds) (suc k) h = parts_past ds k (omega (arith, h))

pub parts_found : (ds : List Definition) (k : ℕ) (d : Definition) → k < length ds → d ≡ get_or ds k d → parts_in (definition_of d) ≡ parts_at (definitions_of ds) k
parts_found [] k d low is = absurd (omega (arith, low))
parts_found (e ∷ es) zero d low is = ap (λ x. parts_in (definition_of x)) is
parts_found (e ∷ es) (suc k) d low is = parts_found es k d (omega (arith, low)) is

pub members_found : (gs : List (Names Member)) (k : ℕ) (own : Names Member) → k < length gs → own ≡ get_or gs k own → own ≡ members_at gs k
members_found [] k own low is = absurd (omega (arith, low))
members_found (g ∷ gs) zero own low is = is
members_found (g ∷ gs) (suc k) own low is = members_found gs k own (omega (arith, low)) is

pub part_past : (ps : List ClassPart) (k : ℕ) → length ps ≤ k → slice_get (class_parts_of ps) k ≡ None
part_past [] k h = refl
part_past (p ∷ ps) zero h = absurd (omega (arith, h))
part_past (p ∷ ps) (suc k) h = part_past ps k (omega (arith, h))

pub part_found : (ps : List ClassPart) (k : ℕ) (p : ClassPart) → k < length ps → p ≡ get_or ps k p → Some (class_part_of p) ≡ slice_get (class_parts_of ps) k
part_found [] k p low is = absurd (omega (arith, low))
part_found (q ∷ qs) zero p low is = ap (λ x. Some (class_part_of x)) is
part_found (q ∷ qs) (suc k) p low is = part_found qs k p (omega (arith, low)) is

pub definitions_many : (ds : List Definition) → length (definitions_of ds) ≡ length ds
definitions_many [] = refl
definitions_many (d ∷ ds) = ap suc (definitions_many ds)

pub parts_many : (ps : List ClassPart) → length (class_parts_of ps) ≡ length ps
parts_many [] = refl
parts_many (p ∷ ps) = ap suc (parts_many ps)

pub has_is : (xs : List ℕ) (k : ℕ) → has xs k ≡ is_one_of xs k
has_is [] k = refl
has_is (x ∷ xs) k = rw (has_is xs k) refl

pub both_ok : {T E : Type 0} (P Q : T → Type 0) (r : Result T E) → IfOk r P → IfOk r Q → IfOk r (λ x. P x × Q x)
both_ok P Q (Ok x) p q = (p, q)
both_ok P Q (Err e) p q = tt
