-- Blocks with their classes and frames, one list after another.
use Rattle.std.proofs.Common.{◌≡◌, ℕ, zero, suc, ◌+◌, ◌-◌, ◌<◌, ◌≤◌, get_or, List, [], ◌∷◌, ◌++◌, length, take, drop, Option, Some, None, slice_get, refl, ap, sym, ◌∙◌, arith}
use Rattle.std.proofs.lemmas.List.{append-nil, append_assoc}
use Rattle.trick_check_blocks.specs.Bodies.{Body, with_body, with_bodies}
use Rattle.trick_check_blocks.specs.Held.{bodies_of}
use Rattle.trick_check_blocks.specs.Kept.{codes_in}
use Rattle.trick_check_blocks.specs.Methods.{Progress, with_part}
use Rattle.trick_check_blocks.specs.Room.{IsLaid}
use Rattle.trick_lang.specs.Syntax.{class_part_of, class_parts_of}
use Rattle.trick_lang.specs.SyntaxTree as tree
use Rattle.trick_lang.specs.Tree.{Code}
use Rattle.trick_lang.specs.TreeOf.{code_list, codes_of}
use Rattle.trick_lang.specs.declared.syntax.definition.ClassPart.{ClassPart}
use Rattle.trick_lang.specs.declared.tree.Block.{Block}

pub codes_are : (bs : List Block) → codes_in (bodies_of bs) ≡ codes_of bs
codes_are [] = refl
codes_are (b ∷ bs) = ap (λ q. code_list b.statements ∷ q) (codes_are bs)

pub bodies_many : (bs : List Block) → length (bodies_of bs) ≡ length bs
bodies_many [] = refl
bodies_many (b ∷ bs) = omega (arith, bodies_many bs)

pub codes_one : (bodies : List Body) (b : Body) → codes_in (bodies ++ b ∷ []) ≡ codes_in bodies ++ b.codes ∷ []
codes_one [] b = refl
codes_one (x ∷ bodies) b = ap (λ q. x.codes ∷ q) (codes_one bodies b)

-- what is made are those blocks
pub codes_with : (class : ℕ) (bs : List (List Code)) (bodies : List Body) → codes_in (with_bodies class bs bodies) ≡ codes_in bodies ++ bs
codes_with class [] bodies = sym (append-nil (codes_in bodies))
codes_with class (b ∷ bs) bodies = codes_with class bs (with_body class b bodies) ∙ (ap (λ q. q ++ bs) (codes_one bodies _) ∙ append_assoc (codes_in bodies) (b ∷ []) bs)

drop_front : {A : Type 0} (xs ys : List A) → drop (length xs) (xs ++ ys) ≡ ys
drop_front [] ys = refl
drop_front (x ∷ xs) ys = drop_front xs ys

pub codes_drop : (n : ℕ) (bs : List Block) → codes_of (drop n bs) ≡ drop n (codes_of bs)
codes_drop zero bs = refl
codes_drop (suc n) [] = refl
codes_drop (suc n) (b ∷ bs) = codes_drop n bs

pub codes_many : (bs : List Block) → length (codes_of bs) ≡ length bs
codes_many [] = refl
codes_many (b ∷ bs) = omega (arith, codes_many bs)

-- what stands after the old blocks is what was made
pub codes_new : (class : ℕ) (made : List (List Code)) (old new : List Block) → bodies_of new ≡ with_bodies class made (bodies_of old) → codes_of (drop (length old) new) ≡ made
codes_new class made old new is =
    let all : codes_of new ≡ codes_of old ++ made = sym (codes_are new) ∙ (ap codes_in is ∙ (codes_with class made (bodies_of old) ∙ ap (λ q. q ++ made) (codes_are old))) in
    codes_drop (length old) new ∙ (ap (drop (length old)) all ∙ (ap (λ n. drop n (codes_of old ++ made)) (sym (codes_many old)) ∙ drop_front (codes_of old) made))

take_none : {A : Type 0} (k : ℕ) → take k (let xs : List A = [] in xs) ≡ []
take_none zero = refl
take_none (suc k) = refl

take_all : {A : Type 0} (xs : List A) → take (length xs) xs ≡ xs
take_all [] = refl
take_all (x ∷ xs) = ap (λ ys. x ∷ ys) (take_all xs)

-- what is left has as many items as are left
pub take_rest : {A : Type 0} (n : ℕ) (xs : List A) → take (length xs - n) (drop n xs) ≡ drop n xs
take_rest zero xs = let same : length xs - 0 ≡ length xs = omega arith in ap (λ k. take k xs) same ∙ take_all xs
take_rest (suc n) [] = take_none (0 - suc n)
take_rest (suc n) (x ∷ xs) =
    let same : length (x ∷ xs) - suc n ≡ length xs - n = omega arith in
    ap (λ k. take k (drop n xs)) same ∙ take_rest n xs

-- ---- parts of a class

pub part_past : (parts : List ClassPart) (k : ℕ) → length parts ≤ k → slice_get (class_parts_of parts) k ≡ None
part_past [] k h = refl
part_past (p ∷ ps) zero h = absurd (omega arith)
part_past (p ∷ ps) (suc k) h = part_past ps k (omega arith)

pub part_in : (parts : List ClassPart) (k : ℕ) (d : ClassPart) → k < length parts → slice_get (class_parts_of parts) k ≡ Some (class_part_of (get_or parts k d))
part_in [] k d h = absurd (omega arith)
part_in (p ∷ ps) zero d h = refl
part_in (p ∷ ps) (suc k) d h = part_in ps k d (omega arith)

-- numbers from one on are that one and the rest
pub next_number : (xs : List ℕ) (i : ℕ) → i < length xs → drop i xs ≡ get_or xs i 0 ∷ drop (i + 1) xs
next_number xs i h = first xs i h ∙ ap (λ k. get_or xs i 0 ∷ drop k xs) (more i) where
  more : (i : ℕ) → suc i ≡ i + 1
  more i = omega arith

  first : (xs : List ℕ) (i : ℕ) → i < length xs → drop i xs ≡ get_or xs i 0 ∷ drop (suc i) xs
  first [] i h = absurd (omega arith)
  first (x ∷ xs) zero h = refl
  first (x ∷ xs) (suc i) h = first xs i (omega arith)

-- the tables stay as they are
pub laid_part : (o : Option tree.Part) (p : Progress) → IsLaid p.scope → IsLaid (with_part o p).scope
laid_part None p laid = laid
laid_part (Some tree.Public) p laid = laid
laid_part (Some (tree.HasMembers m)) p laid = laid
laid_part (Some (tree.HasMethod m)) p laid = record { tables = laid.tables; home = laid.home }
laid_part (Some (tree.Constructor line name jobs)) p laid = laid
