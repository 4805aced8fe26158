-- The blocks and slots of methods stay when more methods are made.
use Rattle.std.proofs.Common.{◌≡◌, ℕ, suc, ◌+◌, ◌≤◌, max, nat_lt, true, List, [], ◌∷◌, ◌++◌, length, Option, Some, slice_get, refl, ap, sym, ◌∙◌, subst, arith}
use Rattle.std.proofs.lemmas.Bool.{lt-ltb}
use Rattle.std.proofs.lemmas.List.{append-nil, append_assoc}
use Rattle.trick_check_blocks.specs.Bodies.{Body, with_bodies, with_body}
use Rattle.trick_check_blocks.specs.Kept.{codes_in}
use Rattle.trick_check_blocks.specs.Methods.{Progress, all_slots, block_slots, body_blocks, code_slots, with_part, with_parts}
use Rattle.trick_lang.specs.Blocks.{block_at}
use Rattle.trick_lang.specs.SyntaxTree as tree
use Rattle.trick_lang.specs.Tree.{Code, Empty, Declare, For}
use Rattle.trick_check_meaning_kept.specs.Alike.{AreBelow, BlocksAreBelow, HasBlocks, is_code_below}

-- ---- blocks

codes_last : (bodies : List Body) (b : Body) → codes_in (bodies ++ b ∷ []) ≡ codes_in bodies ++ b.codes ∷ []
codes_last [] b = refl
codes_last (z ∷ bodies) b = ap (λ q. z.codes ∷ q) (codes_last bodies b)

pub codes_with : (class : ℕ) (bs : List (List Code)) (bodies : List Body)
    → codes_in (with_bodies class bs bodies) ≡ codes_in bodies ++ bs
codes_with class [] bodies = sym (append-nil (codes_in bodies))
codes_with class (b ∷ bs) bodies =
    codes_with class bs (with_body class b bodies)
    ∙ (ap (λ q. q ++ bs) (codes_last bodies _) ∙ append_assoc (codes_in bodies) (b ∷ []) bs)

pub codes_many : (bodies : List Body) → length (codes_in bodies) ≡ length bodies
codes_many [] = refl
codes_many (b ∷ bs) = ap suc (codes_many bs)

-- these blocks begin with those
abbrev pub Begin : List (List Code) → List (List Code) → Type 0
Begin all front = (behind : List (List Code)) × (all ≡ front ++ behind)

pub begin_shorter : (all front more : List (List Code)) → Begin all (front ++ more) → Begin all front
begin_shorter all front more h = (more ++ h.0, h.1 ∙ append_assoc front more h.0)

-- those that begin with what was made before and with these have these
has_here : (front bs behind : List (List Code)) (n : ℕ) → length front ≡ n → HasBlocks (front ++ (bs ++ behind)) n bs
has_here front [] behind n many = tt
has_here front (b ∷ bs) behind n many =
    let next : (front ++ b ∷ []) ++ (bs ++ behind) ≡ front ++ (b ∷ (bs ++ behind)) = append_assoc front (b ∷ [])
    (bs ++ behind) in (
      subst (λ k. block_at (front ++ (b ∷ (bs ++ behind))) k ≡ b) many (at front (bs ++ behind)),
      subst (λ all. HasBlocks all (suc n) bs) next
          (has_here (front ++ b ∷ []) bs behind (suc n) (longer front ∙ ap suc many)),
    ) where
      at : (front rest : List (List Code)) → block_at (front ++ (b ∷ rest)) (length front) ≡ b
      at [] rest = refl
      at (z ∷ zs) rest = at zs rest

      longer : (front : List (List Code)) → length (front ++ b ∷ []) ≡ suc (length front)
      longer [] = refl
      longer (z ∷ zs) = ap suc (longer zs)

pub has_made : (all front bs : List (List Code)) (n : ℕ) → length front ≡ n → Begin all (front ++ bs)
    → HasBlocks all n bs
has_made all front bs n many h =
    subst (λ q. HasBlocks q n bs) (sym (h.1 ∙ append_assoc front bs h.0)) (has_here front bs h.0 n many)

-- ---- one part after another

part_codes : (o : Option tree.Part) (p : Progress)
    → (more : List (List Code)) × (codes_in (with_part o p).bodies ≡ codes_in p.bodies ++ more)
part_codes (Some (tree.HasMethod m)) p = (
  body_blocks m.body p.scope (length p.bodies),
  codes_with p.scope.class
      (body_blocks m.body p.scope (length p.bodies)) p.bodies,
)
part_codes o p = ([], sym (append-nil (codes_in p.bodies)))

begin_part : (all : List (List Code)) (o : Option tree.Part) (p : Progress)
    → Begin all (codes_in (with_part o p).bodies) → Begin all (codes_in p.bodies)
begin_part all o p h =
    let more = part_codes o p in begin_shorter all (codes_in p.bodies) more.0 (subst (Begin all) more.1 h)

pub begin_parts : (all : List (List Code)) (order : List ℕ) (parts : List tree.Part) (p : Progress)
    → Begin all (codes_in (with_parts order parts p).bodies) → Begin all (codes_in p.bodies)
begin_parts all [] parts p h = h
begin_parts all (i ∷ is) parts p h =
    begin_part all (slice_get parts i) p (begin_parts all is parts (with_part (slice_get parts i) p) h)

-- ---- slots

code_grows : (c : Code) (so_far : ℕ) → so_far ≤ code_slots c so_far
code_grows Empty so_far = omega arith
code_grows c so_far = omega arith

all_grow : (cs : List Code) (so_far : ℕ) → so_far ≤ all_slots cs so_far
all_grow [] so_far = omega arith
all_grow (c ∷ cs) so_far = omega (arith, code_grows c so_far, all_grow cs (code_slots c so_far))

pub slots_grow : (bs : List (List Code)) (so_far : ℕ) → so_far ≤ block_slots bs so_far
slots_grow [] so_far = omega arith
slots_grow (b ∷ bs) so_far = omega (arith, all_grow b so_far, slots_grow bs (all_slots b so_far))

slot_below : (slot so_far top : ℕ) → max (slot + 1) so_far ≤ top → nat_lt slot top ≡ true
slot_below slot so_far top h = lt-ltb slot top (omega (arith, h))

code_below : (c : Code) (so_far top : ℕ) → code_slots c so_far ≤ top → is_code_below top c ≡ true
code_below (Declare line slot scalar e) so_far top h = slot_below slot so_far top h
code_below (For slot from bound block) so_far top h = slot_below slot so_far top h
code_below c so_far top h = refl

all_below : (cs : List Code) (so_far top : ℕ) → all_slots cs so_far ≤ top → AreBelow top cs
all_below [] so_far top h = tt
all_below (c ∷ cs) so_far top h = (
  code_below c so_far top (omega (arith, h, all_grow cs (code_slots c so_far))),
  all_below cs
      (code_slots c so_far) top h,
)

-- the slots of blocks are enough for each of them
pub blocks_below : (bs : List (List Code)) (so_far top : ℕ) → block_slots bs so_far ≤ top → BlocksAreBelow top bs
blocks_below [] so_far top h = tt
blocks_below (b ∷ bs) so_far top h = (
  all_below b so_far top (omega (arith, h, slots_grow bs (all_slots b so_far))),
  blocks_below bs
      (all_slots b so_far) top h,
)

part_slots : (o : Option tree.Part) (p : Progress) → p.scope.slots ≤ (with_part o p).scope.slots
part_slots (Some (tree.HasMethod m)) p = slots_grow (body_blocks m.body p.scope (length p.bodies)) p.scope.slots
part_slots o p = omega arith

pub parts_slots : (order : List ℕ) (parts : List tree.Part) (p : Progress)
    → p.scope.slots ≤ (with_parts order parts p).scope.slots
parts_slots [] parts p = omega arith
parts_slots (i ∷ is) parts p =
    let here = part_slots (slice_get parts i) p in
    let rest = parts_slots is parts (with_part (slice_get parts i) p) in
    omega (arith, here, rest)
