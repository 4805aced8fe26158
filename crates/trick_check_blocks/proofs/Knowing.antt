-- Bodies keep the rules on local variables.
use Rattle.std.proofs.Common.{◌≡◌, ℕ, ◌+◌, ◌≤◌, ◌<◌, ◌++◌, ◌&&◌, ◌||◌, ◌==◌, not, nat_lt, nat_le, IsTrue, List, [], ◌∷◌, length, Option, Some, None, is_some, Bool, true, false, if◌then◌else◌, refl, ap, sym, ◌∙◌, subst, arith}
use Rattle.std.proofs.Math.ListN.{length-append}
use Rattle.std.proofs.lemmas.Bool.{and_from, or_left, or_right}
use Rattle.std.proofs.lemmas.Bool.Decides.{nat_tests}
use Rattle.std.specs.Str.{bytes_eq}
use Rattle.trick_base.proofs.Numbers.{equal_to_itself, other_than_greater, other_than_less}
use Rattle.trick_base.proofs.Truths.{first_holds, second_holds}
use Rattle.trick_check_blocks.proofs.Passing.{Pass, change_pass, goal_passes, path_pass, term_pass, value_pass}
use Rattle.trick_check_blocks.proofs.Running.{all_inner_count, inner_count, one_count}
use Rattle.trick_check_blocks.proofs.Sitting.{Sits, all_under, code_under, each_under, sits_left, sits_one, sits_right, under_left, under_right}
use Rattle.trick_check_blocks.specs.Codes as Codes
use Rattle.trick_check_blocks.specs.Codes.{all_codes, all_count, all_inner, branch_codes, branch_count, branch_inner, call_code, change_term, code, count, declared, declared_code, free_slot, goal_code, inner, local_code, loop_code, loop_in, loop_slot, new_slot, scalar_of, slot_behind, value_term}
use Rattle.trick_check_blocks.specs.Kept.{AreAbove}
use Rattle.trick_check_blocks.specs.Places.{field_meaning, followed, literal_count, local_meaning, named, scalar_there, site_meaning, start_of}
use Rattle.trick_check_blocks.specs.Terms.{Goal, OfLocal, OfNumber, OfPlace, OfNothing, goal_of, path_goal, place_goal, steps, term}
use Rattle.trick_check_blocks.specs.declared.start.Local.{Local}
use Rattle.trick_check_blocks.specs.declared.start.Meaning.{Meaning}
use Rattle.trick_check_blocks.specs.declared.start.Meaning.TheVariants as means
use Rattle.trick_check_blocks.specs.declared.spot.Spot.{Spot}
use Rattle.trick_check_blocks.specs.declared.scope.ClassScope.{ClassScope}
use Rattle.trick_lang.proofs.Alike.{knows_is}
use Rattle.trick_lang.specs.Blocks.{block_at}
use Rattle.trick_lang.specs.Locals.{Known, after, all_know, block_knows, bound_number, branch_knows, code_knows, is_free, is_known, is_known_as, is_type, locals_test, type_number}
use Rattle.trick_lang.specs.Passes.{change_passes, first_passes, place_passes, term_passes}
use Rattle.trick_lang.specs.SyntaxTree.{Name, Expression, Path, path, Parts, Statement, Empty, Block, Declare, Assign, If, For, Call, Branches, NoElse, Else, Test, Statements, NoStatement, Then}
use Rattle.trick_lang.specs.Tree as Tree
use Rattle.trick_lang.specs.Tree.{Code}
use Rattle.trick_lang.specs.Valid.{are_in_order}
use Rattle.trick_lang.specs.declared.bound.Bound.{Bound}
use Rattle.trick_lang.specs.declared.scalar.Scalar.{Scalar}
use Rattle.trick_lang.specs.declared.scalar.Scalar.TheVariants.{Long}
use Rattle.trick_check_names.specs.Laid.{fields_at}
use Rattle.trick_check_names.specs.declared.layout.Field.{Field}
use Rattle.trick_check_names.specs.declared.layout.Site.{Site}
use Rattle.trick_check_names.specs.declared.layout.Site.TheVariants.{Item, Object}
use Rattle.trick_check_names.specs.Names.{Names, meaning_of, with_name}

lt_test : (m n : ℕ) → m < n → IsTrue (nat_lt m n)
lt_test m n h = grind (arith, nat_tests)

lt_is : (m n : ℕ) → IsTrue (nat_lt m n) → m < n
lt_is m n h = grind (arith, nat_tests)

-- ---- locals by name and locals by slot

-- the slots of the locals that are known by name are known, those after them are free up to a top,
-- and those below the body's first are no local's
pub record Knows (w : ClassScope) (top : ℕ) (locals : Names Local) (known : List Known) : Type 0 where
  pub sees : (name : Name) (l : Local) → meaning_of name locals ≡ Some l → IsTrue (is_known known l.slot)
  pub types : (name : Name) (l : Local) → meaning_of name locals ≡ Some l → l.is_loop ≡ false → IsTrue (is_known_as known l.slot l.scalar)
  pub free : (slot : ℕ) → w.slots + length locals ≤ slot → slot < top → is_known known slot ≡ false
  pub above : AreAbove w.slots known

knows_pass : (w : ClassScope) (top : ℕ) (locals : Names Local) (known : List Known) → Knows w top locals known → Pass (locals_test known) w locals
knows_pass w top locals known k = record {
  local = k.sees;
  place = λ name parts from at is there. refl;
}

some_case : (l l' : Local) (b : Bool) (P : Type 0) → (if b then Some l else None) ≡ Some l' → (l ≡ l' → P) → P
some_case l l' true P h f = f (cc h)
some_case l l' false P h f = absurd (cc h)

-- what a name means after a new local: what it meant, or that one
grown_case : (q name : Name) (l l' : Local) (locals : Names Local) (P : Type 0) → meaning_of q (locals ++ (name, l) ∷ []) ≡ Some l' → (meaning_of q locals ≡ Some l' → P) → (l ≡ l' → P) → P
grown_case q name l l' [] P h f g = some_case l l' (bytes_eq q name) P h g
grown_case q name l l' (k ∷ ks) P h f g = by_test (bytes_eq q k.0) h f (λ h f. grown_case q name l l' ks P h f g)
  where
    by_test : (b : Bool) → (if b then Some k.1 else meaning_of q (ks ++ (name, l) ∷ [])) ≡ Some l' → ((if b then Some k.1 else meaning_of q ks) ≡ Some l' → P) → (meaning_of q (ks ++ (name, l) ∷ []) ≡ Some l' → (meaning_of q ks ≡ Some l' → P) → P) → P
    by_test true h f later = f h
    by_test false h f later = later h f

-- a local that is new
abbrev fresh_local : ClassScope → Names Local → Scalar → Bool → Local
fresh_local w locals scalar is_loop = record { slot = slot_behind w locals; scalar = scalar; is_loop = is_loop }

abbrev fresh_known : ClassScope → Names Local → Option Scalar → Known
fresh_known w locals type = record { slot = slot_behind w locals; scalar = type }

knows_more : (w : ClassScope) (top : ℕ) (locals : Names Local) (known : List Known) (name : Name) (scalar : Scalar) (is_loop : Bool) (type : Option Scalar) → (is_loop ≡ false → type ≡ Some scalar) → Knows w top locals known → Knows w top (locals ++ (name, fresh_local w locals scalar is_loop) ∷ []) (fresh_known w locals type ∷ known)
knows_more w top locals known name scalar is_loop type typed k = record {
  sees = λ q l is.
      grown_case q name new l locals (IsTrue (is_known (fresh ∷ known) l.slot)) is
      (λ old. or_right (fresh.slot == l.slot) (is_known known l.slot) (k.sees q l old))
      (λ same. subst (λ (x : Local). IsTrue (is_known (fresh ∷ known) x.slot)) same (or_left (fresh.slot == fresh.slot) (is_known known fresh.slot) (equal_to_itself fresh.slot)));
  types = λ q l is loop.
      grown_case q name new l locals (IsTrue (is_known_as (fresh ∷ known) l.slot l.scalar)) is
      (λ old. or_right ((fresh.slot == l.slot) && is_type type l.scalar) (is_known_as known l.slot l.scalar) (k.types q l old loop))
      (λ same. subst (λ (x : Local). IsTrue (is_known_as (fresh ∷ known) x.slot x.scalar)) same
      (or_left ((fresh.slot == fresh.slot) && is_type type scalar) (is_known_as known fresh.slot scalar)
      (and_from (fresh.slot == fresh.slot) (is_type type scalar) (equal_to_itself fresh.slot) (typed_here (ap (λ (x : Local). x.is_loop) same ∙ loop)))));
  free = λ slot low high.
      let behind : slot_behind w locals < slot = omega (arith, low, length-append locals ((name, new) ∷ [])) in
      ap (λ q. q || is_known known slot) (other_than_greater (slot_behind w locals) slot behind) ∙ k.free slot (omega (arith, behind)) high;
  above = λ slot less.
      let before : slot < slot_behind w locals = omega (arith, less) in
      ap (λ q. q || is_known known slot) (other_than_less (slot_behind w locals) slot before) ∙ k.above slot less;
} where
  new : Local
  new = fresh_local w locals scalar is_loop

  fresh : Known
  fresh = fresh_known w locals type

  typed_here : is_loop ≡ false → IsTrue (is_type type scalar)
  typed_here e = subst (λ q. IsTrue (is_type q scalar)) (sym (typed e)) (equal_to_itself (type_number scalar))

knows_new : (w : ClassScope) (top : ℕ) (locals : Names Local) (known : List Known) (name : Name) (scalar : Scalar) (is_loop : Bool) (type : Option Scalar) → meaning_of name locals ≡ None → (is_loop ≡ false → type ≡ Some scalar) → Knows w top locals known → Knows w top (with_name name (fresh_local w locals scalar is_loop) locals) (fresh_known w locals type ∷ known)
knows_new w top locals known name scalar is_loop type none typed k =
    subst (λ (q : Option Local). Knows w top (if is_some q then locals else locals ++ (name, fresh_local w locals scalar is_loop) ∷ []) (fresh_known w locals type ∷ known)) (sym none)
    (knows_more w top locals known name scalar is_loop type typed k)

knows_old : (w : ClassScope) (top : ℕ) (locals : Names Local) (known : List Known) (name : Name) (l new : Local) → meaning_of name locals ≡ Some l → Knows w top locals known → Knows w top (with_name name new locals) known
knows_old w top locals known name l new is k =
    subst (λ (q : Option Local). Knows w top (if is_some q then locals else locals ++ (name, new) ∷ []) known) (sym is) k

-- ---- what stands after a statement

local_after : (l : Local) (line : ℕ) (change : Tree.Change) (b : Bool) (known : List Known) → after (if b then Tree.Empty else Tree.SetLocal line l.slot l.scalar change) known ≡ known
local_after l line change true known = refl
local_after l line change false known = refl

goal_after : (g : Goal) (line : ℕ) (change : Tree.Change) (known : List Known) → after (goal_code g line change) known ≡ known
goal_after (OfLocal l) line change known = local_after l line change l.is_loop known
goal_after (OfNumber value) line change known = refl
goal_after (OfPlace place) line change known = refl
goal_after OfNothing line change known = refl

loop_after : (slot : Option ℕ) (from : ℕ) (bound : Bound) (block : ℕ) (known : List Known) → after (loop_code slot from bound block) known ≡ known
loop_after None from bound block known = refl
loop_after (Some slot) from bound block known = refl

call_after : (o : Option ℕ) (known : List Known) → after (call_code o) known ≡ known
call_after None known = refl
call_after (Some block) known = refl

declare_after : (w : ClassScope) (top : ℕ) (locals : Names Local) (known : List Known) (line : ℕ) (name : Name) (scalar : Scalar) (value : Option Tree.Term) (o : Option Local) → meaning_of name locals ≡ o → Knows w top locals known → Knows w top (with_name name (fresh_local w locals scalar false) locals) (after (declared_code line (free_slot o (slot_behind w locals)) scalar value) known)
declare_after w top locals known line name scalar value None is k = knows_new w top locals known name scalar false (Some scalar) is (λ e. refl) k
declare_after w top locals known line name scalar value (Some l) is k = knows_old w top locals known name l (fresh_local w locals scalar false) is k

after_knows : (s : Statement) (w : ClassScope) (locals : Names Local) (n top : ℕ) (known : List Known) → Knows w top locals known → Knows w top (Codes.after s w locals) (after (code s w locals n) known)
after_knows Empty w locals n top known k = k
after_knows (Block all) w locals n top known k = k
after_knows (Declare line written name value) w locals n top known k =
    declare_after w top locals known line name (scalar_of written) (value_term value w (declared written name w locals)) (meaning_of name locals) refl k
after_knows (Assign line p change) w locals n top known k = subst (Knows w top locals) (sym (goal_after (path_goal p w locals) line (change_term change w locals) known)) k
after_knows (If branches) w locals n top known k = k
after_knows (For name from bound body) w locals n top known k = subst (Knows w top locals) (sym (loop_after (loop_slot name bound w locals) from bound (n + count body) known)) k
after_knows (Call line name) w locals n top known k = subst (Knows w top locals) (sym (call_after (meaning_of name w.methods) known)) k

-- ---- assignments

-- a local that is assigned is known as its type
abbrev assigned_as : List Known → Goal → Bool
assigned_as known (OfLocal l) = if l.is_loop then true else is_known_as known l.slot l.scalar
assigned_as known (OfNumber value) = true
assigned_as known (OfPlace place) = true
assigned_as known OfNothing = true

by_loop : (known : List Known) (l : Local) (b : Bool) → l.is_loop ≡ b → (l.is_loop ≡ false → IsTrue (is_known_as known l.slot l.scalar)) → IsTrue (if b then true else is_known_as known l.slot l.scalar)
by_loop known l true is h = refl
by_loop known l false is h = h is

no_local_site : (o : Option Site) (l : Local) → site_meaning o ≡ means.Local l → ⊥
no_local_site None l h = cc h
no_local_site (Some (Item value)) l h = cc h
no_local_site (Some (Object first class)) l h = cc h

no_local_field : (f : Option Field) (o : Option Site) (l : Local) → field_meaning f o ≡ means.Local l → ⊥
no_local_field None o l h = no_local_site o l h
no_local_field (Some f) o l h = cc h

local_named : (k : Option Local) (f : Option Field) (o : Option Site) (l : Local) → local_meaning k f o ≡ means.Local l → k ≡ Some l
local_named None f o l h = absurd (no_local_field f o l h)
local_named (Some k) f o l h = cc h

place_assigned : (known : List Known) (at : Option Spot) (literals : ℕ) (st : Tree.Steps) → IsTrue (assigned_as known (place_goal at literals st))
place_assigned known None literals st = refl
place_assigned known (Some at) literals st = refl

meaning_assigned : (w : ClassScope) (top : ℕ) (locals : Names Local) (known : List Known) → Knows w top locals known → (name : Name) (parts : Parts) (m : Meaning) → named name w locals ≡ m → IsTrue (assigned_as known (goal_of m (scalar_there (followed parts w (start_of m))) (literal_count parts) (steps parts w locals (start_of m))))
meaning_assigned w top locals known k name parts (means.Local l) is =
    by_loop known l l.is_loop refl (k.types name l (local_named (meaning_of name locals) (meaning_of name (fields_at w.layout.groups w.class)) (meaning_of name w.layout.sites) l is))
meaning_assigned w top locals known k name parts (means.Number value) is = refl
meaning_assigned w top locals known k name parts (means.Stands from) is = place_assigned known (scalar_there (followed parts w (Some from))) (literal_count parts) (steps parts w locals (Some from))
meaning_assigned w top locals known k name parts means.Nothing is = refl

path_assigned : (q : Path) (w : ClassScope) (top : ℕ) (locals : Names Local) (known : List Known) → Knows w top locals known → IsTrue (assigned_as known (path_goal q w locals))
path_assigned (path line name parts) w top locals known k = meaning_assigned w top locals known k name parts (named name w locals) refl

local_assigned : (more : ℕ) (blocks : ℕ → List Known → Bool) (known : List Known) (l : Local) (line : ℕ) (change : Tree.Change) (b : Bool) → IsTrue (if b then true else is_known_as known l.slot l.scalar) → IsTrue (change_passes (locals_test known) change) → IsTrue (code_knows more (if b then Tree.Empty else Tree.SetLocal line l.slot l.scalar change) blocks known)
local_assigned more blocks known l line change true h k = refl
local_assigned more blocks known l line change false h k = and_from (is_known_as known l.slot l.scalar) (change_passes (locals_test known) change) h k

goal_know : (more : ℕ) (blocks : ℕ → List Known → Bool) (known : List Known) (g : Goal) (line : ℕ) (change : Tree.Change) → IsTrue (assigned_as known g) → IsTrue (goal_passes (locals_test known) g) → IsTrue (change_passes (locals_test known) change) → IsTrue (code_knows more (goal_code g line change) blocks known)
goal_know more blocks known (OfLocal l) line change h p k = local_assigned more blocks known l line change l.is_loop h k
goal_know more blocks known (OfNumber value) line change h p k = refl
goal_know more blocks known (OfPlace place) line change h p k = and_from (place_passes (locals_test known) place) (change_passes (locals_test known) change) p k
goal_know more blocks known OfNothing line change h p k = refl

-- ---- statements

-- where bodies of a class are looked at: the blocks that there are, of which the methods keep the rules
pub record Ground (w : ClassScope) (top more : ℕ) (bs : List (List Code)) : Type 0 where
  pub order : IsTrue (are_in_order 0 bs)
  pub enough : top ≤ more
  pub methods : (name : Name) (block : ℕ) → meaning_of name w.methods ≡ Some block → (known : List Known) → AreAbove w.slots known → IsTrue (block_knows more bs block known)

slot_free : (w : ClassScope) (top more : ℕ) (locals : Names Local) (known : List Known) → top ≤ more → Knows w top locals known → IsTrue (nat_lt (slot_behind w locals) top) → IsTrue (is_free more known (slot_behind w locals))
slot_free w top more locals known enough k h =
    let slot = slot_behind w locals in
    let less : slot < top = lt_is slot top h in
    and_from (nat_lt slot more) (not (is_known known slot)) (lt_test slot more (omega (arith, less, enough))) (ap not (k.free slot (omega arith) less))

declare_know : (w : ClassScope) (top more : ℕ) (blocks : ℕ → List Known → Bool) (locals : Names Local) (known : List Known) (line : ℕ) (name : Name) (scalar : Scalar) (value : Option Expression) (o : Option Local) → meaning_of name locals ≡ o → top ≤ more → Knows w top locals known → IsTrue (code_under top (declared_code line (free_slot o (slot_behind w locals)) scalar (value_term value w (with_name name (fresh_local w locals scalar false) locals)))) → IsTrue (code_knows more (declared_code line (free_slot o (slot_behind w locals)) scalar (value_term value w (with_name name (fresh_local w locals scalar false) locals))) blocks known)
declare_know w top more blocks locals known line name scalar value (Some l) is enough k under = refl
declare_know w top more blocks locals known line name scalar value None is enough k under =
    let inside = with_name name (fresh_local w locals scalar false) locals in
    let there = fresh_known w locals (Some scalar) ∷ known in
    and_from (is_free more known (slot_behind w locals)) (first_passes (locals_test there) (value_term value w inside)) (slot_free w top more locals known enough k under)
    (value_pass value (locals_test there) w inside (knows_pass w top inside there (knows_new w top locals known name scalar false (Some scalar) is (λ e. refl) k)))

loop_know : (w : ClassScope) (top more : ℕ) (blocks : ℕ → List Known → Bool) (locals : Names Local) (known : List Known) (from : ℕ) (bound : Bound) (block : ℕ) (b : Bool) (o : Option Local) → nat_le (bound_number bound) 1000000 ≡ b → top ≤ more → Knows w top locals known → IsTrue (code_under top (loop_code (if b then free_slot o (slot_behind w locals) else None) from bound block)) → (o ≡ None → IsTrue (blocks block (fresh_known w locals None ∷ known))) → IsTrue (code_knows more (loop_code (if b then free_slot o (slot_behind w locals) else None) from bound block) blocks known)
loop_know w top more blocks locals known from bound block false o is enough k under body = refl
loop_know w top more blocks locals known from bound block true (Some l) is enough k under body = refl
loop_know w top more blocks locals known from bound block true None is enough k under body =
    and_from (is_free more known (slot_behind w locals)) (nat_le (bound_number bound) 1000000 && blocks block (fresh_known w locals None ∷ known)) (slot_free w top more locals known enough k under)
    (and_from (nat_le (bound_number bound) 1000000) (blocks block (fresh_known w locals None ∷ known)) is (body refl))

call_know : (more : ℕ) (blocks : ℕ → List Known → Bool) (known : List Known) (o : Option ℕ) → ((block : ℕ) → o ≡ Some block → IsTrue (blocks block known)) → IsTrue (code_knows more (call_code o) blocks known)
call_know more blocks known None h = refl
call_know more blocks known (Some block) h = h block refl

-- the block of one statement keeps the rules where the statement does
body_know : (s : Statement) (w : ClassScope) (locals : Names Local) (n top more : ℕ) (bs : List (List Code)) (known : List Known) → Ground w top more bs → Sits bs n (inner s w locals n ++ (code s w locals n ∷ []) ∷ []) → IsTrue (code_knows more (code s w locals n) (block_knows more bs) known) → IsTrue (block_knows more bs (n + count s) known)
body_know s w locals n top more bs known g sits h =
    let last : block_at bs (n + count s) ≡ code s w locals n ∷ [] = sits_one bs (n + count s) (code s w locals n ∷ []) (sits_right bs n (n + count s) (inner s w locals n) ((code s w locals n ∷ []) ∷ []) (omega (arith, inner_count s w locals n)) sits) in
    subst (λ q. IsTrue q) (sym (knows_is more bs g.order (n + count s) known ∙ ap (λ (q : List Code). all_know more q (block_knows more bs) known) last))
    (and_from (code_knows more (code s w locals n) (block_knows more bs) known) true h refl)

block_know : (all : Statements) (w : ClassScope) (locals : Names Local) (n top more : ℕ) (bs : List (List Code)) (known : List Known) → Ground w top more bs → Sits bs n (all_inner all w locals n ++ all_codes all w locals n ∷ []) → IsTrue (all_know more (all_codes all w locals n) (block_knows more bs) known) → IsTrue (block_knows more bs (n + all_count all) known)
block_know all w locals n top more bs known g sits h =
    let last : block_at bs (n + all_count all) ≡ all_codes all w locals n = sits_one bs (n + all_count all) (all_codes all w locals n) (sits_right bs n (n + all_count all) (all_inner all w locals n) (all_codes all w locals n ∷ []) (omega (arith, all_inner_count all w locals n)) sits) in
    subst (λ q. IsTrue q) (sym (knows_is more bs g.order (n + all_count all) known ∙ ap (λ (q : List Code). all_know more q (block_knows more bs) known) last)) h

-- the slot of a body that is one statement
one_under : (top : ℕ) (s : Statement) (w : ClassScope) (locals : Names Local) (n : ℕ) → IsTrue (each_under top (inner s w locals n ++ (code s w locals n ∷ []) ∷ [])) → IsTrue (code_under top (code s w locals n))
one_under top s w locals n h =
    let last : IsTrue (each_under top ((code s w locals n ∷ []) ∷ [])) = under_right top (inner s w locals n) ((code s w locals n ∷ []) ∷ []) h in
    first_holds (code_under top (code s w locals n)) true (first_holds (all_under top (code s w locals n ∷ [])) true last)

all_of : (top : ℕ) (all : Statements) (w : ClassScope) (locals : Names Local) (n : ℕ) → IsTrue (each_under top (all_inner all w locals n ++ all_codes all w locals n ∷ [])) → IsTrue (all_under top (all_codes all w locals n))
all_of top all w locals n h = first_holds (all_under top (all_codes all w locals n)) true (under_right top (all_inner all w locals n) (all_codes all w locals n ∷ []) h)

mutual
  code_know : (s : Statement) (w : ClassScope) (locals : Names Local) (n top more : ℕ) (bs : List (List Code)) (known : List Known) → Ground w top more bs → Sits bs n (inner s w locals n) → IsTrue (each_under top (inner s w locals n)) → IsTrue (code_under top (code s w locals n)) → Knows w top locals known → IsTrue (code_knows more (code s w locals n) (block_knows more bs) known)
  code_know Empty w locals n top more bs known g sits under slot k = refl
  code_know (Block all) w locals n top more bs known g sits under slot k =
      block_know all w locals n top more bs known g sits
      (all_knows all w locals n top more bs known g (sits_left bs n (all_inner all w locals n) (all_codes all w locals n ∷ []) sits) (under_left top (all_inner all w locals n) (all_codes all w locals n ∷ []) under) (all_of top all w locals n under) k)
  code_know (Declare line written name value) w locals n top more bs known g sits under slot k =
      declare_know w top more (block_knows more bs) locals known line name (scalar_of written) value (meaning_of name locals) refl g.enough k slot
  code_know (Assign line p change) w locals n top more bs known g sits under slot k =
      goal_know more (block_knows more bs) known (path_goal p w locals) line (change_term change w locals) (path_assigned p w top locals known k) (path_pass p (locals_test known) w locals (knows_pass w top locals known k)) (change_pass change (locals_test known) w locals (knows_pass w top locals known k))
  code_know (If branches) w locals n top more bs known g sits under slot k = branches_know branches w locals n top more bs known g sits under k
  code_know (For name from bound body) w locals n top more bs known g sits under slot k =
      loop_know w top more (block_knows more bs) locals known from bound (n + count body) (nat_le (bound_number bound) 1000000) (meaning_of name locals) refl g.enough k slot
      (λ none.
      let inside = loop_in name w locals in
      let there = fresh_known w locals None ∷ known in
      body_know body w inside n top more bs there g sits
      (code_know body w inside n top more bs there g (sits_left bs n (inner body w inside n) ((code body w inside n ∷ []) ∷ []) sits) (under_left top (inner body w inside n) ((code body w inside n ∷ []) ∷ []) under) (one_under top body w inside n under)
      (knows_new w top locals known name Long true None none (λ e. absurd (cc e)) k)))
  code_know (Call line name) w locals n top more bs known g sits under slot k =
      call_know more (block_knows more bs) known (meaning_of name w.methods) (λ block is. g.methods name block is known k.above)

  branches_know : (branches : Branches) (w : ClassScope) (locals : Names Local) (n top more : ℕ) (bs : List (List Code)) (known : List Known) → Ground w top more bs → Sits bs n (branch_inner branches w locals n) → IsTrue (each_under top (branch_inner branches w locals n)) → Knows w top locals known → IsTrue (branch_knows (branch_codes branches w locals n) (block_knows more bs) known)
  branches_know NoElse w locals n top more bs known g sits under k = refl
  branches_know (Else body) w locals n top more bs known g sits under k =
      body_know body w locals n top more bs known g sits
      (code_know body w locals n top more bs known g (sits_left bs n (inner body w locals n) ((code body w locals n ∷ []) ∷ []) sits) (under_left top (inner body w locals n) ((code body w locals n ∷ []) ∷ []) under) (one_under top body w locals n under) k)
  branches_know (Test line test body rest) w locals n top more bs known g sits under k =
      let m = n + (count body + 1) in
      let first = inner body w locals n ++ (code body w locals n ∷ []) ∷ [] in
      let here = sits_left bs n first (branch_inner rest w locals m) sits in
      let below = under_left top first (branch_inner rest w locals m) under in
      and_from (term_passes (locals_test known) (term test w locals)) (block_knows more bs (n + count body) known && branch_knows (branch_codes rest w locals m) (block_knows more bs) known)
      (term_pass test (locals_test known) w locals (knows_pass w top locals known k))
      (and_from (block_knows more bs (n + count body) known) (branch_knows (branch_codes rest w locals m) (block_knows more bs) known)
      (body_know body w locals n top more bs known g here
      (code_know body w locals n top more bs known g (sits_left bs n (inner body w locals n) ((code body w locals n ∷ []) ∷ []) here) (under_left top (inner body w locals n) ((code body w locals n ∷ []) ∷ []) below) (one_under top body w locals n below) k))
      (branches_know rest w locals m top more bs known g (sits_right bs n m first (branch_inner rest w locals m) (omega (arith, one_count body w locals n)) sits) (under_right top first (branch_inner rest w locals m) under) k))

  all_knows : (all : Statements) (w : ClassScope) (locals : Names Local) (n top more : ℕ) (bs : List (List Code)) (known : List Known) → Ground w top more bs → Sits bs n (all_inner all w locals n) → IsTrue (each_under top (all_inner all w locals n)) → IsTrue (all_under top (all_codes all w locals n)) → Knows w top locals known → IsTrue (all_know more (all_codes all w locals n) (block_knows more bs) known)
  all_knows NoStatement w locals n top more bs known g sits under slots k = refl
  all_knows (Then s rest) w locals n top more bs known g sits under slots k =
      let m = n + count s in
      let behind = Codes.after s w locals in
      let there = after (code s w locals n) known in
      and_from (code_knows more (code s w locals n) (block_knows more bs) known) (all_know more (all_codes rest w behind m) (block_knows more bs) there)
      (code_know s w locals n top more bs known g (sits_left bs n (inner s w locals n) (all_inner rest w behind m) sits) (under_left top (inner s w locals n) (all_inner rest w behind m) under) (first_holds (code_under top (code s w locals n)) (all_under top (all_codes rest w behind m)) slots) k)
      (all_knows rest w behind m top more bs there g (sits_right bs n m (inner s w locals n) (all_inner rest w behind m) (omega (arith, inner_count s w locals n)) sits) (under_right top (inner s w locals n) (all_inner rest w behind m) under) (second_holds (code_under top (code s w locals n)) (all_under top (all_codes rest w behind m)) slots) (after_knows s w locals n top known k))

-- ---- methods

-- before a method's first statement
nothing_known : (w : ClassScope) (top : ℕ) (known : List Known) → w.slots ≤ top → AreAbove top known → Knows w top [] known
nothing_known w top known low h = record {
  sees = λ name l is. absurd (cc is);
  types = λ name l is loop. absurd (cc is);
  free = λ slot at_least less. h slot less;
  above = λ slot less. h slot (omega (arith, less, low));
}

-- the block of a method keeps the rules, whatever locals its callers have after its slots
pub method_knows : (all : Statements) (w : ClassScope) (n top more : ℕ) (bs : List (List Code)) (known : List Known) → Ground w top more bs → Sits bs n (all_inner all w [] n ++ all_codes all w [] n ∷ []) → IsTrue (each_under top (all_inner all w [] n ++ all_codes all w [] n ∷ [])) → w.slots ≤ top → AreAbove top known → IsTrue (block_knows more bs (n + all_count all) known)
method_knows all w n top more bs known g sits under low above =
    block_know all w [] n top more bs known g sits
    (all_knows all w [] n top more bs known g (sits_left bs n (all_inner all w [] n) (all_codes all w [] n ∷ []) sits) (under_left top (all_inner all w [] n) (all_codes all w [] n ∷ []) under) (all_of top all w [] n under) (nothing_known w top known low above))
