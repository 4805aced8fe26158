-- Tests that each leaf of what a tree becomes passes.
use Rattle.std.proofs.Common.{◌≡◌, ℕ, ◌+◌, ◌++◌, ◌&&◌, Bool, true, false, if◌then◌else◌, IsTrue, List, [], ◌∷◌, Option, Some, None, refl}
use Rattle.std.proofs.lemmas.Bool.{and_from}
use Rattle.trick_check_blocks.specs.Codes.{after, all_codes, all_inner, branch_codes, branch_inner, call_code, change_term, code, count, declared, declared_code, goal_code, inner, loop_code, loop_in, loop_slot, new_slot, scalar_of, value_term}
use Rattle.trick_check_blocks.specs.Places.{element_at, field_meaning, followed, literal_count, literal_of, local_meaning, named, scalar_there, site_meaning, start_of, to_index, to_member}
use Rattle.trick_check_blocks.specs.Terms.{Goal, OfLocal, OfNumber, OfPlace, OfNothing, choice_terms, computed, goal_of, goal_term, link_terms, path_goal, place_goal, spot_with, stepped, steps, term}
use Rattle.trick_check_blocks.specs.declared.start.Local.{Local}
use Rattle.trick_check_blocks.specs.declared.start.Meaning.{Meaning}
use Rattle.trick_check_blocks.specs.declared.start.Meaning.TheVariants as means
use Rattle.trick_check_blocks.specs.declared.spot.Element.{Element}
use Rattle.trick_check_blocks.specs.declared.spot.Spot.{Spot}
use Rattle.trick_check_blocks.specs.declared.scope.ClassScope.{ClassScope}
use Rattle.trick_lang.specs.Passes.{Leaves, all_pass, branch_passes, change_passes, choice_passes, code_passes, first_passes, link_passes, place_passes, step_passes, term_passes}
use Rattle.trick_lang.specs.SyntaxTree.{Name, Expression, Whole, Truth, Named, Prefixed, Chain, Choose, Links, NoLink, Link, Choices, Last, Choice, Path, path, Parts, NoPart, Member, Index, Change, Set, Update, Increase, Decrease, Statement, Empty, Block, Declare, Assign, If, For, Call, Branches, NoElse, Else, Test, Statements, NoStatement, Then}
use Rattle.trick_lang.specs.Tree as Tree
use Rattle.trick_lang.specs.Tree.{Code, Steps, Term}
use Rattle.trick_lang.specs.declared.bound.Bound.{Bound}
use Rattle.trick_lang.specs.declared.scalar.Scalar.{Scalar}
use Rattle.trick_check_names.specs.Laid.{fields_at}
use Rattle.trick_check_names.specs.declared.layout.Field.{Field}
use Rattle.trick_check_names.specs.declared.layout.Site.{Site}
use Rattle.trick_check_names.specs.declared.layout.Site.TheVariants.{Item, Object}
use Rattle.trick_check_names.specs.Names.{Names, meaning_of}

-- each local and each place that a body can name passes a test, where these locals are known
pub record Pass (p : Leaves) (w : ClassScope) (locals : Names Local) : Type 0 where
  pub local : (name : Name) (l : Local) → meaning_of name locals ≡ Some l → IsTrue (p.local l.slot)
  pub place : (name : Name) (parts : Parts) (from at : Spot) → named name w locals ≡ means.Stands from → scalar_there (followed parts w (Some from)) ≡ Some at → IsTrue (p.place (spot_with at (literal_count parts) (steps parts w locals (Some from))))

-- ---- expressions

abbrev pub goal_passes : Leaves → Goal → Bool
goal_passes p (OfLocal l) = p.local l.slot
goal_passes p (OfNumber value) = true
goal_passes p (OfPlace place) = place_passes p place
goal_passes p OfNothing = true

term_goal : (p : Leaves) (g : Goal) → IsTrue (goal_passes p g) → IsTrue (term_passes p (goal_term g))
term_goal p (OfLocal l) h = h
term_goal p (OfNumber value) h = refl
term_goal p (OfPlace place) h = h
term_goal p OfNothing h = refl

no_local_site : (o : Option Site) (l : Local) → site_meaning o ≡ means.Local l → ⊥
no_local_site None l h = cc h
no_local_site (Some (Item value)) l h = cc h
no_local_site (Some (Object first class)) l h = cc h

no_local_field : (f : Option Field) (o : Option Site) (l : Local) → field_meaning f o ≡ means.Local l → ⊥
no_local_field None o l h = no_local_site o l h
no_local_field (Some f) o l h = cc h

-- a name that stands for a local is known
local_named : (k : Option Local) (f : Option Field) (o : Option Site) (l : Local) → local_meaning k f o ≡ means.Local l → k ≡ Some l
local_named None f o l h = absurd (no_local_field f o l h)
local_named (Some k) f o l h = cc h

at_pass : (p : Leaves) (w : ClassScope) (locals : Names Local) → Pass p w locals → (name : Name) (parts : Parts) (from : Spot) → named name w locals ≡ means.Stands from → (at : Option Spot) → scalar_there (followed parts w (Some from)) ≡ at → IsTrue (step_passes p (steps parts w locals (Some from))) → IsTrue (goal_passes p (place_goal at (literal_count parts) (steps parts w locals (Some from))))
at_pass p w locals h name parts from is None there k = refl
at_pass p w locals h name parts from is (Some at) there k = and_from _ _ (h.place name parts from at is there) k

meaning_pass : (p : Leaves) (w : ClassScope) (locals : Names Local) → Pass p w locals → (name : Name) (parts : Parts) (m : Meaning) → named name w locals ≡ m → IsTrue (step_passes p (steps parts w locals (start_of m))) → IsTrue (goal_passes p (goal_of m (scalar_there (followed parts w (start_of m))) (literal_count parts) (steps parts w locals (start_of m))))
meaning_pass p w locals h name parts (means.Local l) is k = h.local name l (local_named (meaning_of name locals) (meaning_of name (fields_at w.layout.groups w.class)) (meaning_of name w.layout.sites) l is)
meaning_pass p w locals h name parts (means.Number value) is k = refl
meaning_pass p w locals h name parts (means.Stands from) is k = at_pass p w locals h name parts from is (scalar_there (followed parts w (Some from))) refl k
meaning_pass p w locals h name parts means.Nothing is k = refl

stepped_pass : (p : Leaves) (el : Option Element) (x : Term) (rest : Steps) → IsTrue (term_passes p x) → IsTrue (step_passes p rest) → IsTrue (step_passes p (stepped el x rest))
stepped_pass p None x rest h k = k
stepped_pass p (Some el) x rest h k = and_from _ _ h k

mutual
  pub term_pass : (e : Expression) (p : Leaves) (w : ClassScope) (locals : Names Local) → Pass p w locals → IsTrue (term_passes p (term e w locals))
  term_pass (Whole line n) p w locals h = refl
  term_pass (Truth line b) p w locals h = refl
  term_pass (Named q) p w locals h = term_goal p (path_goal q w locals) (path_pass q p w locals h)
  term_pass (Prefixed o e) p w locals h = term_pass e p w locals h
  term_pass (Chain e links) p w locals h =
      and_from (term_passes p (term e w locals)) (link_passes p (link_terms links w locals)) (term_pass e p w locals h) (link_pass links p w locals h)
  term_pass (Choose choices) p w locals h = choice_pass choices p w locals h

  link_pass : (links : Links) (p : Leaves) (w : ClassScope) (locals : Names Local) → Pass p w locals → IsTrue (link_passes p (link_terms links w locals))
  link_pass NoLink p w locals h = refl
  link_pass (Link o e rest) p w locals h =
      and_from (term_passes p (term e w locals)) (link_passes p (link_terms rest w locals)) (term_pass e p w locals h) (link_pass rest p w locals h)

  choice_pass : (choices : Choices) (p : Leaves) (w : ClassScope) (locals : Names Local) → Pass p w locals → IsTrue (choice_passes p (choice_terms choices w locals))
  choice_pass (Last e) p w locals h = term_pass e p w locals h
  choice_pass (Choice test e rest) p w locals h =
      and_from (term_passes p (term test w locals)) (term_passes p (term e w locals) && choice_passes p (choice_terms rest w locals)) (term_pass test p w locals h)
      (and_from (term_passes p (term e w locals)) (choice_passes p (choice_terms rest w locals)) (term_pass e p w locals h) (choice_pass rest p w locals h))

  pub path_pass : (q : Path) (p : Leaves) (w : ClassScope) (locals : Names Local) → Pass p w locals → IsTrue (goal_passes p (path_goal q w locals))
  path_pass (path line name parts) p w locals h =
      meaning_pass p w locals h name parts (named name w locals) refl (step_pass parts p w locals h (start_of (named name w locals)))

  step_pass : (parts : Parts) (p : Leaves) (w : ClassScope) (locals : Names Local) → Pass p w locals → (at : Option Spot) → IsTrue (step_passes p (steps parts w locals at))
  step_pass NoPart p w locals h at = refl
  step_pass (Member line name rest) p w locals h at = step_pass rest p w locals h (to_member name w at)
  step_pass (Index e rest) p w locals h at =
      stepped_pass p (computed (literal_of e) (element_at at)) (term e w locals) (steps rest w locals (to_index (literal_of e) at)) (term_pass e p w locals h) (step_pass rest p w locals h (to_index (literal_of e) at))

-- ---- statements

pub change_pass : (change : Change) (p : Leaves) (w : ClassScope) (locals : Names Local) → Pass p w locals → IsTrue (change_passes p (change_term change w locals))
change_pass (Set e) p w locals h = term_pass e p w locals h
change_pass (Update o e) p w locals h = term_pass e p w locals h
change_pass Increase p w locals h = refl
change_pass Decrease p w locals h = refl

pub value_pass : (value : Option Expression) (p : Leaves) (w : ClassScope) (locals : Names Local) → Pass p w locals → IsTrue (first_passes p (value_term value w locals))
value_pass None p w locals h = refl
value_pass (Some e) p w locals h = term_pass e p w locals h

local_pass : (p : Leaves) (l : Local) (line : ℕ) (change : Tree.Change) (b : Bool) → IsTrue (change_passes p change) → IsTrue (code_passes p (if b then Tree.Empty else Tree.SetLocal line l.slot l.scalar change))
local_pass p l line change true h = refl
local_pass p l line change false h = h

goal_pass : (p : Leaves) (g : Goal) (line : ℕ) (change : Tree.Change) → IsTrue (goal_passes p g) → IsTrue (change_passes p change) → IsTrue (code_passes p (goal_code g line change))
goal_pass p (OfLocal l) line change h k = local_pass p l line change l.is_loop k
goal_pass p (OfNumber value) line change h k = refl
goal_pass p (OfPlace place) line change h k = and_from (place_passes p place) (change_passes p change) h k
goal_pass p OfNothing line change h k = refl

declared_pass : (p : Leaves) (line : ℕ) (slot : Option ℕ) (scalar : Scalar) (value : Option Term) → IsTrue (first_passes p value) → IsTrue (code_passes p (declared_code line slot scalar value))
declared_pass p line None scalar value h = refl
declared_pass p line (Some slot) scalar value h = h

loop_pass : (p : Leaves) (slot : Option ℕ) (from : ℕ) (bound : Bound) (block : ℕ) → IsTrue (code_passes p (loop_code slot from bound block))
loop_pass p None from bound block = refl
loop_pass p (Some slot) from bound block = refl

call_pass : (p : Leaves) (o : Option ℕ) → IsTrue (code_passes p (call_code o))
call_pass p None = refl
call_pass p (Some block) = refl

-- a test that passes whatever locals are known
abbrev pub PassAny : Leaves → ClassScope → Type 0
PassAny p w = (locals : Names Local) → Pass p w locals

branch_pass : (bs : Branches) (p : Leaves) (w : ClassScope) (locals : Names Local) (n : ℕ) → PassAny p w → IsTrue (branch_passes p (branch_codes bs w locals n))
branch_pass NoElse p w locals n h = refl
branch_pass (Else body) p w locals n h = refl
branch_pass (Test line test body rest) p w locals n h = and_from _ _ (term_pass test p w locals (h locals)) (branch_pass rest p w locals (n + (count body + 1)) h)

pub code_pass : (s : Statement) (p : Leaves) (w : ClassScope) (locals : Names Local) (n : ℕ) → PassAny p w → IsTrue (code_passes p (code s w locals n))
code_pass Empty p w locals n h = refl
code_pass (Block all) p w locals n h = refl
code_pass (Declare line written name value) p w locals n h =
    declared_pass p line (new_slot name w locals) (scalar_of written) (value_term value w (declared written name w locals)) (value_pass value p w (declared written name w locals) (h (declared written name w locals)))
code_pass (Assign line q change) p w locals n h =
    goal_pass p (path_goal q w locals) line (change_term change w locals) (path_pass q p w locals (h locals)) (change_pass change p w locals (h locals))
code_pass (If branches) p w locals n h = branch_pass branches p w locals n h
code_pass (For name from bound body) p w locals n h = loop_pass p (loop_slot name bound w locals) from bound (n + count body)
code_pass (Call line name) p w locals n h = call_pass p (meaning_of name w.methods)

pub codes_pass : (all : Statements) (p : Leaves) (w : ClassScope) (locals : Names Local) (n : ℕ) → PassAny p w → IsTrue (all_pass p (all_codes all w locals n))
codes_pass NoStatement p w locals n h = refl
codes_pass (Then s rest) p w locals n h = and_from _ _ (code_pass s p w locals n h) (codes_pass rest p w (after s w locals) (n + count s) h)

-- ---- blocks

abbrev pub each_passes : Leaves → List (List Code) → Bool
each_passes p [] = true
each_passes p (b ∷ bs) = all_pass p b && each_passes p bs

each_case : (b c d : Bool) → (IsTrue c → IsTrue d) → IsTrue (b && c) → IsTrue (b && d)
each_case true c d f h = f h
each_case false c d f h = h

pub each_both : (p : Leaves) (xs ys : List (List Code)) → IsTrue (each_passes p xs) → IsTrue (each_passes p ys) → IsTrue (each_passes p (xs ++ ys))
each_both p [] ys h k = k
each_both p (x ∷ xs) ys h k = each_case (all_pass p x) (each_passes p xs) (each_passes p (xs ++ ys)) (λ t. each_both p xs ys t k) h

-- blocks, and then one more
pub each_more : (p : Leaves) (xs : List (List Code)) (x : List Code) → IsTrue (each_passes p xs) → IsTrue (all_pass p x) → IsTrue (each_passes p (xs ++ x ∷ []))
each_more p xs x h k = each_both p xs (x ∷ []) h (and_from (all_pass p x) true k refl)

body_pass : (s : Statement) (p : Leaves) (w : ClassScope) (locals : Names Local) (n : ℕ) → PassAny p w → IsTrue (each_passes p (inner s w locals n)) → IsTrue (each_passes p (inner s w locals n ++ (code s w locals n ∷ []) ∷ []))
body_pass s p w locals n h k = each_more p (inner s w locals n) (code s w locals n ∷ []) k (and_from (code_passes p (code s w locals n)) true (code_pass s p w locals n h) refl)

mutual
  inner_pass : (s : Statement) (p : Leaves) (w : ClassScope) (locals : Names Local) (n : ℕ) → PassAny p w → IsTrue (each_passes p (inner s w locals n))
  inner_pass Empty p w locals n h = refl
  inner_pass (Block all) p w locals n h = each_more p (all_inner all w locals n) (all_codes all w locals n) (all_inner_pass all p w locals n h) (codes_pass all p w locals n h)
  inner_pass (Declare line written name value) p w locals n h = refl
  inner_pass (Assign line q change) p w locals n h = refl
  inner_pass (If branches) p w locals n h = branches_pass branches p w locals n h
  inner_pass (For name from bound body) p w locals n h = body_pass body p w (loop_in name w locals) n h (inner_pass body p w (loop_in name w locals) n h)
  inner_pass (Call line name) p w locals n h = refl

  branches_pass : (bs : Branches) (p : Leaves) (w : ClassScope) (locals : Names Local) (n : ℕ) → PassAny p w → IsTrue (each_passes p (branch_inner bs w locals n))
  branches_pass NoElse p w locals n h = refl
  branches_pass (Else body) p w locals n h = body_pass body p w locals n h (inner_pass body p w locals n h)
  branches_pass (Test line test body rest) p w locals n h =
      each_both p (inner body w locals n ++ (code body w locals n ∷ []) ∷ []) (branch_inner rest w locals (n + (count body + 1))) (body_pass body p w locals n h (inner_pass body p w locals n h)) (branches_pass rest p w locals (n + (count body + 1)) h)

  pub all_inner_pass : (all : Statements) (p : Leaves) (w : ClassScope) (locals : Names Local) (n : ℕ) → PassAny p w → IsTrue (each_passes p (all_inner all w locals n))
  all_inner_pass NoStatement p w locals n h = refl
  all_inner_pass (Then s rest) p w locals n h =
      each_both p (inner s w locals n) (all_inner rest w (after s w locals) (n + count s)) (inner_pass s p w locals n h) (all_inner_pass rest p w (after s w locals) (n + count s) h)
