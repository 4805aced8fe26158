-- Rows that grow at their ends.
use Rattle.std.proofs.Common.{◌≡◌, ℕ, ◌+◌, ◌≤◌, arith, List, [], ◌∷◌, ◌++◌, Option, Some, None, refl, ap}
use Rattle.trick_lang.specs.Syntax.{parts_of_list, expression_of, choices_of_list as text_choices}
use Rattle.trick_lang.specs.SyntaxTree as Text
use Rattle.trick_lang.specs.Tree as Tree
use Rattle.trick_lang.specs.Tree.{Links, NoLink, Choices, Term, Last, Steps, NoStep, Step}
use Rattle.trick_lang.specs.TreeOf.{term_of, links_of_list, choices_of_list, steps_of_list}
use Rattle.trick_lang.specs.declared.syntax.expression.Part.{Part, Member, Index}
use Rattle.trick_lang.specs.declared.tree.Choice.{Choice}
use Rattle.trick_lang.specs.declared.tree.Index as tree
use Rattle.trick_lang.specs.declared.tree.Link.{Link}
use Rattle.trick_lang.specs.declared.syntax.expression.Choice as text
use Rattle.trick_check_blocks.proofs.Weights.{expression_weight, choice_weight, part_weight}
use Rattle.trick_check_blocks.specs.Places.{element_at, followed, literal_count, literal_of, to_index}
use Rattle.trick_check_blocks.specs.Terms.{added_steps, computed, stepped, steps, term}
use Rattle.trick_check_blocks.specs.declared.start.Local.{Local}
use Rattle.trick_check_blocks.specs.declared.spot.Element.{Element}
use Rattle.trick_check_blocks.specs.declared.spot.Spot.{Spot}
use Rattle.trick_check_blocks.specs.declared.scope.ClassScope.{ClassScope}
use Rattle.trick_check_names.specs.Names.{Names}

abbrev pub links_after : List Link → Links → Links
links_after [] rest = rest
links_after (l ∷ ls) rest = Tree.Link l.operator (term_of l.operand) (links_after ls rest)

pub links_grown : (ls : List Link) (l : Link) (rest : Links) → links_after (ls ++ l ∷ []) rest ≡ links_after ls (Tree.Link l.operator (term_of l.operand) rest)
links_grown [] l rest = refl
links_grown (x ∷ ls) l rest = ap (Tree.Link x.operator (term_of x.operand)) (links_grown ls l rest)

pub links_done : (ls : List Link) → links_after ls NoLink ≡ links_of_list ls
links_done [] = refl
links_done (l ∷ ls) = ap (Tree.Link l.operator (term_of l.operand)) (links_done ls)

abbrev pub choices_after : List Choice → Choices → Choices
choices_after [] rest = rest
choices_after (c ∷ cs) rest = Tree.Choice (term_of c.test) (term_of c.value) (choices_after cs rest)

pub choices_grown : (cs : List Choice) (c : Choice) (rest : Choices) → choices_after (cs ++ c ∷ []) rest ≡ choices_after cs (Tree.Choice (term_of c.test) (term_of c.value) rest)
choices_grown [] c rest = refl
choices_grown (x ∷ cs) c rest = ap (Tree.Choice (term_of x.test) (term_of x.value)) (choices_grown cs c rest)

pub choices_done : (cs : List Choice) (last : Term) → choices_after cs (Last last) ≡ choices_of_list cs last
choices_done [] last = refl
choices_done (c ∷ cs) last = ap (Tree.Choice (term_of c.test) (term_of c.value)) (choices_done cs last)

abbrev pub choices_weight : List text.Choice → ℕ
choices_weight [] = 0
choices_weight (c ∷ cs) = 1 + (expression_weight (expression_of c.test) + (expression_weight (expression_of c.value) + choices_weight cs))

pub choices_heavy : (cs : List text.Choice) (last : Text.Expression) → choices_weight cs + (1 + expression_weight last) ≡ choice_weight (text_choices cs last)
choices_heavy [] last = omega arith
choices_heavy (c ∷ cs) last = omega (arith, choices_heavy cs last)

-- ---- steps of a path

pub added_none : (xs : Steps) → added_steps xs NoStep ≡ xs
added_none NoStep = refl
added_none (Step n k x xs) = ap (Step n k x) (added_none xs)

pub added_added : (xs ys zs : Steps) → added_steps (added_steps xs ys) zs ≡ added_steps xs (added_steps ys zs)
added_added NoStep ys zs = refl
added_added (Step n k x xs) ys zs = ap (Step n k x) (added_added xs ys zs)

pub added_one : (is : List tree.Index) (i : tree.Index) → added_steps (steps_of_list is) (Step i.length i.stride (term_of i.at) NoStep) ≡ steps_of_list (is ++ i ∷ [])
added_one [] i = refl
added_one (x ∷ is) i = ap (Step x.length x.stride (term_of x.at)) (added_one is i)

stepped_splits : (el : Option Element) (x : Term) (rest : Steps) → stepped el x rest ≡ added_steps (stepped el x NoStep) rest
stepped_splits None x rest = refl
stepped_splits (Some el) x rest = refl

-- the steps of a part, and of the rest from where it leads
pub steps_split : (item : Part) (rest : List Part) (w : ClassScope) (locals : Names Local) (at : Option Spot) → steps (parts_of_list (item ∷ rest)) w locals at ≡ added_steps (steps (parts_of_list (item ∷ [])) w locals at) (steps (parts_of_list rest) w locals (followed (parts_of_list (item ∷ [])) w at))
steps_split (Member line name) rest w locals at = refl
steps_split (Index e) rest w locals at = stepped_splits (computed (literal_of (expression_of e)) (element_at at)) (term (expression_of e) w locals) (steps (parts_of_list rest) w locals (to_index (literal_of (expression_of e)) at))

pub followed_splits : (item : Part) (rest : List Part) (w : ClassScope) (at : Option Spot) → followed (parts_of_list (item ∷ rest)) w at ≡ followed (parts_of_list rest) w (followed (parts_of_list (item ∷ [])) w at)
followed_splits (Member line name) rest w at = refl
followed_splits (Index e) rest w at = refl

pub part_weighs : (item : Part) (rest : List Part) → part_weight (parts_of_list (item ∷ rest)) + 1 ≡ part_weight (parts_of_list (item ∷ [])) + part_weight (parts_of_list rest)
part_weighs (Member line name) rest = omega arith
part_weighs (Index e) rest = omega arith

pub some_part : (parts : Text.Parts) → 1 ≤ part_weight parts
some_part Text.NoPart = omega arith
some_part (Text.Member line name rest) = omega arith
some_part (Text.Index e rest) = omega arith

-- one part's literal index, and those of the rest
pub literals_split : (item : Part) (rest : List Part) → literal_count (parts_of_list (item ∷ rest)) ≡ literal_count (parts_of_list (item ∷ [])) + literal_count (parts_of_list rest)
literals_split (Member line name) rest = omega arith
literals_split (Index e) rest = omega arith
