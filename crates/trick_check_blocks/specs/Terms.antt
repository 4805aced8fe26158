-- What expressions become: names by cell, by slot, or by number.
use Rattle.std.specs.Prelude.{ℕ, ℤ, pos, Option, Some, None}
use Rattle.trick_check_blocks.specs.Places.{named, start_of, followed, scalar_there, literal_count, literal_of, element_at, to_index, to_member}
use Rattle.trick_check_blocks.specs.declared.start.Local.{Local}
use Rattle.trick_check_blocks.specs.declared.start.Meaning.{Meaning}
use Rattle.trick_check_blocks.specs.declared.start.Meaning.TheVariants as means
use Rattle.trick_check_blocks.specs.declared.spot.Element.{Element}
use Rattle.trick_check_blocks.specs.declared.spot.Loose.{Loose}
use Rattle.trick_check_blocks.specs.declared.spot.Spot.{Spot}
use Rattle.trick_check_blocks.specs.declared.scope.ClassScope.{ClassScope}
use Rattle.trick_lang.specs.Numbers.{number_of}
use Rattle.trick_lang.specs.SyntaxTree.{Expression, Whole, Truth, Named, Prefixed, Chain, Choose, Links, NoLink, Link, Choices, Last, Choice, Path, path, Parts, NoPart, Member, Index}
use Rattle.trick_lang.specs.Tree as Tree
use Rattle.trick_lang.specs.Tree.{Term, Steps, NoStep, Step}
use Rattle.trick_lang.specs.Wrap.{wrap}
use Rattle.trick_lang.specs.declared.scalar.Scalar.TheVariants.{Long}
use Rattle.trick_check_names.specs.Names.{Names}

-- ---- places

-- a place without a computed index is one cell
abbrev pub span_of : Option Loose → ℕ
span_of None = 1
span_of (Some l) = l.span

abbrev pub offset_of : Option Loose → ℕ
offset_of None = 0
offset_of (Some l) = l.offset

abbrev pub spot_with : Spot → ℕ → Steps → Tree.Spot
spot_with s literals steps = Tree.spot s.own s.first (span_of s.loose) (offset_of s.loose) literals steps

-- the array of an index that is no literal
abbrev pub computed : Option ℕ → Option Element → Option Element
computed (Some k) el = None
computed None el = el

-- a computed index is a step
abbrev pub stepped : Option Element → Term → Steps → Steps
stepped None x rest = rest
stepped (Some el) x rest = Step el.dim.length el.dim.stride x rest

-- steps, and then more
abbrev pub added_steps : Steps → Steps → Steps
added_steps NoStep more = more
added_steps (Step length stride x rest) more = Step length stride x (added_steps rest more)

-- what a path stands for: a local, the value of an enum item, or a number's place
pub data Goal : Type 0 where
  OfLocal : Local → Goal
  OfNumber : ℤ → Goal
  OfPlace : Tree.Spot → Goal
  OfNothing : Goal

abbrev pub place_goal : Option Spot → ℕ → Steps → Goal
place_goal None literals steps = OfNothing
place_goal (Some s) literals steps = OfPlace (spot_with s literals steps)

abbrev pub goal_of : Meaning → Option Spot → ℕ → Steps → Goal
goal_of (means.Local local) at literals steps = OfLocal local
goal_of (means.Number value) at literals steps = OfNumber value
goal_of (means.Stands s) at literals steps = place_goal at literals steps
goal_of means.Nothing at literals steps = OfNothing

abbrev pub goal_term : Goal → Term
goal_term (OfLocal local) = Tree.Local local.slot
goal_term (OfNumber value) = Tree.Number value
goal_term (OfPlace place) = Tree.Cell place
goal_term OfNothing = Tree.Number (pos 0)

-- ---- expressions

abbrev mutual
  -- a literal is wrapped to 64 bits
  pub term : Expression → ClassScope → Names Local → Term
  term (Whole line n) w locals = Tree.Number (wrap Long (pos n))
  term (Truth line b) w locals = Tree.Number (number_of b)
  term (Named p) w locals = goal_term (path_goal p w locals)
  term (Prefixed o e) w locals = Tree.Prefixed o (term e w locals)
  term (Chain e links) w locals = Tree.Chain (term e w locals) (link_terms links w locals)
  term (Choose choices) w locals = Tree.Choose (choice_terms choices w locals)

  pub link_terms : Links → ClassScope → Names Local → Tree.Links
  link_terms NoLink w locals = Tree.NoLink
  link_terms (Link o e rest) w locals = Tree.Link o (term e w locals) (link_terms rest w locals)

  pub choice_terms : Choices → ClassScope → Names Local → Tree.Choices
  choice_terms (Last e) w locals = Tree.Last (term e w locals)
  choice_terms (Choice test e rest) w locals =
      Tree.Choice (term test w locals) (term e w locals) (choice_terms rest w locals)

  pub path_goal : Path → ClassScope → Names Local → Goal
  path_goal (path line name parts) w locals =
      goal_of (named name w locals)
      (scalar_there (followed parts w (start_of (named name w locals))))
      (literal_count parts)
      (steps parts w locals (start_of (named name w locals)))

  -- the computed indexes of a path, from where it has come
  pub steps : Parts → ClassScope → Names Local → Option Spot → Steps
  steps NoPart w locals at = NoStep
  steps (Member line name rest) w locals at = steps rest w locals (to_member name w at)
  steps (Index e rest) w locals at =
      stepped (computed (literal_of e) (element_at at)) (term e w locals)
      (steps rest w locals (to_index (literal_of e) at))
