-- What a condition says, and why it is refused.
use Rattle.std.specs.Prelude.{ℕ, pos, Bool, true, false, ◌&&◌, ◌||◌, not}
use Rattle.trick_check_blocks.specs.Places.{literal_count}
use Rattle.trick_plan_conditions.specs.Places.{Known, has_computed, referent_of}
use Rattle.trick_plan_conditions.specs.declared.place.Referent.{Referent}
use Rattle.trick_plan_conditions.specs.declared.place.Referent.TheVariants as stands_for
use Rattle.trick_lang.specs.Numbers.{number_of}
use Rattle.trick_lang.specs.SyntaxTree.{Expression, Whole, Truth, Named, Prefixed, Chain, Choose, Links, NoLink, Link, Choices, Last, Choice, Path, path, Parts, NoPart, Member, Index}
use Rattle.trick_lang.specs.Tree as Tree
use Rattle.trick_lang.specs.Tree.{Term, NoStep}
use Rattle.trick_lang.specs.Wrap.{wrap}
use Rattle.trick_lang.specs.declared.scalar.Scalar.TheVariants.{Long}
use Rattle.trick_model.specs.Condition.{is_safe}

-- ---- unknown names

-- the place stands for nothing
abbrev pub is_nothing : Referent → Bool
is_nothing (stands_for.Item value) = false
is_nothing (stands_for.Cell cell) = false
is_nothing stands_for.Computed = false
is_nothing stands_for.Nothing = true

-- Some place of a condition stands for nothing: of the condition itself or of an index in it.
abbrev mutual
  pub has_unknown : Known → Expression → Bool
  has_unknown known (Whole line n) = false
  has_unknown known (Truth line b) = false
  has_unknown known (Named p) = path_unknown known p
  has_unknown known (Prefixed o e) = has_unknown known e
  has_unknown known (Chain e links) = has_unknown known e || links_unknown known links
  has_unknown known (Choose choices) = choices_unknown known choices

  pub links_unknown : Known → Links → Bool
  links_unknown known NoLink = false
  links_unknown known (Link o e rest) = has_unknown known e || links_unknown known rest

  pub choices_unknown : Known → Choices → Bool
  choices_unknown known (Last e) = has_unknown known e
  choices_unknown known (Choice test e rest) =
      has_unknown known test || (has_unknown known e || choices_unknown known rest)

  pub path_unknown : Known → Path → Bool
  path_unknown known (path line name parts) = is_nothing (referent_of known name parts) || parts_unknown known parts

  pub parts_unknown : Known → Parts → Bool
  parts_unknown known NoPart = false
  parts_unknown known (Member line name rest) = parts_unknown known rest
  parts_unknown known (Index e rest) = has_unknown known e || parts_unknown known rest

-- ---- what cannot fault

-- A condition is plain where it has no `/`, no `%` and literal indexes alone, so that it cannot fault.
abbrev mutual
  pub is_plain : Expression → Bool
  is_plain (Whole line n) = true
  is_plain (Truth line b) = true
  is_plain (Named p) = is_plain_path p
  is_plain (Prefixed o e) = is_plain e
  is_plain (Chain e links) = is_plain e && are_plain_links links
  is_plain (Choose choices) = are_plain_choices choices

  pub are_plain_links : Links → Bool
  are_plain_links NoLink = true
  are_plain_links (Link o e rest) = is_safe o && (is_plain e && are_plain_links rest)

  pub are_plain_choices : Choices → Bool
  are_plain_choices (Last e) = is_plain e
  are_plain_choices (Choice test e rest) = is_plain test && (is_plain e && are_plain_choices rest)

  pub is_plain_path : Path → Bool
  is_plain_path (path line name parts) = not (has_computed parts)

-- ---- what a condition says

-- what a place becomes that has so many literal indexes
abbrev pub referent_term : ℕ → Referent → Term
referent_term literals (stands_for.Item value) = Tree.Number value
referent_term literals (stands_for.Cell cell) = Tree.Cell (Tree.spot false cell.0 1 0 literals NoStep)
referent_term literals stands_for.Computed = Tree.Number (pos 0)
referent_term literals stands_for.Nothing = Tree.Number (pos 0)

abbrev pub path_term : Known → Path → Term
path_term known (path line name parts) = referent_term (literal_count parts) (referent_of known name parts)

-- The condition with its names resolved. This is said of every condition; of one that is refused it
-- does not matter.
abbrev mutual
  pub term : Known → Expression → Term
  -- a literal is wrapped to 64 bits
  term known (Whole line n) = Tree.Number (wrap Long (pos n))
  term known (Truth line b) = Tree.Number (number_of b)
  term known (Named p) = path_term known p
  term known (Prefixed o e) = Tree.Prefixed o (term known e)
  term known (Chain e links) = Tree.Chain (term known e) (link_terms known links)
  term known (Choose choices) = Tree.Choose (choice_terms known choices)

  pub link_terms : Known → Links → Tree.Links
  link_terms known NoLink = Tree.NoLink
  link_terms known (Link o e rest) = Tree.Link o (term known e) (link_terms known rest)

  pub choice_terms : Known → Choices → Tree.Choices
  choice_terms known (Last e) = Tree.Last (term known e)
  choice_terms known (Choice test e rest) = Tree.Choice (term known test) (term known e) (choice_terms known rest)
