-- The tree of a condition as a list, from which the tree comes back. Proofs tell trees apart by it.
use Rattle.std.specs.Prelude.{◌≡◌, ℕ, ℤ, pos, Bool, List, [], ◌∷◌, refl}
use Rattle.std.proofs.Common.{◌∙◌, ap}
use Rattle.trick_lang.specs.Tree as tree
use Rattle.trick_lang.specs.Tree.{Term, Spot, spot, NoLink, NoStep}
use Rattle.trick_lang.specs.declared.operator.Operator.{Operator}
use Rattle.trick_lang.specs.declared.operator.Prefix.{Prefix}

-- ---- a tree as a list

-- a part of a tree, after the parts in it
pub data Mark : Type 0 where
  Number : ℤ → Mark
  Local : ℕ → Mark
  Cell : Bool → ℕ → ℕ → ℕ → ℕ → Mark
  Prefixed : Prefix → Mark
  Chain : Mark
  Choose : Mark
  Links : Mark
  Link : Operator → Mark
  Last : Mark
  Choice : Mark
  Steps : Mark
  Step : ℕ → ℕ → Mark

-- the marks of a tree, in front of others
abbrev mutual
  pub marks : Term → List Mark → List Mark
  marks (tree.Number n) rest = Number n ∷ rest
  marks (tree.Local slot) rest = Local slot ∷ rest
  marks (tree.Cell place) rest = spot_marks place rest
  marks (tree.Prefixed o e) rest = marks e (Prefixed o ∷ rest)
  marks (tree.Chain e links) rest = marks e (link_marks links (Chain ∷ rest))
  marks (tree.Choose choices) rest = choice_marks choices (Choose ∷ rest)

  pub link_marks : tree.Links → List Mark → List Mark
  link_marks NoLink rest = Links ∷ rest
  link_marks (tree.Link o e links) rest = marks e (link_marks links (Link o ∷ rest))

  pub choice_marks : tree.Choices → List Mark → List Mark
  choice_marks (tree.Last e) rest = marks e (Last ∷ rest)
  choice_marks (tree.Choice test e choices) rest = marks test (marks e (choice_marks choices (Choice ∷ rest)))

  pub spot_marks : Spot → List Mark → List Mark
  spot_marks (spot own first span offset literals steps) rest =
      step_marks steps (Cell own first span offset literals ∷ rest)

  pub step_marks : tree.Steps → List Mark → List Mark
  step_marks NoStep rest = Steps ∷ rest
  step_marks (tree.Step length stride e steps) rest = marks e (step_marks steps (Step length stride ∷ rest))

-- ---- and back

-- a part that is whole
pub data Part : Type 0 where
  OfTerm : Term → Part
  OfLinks : tree.Links → Part
  OfChoices : tree.Choices → Part
  OfSteps : tree.Steps → Part

abbrev pub as_term : Part → Term
as_term (OfTerm e) = e
as_term (OfLinks links) = tree.Number (pos 0)
as_term (OfChoices choices) = tree.Number (pos 0)
as_term (OfSteps steps) = tree.Number (pos 0)

abbrev pub as_links : Part → tree.Links
as_links (OfTerm e) = NoLink
as_links (OfLinks links) = links
as_links (OfChoices choices) = NoLink
as_links (OfSteps steps) = NoLink

abbrev pub as_choices : Part → tree.Choices
as_choices (OfTerm e) = tree.Last e
as_choices (OfLinks links) = tree.Last (tree.Number (pos 0))
as_choices (OfChoices choices) = choices
as_choices (OfSteps steps) = tree.Last (tree.Number (pos 0))

abbrev pub as_steps : Part → tree.Steps
as_steps (OfTerm e) = NoStep
as_steps (OfLinks links) = NoStep
as_steps (OfChoices choices) = NoStep
as_steps (OfSteps steps) = steps

-- the last part, and those before it
abbrev pub top : List Part → Part
top [] = OfSteps NoStep
top (part ∷ parts) = part

abbrev pub below : List Part → List Part
below [] = []
below (part ∷ parts) = parts

-- a mark takes the parts before it
abbrev pub taken : Mark → List Part → List Part
taken (Number n) parts = OfTerm (tree.Number n) ∷ parts
taken (Local slot) parts = OfTerm (tree.Local slot) ∷ parts
taken (Cell own first span offset literals) parts =
    OfTerm (tree.Cell (spot own first span offset literals (as_steps (top parts)))) ∷ below parts
taken (Prefixed o) parts = OfTerm (tree.Prefixed o (as_term (top parts))) ∷ below parts
taken Chain parts = OfTerm (tree.Chain (as_term (top (below parts))) (as_links (top parts))) ∷ below (below parts)
taken Choose parts = OfTerm (tree.Choose (as_choices (top parts))) ∷ below parts
taken Links parts = OfLinks NoLink ∷ parts
taken (Link o) parts =
    OfLinks (tree.Link o (as_term (top (below parts))) (as_links (top parts))) ∷ below (below parts)
taken Last parts = OfChoices (tree.Last (as_term (top parts))) ∷ below parts
taken Choice parts =
    OfChoices (tree.Choice (as_term (top (below (below parts)))) (as_term (top (below parts))) (as_choices (top parts)))
    ∷ below (below (below parts))
taken Steps parts = OfSteps NoStep ∷ parts
taken (Step length stride) parts =
    OfSteps (tree.Step length stride (as_term (top (below parts))) (as_steps (top parts))) ∷ below (below parts)

abbrev pub all_taken : List Mark → List Part → List Part
all_taken [] parts = parts
all_taken (mark ∷ rest) parts = all_taken rest (taken mark parts)

-- the tree of its marks
abbrev pub unmarked : List Mark → Term
unmarked all = as_term (top (all_taken all []))

-- ---- the tree comes back

mutual
  term_back : (e : Term) (rest : List Mark) (parts : List Part)
      → all_taken (marks e rest) parts ≡ all_taken rest (OfTerm e ∷ parts)
  term_back (tree.Number n) rest parts = refl
  term_back (tree.Local slot) rest parts = refl
  term_back (tree.Cell place) rest parts = spot_back place rest parts
  term_back (tree.Prefixed o e) rest parts = term_back e (Prefixed o ∷ rest) parts
  term_back (tree.Chain e links) rest parts =
      term_back e (link_marks links (Chain ∷ rest)) parts ∙ links_back links (Chain ∷ rest) (OfTerm e ∷ parts)
  term_back (tree.Choose choices) rest parts = choices_back choices (Choose ∷ rest) parts

  links_back : (links : tree.Links) (rest : List Mark) (parts : List Part)
      → all_taken (link_marks links rest) parts ≡ all_taken rest (OfLinks links ∷ parts)
  links_back NoLink rest parts = refl
  links_back (tree.Link o e links) rest parts =
      term_back e (link_marks links (Link o ∷ rest)) parts ∙ links_back links (Link o ∷ rest) (OfTerm e ∷ parts)

  choices_back : (choices : tree.Choices) (rest : List Mark) (parts : List Part)
      → all_taken (choice_marks choices rest) parts ≡ all_taken rest (OfChoices choices ∷ parts)
  choices_back (tree.Last e) rest parts = term_back e (Last ∷ rest) parts
  choices_back (tree.Choice test e choices) rest parts =
      term_back test (marks e (choice_marks choices (Choice ∷ rest))) parts
      ∙ (term_back e (choice_marks choices (Choice ∷ rest)) (OfTerm test ∷ parts)
      ∙ choices_back choices (Choice ∷ rest) (OfTerm e ∷ (OfTerm test ∷ parts)))

  spot_back : (place : Spot) (rest : List Mark) (parts : List Part)
      → all_taken (spot_marks place rest) parts ≡ all_taken rest (OfTerm (tree.Cell place) ∷ parts)
  spot_back (spot own first span offset literals steps) rest parts =
      steps_back steps (Cell own first span offset literals ∷ rest) parts

  steps_back : (steps : tree.Steps) (rest : List Mark) (parts : List Part)
      → all_taken (step_marks steps rest) parts ≡ all_taken rest (OfSteps steps ∷ parts)
  steps_back NoStep rest parts = refl
  steps_back (tree.Step length stride e steps) rest parts =
      term_back e (step_marks steps (Step length stride ∷ rest)) parts
      ∙ steps_back steps (Step length stride ∷ rest) (OfTerm e ∷ parts)

pub unmarked_marks : (e : Term) → unmarked (marks e []) ≡ e
unmarked_marks e = ap (λ parts. as_term (top parts)) (term_back e [] [])
