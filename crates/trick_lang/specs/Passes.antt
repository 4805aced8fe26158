-- Tests of the leaves of a tree, and of the blocks that it runs.
use Rattle.std.specs.Prelude.{ℕ, Bool, true, ◌&&◌, List, [], ◌∷◌, Option, Some, None}
use Rattle.trick_lang.specs.Tree.{Term, Number, Local, Cell, Prefixed, Chain, Choose, Links, NoLink, Link, Choices, Last, Choice, Spot, spot, Steps, NoStep, Step, Change, Set, Update, Increase, Decrease, Code, Empty, Declare, SetLocal, Assign, If, For, Run, Branches, NoElse, Else, Test}

-- ---- every leaf of a tree passes a test

-- a test of the local variables of a tree, by slot, and one of its places
pub record Leaves : Type 0 where
  pub local : ℕ → Bool
  pub place : Spot → Bool

abbrev mutual
  pub term_passes : Leaves → Term → Bool
  term_passes p (Number n) = true
  term_passes p (Local slot) = p.local slot
  term_passes p (Cell place) = place_passes p place
  term_passes p (Prefixed o e) = term_passes p e
  term_passes p (Chain e links) = term_passes p e && link_passes p links
  term_passes p (Choose choices) = choice_passes p choices

  pub link_passes : Leaves → Links → Bool
  link_passes p NoLink = true
  link_passes p (Link o e rest) = term_passes p e && link_passes p rest

  pub choice_passes : Leaves → Choices → Bool
  choice_passes p (Last e) = term_passes p e
  choice_passes p (Choice test e rest) = term_passes p test && (term_passes p e && choice_passes p rest)

  -- the place itself and those in its indexes
  pub place_passes : Leaves → Spot → Bool
  place_passes p (spot own first span offset literals steps) =
      p.place (spot own first span offset literals steps) && step_passes p steps

  pub step_passes : Leaves → Steps → Bool
  step_passes p NoStep = true
  step_passes p (Step length stride e rest) = term_passes p e && step_passes p rest

abbrev pub change_passes : Leaves → Change → Bool
change_passes p (Set e) = term_passes p e
change_passes p (Update o e) = term_passes p e
change_passes p Increase = true
change_passes p Decrease = true

abbrev pub first_passes : Leaves → Option Term → Bool
first_passes p None = true
first_passes p (Some e) = term_passes p e

abbrev pub branch_passes : Leaves → Branches → Bool
branch_passes p NoElse = true
branch_passes p (Else block) = true
branch_passes p (Test line test block rest) = term_passes p test && branch_passes p rest

abbrev pub code_passes : Leaves → Code → Bool
code_passes p Empty = true
code_passes p (Declare line slot scalar e) = first_passes p e
code_passes p (SetLocal line slot scalar change) = change_passes p change
code_passes p (Assign line place change) = place_passes p place && change_passes p change
code_passes p (If branches) = branch_passes p branches
code_passes p (For slot from bound block) = true
code_passes p (Run block) = true

abbrev pub all_pass : Leaves → List Code → Bool
all_pass p [] = true
all_pass p (first ∷ rest) = code_passes p first && all_pass p rest

-- ---- every block that a tree runs passes a test

abbrev pub branch_blocks : (ℕ → Bool) → Branches → Bool
branch_blocks p NoElse = true
branch_blocks p (Else block) = p block
branch_blocks p (Test line test block rest) = p block && branch_blocks p rest

abbrev pub code_blocks : (ℕ → Bool) → Code → Bool
code_blocks p Empty = true
code_blocks p (Declare line slot scalar e) = true
code_blocks p (SetLocal line slot scalar change) = true
code_blocks p (Assign line place change) = true
code_blocks p (If branches) = branch_blocks p branches
code_blocks p (For slot from bound block) = p block
code_blocks p (Run block) = p block

abbrev pub all_blocks : (ℕ → Bool) → List Code → Bool
all_blocks p [] = true
all_blocks p (first ∷ rest) = code_blocks p first && all_blocks p rest
