-- What holds of places in so many cells holds in more.
use Rattle.std.proofs.Common.{◌≡◌, ℕ, ◌+◌, ◌≤◌, true, false, ◌&&◌, nat_le, List, [], ◌∷◌, length, Option, Some, None, refl, arith}
use Rattle.std.proofs.lemmas.Bool.Decides.{nat_tests}
use Rattle.std.proofs.lemmas.Bool.{and_from, and_parts}
use Rattle.trick_lang.specs.Passes.{all_pass, branch_passes, change_passes, choice_passes, code_passes, first_passes, link_passes, place_passes, step_passes, term_passes}
use Rattle.trick_lang.specs.Tree.{Term, Number, Local, Cell, Prefixed, Chain, Choose, Links, NoLink, Link, Choices, Last, Choice, Spot, spot, Steps, NoStep, Step, Change, Set, Update, Increase, Decrease, Code, Empty, Declare, SetLocal, Assign, If, For, Run, Branches, NoElse, Else, Test}
use Rattle.trick_lang.specs.TreeOf.{code_list}
use Rattle.trick_lang.specs.Valid.{cells_test, lie_in, lies_in, object_stands, objects_stand, size_of}
use Rattle.trick_lang.specs.declared.object.Object.{Object}
use Rattle.trick_lang.specs.declared.tree.Block.{Block}

below : (n a b : ℕ) → a ≤ b → nat_le n a ≡ true → nat_le n b ≡ true
below n a b more h = grind (arith, nat_tests, h)

module _ (a b : ℕ) (more : a ≤ b) where
  module _ (size : ℕ) where
    lies : (p : Spot) → lies_in a size p ≡ true → lies_in b size p ≡ true
    lies (spot true first span offset literals steps) h = h
    lies (spot false first span offset literals steps) h = below (first + span) a b more h

    mutual
      term_more : (e : Term) → term_passes (cells_test a size) e ≡ true → term_passes (cells_test b size) e ≡ true
      term_more (Number n) h = refl
      term_more (Local slot) h = refl
      term_more (Cell place) h = place_more place h
      term_more (Prefixed o e) h = term_more e h
      term_more (Chain e links) h =
          let parts = and_parts (term_passes (cells_test a size) e) (link_passes (cells_test a size) links) h in
          and_from (term_passes (cells_test b size) e) (link_passes (cells_test b size) links) (term_more e parts.0) (link_more links parts.1)
      term_more (Choose choices) h = choice_more choices h

      link_more : (links : Links) → link_passes (cells_test a size) links ≡ true → link_passes (cells_test b size) links ≡ true
      link_more NoLink h = refl
      link_more (Link o e rest) h =
          let parts = and_parts (term_passes (cells_test a size) e) (link_passes (cells_test a size) rest) h in
          and_from (term_passes (cells_test b size) e) (link_passes (cells_test b size) rest) (term_more e parts.0) (link_more rest parts.1)

      choice_more : (choices : Choices) → choice_passes (cells_test a size) choices ≡ true → choice_passes (cells_test b size) choices ≡ true
      choice_more (Last e) h = term_more e h
      choice_more (Choice test e rest) h =
          let parts = and_parts (term_passes (cells_test a size) test) (term_passes (cells_test a size) e && choice_passes (cells_test a size) rest) h in
          let rests = and_parts (term_passes (cells_test a size) e) (choice_passes (cells_test a size) rest) parts.1 in
          and_from (term_passes (cells_test b size) test) (term_passes (cells_test b size) e && choice_passes (cells_test b size) rest) (term_more test parts.0)
          (and_from (term_passes (cells_test b size) e) (choice_passes (cells_test b size) rest) (term_more e rests.0) (choice_more rest rests.1))

      place_more : (p : Spot) → place_passes (cells_test a size) p ≡ true → place_passes (cells_test b size) p ≡ true
      place_more (spot own first span offset literals steps) h =
          let parts = and_parts (lies_in a size (spot own first span offset literals steps)) (step_passes (cells_test a size) steps) h in
          and_from (lies_in b size (spot own first span offset literals steps)) (step_passes (cells_test b size) steps)
          (lies (spot own first span offset literals steps) parts.0) (step_more steps parts.1)

      step_more : (steps : Steps) → step_passes (cells_test a size) steps ≡ true → step_passes (cells_test b size) steps ≡ true
      step_more NoStep h = refl
      step_more (Step length stride e rest) h =
          let parts = and_parts (term_passes (cells_test a size) e) (step_passes (cells_test a size) rest) h in
          and_from (term_passes (cells_test b size) e) (step_passes (cells_test b size) rest) (term_more e parts.0) (step_more rest parts.1)

    change_more : (c : Change) → change_passes (cells_test a size) c ≡ true → change_passes (cells_test b size) c ≡ true
    change_more (Set e) h = term_more e h
    change_more (Update o e) h = term_more e h
    change_more Increase h = refl
    change_more Decrease h = refl

    first_more : (e : Option Term) → first_passes (cells_test a size) e ≡ true → first_passes (cells_test b size) e ≡ true
    first_more None h = refl
    first_more (Some e) h = term_more e h

    branch_more : (bs : Branches) → branch_passes (cells_test a size) bs ≡ true → branch_passes (cells_test b size) bs ≡ true
    branch_more NoElse h = refl
    branch_more (Else block) h = refl
    branch_more (Test line test block rest) h =
        let parts = and_parts (term_passes (cells_test a size) test) (branch_passes (cells_test a size) rest) h in
        and_from (term_passes (cells_test b size) test) (branch_passes (cells_test b size) rest) (term_more test parts.0) (branch_more rest parts.1)

    code_more : (c : Code) → code_passes (cells_test a size) c ≡ true → code_passes (cells_test b size) c ≡ true
    code_more Empty h = refl
    code_more (Declare line slot scalar e) h = first_more e h
    code_more (SetLocal line slot scalar change) h = change_more change h
    code_more (Assign line place change) h =
        let parts = and_parts (place_passes (cells_test a size) place) (change_passes (cells_test a size) change) h in
        and_from (place_passes (cells_test b size) place) (change_passes (cells_test b size) change) (place_more place parts.0) (change_more change parts.1)
    code_more (If branches) h = branch_more branches h
    code_more (For slot from bound block) h = refl
    code_more (Run block) h = refl

    all_more : (cs : List Code) → all_pass (cells_test a size) cs ≡ true → all_pass (cells_test b size) cs ≡ true
    all_more [] h = refl
    all_more (c ∷ cs) h =
        let parts = and_parts (code_passes (cells_test a size) c) (all_pass (cells_test a size) cs) h in
        and_from (code_passes (cells_test b size) c) (all_pass (cells_test b size) cs) (code_more c parts.0) (all_more cs parts.1)

  pub lie_in_more : (sizes : List ℕ) (blocks : List Block) → lie_in a sizes blocks ≡ true → lie_in b sizes blocks ≡ true
  lie_in_more sizes [] h = refl
  lie_in_more sizes (x ∷ xs) h =
      let size = size_of sizes x.class in
      let parts = and_parts (all_pass (cells_test a size) (code_list x.statements)) (lie_in a sizes xs) h in
      and_from (all_pass (cells_test b size) (code_list x.statements)) (lie_in b sizes xs) (all_more size (code_list x.statements) parts.0) (lie_in_more sizes xs parts.1)

  pub objects_stand_more : (sizes : List ℕ) (objects : List Object) → objects_stand a sizes objects ≡ true → objects_stand b sizes objects ≡ true
  objects_stand_more sizes [] h = refl
  objects_stand_more sizes (x ∷ xs) h =
      let parts = and_parts (object_stands a sizes x) (objects_stand a sizes xs) h in
      and_from (object_stands b sizes x) (objects_stand b sizes xs) (below (x.first + size_of sizes x.class) a b more parts.0) (objects_stand_more sizes xs parts.1)
