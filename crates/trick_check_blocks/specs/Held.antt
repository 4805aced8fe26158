-- What a value of the code holds.
use Rattle.std.specs.Prelude.{List, [], ◌∷◌}
use Rattle.trick_check_blocks.specs.Bodies.{Body}
use Rattle.trick_check_blocks.specs.Terms.{Goal, OfLocal, OfNumber, OfPlace, OfNothing}
use Rattle.trick_check_blocks.specs.declared.term.Reached.{Reached}
use Rattle.trick_check_blocks.specs.declared.term.Reached.TheVariants as reached
use Rattle.trick_lang.specs.TreeOf.{code_list, spot_of}
use Rattle.trick_lang.specs.declared.tree.Block.{Block}

abbrev pub goal_held : Reached → Goal
goal_held (reached.Local local) = OfLocal local
goal_held (reached.Number value) = OfNumber value
goal_held (reached.Place place) = OfPlace (spot_of place)
goal_held reached.Nothing = OfNothing

abbrev pub bodies_of : List Block → List Body
bodies_of [] = []
bodies_of (b ∷ bs) = record { class = b.class; codes = code_list b.statements; deep = b.deep } ∷ bodies_of bs
