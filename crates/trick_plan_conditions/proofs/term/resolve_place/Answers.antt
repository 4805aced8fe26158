use Rattle.std.proofs.Common.{◌≡◌, ◌∙◌, false, [], List, ap, refl, sym}
use Rattle.trick_check_blocks.specs.Places.{literal_count}
use Rattle.trick_plan_conditions.proofs.term.resolve_place.Goals as goal
use Rattle.trick_plan_conditions.specs.Conditions.{is_nothing, referent_term}
use Rattle.trick_plan_conditions.specs.Held.{known_by}
use Rattle.trick_plan_conditions.specs.Places.{referent_of}
use Rattle.trick_plan_conditions.specs.declared.place.Referent.TheVariants as stands_for
use Rattle.trick_lang.proofs.TreeLists.{place_is}
use Rattle.trick_lang.specs.Syntax.{parts_of_list}
use Rattle.trick_lang.specs.Tree as Tree
use Rattle.trick_lang.specs.Tree.{spot}
use Rattle.trick_lang.specs.TreeOf.{steps_of_list}
use Rattle.trick_lang.specs.declared.syntax.expression.Part.{Part}
use Rattle.trick_lang.specs.declared.tree.Index.{Index}

pub returns-in-Cell : goal.returns-in-Cell
returns-in-Cell c =
    let known = known_by c.args.items.now c.args.cells.now in
    let parts = parts_of_list c.args.path.now.parts.items in
    let cell = c.in-Cell.cell in
    let found : referent_of known c.args.path.now.name parts ≡ stands_for.Cell cell = sym c.in_ok-value.ensures ∙ c.in-Cell.is in
    let count = c.literals.result in (
      ap is_nothing found,
      ap Tree.Cell (place_is false cell.0 1 0 count c.new.result)
          ∙ (ap (λ (is : List Index). Tree.Cell (spot false cell.0 1 0 count (steps_of_list is))) c.new.ensures.items
          ∙ (ap (λ n. referent_term n (stands_for.Cell cell)) (c.literals.ensures ∙ ap (λ (ps : List Part). literal_count (parts_of_list ps)) c.as_slice.ensures.value) ∙ ap (referent_term (literal_count parts)) (sym found))),
    )
