use Rattle.std.proofs.Common.{◌≡◌, ◌+◌, ◌≤◌, drop, Some, ◌∷◌, []}
use Rattle.trick_lang.specs.Syntax as text
use Rattle.trick_lang.specs.TreeOf as tree
use Rattle.trick_lang.specs.SyntaxTree.{Expression}
use Rattle.trick_check_blocks.proofs.Build.{links_after, choices_after, choices_weight}
use Rattle.trick_check_blocks.proofs.Weights.{expression_weight, link_weight, path_weight, part_weight}
use Rattle.trick_check_blocks.proofs.term.+terms.Given as goal
use Rattle.trick_check_blocks.specs.Terms.{added_steps, choice_terms, link_terms, steps}
use Rattle.trick_check_blocks.specs.Room.{Fits}

abbrev pub decreases-resolve_expression : goal.decreases-resolve_expression
decreases-resolve_expression l = expression_weight (text.expression_of l.e.now)

abbrev pub decreases-resolve_links : goal.decreases-resolve_links
decreases-resolve_links l = 1 + link_weight (text.links_of_list l.links.now)

abbrev pub decreases-resolve_choices : goal.decreases-resolve_choices
decreases-resolve_choices l = 1 + choices_weight l.choices.now

abbrev pub decreases-resolve_path : goal.decreases-resolve_path
decreases-resolve_path l = 2 + path_weight (text.path_of l.path.now)

abbrev pub decreases-resolve_place : goal.decreases-resolve_place
decreases-resolve_place l = 2 + part_weight (text.parts_of_list l.parts.now)

abbrev pub decreases-resolve_steps : goal.decreases-resolve_steps
decreases-resolve_steps l = 1 + part_weight (text.parts_of_list l.parts.now)

abbrev pub decreases-resolve_step : goal.decreases-resolve_step
decreases-resolve_step l = part_weight (text.parts_of_list (l.part.now ∷ []))

-- what there is, and then what the rest becomes, is what all become
abbrev pub invariant-resolve_links-loop-link : goal.invariant-resolve_links-loop-link
invariant-resolve_links-loop-link l =
    let rest = text.links_of_list (drop l.link-index l.links) in
    record {
      made : links_after l.out.items (link_terms rest l.scope l.locals) ≡ link_terms (text.links_of_list l.links) l.scope l.locals;
      weighs : link_weight rest ≤ link_weight (text.links_of_list l.links);
    }

abbrev pub invariant-resolve_choices-loop-choice : goal.invariant-resolve_choices-loop-choice
invariant-resolve_choices-loop-choice l =
    let rest = drop l.choice-index l.choices in
    record {
      made : (last : Expression) → choices_after l.out.items (choice_terms (text.choices_of_list rest last) l.scope l.locals) ≡ choice_terms (text.choices_of_list l.choices last) l.scope l.locals;
      weighs : choices_weight rest ≤ choices_weight l.choices;
    }

abbrev pub invariant-resolve_steps-loop-part : goal.invariant-resolve_steps-loop-part
invariant-resolve_steps-loop-part l =
    let rest = text.parts_of_list (drop l.part-index l.parts) in
    record {
      made : added_steps (tree.steps_of_list l.out.items) (steps rest l.scope l.locals l.at) ≡ steps (text.parts_of_list l.parts) l.scope l.locals (Some l.fn.from);
      fits : Fits l.scope l.at;
      weighs : part_weight rest ≤ part_weight (text.parts_of_list l.parts);
    }
