use Rattle.std.proofs.Common.{◌≡◌, ◌+◌, ◌≤◌, drop}
use Rattle.trick_check_blocks.proofs.Build.{choices_after, choices_weight, links_after}
use Rattle.trick_check_blocks.proofs.Weights.{expression_weight, link_weight, part_weight}
use Rattle.trick_plan_conditions.proofs.term.+terms.Given as goal
use Rattle.trick_plan_conditions.specs.Conditions.{choice_terms, choices_unknown, link_terms, links_unknown, parts_unknown}
use Rattle.trick_plan_conditions.specs.Held.{known_by}
use Rattle.trick_lang.specs.Syntax as text
use Rattle.trick_lang.specs.SyntaxTree.{Expression}

abbrev pub decreases-resolve : goal.decreases-resolve
decreases-resolve l = expression_weight (text.expression_of l.e.now)

abbrev pub decreases-resolve_links : goal.decreases-resolve_links
decreases-resolve_links l = 1 + link_weight (text.links_of_list l.links.now)

abbrev pub decreases-resolve_choices : goal.decreases-resolve_choices
decreases-resolve_choices l = 1 + choices_weight l.choices.now

abbrev pub decreases-check_parts : goal.decreases-check_parts
decreases-check_parts l = 1 + part_weight (text.parts_of_list l.parts.now)

-- what there is, and then what the rest becomes, is what all become
abbrev pub invariant-resolve_links-loop-link : goal.invariant-resolve_links-loop-link
invariant-resolve_links-loop-link l =
    let known = known_by l.items l.cells in
    let rest = text.links_of_list (drop l.link-index l.links) in
    let all = text.links_of_list l.links in
    record {
      made : links_after l.out.items (link_terms known rest) ≡ link_terms known all;
      unknown : links_unknown known rest ≡ links_unknown known all;
      weighs : link_weight rest ≤ link_weight all;
    }

abbrev pub invariant-resolve_choices-loop-choice : goal.invariant-resolve_choices-loop-choice
invariant-resolve_choices-loop-choice l =
    let known = known_by l.items l.cells in
    let rest = drop l.choice-index l.choices in
    record {
      made : (last : Expression) → choices_after l.out.items (choice_terms known (text.choices_of_list rest last)) ≡ choice_terms known (text.choices_of_list l.choices last);
      unknown : (last : Expression) → choices_unknown known (text.choices_of_list rest last) ≡ choices_unknown known (text.choices_of_list l.choices last);
      weighs : choices_weight rest ≤ choices_weight l.choices;
    }

abbrev pub invariant-check_parts-loop-part : goal.invariant-check_parts-loop-part
invariant-check_parts-loop-part l =
    let known = known_by l.items l.cells in
    let rest = text.parts_of_list (drop l.part-index l.parts) in
    record {
      unknown : parts_unknown known rest ≡ parts_unknown known (text.parts_of_list l.parts);
      weighs : part_weight rest ≤ part_weight (text.parts_of_list l.parts);
    }
