use Rattle.std.proofs.Common.{◌≡◌, ◌+◌, ◌≤◌, drop}
use Rattle.trick_check_blocks.proofs.Build.{choices_weight}
use Rattle.trick_check_blocks.proofs.Weights.{expression_weight, link_weight}
use Rattle.trick_plan_conditions.proofs.plain.+plain.Given as goal
use Rattle.trick_plan_conditions.specs.Conditions.{are_plain_choices, are_plain_links}
use Rattle.trick_lang.specs.Syntax.{choices_of_list, expression_of, links_of_list}
use Rattle.trick_lang.specs.SyntaxTree.{Expression}

abbrev pub decreases-is_plain : goal.decreases-is_plain
decreases-is_plain l = expression_weight (expression_of l.e.now)

abbrev pub decreases-are_plain_links : goal.decreases-are_plain_links
decreases-are_plain_links l = 1 + link_weight (links_of_list l.links.now)

abbrev pub decreases-are_plain_choices : goal.decreases-are_plain_choices
decreases-are_plain_choices l = 1 + choices_weight l.choices.now

abbrev pub invariant-are_plain_links-loop-link : goal.invariant-are_plain_links-loop-link
invariant-are_plain_links-loop-link l =
    let rest = links_of_list (drop l.link-index l.links) in
    record {
      plain : are_plain_links rest ≡ are_plain_links (links_of_list l.links);
      weighs : link_weight rest ≤ link_weight (links_of_list l.links);
    }

abbrev pub invariant-are_plain_choices-loop-choice : goal.invariant-are_plain_choices-loop-choice
invariant-are_plain_choices-loop-choice l =
    let rest = drop l.choice-index l.choices in
    record {
      plain : (last : Expression) → are_plain_choices (choices_of_list rest last) ≡ are_plain_choices (choices_of_list l.choices last);
      weighs : choices_weight rest ≤ choices_weight l.choices;
    }
