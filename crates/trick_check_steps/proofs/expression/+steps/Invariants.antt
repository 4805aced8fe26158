use Rattle.std.proofs.Common.{◌≡◌, ◌+◌, ◌≤◌, ◌<◌, ◌^◌, drop}
use Rattle.trick_access.proofs.Weights.{term_weight, link_weight, choice_weight, spot_weight, step_weight}
use Rattle.trick_base.specs.Capped.{capped}
use Rattle.trick_lang.specs.Count.{choice_steps, computed_steps, index_steps, link_steps}
use Rattle.trick_lang.specs.TreeOf.{choices_of_list, links_of_list, spot_of, steps_of_list, term_of}
use Rattle.trick_check_steps.proofs.expression.+steps.Given as goal

abbrev pub decreases-expression_steps : goal.decreases-expression_steps
decreases-expression_steps l = term_weight (term_of l.expression.now)

abbrev pub decreases-link_steps : goal.decreases-link_steps
decreases-link_steps l = link_weight (links_of_list l.links.now)

abbrev pub decreases-choice_steps : goal.decreases-choice_steps
decreases-choice_steps l = choice_weight (choices_of_list l.choices.now (term_of l.last.now))

abbrev pub decreases-index_steps : goal.decreases-index_steps
decreases-index_steps l = spot_weight (spot_of l.place.now)

-- what is counted and what is left are all
abbrev pub invariant-link_steps-loop-link : goal.invariant-link_steps-loop-link
invariant-link_steps-loop-link l =
    let rest = links_of_list (drop l.link-index l.links) in
    record {
      told : capped (l.total + link_steps rest) ≡ capped (link_steps (links_of_list l.links));
      small : l.total < 2 ^ 64;
      weighs : link_weight rest ≤ link_weight (links_of_list l.links);
    }

abbrev pub invariant-choice_steps-loop-choice : goal.invariant-choice_steps-loop-choice
invariant-choice_steps-loop-choice l =
    let rest = choices_of_list (drop l.choice-index l.choices) (term_of l.last) in
    record {
      told : capped (l.total + choice_steps rest) ≡ capped (choice_steps (choices_of_list l.choices (term_of l.last)));
      small : l.total < 2 ^ 64;
      weighs : choice_weight rest ≤ choice_weight (choices_of_list l.choices (term_of l.last));
    }

abbrev pub invariant-index_steps-loop-index : goal.invariant-index_steps-loop-index
invariant-index_steps-loop-index l =
    let rest = steps_of_list (drop l.index-index l.index-items) in
    record {
      told : capped (l.total + computed_steps rest) ≡ capped (index_steps (spot_of l.place));
      small : l.total < 2 ^ 64;
      weighs : step_weight rest < spot_weight (spot_of l.place);
    }
