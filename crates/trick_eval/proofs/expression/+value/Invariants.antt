use Rattle.std.proofs.Common.{◌≡◌, ◌+◌, ◌^◌, ◌<◌, ◌≤◌, IsTrue, drop}
use Rattle.trick_access.proofs.Weights.{term_weight, link_weight, choice_weight, spot_weight, step_weight}
use Rattle.trick_eval.proofs.expression.+value.Given as goal
use Rattle.trick_eval.specs.Evaluation.{seen}
use Rattle.trick_lang.specs.TreeOf.{choices_of_list, links_of_list, spot_of, steps_of_list, term_of}
use Rattle.trick_lang.specs.Passes.{choice_passes, link_passes, step_passes}
use Rattle.trick_lang.specs.Valid.{span_test, reach}
use Rattle.trick_lang.specs.Value.{cell_of, chosen, led, linked}

abbrev pub decreases-value_of : goal.decreases-value_of
decreases-value_of l = term_weight (term_of l.expression.now)

abbrev pub decreases-chain : goal.decreases-chain
decreases-chain l = link_weight (links_of_list l.links.now)

abbrev pub decreases-join : goal.decreases-join
decreases-join l = term_weight (term_of l.operand.now) + 1

abbrev pub decreases-choose : goal.decreases-choose
decreases-choose l = choice_weight (choices_of_list l.choices.now (term_of l.last.now))

abbrev pub decreases-find : goal.decreases-find
decreases-find l = spot_weight (spot_of l.place.now)

-- what is left makes of the number so far what all links make of the first one
abbrev pub invariant-chain-loop-link : goal.invariant-chain-loop-link
invariant-chain-loop-link l =
    let sight = seen l.base l.memory l.working in
    let rest = links_of_list (drop l.link-index l.links) in
    record {
      told : linked rest l.x sight ≡ linked (links_of_list l.links) l.first sight;
      fits : IsTrue (link_passes span_test rest);
      weighs : link_weight rest ≤ link_weight (links_of_list l.links);
    }

-- what is left chooses what all choose
abbrev pub invariant-choose-loop-choice : goal.invariant-choose-loop-choice
invariant-choose-loop-choice l =
    let sight = seen l.base l.memory l.working in
    let rest = choices_of_list (drop l.choice-index l.choices) (term_of l.last) in
    record {
      told : chosen rest sight ≡ chosen (choices_of_list l.choices (term_of l.last)) sight;
      fits : IsTrue (choice_passes span_test rest);
      weighs : choice_weight rest ≤ choice_weight (choices_of_list l.choices (term_of l.last));
    }

-- what is left leads from here to where all lead from the start
abbrev pub invariant-find-loop-index : goal.invariant-find-loop-index
invariant-find-loop-index l =
    let sight = seen l.base l.memory l.working in
    let rest = steps_of_list (drop l.index-index l.index-items) in
    record {
      told : led rest sight l.at ≡ cell_of (spot_of l.place) sight;
      fits : IsTrue (step_passes span_test rest);
      room : l.at + reach rest < 2 ^ 35;
      weighs : step_weight rest < spot_weight (spot_of l.place);
    }
