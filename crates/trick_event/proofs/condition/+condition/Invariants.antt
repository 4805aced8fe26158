use Rattle.std.proofs.Common.{◌≡◌, ◌+◌, ◌≤◌, IsTrue, drop, length}
use Rattle.trick_access.proofs.Weights.{choice_weight, link_weight, term_weight}
use Rattle.trick_event.proofs.condition.+condition.Given as goal
use Rattle.trick_event.specs.Condition.{sight_of}
use Rattle.trick_lang.specs.TreeOf.{choices_of_list, links_of_list, term_of}
use Rattle.trick_lang.specs.Value.{chosen, linked}
use Rattle.trick_model.specs.Condition.{are_all_conditions, are_conditions}

abbrev pub decreases-number_of : goal.decreases-number_of
decreases-number_of g l = term_weight (term_of l.condition.now)

abbrev pub decreases-chain : goal.decreases-chain
decreases-chain g l = link_weight (links_of_list l.links.now)

abbrev pub decreases-join : goal.decreases-join
decreases-join g l = term_weight (term_of l.operand.now) + 1

abbrev pub decreases-choose : goal.decreases-choose
decreases-choose g l = choice_weight (choices_of_list l.choices.now (term_of l.last.now))

-- what is left makes of the number so far what all links make of the first one
abbrev pub invariant-chain-loop-link : goal.invariant-chain-loop-link
invariant-chain-loop-link g l =
    let memory = g.M.Cells.numbers l.memory in
    let rest = links_of_list (drop l.link-index l.links) in
    record {
      told : linked rest l.x (sight_of memory) ≡ linked (links_of_list l.links) l.first (sight_of memory);
      fits : IsTrue (are_conditions (length memory) rest);
      weighs : link_weight rest ≤ link_weight (links_of_list l.links);
    }

-- what is left chooses what all choose
abbrev pub invariant-choose-loop-choice : goal.invariant-choose-loop-choice
invariant-choose-loop-choice g l =
    let memory = g.M.Cells.numbers l.memory in
    let rest = choices_of_list (drop l.choice-index l.choices) (term_of l.last) in
    record {
      told : chosen rest (sight_of memory) ≡ chosen (choices_of_list l.choices (term_of l.last)) (sight_of memory);
      fits : IsTrue (are_all_conditions (length memory) rest);
      weighs : choice_weight rest ≤ choice_weight (choices_of_list l.choices (term_of l.last));
    }
