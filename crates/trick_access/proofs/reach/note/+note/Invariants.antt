use Rattle.std.proofs.Common.{◌≡◌, ◌≤◌, ◌<◌, drop}
use Rattle.trick_access.proofs.Weights.{term_weight, link_weight, choice_weight, spot_weight, step_weight}
use Rattle.trick_access.proofs.reach.note.+note.Given as goal
use Rattle.trick_lang.specs.Access.{choice_reads, index_reads, link_reads, step_reads}
use Rattle.trick_access.specs.Reached.{noted}
use Rattle.trick_lang.specs.TreeOf.{choices_of_list, links_of_list, spot_of, steps_of_list, term_of}

abbrev pub decreases-note_expression : goal.decreases-note_expression
decreases-note_expression l = term_weight (term_of l.expression.now)

abbrev pub decreases-note_links : goal.decreases-note_links
decreases-note_links l = link_weight (links_of_list l.links.now)

abbrev pub decreases-note_choices : goal.decreases-note_choices
decreases-note_choices l = choice_weight (choices_of_list l.choices.now (term_of l.last.now))

abbrev pub decreases-note_indexes : goal.decreases-note_indexes
decreases-note_indexes l = spot_weight (spot_of l.place.now)

-- what is left is still to be noted
abbrev pub invariant-note_links-loop-link : goal.invariant-note_links-loop-link
invariant-note_links-loop-link l =
    let rest = links_of_list (drop l.link-index l.links) in
    record {
      told : noted (link_reads rest l.base) l.ends ≡ noted (link_reads (links_of_list l.links) l.base) l.fn.ends;
      weighs : link_weight rest ≤ link_weight (links_of_list l.links);
    }

abbrev pub invariant-note_choices-loop-choice : goal.invariant-note_choices-loop-choice
invariant-note_choices-loop-choice l =
    let rest = choices_of_list (drop l.choice-index l.choices) (term_of l.last) in
    record {
      told : noted (choice_reads rest l.base) l.ends ≡ noted (choice_reads (choices_of_list l.choices (term_of l.last)) l.base) l.fn.ends;
      weighs : choice_weight rest ≤ choice_weight (choices_of_list l.choices (term_of l.last));
    }

abbrev pub invariant-note_indexes-loop-index : goal.invariant-note_indexes-loop-index
invariant-note_indexes-loop-index l =
    let rest = steps_of_list (drop l.index-index l.index-items) in
    record {
      told : noted (step_reads rest l.base) l.ends ≡ noted (index_reads (spot_of l.place) l.base) l.fn.ends;
      weighs : step_weight rest < spot_weight (spot_of l.place);
    }
