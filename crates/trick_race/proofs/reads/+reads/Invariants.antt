use Rattle.std.proofs.Common.{◌≡◌, ◌≤◌, ◌<◌, drop}
use Rattle.trick_access.proofs.Weights.{term_weight, link_weight, choice_weight, spot_weight, step_weight}
use Rattle.trick_lang.specs.Access.{choice_reads, index_reads, link_reads, step_reads}
use Rattle.trick_lang.specs.TreeOf.{choices_of_list, links_of_list, spot_of, steps_of_list, term_of}
use Rattle.trick_race.specs.Accesses.{has_some}
use Rattle.trick_race.proofs.reads.+reads.Given as goal

abbrev pub decreases-reads_some : goal.decreases-reads_some
decreases-reads_some l = term_weight (term_of l.expression.now)

abbrev pub decreases-links_read_some : goal.decreases-links_read_some
decreases-links_read_some l = link_weight (links_of_list l.links.now)

abbrev pub decreases-choices_read_some : goal.decreases-choices_read_some
decreases-choices_read_some l = choice_weight (choices_of_list l.choices.now (term_of l.last.now))

abbrev pub decreases-indexes_read_some : goal.decreases-indexes_read_some
decreases-indexes_read_some l = spot_weight (spot_of l.place.now)

-- what is left decides
abbrev pub invariant-links_read_some-loop-link : goal.invariant-links_read_some-loop-link
invariant-links_read_some-loop-link l =
    let rest = links_of_list (drop l.link-index l.links) in
    record {
      told : has_some l.set (link_reads rest 0) ≡ has_some l.set (link_reads (links_of_list l.links) 0);
      weighs : link_weight rest ≤ link_weight (links_of_list l.links);
    }

abbrev pub invariant-choices_read_some-loop-choice : goal.invariant-choices_read_some-loop-choice
invariant-choices_read_some-loop-choice l =
    let rest = choices_of_list (drop l.choice-index l.choices) (term_of l.last) in
    record {
      told : has_some l.set (choice_reads rest 0) ≡ has_some l.set
          (choice_reads (choices_of_list l.choices (term_of l.last)) 0);
      weighs : choice_weight rest ≤ choice_weight (choices_of_list l.choices (term_of l.last));
    }

abbrev pub invariant-indexes_read_some-loop-index : goal.invariant-indexes_read_some-loop-index
invariant-indexes_read_some-loop-index l =
    let rest = steps_of_list (drop l.index-index l.index-items) in
    record {
      told : has_some l.set (step_reads rest 0) ≡ has_some l.set (index_reads (spot_of l.place) 0);
      weighs : step_weight rest < spot_weight (spot_of l.place);
    }
