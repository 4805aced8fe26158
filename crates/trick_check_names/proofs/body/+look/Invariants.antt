use Rattle.std.proofs.Common.{◌≡◌, ◌+◌, ◌≤◌, drop, ◌∷◌, []}
use Rattle.trick_lang.specs.Syntax.{choices_of_list, expression_of, links_of_list, parts_of_list, path_of}
use Rattle.trick_check_names.proofs.Weights.{expression_weight, link_weight, choice_weight, path_weight, part_weight}
use Rattle.trick_check_names.proofs.body.+look.Given as goal
use Rattle.trick_check_names.specs.BodyMistakes.{choice_mistakes, link_mistakes, part_mistakes}
use Rattle.trick_check_names.specs.Mistakes.{noted}

abbrev pub decreases-look_expression : goal.decreases-look_expression
decreases-look_expression l = expression_weight (expression_of l.e.now)

abbrev pub decreases-look_links : goal.decreases-look_links
decreases-look_links l = 1 + link_weight (links_of_list l.links.now)

abbrev pub decreases-look_choices : goal.decreases-look_choices
decreases-look_choices l = 1 + choice_weight (choices_of_list l.choices.now (expression_of l.last.now))

abbrev pub decreases-look_path : goal.decreases-look_path
decreases-look_path l = 2 + path_weight (path_of l.path.now)

abbrev pub decreases-look_parts : goal.decreases-look_parts
decreases-look_parts l = 1 + part_weight (parts_of_list l.parts.now)

abbrev pub decreases-look_part : goal.decreases-look_part
decreases-look_part l = part_weight (parts_of_list (l.part.now ∷ []))

-- what is left finds from here what all find from the start
abbrev pub invariant-look_links-loop-link : goal.invariant-look_links-loop-link
invariant-look_links-loop-link l =
    let rest = links_of_list (drop l.link-index l.links) in
    record {
      told : noted (link_mistakes rest l.scope l.locals) l.found ≡ noted (link_mistakes (links_of_list l.links) l.scope l.locals) l.fn.found;
      weighs : link_weight rest ≤ link_weight (links_of_list l.links);
    }

abbrev pub invariant-look_choices-loop-choice : goal.invariant-look_choices-loop-choice
invariant-look_choices-loop-choice l =
    let rest = choices_of_list (drop l.choice-index l.choices) (expression_of l.last) in
    let all = choices_of_list l.choices (expression_of l.last) in
    record {
      told : noted (choice_mistakes rest l.scope l.locals) l.found ≡ noted (choice_mistakes all l.scope l.locals) l.fn.found;
      weighs : choice_weight rest ≤ choice_weight all;
    }

abbrev pub invariant-look_parts-loop-part : goal.invariant-look_parts-loop-part
invariant-look_parts-loop-part l =
    let rest = parts_of_list (drop l.part-index l.parts) in
    record {
      told : noted (part_mistakes rest l.scope l.locals l.state) l.found ≡ noted (part_mistakes (parts_of_list l.parts) l.scope l.locals l.fn.from) l.fn.found;
      weighs : part_weight rest ≤ part_weight (parts_of_list l.parts);
    }
