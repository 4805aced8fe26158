use Rattle.std.proofs.Common.{◌≡◌, ◌+◌, ◌∙◌, drop, subst, ap}
use Rattle.trick_lang.specs.Syntax.{class_parts_of}
use Rattle.trick_check_names.proofs.Definitions.{parts_next}
use Rattle.trick_check_names.proofs.class.read_class.Goals as goal
use Rattle.trick_check_names.specs.Tables.{behind_parts, nothing_inside}

pub loop-number-preserved : goal.loop-number-preserved
loop-number-preserved c =
    let names = c.args.names.now in
    let xs = c.args.parts.now in
    let i = c.loop-number.number in
    let next = parts_next xs i c.index-parts-number.result c.loop-number-test.true c.index-parts-number.is in
    let was = subst (λ q. behind_parts q i names c.loop-number.inside ≡ behind_parts (class_parts_of xs) 0 names nothing_inside) next c.loop-number.invariant in
    ap (behind_parts (class_parts_of (drop (i + 1) xs)) (i + 1) names) c.in_ok-add_part.ensures.inside ∙ was
