use Rattle.std.proofs.Common.{◌≡◌, ◌+◌, [], drop, subst, sym, ◌∙◌}
use Rattle.trick_check_bodies.proofs.Rows.{parts_next}
use Rattle.trick_check_bodies.proofs.method.numbers.Goals as goal
use Rattle.trick_check_bodies.specs.Methods.{with_numbers}
use Rattle.trick_lang.specs.Syntax.{class_parts_of}

pub loop-part-preserved : goal.loop-part-preserved
loop-part-preserved c =
    let xs = c.args.parts.now in
    let i = c.loop-part.part-index in
    let was = subst (λ q. with_numbers c.loop-part.next q c.loop-part.numbers ≡ with_numbers c.args.first (class_parts_of xs) []) (parts_next xs i c.part-item.result c.loop-part-test.true c.part-item.is) c.loop-part.invariant in
    sym (c.in_ok-next.ensures (class_parts_of (drop (i + 1) xs))) ∙ was
