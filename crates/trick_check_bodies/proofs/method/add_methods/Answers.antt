use Rattle.std.proofs.Common.{◌≡◌, ◌+◌, ◌++◌, drop, subst}
use Rattle.trick_check_bodies.proofs.Rows.{appended, parts_next}
use Rattle.trick_check_bodies.proofs.method.add_methods.Goals as goal
use Rattle.trick_check_bodies.specs.Methods.{class_methods, part_methods}
use Rattle.trick_lang.specs.Syntax.{class_part_of, class_parts_of}

pub loop-part-preserved : goal.loop-part-preserved
loop-part-preserved c =
    let xs = c.args.parts.now in
    let i = c.loop-part.part-index in
    let item = c.part-item.result in
    let class = c.args.class in
    let blocks = c.args.blocks.now in
    let all = c.args.methods.now ++ class_methods class blocks (class_parts_of xs) in
    let was = subst (λ q. c.loop-part.methods ++ class_methods class blocks q ≡ all) (parts_next xs i item c.loop-part-test.true c.part-item.is) c.loop-part.invariant in
    appended c.loop-part.methods (part_methods class blocks (class_part_of item)) (class_methods class blocks (class_parts_of (drop (i + 1) xs))) all _ was c.in_ok-add_part.ensures
