use Rattle.std.proofs.Common.{◌≡◌, ◌+◌, ap, drop, sym, ◌∙◌}
use Rattle.trick_base.proofs.Truths.{if_false, if_true}
use Rattle.trick_check_bodies.proofs.Rows.{parts_next}
use Rattle.trick_check_bodies.proofs.line.class_lines.Goals as goal
use Rattle.trick_check_bodies.specs.Jobs.{class_lines, is_constructor, part_lines}
use Rattle.trick_lang.specs.Syntax.{class_part_of, class_parts_of}

pub loop-part-preserved : goal.loop-part-preserved
loop-part-preserved c =
    let xs = c.args.parts.now in
    let i = c.loop-part.part-index in
    let item = c.part-item.result in
    let next = ap class_lines (parts_next xs i item c.loop-part-test.true c.part-item.is) in
    let not = if_false (is_constructor (class_part_of item)) (part_lines (class_part_of item)) (class_lines (class_parts_of (drop (i + 1) xs))) (sym c.is_constructor.ensures ∙ c.if-is_constructor.false) in
    sym not ∙ (sym next ∙ c.loop-part.invariant)
