use Rattle.std.proofs.Common.{◌≡◌, OnOk, Some, ap, sym, ◌∙◌, subst}
use Rattle.trick_check_blocks.proofs.Rows.{part_past, part_in}
use Rattle.trick_check_blocks.proofs.method.resolve_part_at.Goals as goal
use Rattle.trick_check_blocks.specs.Held.{bodies_of}
use Rattle.trick_check_blocks.specs.Methods.{progress, with_part}
use Rattle.trick_lang.specs.Syntax.{class_part_of}

pub returns-then-number-parts : goal.returns-then-number-parts
returns-then-number-parts c =
    sym (ap (λ q. with_part q (progress c.args.scope.now (bodies_of c.args.blocks.now.items))) (part_past c.args.parts.now c.args.number c.if-number-parts.true))

pub returns : goal.returns
returns c =
    subst (λ q. OnOk c.resolve_part.result (progress c.resolve_part.new.scope (bodies_of c.resolve_part.new.blocks.items) ≡ with_part q (progress c.args.scope.now (bodies_of c.args.blocks.now.items))))
    (ap (λ d. Some (class_part_of d)) c.index-parts-number.is ∙ sym (part_in c.args.parts.now c.args.number c.index-parts-number.result c.if-number-parts.false)) c.resolve_part.ensures
