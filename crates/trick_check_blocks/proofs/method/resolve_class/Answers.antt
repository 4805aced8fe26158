use Rattle.std.proofs.Common.{◌≡◌, ◌+◌, drop, get_or, slice_get, ap, sym, ◌∙◌, subst}
use Rattle.trick_check_blocks.proofs.Rows.{laid_part, next_number}
use Rattle.trick_check_blocks.proofs.method.resolve_class.Goals as goal
use Rattle.trick_check_blocks.specs.Held.{bodies_of}
use Rattle.trick_check_blocks.specs.Methods.{progress, with_parts}
use Rattle.trick_check_blocks.specs.Room.{IsLaid}
use Rattle.trick_lang.specs.Syntax.{class_parts_of}

pub loop-number-preserved : goal.loop-number-preserved
loop-number-preserved c =
    let order = c.args.order.now in
    let parts = class_parts_of c.args.parts.now in
    let i = c.loop-number.number-index in
    let before = progress c.loop-number.scope (bodies_of c.loop-number.blocks.items) in
    let all = with_parts order parts (progress c.args.scope.now (bodies_of c.args.blocks.now.items)) in
    record {
      made = ap (with_parts (drop (i + 1) order) parts) c.in_ok-resolve_part_at.ensures
          ∙ subst (λ q. with_parts q parts before ≡ all) (next_number order i c.loop-number-test.true) c.loop-number.invariant.made;
      laid = subst (λ q. IsLaid q.scope) (sym c.in_ok-resolve_part_at.ensures) (laid_part (slice_get parts (get_or order i 0)) before c.loop-number.invariant.laid);
    }
