use Rattle.std.proofs.Common.{◌≡◌, IfOk, ap, sym, ◌∙◌, subst}
use Rattle.trick_check.proofs.Lists.{part_found, part_past}
use Rattle.trick_check.proofs.class.method_name.Goals as goal
use Rattle.trick_check.specs.Parts.{method_name}

pub returns-then-number-parts : goal.returns-then-number-parts
returns-then-number-parts c = c.new.ensures ∙ sym (ap method_name (part_past c.args.parts.now c.args.number c.if-number-parts.true))

pub returns : goal.returns
returns c =
    subst (λ q. IfOk c.name_of.result (λ name. name ≡ method_name q))
    (part_found c.args.parts.now c.args.number c.index-parts-number.result c.if-number-parts.false c.index-parts-number.is) c.name_of.ensures
