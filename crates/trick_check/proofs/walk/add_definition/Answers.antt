use Rattle.std.proofs.Common.{ap, sym, ◌∙◌}
use Rattle.trick_base.proofs.Results.{on_ok}
use Rattle.trick_check_bodies.specs.Classes.{made}
use Rattle.trick_check.proofs.walk.add_definition.Goals as goal
use Rattle.trick_check.specs.Parts.{order_at, parts_at}
use Rattle.trick_check.specs.Walk.{with_class_if}
use Rattle.trick_lang.specs.Syntax.{definitions_of}

pub returns-then-is_used-clause-made : goal.returns-then-is_used-clause-made
returns-then-is_used-clause-made c =
    let ds = definitions_of c.args.classes.definitions.now in
    on_ok c.add_used.result
    (λ h. h ∙ ap (λ q. with_class_if q c.args.class (order_at ds c.args.class) (parts_at ds c.args.class) (made c.args.bodies.now)) (sym c.if-is_used.true)) c.add_used.ensures.made

pub returns-clause-made : goal.returns-clause-made
returns-clause-made c =
    let ds = definitions_of c.args.classes.definitions.now in
    on_ok c.pass.result
    (λ h. h ∙ ap (λ q. with_class_if q c.args.class (order_at ds c.args.class) (parts_at ds c.args.class) (made c.args.bodies.now)) (sym c.if-is_used.false)) c.pass.ensures.made
