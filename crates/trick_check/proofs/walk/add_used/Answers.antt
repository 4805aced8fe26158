use Rattle.std.proofs.Common.{◌≡◌, ◌<◌, [], get_or, length, true, ap, sym, ◌∙◌, subst, arith}
use Rattle.std.proofs.lemmas.List.{get_or_default}
use Rattle.trick_base.proofs.Results.{on_ok}
use Rattle.trick_check_bodies.specs.Classes.{made}
use Rattle.trick_check_blocks.specs.Kept.{is_one_of}
use Rattle.trick_check.proofs.Joining.{order_takes}
use Rattle.trick_check.proofs.Lists.{definitions_many, parts_many}
use Rattle.trick_check.proofs.Walked.{class_made}
use Rattle.trick_check.proofs.walk.add_used.Goals as goal
use Rattle.trick_check.specs.Parts.{order_at, parts_at}
use Rattle.trick_lang.specs.Syntax.{class_parts_of, definitions_of}

pub add_class-requires-clause-home : goal.add_class-requires-clause-home
add_class-requires-clause-home c = c.requires.sizes _

pub add_class-requires-clause-order : goal.add_class-requires-clause-order
add_class-requires-clause-order c =
    let ds = definitions_of c.args.classes.definitions.now in
    let class = c.args.class in
    let orders = c.args.classes.orders.now in
    let many = definitions_many c.args.classes.definitions.now in
    let here : class < length ds = omega (arith, c.requires.here, many) in
    let in_orders : class < length orders = omega (arith, c.requires.here, c.requires.orders) in
    let order : c.as_slice.result.now ≡ get_or orders class [] =
    c.as_slice.ensures ∙ (c.index-orders-class.is ∙ get_or_default orders class c.index-orders-class.result [] in_orders) in
    let parts : length c.parts_at-parts.result.now ≡ length (parts_at ds class) = sym (parts_many c.parts_at-parts.result.now) ∙ ap length c.parts_at-parts.ensures in
    λ k less. subst (λ q. is_one_of q k ≡ true) (sym order) (order_takes ds class (get_or orders class []) (c.requires.ordered class here).1 k (omega (arith, less, parts)))

pub returns-clause-made : goal.returns-clause-made
returns-clause-made c =
    let ds = definitions_of c.args.classes.definitions.now in
    let class = c.args.class in
    let orders = c.args.classes.orders.now in
    let many = definitions_many c.args.classes.definitions.now in
    let here : class < length ds = omega (arith, c.requires.here, many) in
    let in_orders : class < length orders = omega (arith, c.requires.here, c.requires.orders) in
    let order : c.as_slice.result.now ≡ order_at ds class =
    c.as_slice.ensures ∙ (c.index-orders-class.is ∙ (get_or_default orders class c.index-orders-class.result [] in_orders ∙ (c.requires.ordered class here).0)) in
    on_ok c.add_class.result
    (λ h. class_made c.in_ok-number.number class c.as_slice.result.now (order_at ds class) (class_parts_of c.parts_at-parts.result.now) (parts_at ds class) (made c.args.bodies.now) (made c.add_class.new.bodies) c.in_ok-number.ensures order c.parts_at-parts.ensures h)
    c.add_class.ensures.made
