use Rattle.std.proofs.Common.{[], get_or, arith}
use Rattle.trick_check.proofs.Lists.{definitions_many}
use Rattle.trick_check.proofs.order.orders.Goals as goal
use Rattle.trick_check.specs.Parts.{calls_at}
use Rattle.trick_lang.specs.Syntax.{definitions_of}

pub class_order-requires-clause-before : goal.class_order-requires-clause-before
class_order-requires-clause-before c =
    let ds = definitions_of c.args.definitions.now in
    λ k less part reach. c.order_law.ensures (calls_at ds k) (get_or c.loop-class.orders.items k []) (c.loop-class.invariant.ordered k less).1 part reach

pub returns-clause-ordered : goal.returns-clause-ordered
returns-clause-ordered c =
    let many = definitions_many c.args.definitions.now in
    λ k less. c.loop-class.invariant.ordered k (omega (arith, less, many))

pub returns-clause-free : goal.returns-clause-free
returns-clause-free c =
    let ds = definitions_of c.args.definitions.now in
    let many = definitions_many c.args.definitions.now in
    λ k less part reach. c.order_law.ensures (calls_at ds k) (get_or c.loop-class.orders.items k []) (c.loop-class.invariant.ordered k (omega (arith, less, many))).1 part reach
