use Rattle.std.proofs.Common.{◌+◌, ◌||◌, false, drop, get_or, ap, sym, ◌∙◌, arith}
use Rattle.std.proofs.Math.ListN.{drop_of_length-le}
use Rattle.trick_base.proofs.ListLemmas.{next_item}
use Rattle.trick_check.proofs.walk.used_classes.Goals as goal
use Rattle.trick_check.proofs.Used.{or_none}
use Rattle.trick_check.specs.Walk.{has_object}

pub loop-object-preserved : goal.loop-object-preserved
loop-object-preserved c =
    let os = c.args.objects.now in
    let i = c.loop-object.object-index in
    let next = next_item os i c.object-item.result c.loop-object-test.true c.object-item.is in
    let old = c.loop-object.used.items in
    record {
      many = c.mark.ensures.many ∙ c.loop-object.invariant.many;
      told = λ k less. c.mark.ensures.marked k (has_object (drop (i + 1) os) k) (omega (arith, less, c.loop-object.invariant.many))
          ∙ (ap (λ q. get_or old k false || has_object q k) (sym next) ∙ c.loop-object.invariant.told k less);
    }

pub returns-clause-used : goal.returns-clause-used
returns-clause-used c =
    let os = c.args.objects.now in
    let none = drop_of_length-le os (omega arith) in
    λ k less. or_none _ ∙ (ap (λ q. get_or c.loop-object.used.items k false || has_object q k) (sym none) ∙ c.loop-object.invariant.told k less)
