use Rattle.std.proofs.Common.{[], get_or, length, ap, ◌∙◌, arith}
use Rattle.std.proofs.Math.ListN.{length-replicate, length-set}
use Rattle.trick_check_order.proofs.ByRound.{empty_at, put_one}
use Rattle.trick_check_order.proofs.rounds.methods_of.Goals as goal

pub loop-method-preserved : goal.loop-method-preserved
loop-method-preserved c =
    let rounds = c.args.rounds.now in
    let found = c.loop-method.found.items in
    let i = c.loop-method.method in
    record {
      many = ap length c.in_ok-put.ensures ∙ (length-set found (get_or rounds i 0) _ ∙ c.loop-method.invariant.many);
      methods = put_one rounds found c.put.new.found.items i c.loop-method.invariant.many (omega arith) c.requires.low c.loop-method.invariant.methods c.in_ok-put.ensures;
    }

pub loop-method-init : goal.loop-method-init
loop-method-init c = record {
  many = ap length c.in_ok-found.ensures ∙ length-replicate (length c.args.rounds.now) [];
  methods = λ round. ap (λ q. get_or q round []) c.in_ok-found.ensures ∙ empty_at (length c.args.rounds.now) round;
}
