use Rattle.std.proofs.Common.{◌≡◌, ℕ, false, length, replicate, refl, arith, rules}
use Rattle.trick_check_order.proofs.Steps.{started}
use Rattle.trick_check_order.proofs.search.start.Goals as goal

pub returns : goal.returns
returns c =
    let n : ℕ = length c.args.calls.now in
    let d : c.in_ok-vec.field-0.items ≡ replicate n false = search rules in
    let s : c.in_ok-vec-2.field-0.items ≡ replicate n false = search rules in
    started c.args.calls.now _ _ _ _ _ n refl d s (omega (arith, c.in_ok-vec-3.ensures.len, c.in_ok-vec-3.field-0.ok.0)) c.new.ensures.items c.new-2.ensures.items
