use Rattle.std.proofs.Common.{◌≡◌, drop, ap, arith}
use Rattle.std.proofs.Math.ListN.{drop_of_length-le}
use Rattle.trick_check_cells.proofs.Lists.{from_entry}
use Rattle.trick_check_cells.specs.Counts.{members_count}
use Rattle.trick_check_cells.proofs.size.members_size.Goals as goal

pub loop-place-preserved : goal.loop-place-preserved
loop-place-preserved c =
    let next = ap (members_count c.args.sizes.now) (from_entry c.args.members.now c.loop-place.place _ c.entry-member.ensures) in
    record {
      told = omega (arith, next, c.member_size.ensures, c.saturating_add-total.ensures, c.loop-place.invariant.told, c.loop-place.invariant.small);
      small = omega (arith, c.saturating_add-total.ensures);
    }

pub returns : goal.returns
returns c =
    let rest : members_count c.args.sizes.now (drop c.loop-place.place c.args.members.now) ≡ 0 = ap (members_count c.args.sizes.now) (drop_of_length-le c.args.members.now (omega arith)) in
    omega (arith, rest, c.loop-place.invariant.small, c.loop-place.invariant.told)
