use Rattle.trick_race.proofs.FixedPoint.{feeds_is}
use Rattle.trick_race.proofs.reach.feeds.Goals as goal

pub returns : goal.returns
returns c =
    feeds_is c.args.accesses.now c.args.one c.args.other c.index-accesses-one.result c.index-accesses-other.result
    c.as_slice.result.now c.as_slice-2.result.now c.common_cell.result c.is_some.result c.requires.one c.requires.other
    c.index-accesses-one.is c.index-accesses-other.is c.as_slice.ensures c.as_slice-2.ensures
    c.common_cell.ensures c.is_some.ensures
