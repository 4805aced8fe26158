use Rattle.std.proofs.Common.{◌≡◌, [], arith, rules}
use Rattle.trick_crew_clerks.proofs.Sharing.{cause_more, cause_none, sharing_all, sharing_more, sharing_none}
use Rattle.trick_crew_clerks.proofs.staff.start_each.Goals as goal
use Rattle.trick_crew_clerks.specs.Serving.{HasServed}

pub loop-shift-init : goal.loop-shift-init
loop-shift-init g c = record {
  sharing = sharing_none HasServed c.args.shifts.items c.args.staff.now.here.items c.args.staff.now.away.items c.requires.nobody_here c.requires.nobody_away;
  here_room = c.requires.here_room;
  away_room = c.requires.away_room;
  cause = cause_none (g.S.Spawner.failures c.args.spawner.now) c.args.staff.now.here.items c.requires.nobody_here;
}

pub loop-shift-preserved : goal.loop-shift-preserved
loop-shift-preserved g c =
    let inv = c.loop-shift.invariant in
    let was = c.loop-shift.staff in
    let now = c.add.new.self in
    let added = c.add.ensures in
    record {
      sharing = sharing_more HasServed c.args.shifts.items c.pop.new.self.items c.loop-shift.shifts.items was.here.items now.here.items was.away.items now.away.items
          c.in-Some.shift c.start_shift-begun.result c.in-Some.ensures.items c.start_shift-begun.ensures.work added.here added.away inv.sharing;
      here_room = omega (arith, inv.here_room, c.in-Some.ensures.len, added.here_room, added.here_capacity);
      away_room = omega (arith, inv.away_room, c.in-Some.ensures.len, added.away_room, added.away_capacity);
      cause = cause_more (g.S.Spawner.failures c.args.spawner.now) (g.S.Spawner.failures c.loop-shift.spawner) (g.S.Spawner.failures c.start_shift-begun.new.spawner)
          was.here.items now.here.items c.start_shift-begun.result added.here inv.cause c.start_shift-begun.ensures.cause;
    }

pub returns-clause-shared : goal.returns-clause-shared
returns-clause-shared g c =
    let none : c.loop-shift.shifts.items ≡ [] = search rules in
    sharing_all HasServed c.args.shifts.items c.loop-shift.shifts.items c.loop-shift.staff.here.items c.loop-shift.staff.away.items none
    c.loop-shift.invariant.sharing
