use Rattle.std.proofs.Common.{◌∙◌, arith, refl, rules}
use Rattle.trick_serve_clients.proofs.Endings.{ending_all, ending_fits, ending_more, ending_none}
use Rattle.trick_serve_clients.proofs.ending.end_all.Goals as goal
use Rattle.trick_serve_clients.specs.Ends.{ends_left}
use Rattle.trick_serve_seats.proofs.TakingIn.{no_items}

pub loop-past-init : goal.loop-past-init
loop-past-init g c = record {
  ending = ending_none g.D.Door.visited g.D.In.LinkIn g.D.Out.LinkOut c.args.door.now (ends_left c.args.ends) c.args.pasts.items _ (g.met.D.Door.visited_none c.args.door.now) c.requires.fit c.reverse.ensures.items;
  numbers = search rules;
  failures = refl;
  idle = refl;
}

pub end_next-input-requires : goal.end_next-input-requires
end_next-input-requires g c =
    ending_fits g.D.Door.visited g.D.In.LinkIn g.D.Out.LinkOut c.args.door.now (ends_left c.args.ends) c.args.pasts.items c.loop-past.door (ends_left c.loop-past.ends)
    c.loop-past.left.items _ c.in-Some.past c.loop-past.number c.loop-past.has_lacked c.in-Some.ensures.items c.loop-past.invariant.ending

pub loop-past-preserved : goal.loop-past-preserved
loop-past-preserved g c = record {
  ending = ending_more g.D.Door.visited g.D.In.LinkIn g.D.Out.LinkOut c.args.door.now (ends_left c.args.ends) c.args.pasts.items c.loop-past.door c.back.new.self (ends_left c.loop-past.ends) (ends_left c.end_next-input.new.ends)
      c.end_next-input.ensures.0 c.loop-past.left.items _ c.in-Some.past c.end_next-input.result c.loop-past.number _ c.loop-past.has_lacked _ g.met.D.Door.visited_join c.in-Some.ensures.items refl c.back.ensures.visited
      c.end_next-input.ensures.1 c.end_next-input.ensures.2 (search rules) c.loop-past.invariant.ending;
  numbers = omega (arith, c.loop-past.invariant.numbers, c.in-Some.ensures.len);
  failures = c.back.ensures.failures ∙ c.loop-past.invariant.failures;
  idle = c.back.ensures.idle ∙ c.loop-past.invariant.idle;
}

pub returns-clause-ended : goal.returns-clause-ended
returns-clause-ended g c =
    ending_all g.D.Door.visited g.D.In.LinkIn g.D.Out.LinkOut c.args.door.now (ends_left c.args.ends) c.args.pasts.items _ _ _ _ _ (no_items _ (omega (arith, c.loop-past.left.ok.0, c.in_default.ensures.cases.0)))
    c.loop-past.invariant.ending
