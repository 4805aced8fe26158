use Rattle.std.proofs.Common.{[], ◌∙◌, ◌+◌, ◌<◌, ◌≤◌, ap, arith, refl, rules, subst, sym, vec_capacity, vec_len}
use Rattle.trick_serve_seats.proofs.Calls.{ended_answered, ended_here, taking_client, taking_idle, taking_placed, taking_room, taking_taken, taking_waits}
use Rattle.trick_serve_seats.proofs.asks.ask.Goals as goal
use Rattle.trick_serve_seats.specs.Seats.{IsSeated}
use Rattle.trick_serve_seats.specs.Taking.{Hosts, hosts}
use Rattle.trick_serve_seats.specs.declared.asks.End.TheVariants as end

pub returns-then-is_over : goal.returns-then-is_over
returns-then-is_over g c = λ start t.
    let h : Hosts g.row.D.Denot g.row.D-In.Denot g.row.D-Out.Denot g.row.S.Denot = hosts g.D.Door.visited g.D.In.LinkIn g.D.Out.LinkOut g.S.Spawner.failures g.D.Door.has_client in
    let before = c.loop.invariant.taking start (taking_room h (IsSeated h.input h.output) start [] _ _ _ t c.prepare.ensures.same) in
    ended_here h (IsSeated h.input h.output) start end.Closed [] c.loop.door c.is_over.new.self (taking_placed h (IsSeated h.input h.output) start [] c.loop.door c.loop.acceptor c.is_over.new.self before c.is_over.ensures.placed) (λ count. refl)
    (λ same. c.is_over.ensures.over (search rules))

pub returns-in-Client : goal.returns-in-Client
returns-in-Client g c = λ start t.
    let h : Hosts g.row.D.Denot g.row.D-In.Denot g.row.D-Out.Denot g.row.S.Denot = hosts g.D.Door.visited g.D.In.LinkIn g.D.Out.LinkOut g.S.Spawner.failures g.D.Door.has_client in
    let before = c.loop.invariant.taking start (taking_room h (IsSeated h.input h.output) start [] _ _ _ t c.prepare.ensures.same) in
    let placed = taking_placed h (IsSeated h.input h.output) start [] c.loop.door c.loop.acceptor c.is_over.new.self before c.is_over.ensures.placed in
    let now = taking_client h (IsSeated h.input h.output) start c.loop.door c.ask_once.new.door c.is_over.new.self c.in-Client.input c.in-Client.output g.met.D.Door.visited_join placed c.in-Client.ensures in
    taking_taken h (IsSeated h.input h.output) start c.ask_once.new.door c.is_over.new.self c.take.new.acceptor c.in-Client.input c.in-Client.output now c.take.ensures

pub loop-preserved : goal.loop-preserved
loop-preserved g c = record {
  free = (let same = ap (λ places. places.free) c.tell_nobody.ensures.places in let more = c.is_over.ensures.free in let some = c.loop.invariant.free in omega arith);
  room = subst (λ sessions. vec_len sessions.seated + 1 ≤ vec_capacity sessions.past) (sym c.is_over.ensures.placed.sessions ∙ sym c.tell_nobody.ensures.sessions) c.loop.invariant.room;
  place = subst (λ sessions. vec_len sessions.seated < vec_capacity sessions.seated) (sym c.is_over.ensures.placed.sessions ∙ sym c.tell_nobody.ensures.sessions) c.loop.invariant.place;
  number = subst (λ sessions. vec_len sessions.seated < 4294967295) (sym c.is_over.ensures.placed.sessions ∙ sym c.tell_nobody.ensures.sessions) c.loop.invariant.number;
  taking = λ start t.
      let h : Hosts g.row.D.Denot g.row.D-In.Denot g.row.D-Out.Denot g.row.S.Denot = hosts g.D.Door.visited g.D.In.LinkIn g.D.Out.LinkOut g.S.Spawner.failures g.D.Door.has_client in
      let placed = taking_placed h (IsSeated h.input h.output) start [] c.loop.door c.loop.acceptor c.is_over.new.self (c.loop.invariant.taking start t) c.is_over.ensures.placed in
      let now = taking_waits h (IsSeated h.input h.output) start c.loop.door c.ask_once.new.door c.is_over.new.self g.met.D.Door.visited_join placed c.in-NotYet.ensures in
      taking_idle h (IsSeated h.input h.output) start c.ask_once.new.door c.is_over.new.self c.tell_nobody.new.self now c.tell_nobody.ensures;
}

pub returns-in-End : goal.returns-in-End
returns-in-End g c = λ start t.
    let h : Hosts g.row.D.Denot g.row.D-In.Denot g.row.D-Out.Denot g.row.S.Denot = hosts g.D.Door.visited g.D.In.LinkIn g.D.Out.LinkOut g.S.Spawner.failures g.D.Door.has_client in
    let before = c.loop.invariant.taking start (taking_room h (IsSeated h.input h.output) start [] _ _ _ t c.prepare.ensures.same) in
    let placed = taking_placed h (IsSeated h.input h.output) start [] c.loop.door c.loop.acceptor c.is_over.new.self before c.is_over.ensures.placed in
    ended_answered h (IsSeated h.input h.output) start c.in-End.end c.loop.door c.ask_once.new.door c.is_over.new.self g.met.D.Door.visited_join placed c.in-End.ensures
