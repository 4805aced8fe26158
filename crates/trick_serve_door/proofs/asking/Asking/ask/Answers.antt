use Rattle.std.proofs.Common.{◌≡◌, IfSome, None, rules, subst, sym}
use Rattle.trick_serve_door.proofs.Stopping.{asks_on, asks_still}
use Rattle.trick_serve_door.proofs.asking.Asking.ask.Goals as goal
use Rattle.trick_serve_seats.specs.Seats.{AreFresh}
use Rattle.trick_serve_seats.specs.Taking.{Hosts, hosts}

pub returns-then-is_some : goal.returns-then-is_some
returns-then-is_some g c = λ start t. t

pub returns-in-Ok : goal.returns-in-Ok
returns-in-Ok g c = λ start t.
    let h : Hosts g.row.D.Denot g.row.D-In.Denot g.row.D-Out.Denot g.row.S.Denot = hosts g.D.Door.visited g.D.In.LinkIn g.D.Out.LinkOut g.S.Spawner.failures g.D.Door.has_client in
    let none : c.args.self.now.end ≡ None = search rules in
    let fresh : IfSome c.take-ready.result AreFresh = subst (λ ready. IfSome ready AreFresh) (sym c.take-ready.ensures.value) t.ready in
    record { ready = c.in-Ok.ensures.ready fresh; asks = asks_still h start c.args.self.now.end _ _ none (c.in-Ok.ensures.asked start fresh (asks_on h start c.args.self.now.end _ _ none t.asks)) }

pub returns-in-Err : goal.returns-in-Err
returns-in-Err g c = λ start t.
    let h : Hosts g.row.D.Denot g.row.D-In.Denot g.row.D-Out.Denot g.row.S.Denot = hosts g.D.Door.visited g.D.In.LinkIn g.D.Out.LinkOut g.S.Spawner.failures g.D.Door.has_client in
    let none : c.args.self.now.end ≡ None = search rules in
    let fresh : IfSome c.take-ready.result AreFresh = subst (λ ready. IfSome ready AreFresh) (sym c.take-ready.ensures.value) t.ready in
    record {
      ready = subst (λ ready. IfSome ready AreFresh) (sym c.take-ready.ensures.after) tt;
      asks = record { before = c.look.new.acceptor; ended = c.in-Err.ensures.asked start fresh (asks_on h start c.args.self.now.end _ _ none t.asks); told = c.tell_end.ensures };
    }
