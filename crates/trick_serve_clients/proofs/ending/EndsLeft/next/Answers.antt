use Rattle.std.proofs.Common.{arith, refl}
use Rattle.trick_serve_clients.proofs.Endings.{left_late, left_seat, none_popped}
use Rattle.trick_serve_clients.proofs.ending.EndsLeft.next.Goals as goal
use Rattle.trick_serve_seats.proofs.TakingIn.{no_items}

pub returns-in-Some : goal.returns-in-Some
returns-in-Some c = left_seat c.args.self.now (record { seats = c.pop.new.self; late = c.args.self.now.late }) c.in-Some.seat c.into_ends.result c.in-Some.ensures.items refl
    (λ i. record { inbox = c.into_ends.ensures.inbox i; outbox = c.into_ends.ensures.outbox i; causes = c.into_ends.ensures.causes i })

pub returns-in-None : goal.returns-in-None
returns-in-None c = left_late c.args.self.now (record { seats = c.pop.new.self; late = c.pop-in-None.new.self }) c.pop-in-None.result
    (no_items _ (omega (arith, c.args.self.now.seats.ok.0, c.in-None.ensures.cases.0))) (no_items _ (omega (arith, c.pop.new.self.ok.0, c.in-None.ensures.cases.1)))
    c.pop-in-None.ensures.items
    (λ is. no_items _ (omega (arith, c.pop-in-None.new.self.ok.0, none_popped c.pop-in-None.result _ _ c.pop-in-None.ensures.cases is)))
