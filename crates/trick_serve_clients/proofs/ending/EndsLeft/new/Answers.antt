use Rattle.trick_serve_clients.proofs.Endings.{left_new}
use Rattle.trick_serve_clients.proofs.ending.EndsLeft.new.Goals as goal

pub returns : goal.returns
returns c = left_new (record { seats = c.reverse.new.self; late = c.reverse-2.new.self }) c.args.seats.items c.args.late.items c.reverse.ensures.items c.reverse-2.ensures.items
