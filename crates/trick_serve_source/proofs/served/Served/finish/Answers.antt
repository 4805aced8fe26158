use Rattle.std.proofs.Common.{arith}
use Rattle.trick_serve_source.proofs.Leaving.{told_one}
use Rattle.trick_serve_source.proofs.served.Served.finish.Goals as goal
use Rattle.trick_serve_seats.specs.declared.departure.Departure.TheVariants.{Run}
use Rattle.trick_wire.specs.Ends.{put_by}

pub returns-clause-left : goal.returns-clause-left
returns-clause-left g c =
    let told = told_one (put_by c.args.self.gone) (put_by c.tell_over.new.gone) Run c.tell_over.ensures.put in
    omega (arith, told, c.args.self.departed)
