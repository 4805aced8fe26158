use Rattle.trick_serve_source.proofs.Leaving.{told_or_not}
use Rattle.trick_serve_source.proofs.calls.dismiss_one.Goals as goal
use Rattle.trick_wire.specs.Ends.{put_by}

pub returns-then-seat-clause-left : goal.returns-then-seat-clause-left
returns-then-seat-clause-left g c =
    told_or_not (put_by c.args.gone.now) (put_by c.push-told.new.self) c.args.session c.args.seat.now.left c.push-told.result
    c.push-told.ensures.put c.push-told.ensures.kept c.if-seat.true
