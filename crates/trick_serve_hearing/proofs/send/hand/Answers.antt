use Rattle.std.proofs.Common.{rules, ◌≡◌, inl, inr, Some, true, refl}
use Rattle.std.specs.Arc.{arc_value}
use Rattle.trick_serve_hearing.proofs.send.hand.Goals as goal
use Rattle.trick_serve_hearing.specs.Sides.{queues_of}
use Rattle.trick_wire.specs.Ends.{HasWaiting, put_by, room_of, taken_by}

pub returns-then-is_err : goal.returns-then-is_err
returns-then-is_err g c =
    let queue = c.push.ensures.queue in
    let room : room_of c.push.new.self ≡ room_of c.args.seat.now.outbox = cc in
    let kept : put_by c.push.new.self ≡ put_by c.args.seat.now.outbox = search rules in
    let full : HasWaiting (put_by c.args.seat.now.outbox) (room_of c.args.seat.now.outbox) = search rules in
    inr (inl (record {
      before = c.if-seat.false;
      queues = queues_of c.args.seat.now;
      seated = refl;
      full = full;
      is = λ i. record {
        queues = Some (record { inbox = arc_value c.args.seat.now.inbox.shared; outbox = arc_value (queue i); causes = arc_value c.args.seat.now.causes.shared; room = room i; refused = c.args.seat.now.refused });
        heard = taken_by c.args.seat.now.inbox;
        told = taken_by c.args.seat.now.causes;
        put = kept i;
        slow = true;
        left = c.args.seat.now.left;
      };
    }))
