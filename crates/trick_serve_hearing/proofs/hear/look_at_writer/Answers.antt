use Rattle.std.proofs.Common.{◌≡◌, ◌∙◌, ◌++◌, ◌∷◌, [], List, Some, true, ap, refl, sym, append-nil}
use Rattle.trick_model.specs.declared.entry.Entry.{Entry}
use Rattle.trick_model.specs.declared.entry.Entry.TheVariants.{Leave}
use Rattle.trick_model.specs.declared.entry.Cause.TheVariants as cause
use Rattle.std.specs.Arc.{arc_value}
use Rattle.trick_serve_hearing.proofs.Living.{listed_one}
use Rattle.trick_serve_hearing.specs.Life.{IsSlow, IsTold}
use Rattle.trick_serve_hearing.specs.Sides.{queues_of, side_of}
use Rattle.trick_wire.specs.Ends.{put_by, room_of, taken_by}
use Rattle.trick_wire.specs.declared.heard.WriteStop.{WriteStop}
use Rattle.trick_wire.specs.declared.heard.WriteStop.TheVariants as stop
use Rattle.trick_serve_hearing.proofs.hear.look_at_writer.Goals as goal

pub returns-then-seat-2-clause-listed : goal.returns-then-seat-2-clause-listed
returns-then-seat-2-clause-listed g c =
    listed_one c.args.session IsSlow (side_of c.args.seat.now) (side_of c.leave.new.seat) c.args.list.now.items c.leave.new.list.items
    ((record { queues = queues_of c.args.seat.now; seated = refl; stays = c.if-seat.false }), c.if-seat-2.true) c.leave.ensures.side
    (c.leave.ensures.list ∙ ap (λ (l : List Entry). l ++ Leave c.args.session cause.Slow ∷ []) c.reserve.ensures.items)

pub returns-in-LinkFault-clause-listed : goal.returns-in-LinkFault-clause-listed
returns-in-LinkFault-clause-listed g c =
    let taken : taken_by c.pop.new.self ≡ taken_by c.args.seat.now.causes ++ stop.LinkFault ∷ [] =
    c.in-Some.ensures.taken ∙ ap (λ (w : WriteStop). taken_by c.args.seat.now.causes ++ w ∷ []) c.in-LinkFault.is in
    listed_one c.args.session (IsTold stop.LinkFault) (side_of c.args.seat.now) (side_of c.leave-in-LinkFault.new.seat) c.args.list.now.items c.leave-in-LinkFault.new.list.items
    (record { queues = queues_of c.args.seat.now; seated = refl; stays = c.if-seat.false; quick = c.if-seat-2.false })
    (c.leave-in-LinkFault.ensures.side ∙ (λ i. record {
      queues = Some (record { inbox = arc_value c.args.seat.now.inbox.shared; outbox = arc_value c.args.seat.now.outbox.shared; causes = arc_value (c.pop.ensures.queue i); room = room_of c.args.seat.now.outbox; refused = c.args.seat.now.refused });
      heard = taken_by c.args.seat.now.inbox;
      told = taken i;
      put = put_by c.args.seat.now.outbox;
      slow = c.args.seat.now.slow;
      left = true;
    }))
    (c.leave-in-LinkFault.ensures.list ∙ ap (λ (l : List Entry). l ++ Leave c.args.session cause.LinkFault ∷ []) c.reserve.ensures.items)

pub returns-in-OutOfMemory-clause-listed : goal.returns-in-OutOfMemory-clause-listed
returns-in-OutOfMemory-clause-listed g c =
    let taken : taken_by c.pop.new.self ≡ taken_by c.args.seat.now.causes ++ stop.OutOfMemory ∷ [] =
    c.in-Some.ensures.taken ∙ ap (λ (w : WriteStop). taken_by c.args.seat.now.causes ++ w ∷ []) c.in-OutOfMemory.is in
    listed_one c.args.session (IsTold stop.OutOfMemory) (side_of c.args.seat.now) (side_of c.leave-in-OutOfMemory.new.seat) c.args.list.now.items c.leave-in-OutOfMemory.new.list.items
    (record { queues = queues_of c.args.seat.now; seated = refl; stays = c.if-seat.false; quick = c.if-seat-2.false })
    (c.leave-in-OutOfMemory.ensures.side ∙ (λ i. record {
      queues = Some (record { inbox = arc_value c.args.seat.now.inbox.shared; outbox = arc_value c.args.seat.now.outbox.shared; causes = arc_value (c.pop.ensures.queue i); room = room_of c.args.seat.now.outbox; refused = c.args.seat.now.refused });
      heard = taken_by c.args.seat.now.inbox;
      told = taken i;
      put = put_by c.args.seat.now.outbox;
      slow = c.args.seat.now.slow;
      left = true;
    }))
    (c.leave-in-OutOfMemory.ensures.list ∙ ap (λ (l : List Entry). l ++ Leave c.args.session cause.OutOfMemory ∷ []) c.reserve.ensures.items)

pub returns-in-Closed-clause-listed : goal.returns-in-Closed-clause-listed
returns-in-Closed-clause-listed g c =
    let taken : taken_by c.pop.new.self ≡ taken_by c.args.seat.now.causes ++ stop.Closed ∷ [] =
    c.in-Some.ensures.taken ∙ ap (λ (w : WriteStop). taken_by c.args.seat.now.causes ++ w ∷ []) c.in-Closed.is in
    listed_one c.args.session (IsTold stop.Closed) (side_of c.args.seat.now) _ c.args.list.now.items c.reserve.new.self.items
    (record { queues = queues_of c.args.seat.now; seated = refl; stays = c.if-seat.false; quick = c.if-seat-2.false })
    (λ i. record {
      queues = Some (record { inbox = arc_value c.args.seat.now.inbox.shared; outbox = arc_value c.args.seat.now.outbox.shared; causes = arc_value (c.pop.ensures.queue i); room = room_of c.args.seat.now.outbox; refused = c.args.seat.now.refused });
      heard = taken_by c.args.seat.now.inbox;
      told = taken i;
      put = put_by c.args.seat.now.outbox;
      slow = c.args.seat.now.slow;
      left = c.if-seat.false i;
    })
    (c.reserve.ensures.items ∙ sym (append-nil c.args.list.now.items))
