use Rattle.std.proofs.Common.{◌≡◌, ◌∙◌, ⊎_elim, ◌++◌, ◌∷◌, [], List, Some, ℕ, true, ap, refl, subst, sym, append-nil}
use Rattle.trick_model.specs.declared.entry.Entry.{Entry}
use Rattle.trick_model.specs.declared.entry.Entry.TheVariants.{Leave}
use Rattle.trick_model.specs.declared.entry.Cause.TheVariants as cause
use Rattle.std.specs.Arc.{arc_value}
use Rattle.std.specs.Prelude.{IsTrue}
use Rattle.trick_serve_hearing.proofs.Living.{leaves_if, listed_one}
use Rattle.trick_serve_hearing.specs.Life.{Hears, Misses, entries_of, is_exit}
use Rattle.trick_serve_hearing.specs.Sides.{queues_of, side_of}
use Rattle.trick_model.specs.Journal.{is_line}
use Rattle.trick_wire.specs.Ends.{put_by, room_of, taken_by}
use Rattle.trick_wire.specs.declared.heard.Heard.{Heard}
use Rattle.trick_wire.specs.declared.heard.Heard.TheVariants as heard
use Rattle.trick_serve_hearing.proofs.hear.hear_one.Goals as goal

pub returns-in-Line : goal.returns-in-Line
returns-in-Line g c =
    let line = c.into_line.result in
    let is : c.in-Some.heard ≡ heard.Line line = c.in-Line.is ∙ ap (λ (l : List ℕ). heard.Line l) (sym c.into_line.ensures.line) in
    let taken : taken_by c.pop.new.self ≡ taken_by c.args.seat.now.inbox ++ heard.Line line ∷ [] =
    c.in-Some.ensures.taken ∙ ap (λ (h : Heard). taken_by c.args.seat.now.inbox ++ h ∷ []) is in
    let right : IsTrue (is_line line) = subst (λ (l : List ℕ). IsTrue (is_line l)) (sym c.into_line.ensures.line) c.into_line.ensures.right in
    ⊎_elim
    (λ e. listed_one c.args.session (Hears (heard.Line line)) (side_of c.args.seat.now) (side_of c.list_line.new.seat) c.args.list.now.items c.list_line.new.list.items
    ((record { queues = queues_of c.args.seat.now; seated = refl; stays = c.requires.stays; quick = c.requires.quick }), right)
    (e.0 ∙ (λ i. record {
      queues = Some (record { inbox = arc_value (c.pop.ensures.queue i); outbox = arc_value c.args.seat.now.outbox.shared; causes = arc_value c.args.seat.now.causes.shared; room = room_of c.args.seat.now.outbox; refused = c.args.seat.now.refused });
      heard = taken i;
      told = taken_by c.args.seat.now.causes;
      put = put_by c.args.seat.now.outbox;
      slow = c.args.seat.now.slow;
      left = sym (leaves_if (is_exit line) cause.Exit) i;
    }))
    (e.1 ∙ ap (λ (l : List Entry). l ++ entries_of c.args.session (Hears (heard.Line line))) c.reserve.ensures.items))
    (λ e. listed_one c.args.session (Misses (heard.Line line)) (side_of c.args.seat.now) (side_of c.list_line.new.seat) c.args.list.now.items c.list_line.new.list.items
    (record { queues = queues_of c.args.seat.now; seated = refl; stays = c.requires.stays; quick = c.requires.quick })
    (e.0 ∙ (λ i. record {
      queues = Some (record { inbox = arc_value (c.pop.ensures.queue i); outbox = arc_value c.args.seat.now.outbox.shared; causes = arc_value c.args.seat.now.causes.shared; room = room_of c.args.seat.now.outbox; refused = c.args.seat.now.refused });
      heard = taken i;
      told = taken_by c.args.seat.now.causes;
      put = put_by c.args.seat.now.outbox;
      slow = c.args.seat.now.slow;
      left = true;
    }))
    (e.1 ∙ ap (λ (l : List Entry). l ++ entries_of c.args.session (Misses (heard.Line line))) c.reserve.ensures.items))
    c.list_line.ensures.listed

pub returns-in-End : goal.returns-in-End
returns-in-End g c =
    let taken : taken_by c.pop.new.self ≡ taken_by c.args.seat.now.inbox ++ heard.End ∷ [] =
    c.in-Some.ensures.taken ∙ ap (λ (h : Heard). taken_by c.args.seat.now.inbox ++ h ∷ []) c.in-End.is in
    listed_one c.args.session (Hears heard.End) (side_of c.args.seat.now) _ c.args.list.now.items c.reserve.new.self.items
    ((record { queues = queues_of c.args.seat.now; seated = refl; stays = c.requires.stays; quick = c.requires.quick }), tt)
    (λ i. record {
      queues = Some (record { inbox = arc_value (c.pop.ensures.queue i); outbox = arc_value c.args.seat.now.outbox.shared; causes = arc_value c.args.seat.now.causes.shared; room = room_of c.args.seat.now.outbox; refused = c.args.seat.now.refused });
      heard = taken i;
      told = taken_by c.args.seat.now.causes;
      put = put_by c.args.seat.now.outbox;
      slow = c.args.seat.now.slow;
      left = c.requires.stays i;
    })
    (c.reserve.ensures.items ∙ sym (append-nil c.args.list.now.items))

pub returns-in-LongLine : goal.returns-in-LongLine
returns-in-LongLine g c =
    let taken : taken_by c.pop.new.self ≡ taken_by c.args.seat.now.inbox ++ heard.LongLine ∷ [] =
    c.in-Some.ensures.taken ∙ ap (λ (h : Heard). taken_by c.args.seat.now.inbox ++ h ∷ []) c.in-LongLine.is in
    listed_one c.args.session (Hears heard.LongLine) (side_of c.args.seat.now) (side_of c.leave.new.seat) c.args.list.now.items c.leave.new.list.items
    ((record { queues = queues_of c.args.seat.now; seated = refl; stays = c.requires.stays; quick = c.requires.quick }), tt)
    (c.leave.ensures.side ∙ (λ i. record {
      queues = Some (record { inbox = arc_value (c.pop.ensures.queue i); outbox = arc_value c.args.seat.now.outbox.shared; causes = arc_value c.args.seat.now.causes.shared; room = room_of c.args.seat.now.outbox; refused = c.args.seat.now.refused });
      heard = taken i;
      told = taken_by c.args.seat.now.causes;
      put = put_by c.args.seat.now.outbox;
      slow = c.args.seat.now.slow;
      left = true;
    }))
    (c.leave.ensures.list ∙ ap (λ (l : List Entry). l ++ Leave c.args.session cause.LongLine ∷ []) c.reserve.ensures.items)

pub returns-in-LinkFault : goal.returns-in-LinkFault
returns-in-LinkFault g c =
    let taken : taken_by c.pop.new.self ≡ taken_by c.args.seat.now.inbox ++ heard.LinkFault ∷ [] =
    c.in-Some.ensures.taken ∙ ap (λ (h : Heard). taken_by c.args.seat.now.inbox ++ h ∷ []) c.in-LinkFault.is in
    listed_one c.args.session (Hears heard.LinkFault) (side_of c.args.seat.now) (side_of c.leave-in-LinkFault.new.seat) c.args.list.now.items c.leave-in-LinkFault.new.list.items
    ((record { queues = queues_of c.args.seat.now; seated = refl; stays = c.requires.stays; quick = c.requires.quick }), tt)
    (c.leave-in-LinkFault.ensures.side ∙ (λ i. record {
      queues = Some (record { inbox = arc_value (c.pop.ensures.queue i); outbox = arc_value c.args.seat.now.outbox.shared; causes = arc_value c.args.seat.now.causes.shared; room = room_of c.args.seat.now.outbox; refused = c.args.seat.now.refused });
      heard = taken i;
      told = taken_by c.args.seat.now.causes;
      put = put_by c.args.seat.now.outbox;
      slow = c.args.seat.now.slow;
      left = true;
    }))
    (c.leave-in-LinkFault.ensures.list ∙ ap (λ (l : List Entry). l ++ Leave c.args.session cause.LinkFault ∷ []) c.reserve.ensures.items)

pub returns-in-OutOfMemory : goal.returns-in-OutOfMemory
returns-in-OutOfMemory g c =
    let taken : taken_by c.pop.new.self ≡ taken_by c.args.seat.now.inbox ++ heard.OutOfMemory ∷ [] =
    c.in-Some.ensures.taken ∙ ap (λ (h : Heard). taken_by c.args.seat.now.inbox ++ h ∷ []) c.in-OutOfMemory.is in
    listed_one c.args.session (Hears heard.OutOfMemory) (side_of c.args.seat.now) (side_of c.leave-in-OutOfMemory.new.seat) c.args.list.now.items c.leave-in-OutOfMemory.new.list.items
    ((record { queues = queues_of c.args.seat.now; seated = refl; stays = c.requires.stays; quick = c.requires.quick }), tt)
    (c.leave-in-OutOfMemory.ensures.side ∙ (λ i. record {
      queues = Some (record { inbox = arc_value (c.pop.ensures.queue i); outbox = arc_value c.args.seat.now.outbox.shared; causes = arc_value c.args.seat.now.causes.shared; room = room_of c.args.seat.now.outbox; refused = c.args.seat.now.refused });
      heard = taken i;
      told = taken_by c.args.seat.now.causes;
      put = put_by c.args.seat.now.outbox;
      slow = c.args.seat.now.slow;
      left = true;
    }))
    (c.leave-in-OutOfMemory.ensures.list ∙ ap (λ (l : List Entry). l ++ Leave c.args.session cause.OutOfMemory ∷ []) c.reserve.ensures.items)
