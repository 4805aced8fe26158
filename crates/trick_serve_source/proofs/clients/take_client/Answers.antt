use Rattle.std.proofs.Common.{rules, ◌≡◌, ◌∙◌, ◌++◌, ◌∷◌, [], List, true, false, ap, arith, length, refl}
use Rattle.std.specs.Prelude.{is_ok}
use Rattle.trick_serve_hearing.proofs.Gathering.{gathers_same}
use Rattle.trick_serve_hearing.proofs.Seating.{clients_idle, clients_same, clients_took, first_took, full_some, lack_took, last_over, last_same, last_took, silent_same, silent_took}
use Rattle.trick_serve_source.proofs.clients.take_client.Goals as goal
use Rattle.trick_serve_hearing.specs.Clients.{client_queues, has_lack, seat_queues}
use Rattle.trick_serve_hearing.specs.Sides.{Queues}
use Rattle.trick_serve_seats.specs.declared.arrival.Comes.TheVariants as comes
use Rattle.trick_wire.specs.Ends.{taken_by}

pub returns-in_err-make_room-clause-gathers : goal.returns-in_err-make_room-clause-gathers
returns-in_err-make_room-clause-gathers g c = λ there was known so.
    gathers_same there was known c.args.roll.now.seats.items c.make_room.new.self.seats.items c.args.roll.now.live.items c.make_room.new.self.live.items
    c.args.roll.now.list.items c.make_room.new.self.list.items (is_ok c.from_residual.result) c.make_room.ensures.same.seats c.make_room.ensures.same.live c.make_room.ensures.same.list so

pub returns-in-Some-Client-clause-gathers : goal.returns-in-Some-Client-clause-gathers
returns-in-Some-Client-clause-gathers g c = λ there was known so. c.join.ensures.gathered there was known
    (gathers_same there was known c.args.roll.now.seats.items c.make_room.new.self.seats.items c.args.roll.now.live.items c.make_room.new.self.live.items
    c.args.roll.now.list.items c.make_room.new.self.list.items true c.make_room.ensures.same.seats c.make_room.ensures.same.live c.make_room.ensures.same.list so)

pub returns-in-Some-OutOfMemory-clause-gathers : goal.returns-in-Some-OutOfMemory-clause-gathers
returns-in-Some-OutOfMemory-clause-gathers g c = λ there was known so.
    gathers_same there was known c.args.roll.now.seats.items c.make_room.new.self.seats.items c.args.roll.now.live.items c.make_room.new.self.live.items
    c.args.roll.now.list.items c.make_room.new.self.list.items false c.make_room.ensures.same.seats c.make_room.ensures.same.live c.make_room.ensures.same.list so

pub returns-in_err-make_room-clause-clients : goal.returns-in_err-make_room-clause-clients
returns-in_err-make_room-clause-clients g c = λ so. ap seat_queues c.make_room.ensures.same.seats ∙ so

pub returns-in-Some-Client-clause-clients : goal.returns-in-Some-Client-clause-clients
returns-in-Some-Client-clause-clients g c =
    clients_took (taken_by c.args.coming.now) (taken_by c.pop.new.self) (comes.Client c.in-Some-Client.arrival) c.args.roll.now.seats.items c.join.new.self.seats.items (search rules)
    (c.join.ensures.queues ∙ ap (λ (l : List Queues). l ++ client_queues c.in-Some-Client.arrival ∷ []) (ap seat_queues c.make_room.ensures.same.seats))

pub returns-in-None-clause-clients : goal.returns-in-None-clause-clients
returns-in-None-clause-clients g c =
    clients_same (taken_by c.args.coming.now) (taken_by c.pop.new.self) c.args.roll.now.seats.items c.make_room.new.self.seats.items (search rules) (ap seat_queues c.make_room.ensures.same.seats)

pub returns-in-Some-Nobody-clause-clients : goal.returns-in-Some-Nobody-clause-clients
returns-in-Some-Nobody-clause-clients g c =
    clients_idle (taken_by c.args.coming.now) (taken_by c.pop.new.self) comes.Nobody c.args.roll.now.seats.items c.make_room.new.self.seats.items (search rules) refl c.make_room.ensures.same.seats

pub returns-in-Some-Over-clause-clients : goal.returns-in-Some-Over-clause-clients
returns-in-Some-Over-clause-clients g c =
    clients_idle (taken_by c.args.coming.now) (taken_by c.pop.new.self) comes.Over c.args.roll.now.seats.items c.make_room.new.self.seats.items (search rules) refl c.make_room.ensures.same.seats

pub returns-in-Some-Closed-clause-clients : goal.returns-in-Some-Closed-clause-clients
returns-in-Some-Closed-clause-clients g c =
    clients_idle (taken_by c.args.coming.now) (taken_by c.pop.new.self) comes.Closed c.args.roll.now.seats.items c.make_room.new.self.seats.items (search rules) refl c.make_room.ensures.same.seats

pub returns-in-Some-OutOfMemory-clause-clients : goal.returns-in-Some-OutOfMemory-clause-clients
returns-in-Some-OutOfMemory-clause-clients g c =
    clients_idle (taken_by c.args.coming.now) (taken_by c.pop.new.self) comes.OutOfMemory c.args.roll.now.seats.items c.make_room.new.self.seats.items (search rules) refl c.make_room.ensures.same.seats

pub returns-then-is_full-clause-last : goal.returns-then-is_full-clause-last
returns-then-is_full-clause-last g c = λ yes no. c.is_full.ensures.full (search rules)

pub returns-in_err-make_room-clause-still : goal.returns-in_err-make_room-clause-still
returns-in_err-make_room-clause-still g c =
    last_same (taken_by c.args.coming.now) (taken_by c.args.coming.now) c.args.roll.now.seats.items c.make_room.new.self.seats.items refl (let same = ap length c.make_room.ensures.same.seats in omega arith)

pub returns-in-None-clause-still : goal.returns-in-None-clause-still
returns-in-None-clause-still g c =
    last_same (taken_by c.args.coming.now) (taken_by c.pop.new.self) c.args.roll.now.seats.items c.make_room.new.self.seats.items (search rules) (let same = ap length c.make_room.ensures.same.seats in omega arith)

pub returns-in-Some-Client-clause-still : goal.returns-in-Some-Client-clause-still
returns-in-Some-Client-clause-still g c =
    last_took (taken_by c.args.coming.now) (taken_by c.pop.new.self) (comes.Client c.in-Some-Client.arrival) c.args.roll.now.seats.items c.join.new.self.seats.items (search rules)
    (let same = ap length c.make_room.ensures.same.seats in omega (arith, same, c.join.ensures.count))

pub returns-in-Some-Over-clause-last : goal.returns-in-Some-Over-clause-last
returns-in-Some-Over-clause-last g c = λ yes. last_over (taken_by c.args.coming.now) (taken_by c.pop.new.self) c.make_room.new.self.seats.items (search rules)

pub returns-in-Some-Nobody-clause-still : goal.returns-in-Some-Nobody-clause-still
returns-in-Some-Nobody-clause-still g c =
    last_took (taken_by c.args.coming.now) (taken_by c.pop.new.self) comes.Nobody c.args.roll.now.seats.items c.make_room.new.self.seats.items (search rules) (let same = ap length c.make_room.ensures.same.seats in omega arith)

pub returns-in-Some-Over-clause-still : goal.returns-in-Some-Over-clause-still
returns-in-Some-Over-clause-still g c =
    last_took (taken_by c.args.coming.now) (taken_by c.pop.new.self) comes.Over c.args.roll.now.seats.items c.make_room.new.self.seats.items (search rules) (let same = ap length c.make_room.ensures.same.seats in omega arith)

pub returns-in-Some-Closed-clause-still : goal.returns-in-Some-Closed-clause-still
returns-in-Some-Closed-clause-still g c =
    last_took (taken_by c.args.coming.now) (taken_by c.pop.new.self) comes.Closed c.args.roll.now.seats.items c.make_room.new.self.seats.items (search rules) (let same = ap length c.make_room.ensures.same.seats in omega arith)

pub returns-in-Some-OutOfMemory-clause-still : goal.returns-in-Some-OutOfMemory-clause-still
returns-in-Some-OutOfMemory-clause-still g c =
    last_took (taken_by c.args.coming.now) (taken_by c.pop.new.self) comes.OutOfMemory c.args.roll.now.seats.items c.make_room.new.self.seats.items (search rules) (let same = ap length c.make_room.ensures.same.seats in omega arith)

pub returns-in-None-clause-silent : goal.returns-in-None-clause-silent
returns-in-None-clause-silent g c = silent_same (taken_by c.args.coming.now) (taken_by c.pop.new.self) (search rules)

pub returns-in-Some-Client-clause-silent : goal.returns-in-Some-Client-clause-silent
returns-in-Some-Client-clause-silent g c = silent_took (taken_by c.args.coming.now) (taken_by c.pop.new.self) (comes.Client c.in-Some-Client.arrival) (search rules)

pub returns-in-Some-Nobody-clause-silent : goal.returns-in-Some-Nobody-clause-silent
returns-in-Some-Nobody-clause-silent g c = silent_took (taken_by c.args.coming.now) (taken_by c.pop.new.self) comes.Nobody (search rules)

pub returns-in-Some-Over-clause-silent : goal.returns-in-Some-Over-clause-silent
returns-in-Some-Over-clause-silent g c = silent_took (taken_by c.args.coming.now) (taken_by c.pop.new.self) comes.Over (search rules)

pub returns-in-Some-Closed-clause-silent : goal.returns-in-Some-Closed-clause-silent
returns-in-Some-Closed-clause-silent g c = silent_took (taken_by c.args.coming.now) (taken_by c.pop.new.self) comes.Closed (search rules)

pub returns-in-Some-OutOfMemory-clause-silent : goal.returns-in-Some-OutOfMemory-clause-silent
returns-in-Some-OutOfMemory-clause-silent g c = silent_took (taken_by c.args.coming.now) (taken_by c.pop.new.self) comes.OutOfMemory (search rules)

pub returns-then-is_full-clause-first : goal.returns-then-is_full-clause-first
returns-then-is_full-clause-first g c = λ so empty no. absurd (full_some c.args.roll.now.seats.items (c.is_full.ensures.full (search rules)) empty)

pub returns-in-Some-Client-clause-first : goal.returns-in-Some-Client-clause-first
returns-in-Some-Client-clause-first g c = λ so empty no.
    let seats = c.args.roll.now.seats.items in
    first_took (taken_by c.args.coming.now) (taken_by c.pop.new.self) (comes.Client c.in-Some-Client.arrival) c.join.new.self.seats.items (search rules)
    (clients_took (taken_by c.args.coming.now) (taken_by c.pop.new.self) (comes.Client c.in-Some-Client.arrival) seats c.join.new.self.seats.items (search rules)
    (c.join.ensures.queues ∙ ap (λ (l : List Queues). l ++ client_queues c.in-Some-Client.arrival ∷ []) (ap seat_queues c.make_room.ensures.same.seats)) so)
    empty

pub returns-in-Some-Nobody-clause-first : goal.returns-in-Some-Nobody-clause-first
returns-in-Some-Nobody-clause-first g c = λ so empty no.
    let seats = c.args.roll.now.seats.items in
    first_took (taken_by c.args.coming.now) (taken_by c.pop.new.self) comes.Nobody c.make_room.new.self.seats.items (search rules)
    (clients_idle (taken_by c.args.coming.now) (taken_by c.pop.new.self) comes.Nobody seats c.make_room.new.self.seats.items (search rules) refl c.make_room.ensures.same.seats so) empty

pub returns-in-Some-Over-clause-first : goal.returns-in-Some-Over-clause-first
returns-in-Some-Over-clause-first g c = λ so empty no.
    let seats = c.args.roll.now.seats.items in
    first_took (taken_by c.args.coming.now) (taken_by c.pop.new.self) comes.Over c.make_room.new.self.seats.items (search rules)
    (clients_idle (taken_by c.args.coming.now) (taken_by c.pop.new.self) comes.Over seats c.make_room.new.self.seats.items (search rules) refl c.make_room.ensures.same.seats so) empty

pub returns-in-None-clause-memory : goal.returns-in-None-clause-memory
returns-in-None-clause-memory g c =
    let kept : taken_by c.pop.new.self ≡ taken_by c.args.coming.now = search rules in
    λ none. ap has_lack kept ∙ none

pub returns-in-Some-Client-clause-memory : goal.returns-in-Some-Client-clause-memory
returns-in-Some-Client-clause-memory g c = lack_took (taken_by c.args.coming.now) (taken_by c.pop.new.self) (comes.Client c.in-Some-Client.arrival) (search rules) refl

pub returns-in-Some-Nobody-clause-memory : goal.returns-in-Some-Nobody-clause-memory
returns-in-Some-Nobody-clause-memory g c = lack_took (taken_by c.args.coming.now) (taken_by c.pop.new.self) comes.Nobody (search rules) refl

pub returns-in-Some-Over-clause-memory : goal.returns-in-Some-Over-clause-memory
returns-in-Some-Over-clause-memory g c = lack_took (taken_by c.args.coming.now) (taken_by c.pop.new.self) comes.Over (search rules) refl

pub returns-in-Some-Closed-clause-memory : goal.returns-in-Some-Closed-clause-memory
returns-in-Some-Closed-clause-memory g c = lack_took (taken_by c.args.coming.now) (taken_by c.pop.new.self) comes.Closed (search rules) refl
