use Rattle.std.proofs.Common.{◌≡◌, ◌∙◌, Some, refl, rules}
use Rattle.trick_serve_clients.proofs.Lateness.{late_client, late_none, late_other, popped}
use Rattle.trick_serve_clients.proofs.late.take_late.Goals as goal
use Rattle.trick_serve_seats.specs.declared.arrival.Comes.TheVariants.{Client, Nobody, Over, OutOfMemory}
use Rattle.trick_wire.specs.Ends.{taken_by}

pub loop-init : goal.loop-init
loop-init g c = record { room = c.args.room.room; queue = refl; late = late_none (taken_by c.args.coming.now) _ c.args.room.none }

pub loop-preserved-in-Some-Client : goal.loop-preserved-in-Some-Client
loop-preserved-in-Some-Client g c =
    let is : c.pop.result ≡ Some (Client c.in-Some-Client.arrival) = search rules in record {
      room = c.keep.ensures.room;
      queue = c.pop.ensures.queue ∙ c.loop.invariant.queue;
      late = late_client (taken_by c.args.coming.now) (taken_by c.loop.coming) (taken_by c.pop.new.self) c.in-Some-Client.arrival c.loop.ends.items c.keep.new.ends.items
          (popped c.pop.result _ (taken_by c.loop.coming) (taken_by c.pop.new.self) is c.pop.ensures.taken) c.keep.ensures.kept c.keep.ensures.full c.loop.invariant.late;
    }

pub loop-preserved-in-Some-Nobody : goal.loop-preserved-in-Some-Nobody
loop-preserved-in-Some-Nobody g c =
    let is : c.pop.result ≡ Some Nobody = search rules in record {
      room = c.loop.invariant.room;
      queue = c.pop.ensures.queue ∙ c.loop.invariant.queue;
      late = late_other (taken_by c.args.coming.now) (taken_by c.loop.coming) (taken_by c.pop.new.self) Nobody c.loop.ends.items
          (popped c.pop.result Nobody (taken_by c.loop.coming) (taken_by c.pop.new.self) is c.pop.ensures.taken) refl c.loop.invariant.late;
    }

pub loop-preserved-in-Some-Over : goal.loop-preserved-in-Some-Over
loop-preserved-in-Some-Over g c =
    let is : c.pop.result ≡ Some Over = search rules in record {
      room = c.loop.invariant.room;
      queue = c.pop.ensures.queue ∙ c.loop.invariant.queue;
      late = late_other (taken_by c.args.coming.now) (taken_by c.loop.coming) (taken_by c.pop.new.self) Over c.loop.ends.items
          (popped c.pop.result Over (taken_by c.loop.coming) (taken_by c.pop.new.self) is c.pop.ensures.taken) refl c.loop.invariant.late;
    }

pub loop-preserved : goal.loop-preserved
loop-preserved g c =
    let is : c.pop.result ≡ Some OutOfMemory = search rules in record {
      room = c.loop.invariant.room;
      queue = c.pop.ensures.queue ∙ c.loop.invariant.queue;
      late = late_other (taken_by c.args.coming.now) (taken_by c.loop.coming) (taken_by c.pop.new.self) OutOfMemory c.loop.ends.items
          (popped c.pop.result OutOfMemory (taken_by c.loop.coming) (taken_by c.pop.new.self) is c.pop.ensures.taken) refl c.loop.invariant.late;
    }
