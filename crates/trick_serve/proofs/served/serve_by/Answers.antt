use Rattle.std.proofs.Common.{refl}
use Rattle.trick_model.specs.PlanOf.{plan_of}
use Rattle.trick_model.specs.State.{State, seen}
use Rattle.trick_exec_meaning.specs.Hosts.{at}
use Rattle.trick_serve_source.specs.Rolls.{view_of}
use Rattle.trick_serve_source.specs.declared.here.ServedHere.{ServedHere}
use Rattle.trick_serve_source.specs.declared.served.Served.{Served}
use Rattle.trick_serve_seats.specs.Taking.{Hosts, hosts}
use Rattle.trick_serve.proofs.Beginning.{not_begun}
use Rattle.trick_serve.proofs.Earlier.{served_from}
use Rattle.trick_serve.proofs.Results.{served_by}
use Rattle.trick_serve.proofs.Turning.{run_went, same_back, same_way}
use Rattle.trick_serve.proofs.served.serve_by.Goals as goal
use Rattle.trick_serve.specs.Serving.{moment, outside}

pub close_here-requires-clause-asking : goal.close_here-requires-clause-asking
close_here-requires-clause-asking g c =
    let run = c.run_by-ended-in-Here in
    let went = run_went g.row.M.Denot _ (plan_of c.args.accepted.now.plan) (seen g.M.Cells.numbers c.args.start.state) _ _ run.result run.ensures.ran in
    went.2.asked _ c.in-Here.ensures.asking

pub close_here-requires-clause-way : goal.close_here-requires-clause-way
close_here-requires-clause-way g c =
    let run = c.run_by-ended-in-Here in
    let clients = c.in-Here.clients in
    let went = run_went g.row.M.Denot _ (plan_of c.args.accepted.now.plan) (seen g.M.Cells.numbers c.args.start.state) _ _ run.result run.ensures.ran in
    same_way clients.served.served run.new.turns.served went.2.went_on.same clients.begun.value.coming c.in-Here.ensures.unserved.way

pub close_here-requires-clause-back : goal.close_here-requires-clause-back
close_here-requires-clause-back g c =
    let run = c.run_by-ended-in-Here in
    let clients = c.in-Here.clients in
    let went = run_went g.row.M.Denot _ (plan_of c.args.accepted.now.plan) (seen g.M.Cells.numbers c.args.start.state) _ _ run.result run.ensures.ran in
    same_back clients.served.served run.new.turns.served went.2.went_on.same clients.begun.value.gone c.in-Here.ensures.unserved.back

pub returns-in-Open : goal.returns-in-Open
returns-in-Open g c =
    let h : Hosts g.row.D.Denot g.row.D-In.Denot g.row.D-Out.Denot g.row.S.Denot = hosts g.D.Door.visited g.D.In.LinkIn g.D.Out.LinkOut g.S.Spawner.failures g.D.Door.has_client in
    let p = plan_of c.args.accepted.now.plan in
    let s : State = seen g.M.Cells.numbers c.args.start.state in
    let clients = c.in-Open.clients in
    let begun = clients.begun.value in
    let all = served_by g.F.Shelf h _ _ c.stopped_runs_leave_fronts.ensures c.rounds_are_bounded.ensures c.joins_are_in_order.ensures c.tended_clients_are_served.ensures c.tended_clients_are_sent.ensures
    (λ (u : Served g.row.D-In.Denot g.row.D-Out.Denot g.row.R.Denot). view_of u) (λ before now given said went. went.went)
    p s (at c.args.shelf.now clients.served c.args.workers.now.posts) (at c.run_by-ended.new.shelf c.run_by-ended.new.turns c.run_by-ended.new.workers.posts) refl c.in-Open.ensures.unserved.seats
    begun.door begun.spawner c.close_clients.result c.close_clients.ensures c.run_by-ended.result c.run_by-ended.ensures.ran in
    rw c.service_of.ensures (rw c.tally_of-tally.ensures (rw (← c.in-Open.ensures.door_is) (rw (← c.in-Open.ensures.spawner_is) (record { served = all }))))

pub returns-in-Here : goal.returns-in-Here
returns-in-Here g c =
    let h : Hosts g.row.D.Denot g.row.D-In.Denot g.row.D-Out.Denot g.row.S.Denot = hosts g.D.Door.visited g.D.In.LinkIn g.D.Out.LinkOut g.S.Spawner.failures g.D.Door.has_client in
    let p = plan_of c.args.accepted.now.plan in
    let s : State = seen g.M.Cells.numbers c.args.start.state in
    let clients = c.in-Here.clients in
    let begun = clients.begun.value in
    let all = served_by g.F.Shelf h _ _ c.stopped_runs_leave_fronts-2.ensures c.rounds_are_bounded.ensures c.joins_are_in_order.ensures c.tended_clients_are_served.ensures c.tended_clients_are_sent.ensures
    (λ (u : ServedHere g.row.D.Denot g.row.S.Denot g.row.R.Denot g.row.D-In.Denot g.row.D-Out.Denot). view_of u.served) (λ before now given said went. went.went_on.went)
    p s (at c.args.shelf.now clients.served c.args.workers.now.posts) (at c.run_by-ended-in-Here.new.shelf c.run_by-ended-in-Here.new.turns c.run_by-ended-in-Here.new.workers.posts) refl c.in-Here.ensures.unserved.seats
    begun.door begun.spawner c.close_here.result c.close_here.ensures c.run_by-ended-in-Here.result c.run_by-ended-in-Here.ensures.ran in
    rw c.service_of-in-Here.ensures (rw c.tally_of-tally-in-Here.ensures (rw (← c.in-Here.ensures.door_is) (record {
      served = served_from (outside g.F.Shelf h) p s c.args.shelf.now begun.door c.args.reception.spawner begun.spawner
          (moment c.run_by-ended-in-Here.new.shelf c.close_here.result.door c.close_here.result.spawner) _ _ c.in-Here.ensures.later all;
    })))

pub returns-in-OutOfMemory : goal.returns-in-OutOfMemory
returns-in-OutOfMemory g c =
    let h : Hosts g.row.D.Denot g.row.D-In.Denot g.row.D-Out.Denot g.row.S.Denot = hosts g.D.Door.visited g.D.In.LinkIn g.D.Out.LinkOut g.S.Spawner.failures g.D.Door.has_client in
    let p = plan_of c.args.accepted.now.plan in
    let s : State = seen g.M.Cells.numbers c.args.start.state in
    let door = g.met.D.Door g.world.𝓛 g.world.𝓜 g.world.𝓡 ((λ s x. x), (λ x. x), (λ x. x), λ x. x) in
    let start = c.args.reception in
    rw c.not_begun.ensures (rw c.in-OutOfMemory.ensures.0 (rw c.in-OutOfMemory.ensures.1
    (record { served = not_begun g.F.Shelf h p s c.args.shelf.now start.door start.spawner start.spawner (g.met.F.Shelf.called_none c.args.shelf.now) (door.visited_none start.door) })))
