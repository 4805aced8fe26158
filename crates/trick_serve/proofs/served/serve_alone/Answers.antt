use Rattle.std.specs.Arc.{arc_value}
use Rattle.trick_model.specs.PlanOf.{plan_of}
use Rattle.trick_model.specs.State.{State, seen}
use Rattle.trick_serve_seats.specs.Taking.{Hosts, hosts}
use Rattle.trick_serve.proofs.Beginning.{not_begun}
use Rattle.trick_serve.proofs.served.serve_alone.Goals as goal

pub returns-in_default : goal.returns-in_default
returns-in_default g c =
    let h : Hosts g.row.D.Denot g.row.D-In.Denot g.row.D-Out.Denot g.row.S.Denot = hosts g.D.Door.visited g.D.In.LinkIn g.D.Out.LinkOut g.S.Spawner.failures g.D.Door.has_client in
    let p = plan_of (arc_value c.args.accepted.now).plan in
    let s : State = seen (λ memory. memory.numbers) c.args.state in
    let door = g.met.D.Door g.world.𝓛 g.world.𝓜 g.world.𝓡 ((λ s x. x), (λ x. x), (λ x. x), λ x. x) in
    let start = c.args.reception in
    rw c.not_begun.ensures
    (record { served = not_begun g.F.Shelf h p s c.args.shelf.now start.door start.spawner start.spawner (g.met.F.Shelf.called_none c.args.shelf.now) (door.visited_none start.door) })
