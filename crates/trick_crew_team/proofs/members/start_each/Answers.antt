use Rattle.std.proofs.Common.{◌∙◌, refl, subst, sym, vec_len}
use Rattle.trick_crew_team.proofs.Parts.{parts}
use Rattle.trick_crew_team.proofs.Starting.{IsStarting, cause_more, cause_none, none_done, one_more, starting_more, starting_none}
use Rattle.trick_crew_team.proofs.members.start_each.Goals as goal
use Rattle.trick_crew_team.specs.Members.{IsRefusedAny}
use Rattle.trick_crew_team.specs.Working.{HasWorked}
use Rattle.trick_outside.specs.Causes.{HasCause}

pub start-member-requires-send-W : goal.start-member-requires-send-W
start-member-requires-send-W g c κs within = search parts depth 30

pub loop-worker-init : goal.loop-worker-init
loop-worker-init g c = record {
  starting = subst (λ ms. IsStarting HasWorked c.args.workers.items c.args.workers.items ms) (sym c.requires.empty) (starting_none HasWorked c.args.workers.items);
  many = none_done (vec_len c.args.workers) (vec_len c.args.members.now) c.requires.none;
  room = refl;
  cause = cause_none (g.S.Spawner.failures c.args.spawner.now) c.args.members.now.items c.requires.empty;
}

pub loop-worker-preserved : goal.loop-worker-preserved
loop-worker-preserved g c = record {
  starting = subst (λ ms. IsStarting HasWorked c.args.workers.items c.pop.new.self.items ms) (sym c.push_reserved.ensures.items)
      (starting_more HasWorked c.args.workers.items c.pop.new.self.items c.loop-worker.workers.items c.loop-worker.members.items c.in-Some.worker c.start-member.result
      c.in-Some.ensures.items c.loop-worker.invariant.starting c.start-member.ensures.work);
  many = one_more (vec_len c.loop-worker.workers) (vec_len c.pop.new.self) (vec_len c.loop-worker.members) (vec_len c.push_reserved.new.self) (vec_len c.args.workers)
      c.loop-worker.invariant.many c.in-Some.ensures.len c.push_reserved.ensures.len;
  room = c.push_reserved.ensures.capacity ∙ c.loop-worker.invariant.room;
  cause = subst (λ ms. HasCause (g.S.Spawner.failures c.args.spawner.now) (g.S.Spawner.failures c.start-member.new.spawner) (IsRefusedAny ms)) (sym c.push_reserved.ensures.items)
      (cause_more (g.S.Spawner.failures c.args.spawner.now) (g.S.Spawner.failures c.loop-worker.spawner) (g.S.Spawner.failures c.start-member.new.spawner)
      c.loop-worker.members.items c.start-member.result c.loop-worker.invariant.cause c.start-member.ensures.cause);
}
