use Rattle.std.proofs.Common.{◌∙◌, ap, append-nil, subst}
use Rattle.trick_crew_team.proofs.Openings.{still_open}
use Rattle.trick_crew_team.proofs.team.close.Goals as goal
use Rattle.trick_hall_kept.specs.Answers.{IsSerial}
use Rattle.trick_hall_kept.specs.Openings.{opened_at}
use Rattle.trick_model.specs.FaultList.{FaultList}
use Rattle.trick_turn.specs.Passes.{own}

pub returns-in-Memory-clause-serial : goal.returns-in-Memory-clause-serial
returns-in-Memory-clause-serial g c x is =
    subst (λ (faults : FaultList). IsSerial c.args.accepted.now.plan x (g.M.Cells.numbers c.in-Memory.memory) faults c.close.new.faults) c.loop.invariant.4
    (c.in-Memory.ensures.answer x (ap opened_at c.loop.invariant.2 ∙ is)).answers

pub loop-preserved : goal.loop-preserved
loop-preserved g c =
    let x = still_open _ _ c.loop.invariant.2 c.requires.opened in
    let left = c.in-Left.ensures.answer x.0 x.1 in (
      tt,
      tt,
      left.told.own_is ∙ append-nil (own c.loop.chief.pass) ∙ c.loop.invariant.2,
      c.in-Left.ensures.lock ∙ c.loop.invariant.3,
      left.answers.0 ∙ c.loop.invariant.4,
      c.work.ensures.lock ∙ c.loop.invariant.5,
      c.work.ensures.bench ∙ c.loop.invariant.6,
    )
