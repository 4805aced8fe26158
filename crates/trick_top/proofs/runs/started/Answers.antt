use Rattle.std.proofs.Common.{◌∙◌, ap, inr, refl, subst, sym}
use Rattle.trick_model.specs.PlanOf.{plan_of}
use Rattle.trick_model.specs.Run.{start}
use Rattle.trick_model.specs.ValidState.{IsStateOf}
use Rattle.trick_model.specs.declared.accepted.Accepted.{Accepted}
use Rattle.trick_top.proofs.runs.started.Goals as goal

pub returns-in-Ok-clause-first : goal.returns-in-Ok-clause-first
returns-in-Ok-clause-first c =
    let p = plan_of c.deref.result.now.plan in record {
      starts = c.in-Ok.ensures.started ∙ ap (λ (a : Accepted). start (plan_of a.plan)) c.deref.ensures;
      valid = rw (← c.deref.ensures) (subst (IsStateOf p) (sym c.in-Ok.ensures.started) (c.runs_start_valid.ensures.start p (c.plans_are_sound.ensures c.deref.result.now.plan)));
      memory = rw c.deref.ensures at c.in-Ok.ensures.memory;
    }

pub returns-in-Err-clause-none : goal.returns-in-Err-clause-none
returns-in-Err-clause-none c = inr refl
