use Rattle.std.specs.Arc.{arc_value}
use Rattle.trick_top_alone.proofs.ActedLemmas.{loaded_from}
use Rattle.trick_top.proofs.ServeLemmas.{no_checkpoint}
use Rattle.trick_top.proofs.runs.resumed.Goals as goal

pub returns-in-Ok-clause-first : goal.returns-in-Ok-clause-first
returns-in-Ok-clause-first c =
    let is = rw (c.plan.ensures.plan, c.deref.ensures) at c.in-Ok.ensures.checkpoint in
    let same = rw (c.plan.ensures.plan, c.deref.ensures) at c.in-Ok.ensures.same in record {
      starts = loaded_from (arc_value c.args.accepted.now).plan c.args.text.now _ is same;
      valid = is.valid;
      memory = rw (c.plan.ensures.plan, c.deref.ensures) at c.in-Ok.ensures.memory;
    }

pub returns-in-Err-clause-none : goal.returns-in-Err-clause-none
returns-in-Err-clause-none c =
    let refuses = rw (c.plan.ensures.plan, c.deref.ensures) at c.in-Err.ensures.loaded in
    let same = rw (c.plan.ensures.plan, c.deref.ensures) at c.in-Err.ensures.same in
    no_checkpoint (arc_value c.args.accepted.now).plan c.args.text.now c.in-Err.fault _ c.unloaded.ensures refuses same
