use Rattle.std.proofs.Common.{sym, ◌∙◌}
use Rattle.std.proofs.lemmas.List.{length-map}
use Rattle.trick_model.proofs.laws.plans_are_sound.Goals as goal
use Rattle.trick_model.proofs.PlanNames.{events_among, reads_among}
use Rattle.trick_model.specs.PlanOf.{event_of}

pub returns : goal.returns
returns c plan = record {
  effects = λ k cell memory stored n e found.
      c.range_law.ensures plan.program (record { 0 = k }) memory stored cell n e found;
  event_deeds = events_among plan;
  read_deeds = reads_among plan;
  limit = plan.limit_right;
  assigns = λ k d there. (plan.assigns_right k d there).in_range;
  jobs_flagged = plan.jobs_flagged;
  events_flagged = plan.events_flagged ∙ sym (length-map plan.events event_of);
  groups_flagged = plan.groups_flagged;
}
