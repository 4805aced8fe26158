use Rattle.std.proofs.Common.{Ok, ap, ◌∙◌}
use Rattle.trick_chkpt_lines.proofs.Reading.{state_is, state_read}
use Rattle.trick_chkpt.proofs.loader.read_state.Goals as goal

pub returns-clause-told : goal.returns-clause-told
returns-clause-told g c =
    state_read c.args.plan.now _ _ _ _ _ _ _ _ _ _ _ _ _ _ _ _ c.in_ok-head.ensures c.in_ok-memory.ensures.told c.in_ok-jobs.ensures c.in_ok-events.ensures
    c.in_ok-groups.ensures.told c.in_ok-taken.ensures c.in_ok-faults.ensures c.in_ok-rest.ensures
    ∙ ap (λ s. Ok (s, c.in_ok-rest.rest.now)) (state_is _ _ _ _ _ _ _ _ c.in_ok-groups.ensures.sizes)
