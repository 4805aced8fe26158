use Rattle.std.proofs.Common.{◌∙◌, List, ℕ, subst, sym}
use Rattle.trick_chkpt_lines.specs.CheckpointLines.{checkpoint}
use Rattle.trick_codes.specs.Loads.{Loads}
use Rattle.trick_model.specs.State.{seen}
use Rattle.trick_chkpt_state.proofs.Again.{checkpoint_if, loaded_as, memory_if}
use Rattle.trick_chkpt_state.proofs.loading.resume.Goals as goal

pub returns-clause-checkpoint : goal.returns-clause-checkpoint
returns-clause-checkpoint c =
    checkpoint_if (seen (λ memory. memory.numbers)) c.args.plan.now c.args.text.now c.load.result c.checkpoints_are_of_states.ensures
    c.checkpoints_have_numbers.ensures c.lines_are_the_text.ensures c.load.ensures.loaded

pub returns-clause-same : goal.returns-clause-same
returns-clause-same c = λ s right.
    let plan = c.args.plan.now in
    let holds = c.states_have_checkpoints.ensures plan s right.valid right.numbers in
    loaded_as (seen (λ memory. memory.numbers)) plan s c.load.result c.no_checkpoint_is_a_proper_prefix.ensures c.lines_are_the_text.ensures holds
    (subst (λ (ts : List ℕ). Loads (seen (λ memory. memory.numbers)) (checkpoint plan) ts c.load.result)
    (right.is ∙ sym (c.lines_are_the_text.ensures plan s holds)) c.load.ensures.loaded)

pub returns-clause-memory : goal.returns-clause-memory
returns-clause-memory c =
    memory_if (seen (λ memory. memory.numbers)) (λ state. state.memory.scalars) c.args.plan.now c.args.text.now c.load.result
    c.checkpoints_are_of_states.ensures c.load.ensures.loaded c.load.ensures.scalars
