use Rattle.std.proofs.Common.{List, ℕ, ◌++◌, sym, ap, ◌∙◌}
use Rattle.trick_chkpt.proofs.IsSound.{checkpoint_sound}
use Rattle.trick_chkpt.proofs.Text.{spells}
use Rattle.trick_chkpt.proofs.laws.no_checkpoint_is_a_proper_prefix.Goals as goal
use Rattle.trick_chkpt_lines.specs.CheckpointLines.{checkpoint}
use Rattle.trick_codes.proofs.Lines.{no_front}

pub returns : goal.returns
returns c = λ plan s t more h k e.
    no_front (checkpoint plan) (checkpoint_sound plan) s t more h k
    (ap (λ (us : List ℕ). us ++ more) (spells plan s h) ∙ e ∙ sym (spells plan t k))
