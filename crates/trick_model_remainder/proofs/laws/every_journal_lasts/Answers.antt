use Rattle.trick_model_remainder.proofs.Going.{every_journal_lasts}
use Rattle.trick_model_remainder.proofs.laws.every_journal_lasts.Goals as goal

pub returns : goal.returns
returns c = λ plan s left good.
    every_journal_lasts c.turns_keep_validity.ensures c.plans_are_sound.ensures plan s left good
