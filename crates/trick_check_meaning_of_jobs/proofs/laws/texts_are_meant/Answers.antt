use Rattle.trick_lang.specs.SDefineOf.{sdefine_of}
use Rattle.trick_check_meaning_of_jobs.proofs.laws.texts_are_meant.Goals as goal

pub returns : goal.returns
returns c = λ text s p is named id job there numbers.
    c.effects_are_meant.ensures (sdefine_of s) p named (c.texts_are_readable.ensures text s is) id job there numbers
