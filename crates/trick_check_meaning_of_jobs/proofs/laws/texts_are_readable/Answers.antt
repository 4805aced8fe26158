use Rattle.trick_lang.specs.SDefineOf.{sdefine_of}
use Rattle.trick_check_meaning_of_jobs.proofs.Lengths.{have_elements}
use Rattle.trick_check_meaning_of_jobs.proofs.laws.texts_are_readable.Goals as goal

pub returns : goal.returns
returns c = λ text s is. record { elements = have_elements (sdefine_of s) s.right_lengths; loops = s.short_loops }
