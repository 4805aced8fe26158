use Rattle.trick_check_meaning_of_jobs.proofs.Example.{has_program}
use Rattle.trick_check_meaning_of_jobs.proofs.laws.a_file_keeps_what_is_asked.Goals as goal

pub returns : goal.returns
returns c = has_program
