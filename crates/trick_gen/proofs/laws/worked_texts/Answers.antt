use Rattle.std.proofs.Common.{refl}
use Rattle.std.specs.Fmt.{digits}
use Rattle.trick_gen.specs.Texts.{jobs_text}
use Rattle.trick_gen.proofs.laws.worked_texts.Goals as goal

pub returns-clause-first_jobs : goal.returns-clause-first_jobs
unfolding jobs_text digits
returns-clause-first_jobs c = refl

pub returns-clause-jobs : goal.returns-clause-jobs
unfolding jobs_text digits
returns-clause-jobs c = refl

pub returns-clause-first_object : goal.returns-clause-first_object
unfolding digits
returns-clause-first_object c = refl

pub returns-clause-object : goal.returns-clause-object
unfolding digits
returns-clause-object c = refl

pub returns-clause-definition : goal.returns-clause-definition
unfolding digits
returns-clause-definition c = refl
