use Rattle.trick_model.specs.PlanOf.{plan_of}
use Rattle.trick_model.specs.Run.{lists_of}
use Rattle.trick_model_publications.proofs.Journals.{lists_many, lists_same}
use Rattle.trick_model_publications.proofs.Runs.{fit_kept, whole_runs}
use Rattle.trick_model_publications.proofs.Steady.{steady}
use Rattle.trick_model_publications.proofs.laws.publications_stay_in_reach.Goals as goal

pub returns-clause-ends : goal.returns-clause-ends
returns-clause-ends c plan s one other accepted differ fits also =
    whole_runs (plan_of plan) (steady c.frame_law.ensures c.write_law.ensures plan accepted) s one other differ fits also

pub returns-clause-fits : goal.returns-clause-fits
returns-clause-fits c plan s one other accepted differ many fits =
    fit_kept (plan_of plan) (steady c.frame_law.ensures c.write_law.ensures plan accepted) s one other differ many fits

pub returns-clause-journals : goal.returns-clause-journals
returns-clause-journals c plan s one other end accepted differ fits =
    let p = plan_of plan in
    let right = steady c.frame_law.ensures c.write_law.ensures plan accepted in
    let same = lists_same one other end s.turn s.mode differ in
    let also = fit_kept p right s (lists_of one end s.turn s.mode) (lists_of other end s.turn s.mode) same (lists_many one other end s.turn s.mode) fits.fits in
    (record { not_below = fits.not_below; fits = also }, whole_runs p right s (lists_of one end s.turn s.mode) (lists_of other end s.turn s.mode) same fits.fits also)
