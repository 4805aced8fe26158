use Rattle.std.proofs.Common.{refl, sym}
use Rattle.trick_lang.specs.declared.class.Class.TheVariants as class
use Rattle.trick_model.specs.PlanOf.{plan_of}
use Rattle.trick_model.specs.State.{seen}
use Rattle.trick_exec_frame.proofs.IdleLemmas.{class_idles}
use Rattle.trick_exec_frame.proofs.idle.run_end_of_frame.Goals as goal

pub returns-else-has_jobs-clause-ran : goal.returns-else-has_jobs-clause-ran
returns-else-has_jobs-clause-ran g c =
    sym (class_idles (plan_of c.args.plan.now) class.EndOfFrame (seen g.M.Cells.numbers c.args.state.now) (c.if-has_jobs.ensures refl))
