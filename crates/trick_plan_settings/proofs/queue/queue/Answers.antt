use Rattle.std.proofs.Common.{◌≡◌, ◌∙◌, List, All, ap, map, subst}
use Rattle.std.proofs.lemmas.Result.{IfOk-weaker}
use Rattle.trick_lang.specs.declared.job.Job.{Job}
use Rattle.trick_lang.specs.declared.job.JobId.{JobId}
use Rattle.trick_model.specs.Order.{jobs_in}
use Rattle.trick_model.specs.Valid.{ids}
use Rattle.trick_plan_settings.proofs.Queued.{in_order}
use Rattle.trick_plan_settings.proofs.queue.queue.Goals as goal
use Rattle.trick_plan_settings.specs.Keys.{HasSmallKey, entry_of, jobs_of, numbers_of}

pub returns : goal.returns
returns c =
    let p = c.args.program.now in
    let class = c.args.class in
    let found = c.in_ok-found.found.items in
    let e : c.as_slice.result.now ≡ p.jobs = c.as_slice.ensures in
    let small : All HasSmallKey p.jobs = subst (λ (jobs : List Job). All HasSmallKey jobs) e c.in_ok-found.ensures.small in
    let is : found ≡ map (entry_of p.jobs) (numbers_of p.jobs class) =
    subst (λ (jobs : List Job). found ≡ map (entry_of jobs) (numbers_of jobs class)) e c.in_ok-found.ensures.jobs in
    let sorted = c.put_in_order.new.found.items in
    let ordered : jobs_of sorted ≡ jobs_in p.jobs class =
    in_order p.jobs class small p.job_numbers found sorted is c.in_ok-put_in_order.ensures.same c.in_ok-put_in_order.ensures.order in
    IfOk-weaker c.without_keys.result (λ (jobs : List JobId). ids jobs ≡ jobs_of c.deref.result.now) (λ (jobs : List JobId). ids jobs ≡ jobs_in p.jobs class)
    (λ jobs h. h ∙ (ap jobs_of c.deref.ensures.value ∙ ordered))
    c.without_keys.ensures
