use Rattle.std.proofs.Common.{◌≡◌, ◌∙◌, slice_get, slice_index_or}
use Rattle.trick_lang.specs.Names.{method_name}
use Rattle.trick_model.proofs.NamesThere.{method_named, method_there}
use Rattle.trick_model.proofs.names.method_name.Goals as goal
use Rattle.trick_model.specs.Plan.{job_at}

pub bounds-as_slice-method : goal.bounds-as_slice-method
bounds-as_slice-method c = rw (c.job_of.ensures, c.as_slice.ensures) (method_there c.args.program.now c.args.job.0 c.requires)

pub returns : goal.returns
returns c =
    let methods = c.args.program.now.methods in
    let k = (job_at c.args.program.now.jobs c.args.job.0).method in
    let found : (slice_index_or c.as_slice.result.now c.job_of.result.now.method c.index-as_slice-method.result).name ≡ method_name (slice_get methods k) =
    rw (c.job_of.ensures, c.as_slice.ensures) (method_named methods k c.index-as_slice-method.result (method_there c.args.program.now c.args.job.0 c.requires)) in
    c.as_slice-2.ensures ∙ found
