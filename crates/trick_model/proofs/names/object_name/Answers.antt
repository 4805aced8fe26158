use Rattle.std.proofs.Common.{◌≡◌, ◌∙◌, slice_get, slice_index_or}
use Rattle.trick_lang.specs.Names.{object_name}
use Rattle.trick_model.proofs.NamesThere.{object_named, object_there}
use Rattle.trick_model.proofs.names.object_name.Goals as goal
use Rattle.trick_model.specs.Plan.{job_at}

pub bounds-as_slice-object : goal.bounds-as_slice-object
bounds-as_slice-object c = rw (c.job_of.ensures, c.as_slice.ensures) (object_there c.args.program.now c.args.job.0 c.requires)

pub returns : goal.returns
returns c =
    let objects = c.args.program.now.objects in
    let k = (job_at c.args.program.now.jobs c.args.job.0).object in
    let found : (slice_index_or c.as_slice.result.now c.job_of.result.now.object c.index-as_slice-object.result).name ≡ object_name (slice_get objects k) =
    rw (c.job_of.ensures, c.as_slice.ensures) (object_named objects k c.index-as_slice-object.result (object_there c.args.program.now c.args.job.0 c.requires)) in
    c.as_slice-2.ensures ∙ found
