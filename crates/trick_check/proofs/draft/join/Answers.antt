use Rattle.std.proofs.Common.{refl}
use Rattle.trick_check.proofs.Joined.{blocks_hold, methods_hold, short_steps}
use Rattle.trick_check.proofs.draft.join.Goals as goal

pub invariant_of-result : goal.invariant_of-result
invariant_of-result c =
    let d = c.args.draft in
    let whole = c.requires.whole in
    let proper = c.requires.proper in
    let blocks = blocks_hold d c.from_vec.result c.from_vec.ensures whole c.blocks_law.ensures in
    let methods = methods_hold d c.from_vec.result c.from_vec.ensures whole c.program_law.ensures in
    record {
      cell_names = proper.cell_names;
      short_names = proper.short_names;
      plain_cells = proper.plain_cells;
      plain_names = proper.plain_names;
      in_span = blocks.in_span;
      in_cells = blocks.in_cells;
      in_order = blocks.in_order;
      own_class = blocks.own_class;
      deep_enough = blocks.deep_enough;
      locals_known = methods.locals_known;
      method_blocks = methods.method_blocks;
      object_cells = whole.object_cells;
      job_parts = proper.job_parts;
      job_numbers = whole.job_numbers;
      job_names = proper.job_names;
      right_instances = proper.right_instances;
      right_times = proper.right_times;
      right_threads = proper.right_threads;
      short = short_steps d c.from_vec.result c.from_vec.ensures whole;
      cell_limit = whole.cell_limit;
      job_limit = whole.job_limit;
    }

pub returns : goal.returns
returns c = record {
  cells = refl;
  items = refl;
  sizes = refl;
  objects = refl;
  blocks = c.from_vec.ensures;
  methods = refl;
  jobs = refl;
  slots = refl;
}
