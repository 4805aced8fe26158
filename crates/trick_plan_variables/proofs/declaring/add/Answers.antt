use Rattle.std.proofs.Common.{rules, ◌≡◌, ◌≤◌, ◌++◌, List, is_ok, subst, sym}
use Rattle.trick_plan_variables.proofs.Kept.{HasCells, either_way, kept}
use Rattle.trick_plan_variables.proofs.declaring.add.Goals as goal
use Rattle.trick_plan_variables.specs.Cells.{cells_of, total}
use Rattle.trick_lang.specs.declared.variable.Variable.{Variable}

pub invariant_of-program : goal.invariant_of-program
invariant_of-program c =
    let p = c.args.program.now in
    let known = c.args.known.now in
    let d = known.declaration in
    let few : total d.lengths p.cells ≤ 65536 = search rules in
    let more : c.in_ok-more.more.items ≡ cells_of d = search rules in
    let room : HasCells p (p.cells ++ c.in_ok-more.more.items) =
    subst (λ (cells : List Variable). HasCells p (p.cells ++ cells)) (sym more) (kept p d known.spelled c.requires.free few) in
    let has : HasCells p c.append.new.cells = either_way p c.append.new.cells c.in_ok-more.more.items (is_ok c.append.result) c.append.ensures room in
    record {
      cell_names = has.cell_names;
      short_names = p.short_names;
      plain_cells = has.plain_cells;
      plain_names = p.plain_names;
      in_span = p.in_span;
      in_cells = has.in_cells;
      in_order = p.in_order;
      own_class = p.own_class;
      deep_enough = p.deep_enough;
      locals_known = p.locals_known;
      method_blocks = p.method_blocks;
      object_cells = has.object_cells;
      job_parts = p.job_parts;
      job_numbers = p.job_numbers;
      job_names = p.job_names;
      right_instances = p.right_instances;
      right_times = p.right_times;
      right_threads = p.right_threads;
      short = p.short;
      cell_limit = has.cell_limit;
      job_limit = p.job_limit;
    }
