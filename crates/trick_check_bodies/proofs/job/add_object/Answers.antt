use Rattle.std.proofs.Common.{◌≡◌, ◌++◌, [], ap, sym, ◌∙◌}
use Rattle.trick_base.proofs.Results.{on_ok}
use Rattle.trick_check_bodies.proofs.Rows.{numbers_in, numbers_past}
use Rattle.trick_check_bodies.specs.Jobs.{numbers_at, object_jobs}
use Rattle.trick_lang.specs.Syntax.{jobs_of}
use Rattle.trick_check_bodies.proofs.job.add_object.Goals as goal

pub returns-then-place-numbers : goal.returns-then-place-numbers
returns-then-place-numbers c =
    let old = c.args.jobs.now in
    let lines = jobs_of c.lines_at-lines.result.now in
    let own = c.new-none.ensures ∙ sym (numbers_past c.args.numbers.now c.args.class c.if-place-numbers.true) in
    on_ok c.add_jobs.result (λ e. e ∙ (ap (λ n. old ++ object_jobs c.args.object n [] lines) own ∙ ap (λ ls. old ++ object_jobs c.args.object (numbers_at c.args.numbers.now c.args.class) [] ls) c.lines_at-lines.ensures)) c.add_jobs.ensures

pub returns : goal.returns
returns c =
    let old = c.args.jobs.now in
    let lines = jobs_of c.lines_at-lines.result.now in
    let own = numbers_in c.args.numbers.now c.args.class c.index-numbers-place.result c.if-place-numbers.false c.index-numbers-place.is in
    on_ok c.add_jobs-2.result (λ e. e ∙ (ap (λ n. old ++ object_jobs c.args.object n [] lines) own ∙ ap (λ ls. old ++ object_jobs c.args.object (numbers_at c.args.numbers.now c.args.class) [] ls) c.lines_at-lines.ensures)) c.add_jobs-2.ensures
