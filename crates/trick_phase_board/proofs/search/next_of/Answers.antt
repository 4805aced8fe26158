use Rattle.std.proofs.Common.{◌≡◌, ◌<◌, ◌==◌, ℕ, [], List, ◌∙◌, ap, length, subst, sym, Option, Some}
use Rattle.std.proofs.lemmas.Bool.{and_parts, eqb-true}
use Rattle.std.specs.List.{slice_index_or}
use Rattle.std.specs.Option.{IfSome}
use Rattle.trick_phase_board.proofs.Counting.{none_open, waiting_is_due}
use Rattle.trick_phase_board.proofs.Found.{in_depended, in_line, other_below}
use Rattle.trick_phase_board.proofs.Nexts.{ready_found}
use Rattle.trick_phase_board.specs.Counts.{IsCounted, count_at}
use Rattle.trick_phase_board.specs.Search.{find_wanted}
use Rattle.trick_phase_board.specs.declared.search.Wanted.TheVariants.{Open, Waiting}
use Rattle.trick_lang.specs.declared.job.JobId.{JobId}
use Rattle.trick_model.specs.PlanOf.{plan_of}
use Rattle.trick_phase_board.proofs.search.next_of.Goals as goal

pub has_none_left-requires : goal.has_none_left-requires
has_none_left-requires c =
    let n = length c.args.plan.now.program.jobs in
    let stages = c.args.stages.now in
    let line = c.list_at-line.ensures ∙ ap (λ (lists : List (List JobId)). slice_index_or lists c.args.thread []) c.as_slice.ensures in
    let there : c.in-Some.job.0 < n = subst (λ (o : Option JobId). IfSome o (λ (j : JobId). j.0 < n))
    (sym (c.in-Some.ensures ∙ ap (λ (jobs : List JobId). find_wanted Waiting stages jobs) line))
    (in_line (plan_of c.args.plan.now) c.args.tables.now c.requires.tables Waiting stages c.args.thread) in
    subst (λ (many : ℕ). c.in-Some.job.0 < many) (sym c.requires.tables.many) there

pub returns-then-has_none_left : goal.returns-then-has_none_left
returns-then-has_none_left c =
    let stages = c.args.stages.now in
    let tables = c.args.tables.now in
    let job = c.in-Some.job in
    let line = c.list_at-line.ensures ∙ ap (λ (lists : List (List JobId)). slice_index_or lists c.args.thread []) c.as_slice.ensures in
    let found : find_wanted Waiting stages (slice_index_or tables.lines c.args.thread []) ≡ Some job =
    sym (c.in-Some.ensures ∙ ap (λ (jobs : List JobId). find_wanted Waiting stages jobs) line) in
    let none = and_parts (count_at c.args.known.now.counts.items job.0 == 0) _ (sym c.has_none_left.ensures ∙ c.if-has_none_left.true) in
    let counted = c.requires.counted job.0 (waiting_is_due stages (slice_index_or tables.lines c.args.thread []) job found) in
    ready_found (plan_of c.args.plan.now) tables stages c.args.thread job found (c.requires.first job found (eqb-true _ _ none.1))
    (none_open stages (slice_index_or tables.depended job.0 []) (sym counted ∙ eqb-true _ _ none.0))

pub awaited-depended-requires : goal.awaited-depended-requires
awaited-depended-requires c =
    let stages = c.args.stages.now in
    let line = c.list_at-line.ensures ∙ ap (λ (lists : List (List JobId)). slice_index_or lists c.args.thread []) c.as_slice.ensures in
    subst (λ (l : List ℕ). IsCounted c.args.tables.now stages l c.in-Some.job.0) (sym c.deref-2.ensures.value)
    (c.requires.counted c.in-Some.job.0
    (waiting_is_due stages (slice_index_or c.args.tables.now.lines c.args.thread []) c.in-Some.job
    (sym (c.in-Some.ensures ∙ ap (λ (jobs : List JobId). find_wanted Waiting stages jobs) line))))

pub least-requires-clause-one : goal.least-requires-clause-one
least-requires-clause-one c =
    let n = length c.args.plan.now.program.jobs in
    let stages = c.args.stages.now in
    let line = c.list_at-line.ensures ∙ ap (λ (lists : List (List JobId)). slice_index_or lists c.args.thread []) c.as_slice.ensures in
    let first = subst (λ (o : Option JobId). IfSome o (λ (j : JobId). j.0 < n))
    (sym (c.find_behind-first.ensures ∙ ap (λ (jobs : List JobId). find_wanted Open stages jobs) line))
    (in_line (plan_of c.args.plan.now) c.args.tables.now c.requires.tables Open stages c.args.thread) in
    subst (λ (o : Option JobId). IfSome o (λ (j : JobId). j.0 < n)) (sym c.other-before.ensures)
    (other_below c.in-Some.job n c.find_behind-first.result first)

pub least-requires-clause-other : goal.least-requires-clause-other
least-requires-clause-other c =
    let n = length c.args.plan.now.program.jobs in
    let stages = c.args.stages.now in
    let line = c.list_at-line.ensures ∙ ap (λ (lists : List (List JobId)). slice_index_or lists c.args.thread []) c.as_slice.ensures in
    let there : c.in-Some.job.0 < n = subst (λ (o : Option JobId). IfSome o (λ (j : JobId). j.0 < n))
    (sym (c.in-Some.ensures ∙ ap (λ (jobs : List JobId). find_wanted Waiting stages jobs) line))
    (in_line (plan_of c.args.plan.now) c.args.tables.now c.requires.tables Waiting stages c.args.thread) in
    subst (λ (o : Option JobId). IfSome o (λ (j : JobId). j.0 < n)) (sym c.awaited-depended.ensures)
    (in_depended (plan_of c.args.plan.now) c.args.tables.now c.requires.tables Open stages c.in-Some.job.0 there)
