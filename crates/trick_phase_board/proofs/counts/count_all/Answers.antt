use Rattle.std.proofs.Common.{◌≡◌, ◌<◌, ℕ, [], ◌+◌, List, ap, drop, inl, length, refl, subst, sym, arith, ◌∙◌}
use Rattle.std.proofs.lemmas.List.{drop_all, drop_more, length-set}
use Rattle.std.specs.List.{slice_index_or}
use Rattle.trick_phase_board.proofs.Counting.{IsLeftOrCounted, among_at, none_left, one_counted}
use Rattle.trick_phase_board.specs.Counts.{count_anew, open_among}
use Rattle.trick_lang.specs.declared.job.JobId.{JobId}
use Rattle.trick_model.specs.Valid.{ids}
use Rattle.trick_queue.specs.Line.{no_id}
use Rattle.trick_phase_board.proofs.counts.count_all.Goals as goal

pub loop-job-init : goal.loop-job-init
loop-job-init c = record { length_is = refl; counted = λ k among. inl among }

pub loop-job-preserved : goal.loop-job-preserved
loop-job-preserved c =
    let due = c.args.due.now in
    let tables = c.args.tables.now in
    let stages = c.args.stages.now in
    let i = c.loop-job.job-index in
    let job = slice_index_or due i no_id in
    let counts = c.loop-job.counts.items in
    let n = c.count-awaited.result in
    let same = c.loop-job.invariant.length_is in
    let was_there = c.requires.there job.0 (among_at due i no_id c.loop-job-test.true) in
    let there : job.0 < length counts = omega (arith, same, was_there) in
    let right : n ≡ count_anew tables stages job.0 =
    c.count-awaited.ensures ∙ ap (open_among stages)
    (c.list_at-depended.ensures ∙ ap (λ (lists : List (List JobId)). slice_index_or lists job.0 []) c.as_slice.ensures) in
    record {
      length_is = ap length c.set_number.ensures ∙ length-set counts job.0 n ∙ same;
      counted = λ k among.
          subst (λ (l : List ℕ). IsLeftOrCounted tables stages l (ids (drop (i + 1) due)) k) (sym c.set_number.ensures)
          (one_counted tables stages counts (ids (drop (i + 1) due)) job.0 n k right there
          (subst (λ (jobs : List JobId). IsLeftOrCounted tables stages counts (ids jobs) k) (drop_more due i no_id c.loop-job-test.true)
          (c.loop-job.invariant.counted k among)));
    }

pub returns-clause-counted : goal.returns-clause-counted
returns-clause-counted c = λ k among.
    none_left c.args.tables.now c.args.stages.now c.loop-job.counts.items k
    (subst (λ (jobs : List JobId). IsLeftOrCounted c.args.tables.now c.args.stages.now c.loop-job.counts.items (ids jobs) k)
    (drop_all c.loop-job.job-index c.args.due.now c.loop-job-test.false) (c.loop-job.invariant.counted k among))
