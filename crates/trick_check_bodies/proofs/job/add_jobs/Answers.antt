use Rattle.std.proofs.Common.{◌≡◌, ◌+◌, ◌++◌, ◌∷◌, [], ap, drop, take, sym, ◌∙◌, arith}
use Rattle.std.proofs.Math.ListN.{drop_of_length-le}
use Rattle.std.proofs.lemmas.List.{append-nil, append_assoc}
use Rattle.trick_check_bodies.proofs.Rows.{object_next}
use Rattle.trick_check_bodies.specs.Jobs.{object_jobs}
use Rattle.trick_lang.specs.Syntax.{jobs_of}
use Rattle.trick_check_bodies.proofs.job.add_jobs.Goals as goal

pub loop-place-preserved : goal.loop-place-preserved
loop-place-preserved c =
    let a = c.args in
    let lines = a.lines.now in
    let i = c.loop-place.place in
    let job = c.in_ok-job.job in
    let old = c.loop-place.jobs in
    let next = object_next a.object a.numbers.now lines i c.index-lines-place.result job c.loop-place-test.true c.index-lines-place.is c.in_ok-job.ensures in
    let rest = object_jobs a.object a.numbers.now (jobs_of (take (i + 1) lines)) (jobs_of (drop (i + 1) lines)) in
    ap (λ js. js ++ rest) c.in_ok-push.ensures.ok ∙ (append_assoc old (job ∷ []) rest ∙ (ap (λ js. old ++ js) next ∙ c.loop-place.invariant))

pub returns : goal.returns
returns c =
    let lines = c.args.lines.now in
    let i = c.loop-place.place in
    let none = ap (λ ls. object_jobs c.args.object c.args.numbers.now (jobs_of (take i lines)) (jobs_of ls)) (drop_of_length-le lines (omega arith)) in
    sym (append-nil c.loop-place.jobs) ∙ (ap (λ js. c.loop-place.jobs ++ js) (sym none) ∙ c.loop-place.invariant)
