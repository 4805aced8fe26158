use Rattle.std.proofs.Common.{◌≡◌, ◌∙◌, ◌<◌, ℕ, [], ap, length, subst, sym}
use Rattle.std.specs.List.{slice_index_or}
use Rattle.trick_eval.proofs.ReadRanges.{difference_is}
use Rattle.trick_eval.proofs.bench.Bench.differs.Goals as goal
use Rattle.std.specs.Option.{MatchOption}
use Rattle.trick_eval.specs.Bench.{BenchView, IsFirstDifference, the_job}
use Rattle.trick_access.specs.Ranges.{AreCellsOf}
use Rattle.trick_lang.specs.Effect.{reads}
use Rattle.trick_lang.specs.Laws.{AgreeOn}
use Rattle.trick_lang.specs.declared.job.JobId.{JobId}

pub ranges_of-ranges-requires : goal.ranges_of-ranges-requires
ranges_of-ranges-requires g c =
    let jobs = c.args.program.now.jobs in
    let is : c.job_of-job.result ≡ the_job c.args.self.now.job = c.job_of-job.ensures ∙ ap (λ (v : BenchView). the_job v.job) c.self.view_is in
    let many : length c.as_slice.result.now ≡ length jobs =
    ap length c.as_slice.ensures ∙ ap (λ (v : BenchView). length v.parts.reads) c.self.view_is ∙ c.requires.bench.many in
    subst (λ (n : ℕ). c.job_of-job.result.0 < n) (sym many) (subst (λ (j : JobId). j.0 < length jobs) (sym is) c.requires.filled.1)

pub returns : goal.returns
returns g c =
    let p = c.args.program.now in
    let job = the_job c.args.self.now.job in
    let ranges = c.ranges_of-ranges.result.now in
    let m = g.M.Cells.numbers c.args.from.now in
    let is : c.job_of-job.result ≡ job = c.job_of-job.ensures ∙ ap (λ (v : BenchView). the_job v.job) c.self.view_is in
    let table : slice_index_or c.args.self.now.parts.reads job.0 [] ≡ ranges =
    ap (λ (v : BenchView). slice_index_or v.parts.reads job.0 []) (sym c.self.view_is) ∙ ap (λ q. slice_index_or q job.0 []) (sym c.as_slice.ensures) ∙ ap (λ (j : JobId). slice_index_or c.as_slice.result.now j.0 []) (sym is) ∙ sym c.ranges_of-ranges.ensures in
    let are : AreCellsOf (length p.cells) (reads p job) ranges = subst (AreCellsOf (length p.cells) (reads p job)) table (c.requires.bench.reads job c.requires.filled.1) in
    let inputs : c.as_slice-2.result.now ≡ c.args.self.now.inputs = c.as_slice-2.ensures.value ∙ ap (λ (v : BenchView). v.inputs) c.self.view_is in
    let long : length c.args.self.now.inputs ≡ length p.cells = ap length (sym (ap (λ (v : BenchView). v.inputs) c.self.view_is)) ∙ ap (λ (v : BenchView). v.parts.cells) c.self.view_is ∙ c.requires.bench.cells in
    difference_is p job ranges m c.args.self.now.inputs are c.requires.memory long c.difference.result
    (subst (λ ns. MatchOption c.difference.result (AgreeOn ranges m ns) (λ d. IsFirstDifference ranges m ns (d.0).0 d.1 d.2)) inputs c.difference.ensures)
