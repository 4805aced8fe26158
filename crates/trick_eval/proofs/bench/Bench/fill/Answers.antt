use Rattle.std.proofs.Common.{◌≡◌, ◌∙◌, ◌<◌, ℕ, [], ap, length, subst, sym}
use Rattle.std.specs.List.{slice_index_or}
use Rattle.trick_eval.proofs.ReadRanges.{agree}
use Rattle.trick_eval.proofs.bench.Bench.fill.Goals as goal
use Rattle.trick_eval.specs.Bench.{BenchView}
use Rattle.trick_access.specs.Ranges.{AreCellsOf}
use Rattle.trick_lang.specs.Effect.{reads}

pub ranges_of-ranges-requires : goal.ranges_of-ranges-requires
ranges_of-ranges-requires g c =
    let many : length c.as_slice.result.now ≡ length c.args.program.now.jobs =
    ap length c.as_slice.ensures ∙ ap (λ (v : BenchView). length v.parts.reads) c.self.view_is ∙ c.requires.bench.many in
    subst (λ (n : ℕ). c.args.job.0 < n) (sym many) c.requires.job

pub returns-clause-inputs : goal.returns-clause-inputs
returns-clause-inputs g c =
    let p = c.args.program.now in
    let job = c.args.job in
    let ranges = c.ranges_of-ranges.result.now in
    let table : slice_index_or c.args.self.now.parts.reads job.0 [] ≡ ranges =
    ap (λ (v : BenchView). slice_index_or v.parts.reads job.0 []) (sym c.self.view_is) ∙ ap (λ q. slice_index_or q job.0 []) (sym c.as_slice.ensures) ∙ sym c.ranges_of-ranges.ensures in
    let are : AreCellsOf (length p.cells) (reads p job) ranges = subst (AreCellsOf (length p.cells) (reads p job)) table (c.requires.bench.reads job c.requires.job) in
    let long : length c.self.inside.inputs.items ≡ length p.cells = ap (λ (v : BenchView). v.parts.cells) c.self.view_is ∙ c.requires.bench.cells in
    agree p job ranges c.copy.new.into.items (g.M.Cells.numbers c.args.from.now) are (c.copy.ensures.length ∙ long) c.requires.memory c.copy.ensures.agree
