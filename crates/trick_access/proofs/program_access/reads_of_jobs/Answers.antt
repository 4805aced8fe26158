use Rattle.std.proofs.Common.{◌≡◌, ℕ, ◌+◌, ◌++◌, ◌∷◌, [], List, length, slice_index_or, subst, sym, ap, ◌∙◌}
use Rattle.std.proofs.lemmas.List.{length-append}
use Rattle.trick_access.proofs.Each.{push_each}
use Rattle.trick_access.specs.Ranges.{AreCellsOf}
use Rattle.trick_lang.specs.Effect.{reads}
use Rattle.trick_lang.specs.declared.range.CellRange.{CellRange}
use Rattle.trick_access.proofs.program_access.reads_of_jobs.Goals as goal

pub loop-number-preserved : goal.loop-number-preserved
loop-number-preserved c =
    let p = c.args.program.now in
    let all = c.loop-number.all in
    let next = c.in_ok-cells_of.field-0 in
    let inv = c.loop-number.invariant in
    let longer : c.push.new.self ≡ all ++ next ∷ [] = c.in_ok-push.ensures.ok in
    record {
      made = ap length longer ∙ length-append all (next ∷ []) ∙ ap (λ (n : ℕ). n + 1) inv.made;
      ranges = λ job less. subst (λ (l : List (List CellRange)). AreCellsOf (length p.cells) (reads p job) (slice_index_or l job.0 [])) (sym longer)
          (push_each (λ k (ranges : List CellRange). AreCellsOf (length p.cells) (reads p (record { 0 = k })) ranges) all next [] c.loop-number.number
          inv.made (λ k below. inv.ranges (record { 0 = k }) below) c.in_ok-cells_of.ensures job.0 less);
    }
