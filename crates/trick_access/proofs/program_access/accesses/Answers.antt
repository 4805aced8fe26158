use Rattle.std.proofs.Common.{◌≡◌, ℕ, ◌+◌, ◌++◌, ◌∷◌, [], List, length, subst, sym, ap, ◌∙◌}
use Rattle.std.proofs.lemmas.List.{length-append}
use Rattle.trick_access.proofs.Each.{push_each}
use Rattle.trick_access.specs.Accesses.{no_access, reads_of, writes_of}
use Rattle.trick_access.specs.Ranges.{AreCellsOf}
use Rattle.trick_access.specs.declared.cells.Access.{Access}
use Rattle.trick_lang.specs.Effect.{reads, writes}
use Rattle.trick_access.proofs.program_access.accesses.Goals as goal

pub loop-number-preserved : goal.loop-number-preserved
loop-number-preserved c =
    let p = c.args.program.now in
    let all = c.loop-number.all in
    let next = c.in_ok-access.field-0 in
    let inv = c.loop-number.invariant in
    let longer : c.push.new.self ≡ all ++ next ∷ [] = c.in_ok-push.ensures.ok in
    record {
      made = ap length longer ∙ length-append all (next ∷ []) ∙ ap (λ (n : ℕ). n + 1) inv.made;
      reads = λ job less. subst (λ (l : List Access). AreCellsOf (length p.cells) (reads p job) (reads_of l job.0)) (sym longer)
          (push_each (λ k (a : Access). AreCellsOf (length p.cells) (reads p (record { 0 = k })) a.reads) all next no_access c.loop-number.number
          inv.made (λ k below. inv.reads (record { 0 = k }) below) c.in_ok-access.ensures.reads job.0 less);
      writes = λ job less. subst (λ (l : List Access). AreCellsOf (length p.cells) (writes p job) (writes_of l job.0)) (sym longer)
          (push_each (λ k (a : Access). AreCellsOf (length p.cells) (writes p (record { 0 = k })) a.writes) all next no_access c.loop-number.number
          inv.made (λ k below. inv.writes (record { 0 = k }) below) c.in_ok-access.ensures.writes job.0 less);
    }
