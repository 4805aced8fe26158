use Rattle.std.proofs.Common.{◌∙◌, length, subst, sym}
use Rattle.trick_access.specs.Ranges.{AreCellsOf}
use Rattle.trick_eval.proofs.bench.Bench.of.Goals as goal
use Rattle.trick_lang.specs.Effect.{reads}

pub reading-requires : goal.reading-requires
reading-requires c =
    let p = c.args.program.now in
    record {
      many = c.in_ok-reads_in.ensures.many ∙ c.requires.many;
      each = λ job less. subst (AreCellsOf (length p.cells) (reads p job)) (sym (c.in_ok-reads_in.ensures.each job.0)) (c.requires.reads job less);
    }
