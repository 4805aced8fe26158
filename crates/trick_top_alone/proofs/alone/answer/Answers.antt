use Rattle.trick_top_alone.proofs.GoneLemmas.{gone_nowhere, gone_unknown}
use Rattle.trick_top_alone.proofs.alone.answer.Goals as goal
use Rattle.trick_top_alone.specs.Verdict.{OutOfMemory, Usage}
use Rattle.trick_top_alone.specs.Words.{Nothing, Unknown}

pub returns-in-Ok-None : goal.returns-in-Ok-None
returns-in-Ok-None g c = record {
  wanted = Nothing;
  asked = rw c.in-Ok-None.field-0-is at c.in-Ok-None.ensures;
  verdict = Usage;
  gone = gone_nowhere c.args.shelf.now (g.met.F.Shelf.called_none c.args.shelf.now);
  prints = c.print-in-Ok-None.ensures;
}

pub returns-in-Err : goal.returns-in-Err
returns-in-Err g c = record {
  wanted = Unknown;
  asked = tt;
  verdict = OutOfMemory;
  gone = gone_unknown c.args.shelf.now (g.met.F.Shelf.called_none c.args.shelf.now);
  prints = c.print_out_of_memory.ensures;
}
