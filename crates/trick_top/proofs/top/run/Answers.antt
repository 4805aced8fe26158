use Rattle.trick_top.proofs.top.run.Goals as goal
use Rattle.trick_top.specs.Rows.{asked}
use Rattle.trick_top_alone.specs.Verdict.{verdict_of}

pub returns : goal.returns
returns g c = λ words asks. record {
  verdict = verdict_of c.serve_command-answer.result.verdict;
  serves = asked asks c.serve_command-answer.ensures;
  prints = c.print.ensures;
}
