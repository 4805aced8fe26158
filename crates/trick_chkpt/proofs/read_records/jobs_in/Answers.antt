use Rattle.std.proofs.lemmas.Result.{IfOk-weaker}
use Rattle.trick_chkpt_lines.proofs.Reading.{jobs_from}
use Rattle.trick_chkpt.proofs.read_records.jobs_in.Goals as goal

pub returns : goal.returns
returns c = IfOk-weaker c.jobs_of.result _ _ (λ found e. jobs_from found.items _ e) c.jobs_of.ensures.jobs
