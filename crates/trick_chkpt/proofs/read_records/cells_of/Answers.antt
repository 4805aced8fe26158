use Rattle.std.proofs.lemmas.Result.{IfOk-weaker}
use Rattle.trick_chkpt_lines.proofs.Reading.{cells_from}
use Rattle.trick_chkpt.proofs.read_records.cells_of.Goals as goal

pub returns : goal.returns
returns c = IfOk-weaker c.scope.result _ _ (λ found e. cells_from found.items _ e) c.scope.ensures
